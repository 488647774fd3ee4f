use Rattle.std.proofs.Common.{ap, sym, ◌∙◌}
use Rattle.bson_tree_recast.specs.Recast.{writes}
use Rattle.bson_recast_run.proofs.MadeRecast.{line_is}
use Rattle.bson_recast_run.proofs.making.made_line.Goals as goal

pub returns : goal.returns
returns c =
    line_is c.line_of.result c.args.rows c.deref-2.result.now c.deref-3.result.now (c.deref-2.ensures.value ∙ c.in_ok-document.ensures.document)
    (c.in_ok-recast.ensures.recast ∙ ap writes (sym c.deref-3.ensures.value)) c.line_of.ensures
