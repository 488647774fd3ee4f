use Rattle.std.proofs.Common.{Ok, ap, sym, ◌∙◌}
use Rattle.bson_kinds.specs.Outcome.{result_map}
use Rattle.bson_rawdoc.specs.Node.{mended}
use Rattle.bson_met.specs.MetView.{what_node}
use Rattle.bson_met.proofs.Mending.{whole_alike}
use Rattle.bson_met.proofs.mended.judge_whole.Goals as goal

pub returns : goal.returns
returns c = whole_alike (what_node c.args.levels c.args.what.now) c.requires ∙ ap (result_map mended) c.in_ok-judge_beyond.ensures ∙ ap Ok (sym c.mended.ensures)
