use Rattle.std.proofs.Common.{Ok, Err, subst, inl, inr}
use Rattle.bson_base.specs.Tree.{enc}
use Rattle.bson_recast_run.specs.Made.{rows_document}
use Rattle.bson_recast_run.proofs.Sound.{kept_fields}
use Rattle.bson_recasting.specs.Recasting.{GivesBytes}
use Rattle.bson_recast_run.proofs.MadeRecast.{gives_kept, kept_fits}
use Rattle.bson_recast_run.proofs.making.recast_made.Goals as goal

pub returns-in-Ok-clause-fits : goal.returns-in-Ok-clause-fits
returns-in-Ok-clause-fits c =
    let kept = enc (rows_document kept_fields c.args.rows) in
    let given : GivesBytes kept (Ok c.in-Ok.recast) = subst (GivesBytes kept) c.in-Ok.is (gives_kept c.args.shape.now c.args.document.now c.args.rows c.recast.result c.requires.rows c.requires.shape c.requires.document c.recast.ensures.migrates) in
    kept_fits c.args.rows c.in-Ok.recast.items c.requires.rows given

pub unreachable-requires : goal.unreachable-requires
unreachable-requires c =
    let kept = enc (rows_document kept_fields c.args.rows) in
    let given : GivesBytes kept (Err c.in-Err.error) = subst (GivesBytes kept) c.in-Err.is (gives_kept c.args.shape.now c.args.document.now c.args.rows c.recast.result c.requires.rows c.requires.shape c.requires.document c.recast.ensures.migrates) in
    elim c.in-Read.is [
      | inl d ↦ subst (λ e. GivesBytes kept (Err e)) d.1 given
      | inr d ↦ subst (λ e. GivesBytes kept (Err e)) d.1 given
    ]
