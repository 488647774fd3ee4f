use Rattle.std.proofs.Common.{Err, ap, sym, subst, ◌∙◌}
use Rattle.std.proofs.lemmas.Result.{err_from_is_err_and}
use Rattle.bson_de_raw.specs.ReadsLossy.{reads_lossy}
use Rattle.bson_traits.specs.ShapeOf.{shape_of_type}
use Rattle.bson_types.specs.FromSource.{ReadsTyped}
use Rattle.bson_types.proofs.FromSources.{not_read, type_gives}
use Rattle.bson_types.proofs.sources.from_reader_utf8_lossy.Goals as goal

pub returns-in_err-datum-clause-value : goal.returns-in_err-datum-clause-value
returns-in_err-datum-clause-value g c =
    let old = g.S.Source.left c.args.source.now in
    let new = g.S.Source.left c.from_reader_utf8_lossy_at.new.source in
    let before = g.S.Source.faults c.args.source.now in
    let now = g.S.Source.faults c.from_reader_utf8_lossy_at.new.source in
    let p = err_from_is_err_and c.from_residual-in_err-datum.result c.from_residual-in_err-datum.ensures.1 in
    subst (λ r. ReadsTyped g.T.Deserialize.contents g.T.Deserialize.form g.T.Deserialize.taken reads_lossy old new before now r) (sym (p.1 ∙ ap Err p.2))
    (not_read g.T.Deserialize.contents (shape_of_type g.T.Deserialize.form) c.in_ok-shape.shape g.T.Deserialize.taken reads_lossy old new before now c.in_err-datum.field-0.0 c.in_ok-shape.ensures.shape c.in_err-datum.ensures.read)

pub returns-clause-value : goal.returns-clause-value
returns-clause-value g c =
    let old = g.S.Source.left c.args.source.now in
    let new = g.S.Source.left c.from_reader_utf8_lossy_at.new.source in
    let before = g.S.Source.faults c.args.source.now in
    let now = g.S.Source.faults c.from_reader_utf8_lossy_at.new.source in
    type_gives g.T.Deserialize.contents (shape_of_type g.T.Deserialize.form) c.in_ok-shape.shape g.T.Deserialize.taken reads_lossy old new before now c.in_ok-datum.datum c.from_datum.result c.in_ok-shape.ensures.shape c.in_ok-datum.ensures.read c.from_datum.ensures.value
