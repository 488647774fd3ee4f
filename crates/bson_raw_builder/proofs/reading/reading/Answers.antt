use Rattle.std.proofs.Common.{Err, ap, sym, subst, ◌∙◌}
use Rattle.bson_base.specs.Tree.{Tree}
use Rattle.bson_values.specs.ErrorView.{cause_view}
use Rattle.bson_laws.specs.Assembled.{assembled}
use Rattle.bson_laws.specs.Judged.{Reading}
use Rattle.bson_laws.specs.TreeRaw.{as_reading}
use Rattle.bson_met.proofs.Refusals.{StopsAs, refused_stops}
use Rattle.bson_raw_parts.specs.Putting.{Gives}
use Rattle.bson_raw_parts.specs.RawValueView.{raw_view}
use Rattle.bson_raw_builder.proofs.RawTrees.{assembled_refused, assembled_whole}
use Rattle.bson_raw_builder.proofs.reading.reading.Goals as goal

pub returns-in-Ok : goal.returns-in-Ok
returns-in-Ok c = record { read = λ t raw g. let u = assembled_whole t (raw_view c.in-Ok.built) raw (subst (λ r. Gives raw_view r (assembled t)) c.in-Ok.is g) in (u.0, ap as_reading u.1, u.2, u.3) }

pub returns-in-Err-DeserializationError : goal.returns-in-Err-DeserializationError
returns-in-Err-DeserializationError c =
    let stop = c.refused.result in
    let cause = cause_view c.in-Err-DeserializationError.cause in
    record {
      read = λ t raw g.
          let refused = assembled_refused t cause (subst (λ r. Gives raw_view r (assembled t)) (c.in-Err-DeserializationError.is ∙ ap Err c.in-Err-DeserializationError.field-0-is) g) in
          subst (λ (r : Reading Tree). StopsAs stop r) (sym (ap as_reading refused)) (refused_stops Tree cause stop c.refused.ensures.here);
    }
