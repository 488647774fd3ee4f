use Rattle.std.proofs.Common.{Ok, ap, sym, subst, ◌∙◌}
use Rattle.bson_kinds.specs.Outcome.{◌>>=◌}
use Rattle.bson_kinds.specs.Piece.{Piece, borrowed}
use Rattle.bson_values.specs.Cause.{not_utf8}
use Rattle.bson_laws.specs.Judged.{Reading}
use Rattle.bson_laws.specs.Taken.{as_text}
use Rattle.bson_met.proofs.Refusals.{StopsAs, refused_stops}
use Rattle.bson_texts.proofs.Texts.{text_good, text_bad}
use Rattle.bson_texts.proofs.text.borrow_utf8.Goals as goal

pub returns-in-Ok : goal.returns-in-Ok
returns-in-Ok c =
    let b = c.in_ok-borrow.field-0.now in
    ap (λ r. r >>= as_text) c.in_ok-borrow.ensures.borrowed ∙ text_good (borrowed b) c.in-Ok.ensures.cases.1 ∙ ap (λ t. Ok (borrowed t)) (sym c.in-Ok.ensures.cases.0)

pub returns-in-Err : goal.returns-in-Err
returns-in-Err c =
    let b = c.in_ok-borrow.field-0.now in
    subst (λ (r : Reading Piece). StopsAs c.refused.result r) (sym (ap (λ r. r >>= as_text) c.in_ok-borrow.ensures.borrowed ∙ text_bad (borrowed b) c.in-Err.ensures.cases.0)) (refused_stops Piece not_utf8 c.refused.result c.refused.ensures.here)
