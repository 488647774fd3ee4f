use Rattle.std.proofs.Common.{Ok, ap, sym, subst, ◌∙◌}
use Rattle.bson_kinds.specs.Piece.{Piece, made}
use Rattle.bson_values.specs.Cause.{not_utf8}
use Rattle.bson_laws.specs.Judged.{Reading}
use Rattle.bson_met.proofs.Refusals.{StopsAs, refused_stops}
use Rattle.bson_texts.proofs.Texts.{text_good, text_bad}
use Rattle.bson_texts.proofs.text.own_utf8.Goals as goal

pub returns-in_ok-from_str-in-Ok : goal.returns-in_ok-from_str-in-Ok
returns-in_ok-from_str-in-Ok c = text_good (made c.args.bytes.bytes.now) c.in-Ok.ensures.cases.1 ∙ ap (λ t. Ok (made t)) (sym (c.in_ok-from_str-in-Ok.ensures.ok ∙ c.in-Ok.ensures.cases.0))

pub returns-in-Err : goal.returns-in-Err
returns-in-Err c = subst (λ (r : Reading Piece). StopsAs c.refused.result r) (sym (text_bad (made c.args.bytes.bytes.now) c.in-Err.ensures.cases.0)) (refused_stops Piece not_utf8 c.refused.result c.refused.ensures.here)
