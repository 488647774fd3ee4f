use Rattle.std.proofs.Common.{ap, subst, sym, ◌∙◌, string_bytes}
use Rattle.std.specs.Prelude.{Err}
use Rattle.std.specs.Str.{IsUtf8}
use Rattle.bson_shape.specs.Machine.{parsed}
use Rattle.bson_buffers.specs.Judged.{told_by}
use Rattle.bson_buffers.specs.Asked.{DenotesNone}
use Rattle.bson_buffers.proofs.Refusals.{refuses_bytes, reads_shape, refuses_text}
use Rattle.bson_buffers.proofs.asking.asked.Goals as goal

pub returns-in-Err : goal.returns-in-Err
returns-in-Err c =
    refuses_bytes c.args.bytes.now c.valid_up_to-place.result (string_bytes c.in_ok-text-in-Err.text) c.in-Err.ensures.cases.0 (c.valid_up_to-place.ensures ∙ c.in-Err.ensures.valid_len) c.in_ok-text-in-Err.ensures.ok

pub returns-in-Ok-parse : goal.returns-in-Ok-parse
returns-in-Ok-parse c =
    let same = c.in-Ok.ensures.cases in
    reads_shape c.args.bytes.now c.in-Ok-parse.shape same.1 (c.in-Ok-parse.ensures.found ∙ same.0) c.known.ensures.shape (ap parsed (sym same.0) ∙ c.in-Ok-parse.ensures.exact)

pub returns-in_ok-refusal_of-in-Err-parse : goal.returns-in_ok-refusal_of-in-Err-parse
returns-in_ok-refusal_of-in-Err-parse c =
    let same = c.in-Ok.ensures.cases in
    let refusal = c.in_ok-refusal_of-in-Err-parse in
    subst (λ bytes. DenotesNone bytes (told_by refusal.field-0)) same.0
    (refuses_text c.in-Ok.text.now c.in-Err-parse.e refusal.field-0.place (string_bytes refusal.field-0.text) (subst IsUtf8 (sym same.0) same.1) refusal.ensures.place refusal.ensures.text c.in-Err-parse.ensures.exact
    (λ p is. c.parse.ensures.not_notation p (c.in-Err-parse.is ∙ ap Err is)) (λ p x is. c.parse.ensures.refused p x (c.in-Err-parse.is ∙ ap Err is)))
