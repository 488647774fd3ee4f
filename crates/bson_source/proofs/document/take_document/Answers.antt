-- The exits of taking a document: what came, and why no more.
use Rattle.std.proofs.Common.{Err, refl, ap, sym, ◌∙◌, arith}
use Rattle.std.proofs.lemmas.Result.{err_from_is_err_and}
use Rattle.bson_source.specs.FirstDocument.{announced}
use Rattle.bson_source.proofs.First.{from_start, some_from_start, none_taken, ended, none_announced, rest_taken}
use Rattle.bson_source.proofs.document.take_document.Goals as goal

pub returns-in_err-bytes-clause-document : goal.returns-in_err-bytes-clause-document
returns-in_err-bytes-clause-document g c =
    let p = err_from_is_err_and c.from_residual.result c.from_residual.ensures.1 in
    let came = c.in_err-bytes.ensures.some in
    none_taken _ _ _ _ came.0 c.in_err-bytes.field-0.0 c.from_residual.result (p.1 ∙ ap Err p.2) (some_from_start _ _ c.new.result.items came.0 c.new.ensures.items came.1) c.in_err-bytes.ensures.failed

pub returns-then-len-lt4-clause-document : goal.returns-then-len-lt4-clause-document
returns-then-len-lt4-clause-document g c =
    let came = c.in_ok-bytes.ensures.all in
    ended (λ v. v.items) _ _ _ _ c.in_ok-bytes.bytes.items _ (from_start _ _ c.new.result.items came.0 c.in_ok-bytes.bytes.items c.new.ensures.items came.1 came.2) (omega (arith, c.len.ensures, c.if-len-lt4.true)) refl

pub returns-in_default-clause-document : goal.returns-in_default-clause-document
returns-in_default-clause-document g c =
    let came = c.in_ok-bytes.ensures.all in
    none_announced (λ v. v.items) _ _ _ _ c.in_ok-bytes.bytes.items c.too_small.result (from_start _ _ c.new.result.items came.0 c.in_ok-bytes.bytes.items c.new.ensures.items came.1 came.2)
    (omega (arith, c.len.ensures, c.if-len-lt4.false)) (ap announced (sym c.deref.ensures.value) ∙ sym c.announced.ensures.length ∙ c.in_default.is) c.too_small.ensures

pub returns-clause-document : goal.returns-clause-document
returns-clause-document g c =
    let came = c.in_ok-bytes.ensures.all in
    rest_taken _ _ _ _ _ _ c.in-Some.length c.in_ok-bytes.bytes.items c.take-2.result (from_start _ _ c.new.result.items came.0 c.in_ok-bytes.bytes.items c.new.ensures.items came.1 came.2)
    (omega (arith, c.len.ensures, c.if-len-lt4.false)) (ap announced (sym c.deref.ensures.value) ∙ sym c.announced.ensures.length ∙ c.in-Some.is) c.in_ok-bytes.ensures.later c.take-2.ensures.all c.take-2.ensures.some c.take-2.ensures.failed
