-- What the bytes of a shape are refused with.
use Rattle.std.proofs.Common.{◌≡◌, Bool, true, false, Some, Result, Ok, Err, refl, ap, subst, sym, ◌∙◌, inl, inr}
use Rattle.std.specs.Prelude.{ℕ}
use Rattle.std.specs.Str.{IsUtf8, is_utf8}
use Rattle.std.specs.Str.Lossy.{utf8_valid_len}
use Rattle.std.proofs.lemmas.Bool.{cond-false, cond-true}
use Rattle.std.proofs.lemmas.Str.{IsUtf8-from_is_utf8, is_utf8-from_IsUtf8}
use Rattle.bson_kinds.specs.Text.{Bytes, Utf8}
use Rattle.bson_shape.specs.Answers.{Fails, error_of}
use Rattle.bson_shape.specs.Form.{Form}
use Rattle.bson_shape.specs.Fronts.{IsNotNotationAt, IsRefusedAt}
use Rattle.bson_shape.specs.Machine.{Refusal, Not_notation, Refused, parsed}
use Rattle.bson_shape.specs.Makers.{IsShape}
use Rattle.bson_shape.specs.Notation.{text}
use Rattle.bson_shape.specs.Refusals.{place_of, refusal_text}
use Rattle.bson_shape.specs.declared.error.ParseError.{ParseError}
use Rattle.bson_shape.specs.declared.error.ParseError.TheVariants as errors
use Rattle.bson_shape.specs.declared.error.ShapeError.{ShapeError}
use Rattle.bson_buffers.specs.Asked.{not_utf8, no_text, named, shape_of_bytes, DenotesShape, DenotesNone}

text_read : (bytes : Bytes) → IsUtf8 bytes → shape_of_bytes bytes ≡ named (parsed bytes)
text_read bytes u = cond-true (is_utf8 bytes) (named (parsed bytes)) (Err (no_text bytes)) (is_utf8-from_IsUtf8 bytes u)

invalid : (bytes : Bytes) → (IsUtf8 bytes → ⊥) → (b : Bool) → is_utf8 bytes ≡ b → is_utf8 bytes ≡ false
invalid bytes bad true is = absurd (bad (IsUtf8-from_is_utf8 bytes is))
invalid bytes bad false is = is

-- bytes that are no UTF-8
pub refuses_bytes : (bytes : Bytes) (place : ℕ) (said : Utf8) → (IsUtf8 bytes → ⊥) → place ≡ utf8_valid_len bytes → said ≡ not_utf8 → DenotesNone bytes (record { place = place; said = said })
refuses_bytes bytes place said bad is says =
    let broken : is_utf8 bytes ≡ false = invalid bytes bad (is_utf8 bytes) refl in
    let same : record { place = place; said = said } ≡ no_text bytes = λ i. record { place = is i; said = says i } in
    record { why = inl (record { invalid = broken; says = same }); asked = cond-false (is_utf8 bytes) (named (parsed bytes)) (Err (no_text bytes)) broken ∙ ap Err (sym same) }

-- the notation of a shape
pub reads_shape : (bytes : Bytes) (s : Form) → IsUtf8 bytes → text s ≡ bytes → IsShape s → parsed bytes ≡ Ok s → DenotesShape bytes s
reads_shape bytes s u is made read = record { notation = sym is; made = made; asked = text_read bytes u ∙ ap named read }

named_stop : (read : Result Form Refusal) (place : ℕ) → error_of read ≡ Some (errors.NotNotation place) → named read ≡ Err (record { place = place; said = refusal_text (errors.NotNotation place) })
named_stop (Ok s) place e = absurd cc
named_stop (Err (Not_notation p)) place e = let same : p ≡ place = cc in ap (λ q. Err (record { place = q; said = refusal_text (errors.NotNotation q) })) same
named_stop (Err (Refused r)) place e = absurd cc

named_refusal : (read : Result Form Refusal) (place : ℕ) (x : ShapeError) → error_of read ≡ Some (errors.Refused place x) → named read ≡ Err (record { place = place; said = refusal_text (errors.Refused place x) })
named_refusal (Ok s) place x e = absurd cc
named_refusal (Err (Not_notation p)) place x e = absurd cc
named_refusal (Err (Refused r)) place x e = let spot : r.place ≡ place = cc in let why : r.cause ≡ x = cc in λ i. Err (record { place = spot i; said = refusal_text (errors.Refused (spot i) (why i)) })

-- a text that is no notation
refuses_at : (bytes : Bytes) (e : ParseError) (p : ℕ) → IsUtf8 bytes → place_of e ≡ Some p → Fails e (parsed bytes)
    → ((q : ℕ) → e ≡ errors.NotNotation q → IsNotNotationAt bytes q) → ((q : ℕ) (x : ShapeError) → e ≡ errors.Refused q x → IsRefusedAt bytes q x) → DenotesNone bytes (record { place = p; said = refusal_text e })
refuses_at bytes errors.NoMemory p u is fails stops forms = absurd cc
refuses_at bytes (errors.NotNotation q) p u is fails stops forms =
    let same : q ≡ p = cc in
    subst (λ k. DenotesNone bytes (record { place = k; said = refusal_text (errors.NotNotation q) })) same
    (record { why = inr (inl (record { stops = stops q refl; says = refl })); asked = text_read bytes u ∙ named_stop (parsed bytes) q fails })
refuses_at bytes (errors.Refused q x) p u is fails stops forms =
    let same : q ≡ p = cc in
    subst (λ k. DenotesNone bytes (record { place = k; said = refusal_text (errors.Refused q x) })) same
    (record { why = inr (inr (record { cause = x; refuses = forms q x refl; says = refl })); asked = text_read bytes u ∙ named_refusal (parsed bytes) q x fails })

pub refuses_text : (bytes : Bytes) (e : ParseError) (place : ℕ) (said : Utf8) → IsUtf8 bytes → place_of e ≡ Some place → said ≡ refusal_text e → Fails e (parsed bytes)
    → ((p : ℕ) → e ≡ errors.NotNotation p → IsNotNotationAt bytes p) → ((p : ℕ) (x : ShapeError) → e ≡ errors.Refused p x → IsRefusedAt bytes p x) → DenotesNone bytes (record { place = place; said = said })
refuses_text bytes e place said u is says fails stops forms =
    subst (λ t. DenotesNone bytes (record { place = place; said = t })) (sym says) (refuses_at bytes e place u is fails stops forms)
