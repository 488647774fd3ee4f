-- An element whose kind is written over its place behind its value.
use Rattle.std.proofs.Common.{Bool, ◌≡◌, ℕ, ◌+◌, [], ◌∷◌, ◌++◌, length, take, drop, Ok, refl, ap, sym, ◌∙◌, append_assoc, arith}
use Rattle.std.proofs.lemmas.List.{length-append, take_at, drop_at}
use Rattle.bson_kinds.specs.Text.{Bytes, Utf8}
use Rattle.bson_kinds.specs.Kind.{byte}
use Rattle.bson_base.specs.Tree.{enc, kind, element}
use Rattle.bson_kinds.specs.declared.element_type.ElementType.{ElementType}
use Rattle.bson_kinds.proofs.Outcomes.{map_ok}
use Rattle.bson_values.specs.Value.{Value, kind_as}
use Rattle.bson_io.specs.Output.{Output, Appended, Patched, patched}
use Rattle.bson_laws.specs.Spell.{spell_as}
use Rattle.bson_laws.proofs.Sizes.{spell_kind}
use Rattle.bson_ser_stream.specs.Writing.{front, with_tree, with_element}

-- the byte of a kind written over the place that the front of an element keeps for it
pub kind_over : (old key value : Bytes) (k : ElementType) → patched ((old ++ front key) ++ value) (length old) (byte k ∷ []) ≡ old ++ element k key value
kind_over old key value k =
    let whole : (old ++ front key) ++ value ≡ old ++ (0 ∷ (key ++ 0 ∷ value)) = append_assoc old (front key) value ∙ ap (λ x. old ++ (0 ∷ x)) (append_assoc key (0 ∷ []) value) in
    let before : take (length old) ((old ++ front key) ++ value) ≡ old = ap (take (length old)) whole ∙ take_at old (0 ∷ (key ++ 0 ∷ value)) (length old) refl in
    let apart : (old ++ front key) ++ value ≡ (old ++ 0 ∷ []) ++ (key ++ 0 ∷ value) = whole ∙ sym (append_assoc old (0 ∷ []) (key ++ 0 ∷ value)) in
    let behind : drop (length old + 1) ((old ++ front key) ++ value) ≡ key ++ 0 ∷ value = ap (drop (length old + 1)) apart ∙ drop_at (old ++ 0 ∷ []) (key ++ 0 ∷ value) (length old + 1) (omega (arith, length-append old (0 ∷ []))) in
    (λ i. (before i ++ byte k ∷ []) ++ behind i) ∙ append_assoc old (byte k ∷ []) (key ++ 0 ∷ value)

module _ (old begun mid new : Output) (key : Utf8) (start s0 s1 s2 s3 : ℕ) (k : ElementType) (at : start ≡ length old.bytes) (begins : Appended old begun (front key) s0 s1)
    (patches : Patched mid new start (byte k ∷ []) s2 s3) where
  pub wrote_element : (readable : Bool) (v : Value) (levels : ℕ) → k ≡ kind_as readable v → with_tree begun.bytes (spell_as readable v levels) ≡ Ok mid.bytes → with_element old.bytes key (spell_as readable v levels) ≡ Ok new.bytes
  wrote_element readable v levels is filled =
      let m = map_ok (λ t. begun.bytes ++ enc t) (spell_as readable v levels) mid.bytes filled in
      let same : kind m.0 ≡ k = spell_kind readable v levels m.0 m.1 ∙ sym is in
      let made : (old.bytes ++ front key) ++ enc m.0 ≡ mid.bytes = ap (λ b. b ++ enc m.0) (sym begins.bytes) ∙ m.2 in
      ap (with_element old.bytes key) m.1
      ∙ ap (λ x. Ok (old.bytes ++ element x key (enc m.0))) same
      ∙ ap Ok (sym (kind_over old.bytes key (enc m.0) k))
      ∙ ap (λ b. Ok (patched b (length old.bytes) (byte k ∷ []))) made
      ∙ ap (λ n. Ok (patched mid.bytes n (byte k ∷ []))) (sym at)
      ∙ ap Ok (sym patches.bytes)
