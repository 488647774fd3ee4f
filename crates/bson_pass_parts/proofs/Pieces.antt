-- Bytes that are written over the place of a kind and of a length.
use Rattle.std.proofs.Common.{◌≡◌, ℕ, ◌+◌, ◌-◌, ◌<◌, ◌≤◌, [], ◌∷◌, ◌++◌, length, take, drop, Option, Some, None, subst, ap, sym, ◌∙◌, arith}
use Rattle.std.proofs.lemmas.List.{append_assoc, length-append, length-drop, take-append-le, drop-append-le}
use Rattle.std.proofs.Math.Seq.{take-append_seam, drop-append-add}
use Rattle.bson_kinds.specs.Kind.{byte}
use Rattle.bson_kinds.specs.Text.{Bytes, Utf8}
use Rattle.bson_base.specs.Tree.{Tree, element, enclosed, enc, le32}
use Rattle.bson_base.proofs.Lengths.{length-le32}
use Rattle.bson_io.specs.Output.{patched}
use Rattle.bson_kinds.specs.declared.element_type.ElementType.{ElementType}
use Rattle.bson_pass_parts.specs.Put.{IsPut, IsElementPut}

-- an element: its front, its value, and its kind in the place
pub element_is : (old made with_front : Bytes) (first : ℕ) (key : Utf8) (value : Bytes) (k : ElementType) → with_front ≡ old ++ (first ∷ (key ++ 0 ∷ [])) → made ≡ with_front ++ value
    → take (length old) made ++ (byte k ∷ drop (length old + 1) made) ≡ old ++ element k key value
element_is old made with_front first key value k front put =
    let whole : made ≡ old ++ (first ∷ (key ++ (0 ∷ value))) = put ∙ ap (λ b. b ++ value) front ∙ append_assoc old (first ∷ (key ++ 0 ∷ [])) value ∙ ap (λ b. old ++ (first ∷ b)) (append_assoc key (0 ∷ []) value) in
    rw whole (ap (λ b. b ++ (byte k ∷ drop (length old + 1) (old ++ (first ∷ (key ++ (0 ∷ value)))))) (take-append_seam old (first ∷ (key ++ (0 ∷ value)))) ∙ ap (λ b. old ++ (byte k ∷ b)) (drop-append-add old (first ∷ (key ++ (0 ∷ value))) 1))

-- a document or an array that is closed
pub closed_is : (old : Bytes) (start : ℕ) → start + 4 ≤ length old → patched (old ++ 0 ∷ []) start (le32 (length (old ++ 0 ∷ []) - start)) ≡ take start old ++ enclosed (drop (start + 4) old)
closed_is old start fits =
    let n : ℕ = length (old ++ 0 ∷ []) - start in
    let rest = drop (start + 4) old in
    let long : n ≡ length rest + 5 = omega (arith, length-append old (0 ∷ []), length-drop (start + 4) old) in
    let four : start + length (le32 n) ≡ start + 4 = omega (arith, length-le32 n) in
    append_assoc (take start (old ++ 0 ∷ [])) (le32 n) (drop (start + length (le32 n)) (old ++ 0 ∷ []))
    ∙ ap (λ b. b ++ (le32 n ++ drop (start + length (le32 n)) (old ++ 0 ∷ []))) (take-append-le start old (0 ∷ []) (omega arith))
    ∙ ap (λ m. take start old ++ (le32 n ++ drop m (old ++ 0 ∷ []))) four
    ∙ ap (λ b. take start old ++ (le32 n ++ b)) (drop-append-le (start + 4) old (0 ∷ []) fits)
    ∙ ap (λ m. take start old ++ (le32 m ++ (rest ++ 0 ∷ []))) long

-- a document or an array of these elements, behind what was there
pub enclosed_put : (old begun filled ended elements : Bytes) → begun ≡ old ++ (0 ∷ 0 ∷ 0 ∷ 0 ∷ []) → filled ≡ begun ++ elements → ended ≡ take (length old) filled ++ enclosed (drop (length old + 4) filled) → ended ≡ old ++ enclosed elements
enclosed_put old begun filled ended elements begins fills ends =
    let whole : filled ≡ old ++ (0 ∷ 0 ∷ 0 ∷ 0 ∷ elements) = fills ∙ ap (λ b. b ++ elements) begins ∙ append_assoc old (0 ∷ 0 ∷ 0 ∷ 0 ∷ []) elements in
    ends
    ∙ ap (λ b. take (length old) b ++ enclosed (drop (length old + 4) b)) whole
    ∙ ap (λ b. b ++ enclosed (drop (length old + 4) (old ++ (0 ∷ 0 ∷ 0 ∷ 0 ∷ elements)))) (take-append_seam old (0 ∷ 0 ∷ 0 ∷ 0 ∷ elements))
    ∙ ap (λ b. old ++ enclosed b) (drop-append-add old (0 ∷ 0 ∷ 0 ∷ 0 ∷ elements) 4)

-- an element whose value was put behind its front
pub item_put : (o p : Option Tree) (first : ℕ) (key : Utf8) (k : ElementType) (place : ℕ) (old with_front made new : Bytes) → p ≡ o → place ≡ length old → with_front ≡ old ++ (first ∷ (key ++ 0 ∷ [])) → IsPut o with_front made k
    → new ≡ take place made ++ (byte k ∷ drop (place + 1) made) → IsElementPut p key old new
item_put None p first key k place old with_front made new is at front h set = absurd h
item_put (Some t) p first key k place old with_front made new is at front h set =
    subst (λ (o : Option Tree). IsElementPut o key old new) (sym is)
    (set ∙ ap (λ n. take n made ++ (byte k ∷ drop (n + 1) made)) at ∙ element_is old made with_front first key (enc t) k front h.1 ∙ ap (λ kk. old ++ element kk key (enc t)) (sym h.0))

-- there is a place for the kind in front of a value
pub put_within : (o : Option Tree) (old with_front made : Bytes) (first : ℕ) (rest : Bytes) (k : ElementType) → with_front ≡ old ++ (first ∷ rest) → IsPut o with_front made k → length old < length made
put_within None old with_front made first rest k front h = absurd h
put_within (Some t) old with_front made first rest k front h = omega (arith, ap length h.1, length-append with_front (enc t), ap length front, length-append old (first ∷ rest))
