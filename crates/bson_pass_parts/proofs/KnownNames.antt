-- An element whose key is known before it is read.
use Rattle.std.proofs.Common.{◌≡◌, ℕ, ◌+◌, ◌-◌, ◌<◌, ◌≤◌, [], ◌∷◌, length, get_or, take, drop, true, false, Some, Ok, refl, ap, sym, subst, ◌∙◌, arith}
use Rattle.std.specs.Prelude.{nat_lt}
use Rattle.std.specs.Str.{is_utf8, bytes_eq}
use Rattle.std.proofs.lemmas.Bool.{le-ltb}
use Rattle.std.proofs.lemmas.List.{ext_get_or, length-take-le, get_or-take, take_rest}
use Rattle.std.proofs.lemmas.Slice.Eq.{bytes_eq-Decides}
use Rattle.bson_kinds.specs.Kind.{of_byte}
use Rattle.bson_kinds.specs.Text.{Bytes, Utf8}
use Rattle.bson_kinds.specs.declared.element_type.ElementType.{ElementType}
use Rattle.bson_rawdoc.specs.Extent.{cut_at_zero, extent}
use Rattle.bson_rawdoc.specs.Walk.{element_at, walk_elements}
use Rattle.bson_rawdoc.proofs.Cuts.{cut_found}
use Rattle.bson_rawdoc.proofs.Walks.{walk_ok}
use Rattle.bson_pass_parts.specs.Run.{IsHead, element_of}
use Rattle.bson_pass_parts.proofs.Runs.{first_head}

-- bytes that begin with a name and a zero are cut behind the name
pub name_cut : (bytes : Bytes) (name : Utf8) (n : ℕ) → n ≡ length name → n < length bytes → ((k : ℕ) → k < n → (get_or bytes k 0 ≡ 0 → ⊥) × (get_or bytes k 0 ≡ get_or name k 0)) → get_or bytes n 0 ≡ 0
    → cut_at_zero bytes ≡ Some (name, drop (n + 1) bytes)
name_cut bytes name n is lt same zero_behind =
    let long : length (take n bytes) ≡ length name = length-take-le n bytes (omega arith) ∙ is in
    let front : take n bytes ≡ name = ext_get_or 0 (take n bytes) name long (λ i within. get_or-take n bytes i 0 (omega (arith, long, is)) ∙ (same i (omega (arith, long, is))).1) in
    cut_found bytes n lt (λ k within. (same k within).0) zero_behind ∙ (λ i. Some (front i, drop (n + 1) bytes))

-- the element of this name, of a kind and with a value
pub named_head : (b : ℕ) (behind rest : Bytes) (name : Utf8) (k : ElementType) (n : ℕ) → cut_at_zero behind ≡ Some (name, rest) → is_utf8 name ≡ true → of_byte b ≡ Some k → extent k rest ≡ Ok n → nat_lt (length rest) n ≡ false
    → IsHead (b ∷ behind) (element_of k name (take n rest))
unfolding element_at
named_head b behind rest name k n cut text kind_is fits within =
    first_head (b ∷ behind) (element_of k name (take n rest)) (walk_elements (drop n rest), walk_ok b behind (element_of k name (take n rest), drop n rest) there) where
      there : element_at b behind ≡ Ok (element_of k name (take n rest), drop n rest)
      there = rw (cut, text, kind_is, fits, within) refl

-- the same, of bytes that begin with the byte of a kind
pub named_first : (bytes : Bytes) (name : Utf8) (k : ElementType) (n : ℕ) → 1 ≤ length bytes
    → (let behind = take (length bytes - 1) (drop 1 bytes) in let rest = take (length behind - (length name + 1)) (drop (length name + 1) behind) in
    cut_at_zero behind ≡ Some (name, drop (length name + 1) behind) → is_utf8 name ≡ true → of_byte (get_or bytes 0 0) ≡ Some k → extent k rest ≡ Ok n → n ≤ length rest → IsHead bytes (element_of k name (take n rest)))
named_first [] name k n some cut text kind_is fits within = absurd (omega arith)
named_first (b ∷ bytes) name k n some cut text kind_is fits within =
    let behind = take (length (b ∷ bytes) - 1) bytes in
    let rest = take (length behind - (length name + 1)) (drop (length name + 1) behind) in
    subst (λ (x : Bytes). IsHead (b ∷ x) (element_of k name (take n rest))) (take_rest (b ∷ bytes) 1)
    (named_head b behind rest name k n (cut ∙ ap (λ (x : Bytes). Some (name, x)) (sym (take_rest behind (length name + 1)))) text kind_is fits (le-ltb _ _ within))

-- a name and itself
pub bytes_same : (a b : Utf8) → a ≡ b → bytes_eq a b ≡ true
bytes_same a b same = (bytes_eq-Decides a b).1 same
