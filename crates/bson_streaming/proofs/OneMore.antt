-- The documents of a stream so far, and one more.
use Rattle.std.proofs.Common.{◌≡◌, ℕ, suc, ◌+◌, Bool, true, false, List, [], ◌∷◌, ◌++◌, length, drop, Some, None, refl, ap, sym, subst, ◌∙◌, arith, append-nil}
use Rattle.std.specs.Prelude.{◌||◌}
use Rattle.std.proofs.lemmas.List.{append_assoc, take_all}
use Rattle.bson_kinds.specs.Text.{Bytes}
use Rattle.bson_rawdoc.specs.Cut.{Cut, with_piece, cut, cut_from, piece_length}
use Rattle.bson_rawdoc.proofs.Pieces.{cut-nil, cut_more}
use Rattle.bson_parts.specs.Parts.{moved, behind}
use Rattle.bson_parts.proofs.Parts.{cut_in_parts}
use Rattle.bson_streaming.specs.Answers.{Answer, bytes_of, lines_of, is_refused, outputs, lines, has_refused, AreGiven}
use Rattle.bson_streaming.specs.Streamed.{Documents}

one_piece : (doc : Bytes) → piece_length doc ≡ Some (length doc) → cut doc ≡ record { pieces = doc ∷ []; broken = None }
one_piece doc is =
    cut_more 0 doc (length doc) is
    ∙ ap (λ d. with_piece d (cut_from (0 + length doc) (drop (length doc) doc))) (take_all (length doc) doc (omega arith))
    ∙ ap (λ d. with_piece doc (cut_from (0 + length doc) d)) (drop_whole doc) ∙ ap (with_piece doc) (cut-nil (0 + length doc)) where
      drop_whole : (xs : Bytes) → drop (length xs) xs ≡ []
      drop_whole [] = refl
      drop_whole (x ∷ xs) = drop_whole xs

given_last : {S : Type 0} (gives : S → Bytes → Answer → S → Type 0) (first mid last : S) (ps : List Bytes) (xs : List Answer) (p : Bytes) (a : Answer)
    → AreGiven gives first ps xs mid → gives mid p a last → AreGiven gives first (ps ++ p ∷ []) (xs ++ a ∷ []) last
given_last gives first mid last [] [] p a h is = (last, subst (λ s. gives s p a last) h is, refl)
given_last gives first mid last [] (x ∷ xs) p a h is = absurd h
given_last gives first mid last (q ∷ ps) [] p a h is = absurd h
given_last gives first mid last (q ∷ ps) (x ∷ xs) p a h is = (h.0, h.1, given_last gives h.0 mid last ps xs p a h.2 is)

pub outputs_last : (xs : List Answer) (a : Answer) → outputs (xs ++ a ∷ []) ≡ outputs xs ++ bytes_of a
outputs_last [] a = append-nil (bytes_of a)
outputs_last (x ∷ xs) a = ap (λ o. bytes_of x ++ o) (outputs_last xs a) ∙ sym (append_assoc (bytes_of x) (outputs xs) (bytes_of a))

pub lines_last : (n : ℕ) (xs : List Answer) (a : Answer) → lines n (xs ++ a ∷ []) ≡ lines n xs ++ lines_of (length xs + n) a
lines_last n [] a = append-nil (lines_of n a) ∙ (let same : n ≡ 0 + n = omega arith in ap (λ m. lines_of m a) same)
lines_last n (x ∷ xs) a =
    let same : length xs + suc n ≡ suc (length xs) + n = omega arith in
    ap (λ o. lines_of n x ++ o) (lines_last (suc n) xs a ∙ ap (λ m. lines (suc n) xs ++ lines_of m a) same)
    ∙ sym (append_assoc (lines_of n x) (lines (suc n) xs) (lines_of (suc (length xs) + n) a))

or_false : (b : Bool) → b || false ≡ b
or_false true = refl
or_false false = refl

or_assoc : (x y z : Bool) → x || (y || z) ≡ x || y || z
or_assoc true y z = refl
or_assoc false y z = refl

pub refused_last : (xs : List Answer) (a : Answer) → has_refused (xs ++ a ∷ []) ≡ has_refused xs || is_refused a
refused_last [] a = or_false (is_refused a)
refused_last (x ∷ xs) a = ap (λ b. is_refused x || b) (refused_last xs a) ∙ or_assoc (is_refused x) (has_refused xs) (is_refused a)

pub no_documents : {S : Type 0} (gives : S → Bytes → Answer → S → Type 0) (first : S) → Documents gives first first [] []
no_documents gives first = record {
  whole = ap (λ (c : Cut). c.broken) (cut-nil 0);
  given = subst (λ ps. AreGiven gives first ps [] first) (sym (ap (λ (c : Cut). c.pieces) (cut-nil 0))) refl;
}

pub documents_last : {S : Type 0} (gives : S → Bytes → Answer → S → Type 0) (first mid last : S) (came doc : Bytes) (xs : List Answer) (a : Answer)
    → Documents gives first mid came xs → piece_length doc ≡ Some (length doc) → gives mid doc a last → Documents gives first last (came ++ doc) (xs ++ a ∷ [])
documents_last gives first mid last came doc xs a d is given =
    let parts : cut (came ++ doc) ≡ behind (cut came) (moved (length came) (record { pieces = doc ∷ []; broken = None })) =
    cut_in_parts came doc d.whole ∙ ap (λ c. behind (cut came) (moved (length came) c)) (one_piece doc is) in
    record {
      whole = ap (λ (c : Cut). c.broken) parts;
      given = subst (λ ps. AreGiven gives first ps (xs ++ a ∷ []) last) (sym (ap (λ (c : Cut). c.pieces) parts)) (given_last gives first mid last (cut came).pieces xs doc a d.given given);
    }
