-- The element of a row, by its pieces.
use Rattle.std.proofs.Common.{◌≡◌, ℕ, ◌+◌, [], ◌∷◌, ◌++◌, length, Result, Ok, Err, ap, sym, ◌∙◌, append_assoc, arith}
use Rattle.std.specs.Prelude.{IfOk}
use Rattle.std.specs.Fmt.{decimal}
use Rattle.bson_kinds.specs.Text.{Bytes}
use Rattle.bson_base.specs.Tree.{document, le32, element, elements, enc}
use Rattle.bson_kinds.specs.declared.element_type.ElementType.TheVariants.{EmbeddedDocument}
use Rattle.bson_recast_run.specs.Made.{row_fields}
use Rattle.bson_recast_run.specs.Pieces.{between_digits}
use Rattle.bson_recast_run.proofs.Sound.{row_length}

abbrev row_end : Bytes
row_end = 0 ∷ 8 ∷ 111 ∷ 107 ∷ 0 ∷ 1 ∷ 0 ∷ []

-- the fields, and the zero behind them, by how long the name is
fields_grouped : (n l ds : Bytes) → (16 ∷ 110 ∷ 0 ∷ (n ++ (2 ∷ 110 ∷ 97 ∷ 109 ∷ 101 ∷ 0 ∷ ((l ++ (114 ∷ 111 ∷ 119 ∷ (ds ++ 0 ∷ []))) ++ (8 ∷ 111 ∷ 107 ∷ 0 ∷ 1 ∷ []))))) ++ 0 ∷ []
    ≡ 16 ∷ 110 ∷ 0 ∷ (n ++ (2 ∷ 110 ∷ 97 ∷ 109 ∷ 101 ∷ 0 ∷ (l ++ (114 ∷ 111 ∷ 119 ∷ (ds ++ (0 ∷ 8 ∷ 111 ∷ 107 ∷ 0 ∷ 1 ∷ 0 ∷ []))))))
fields_grouped n l ds = simp append_assoc

fields_are : (number : ℕ) → elements (row_fields number) ++ 0 ∷ []
    ≡ 16 ∷ 110 ∷ 0 ∷ (le32 number ++ (2 ∷ 110 ∷ 97 ∷ 109 ∷ 101 ∷ 0 ∷ (le32 (length (decimal number) + 4) ++ (114 ∷ 111 ∷ 119 ∷ (decimal number ++ row_end)))))
fields_are number =
    let count : length (114 ∷ 111 ∷ 119 ∷ decimal number) + 1 ≡ length (decimal number) + 4 = omega arith in
    ap (λ k. (16 ∷ 110 ∷ 0 ∷ (le32 number ++ (2 ∷ 110 ∷ 97 ∷ 109 ∷ 101 ∷ 0 ∷ ((le32 k ++ (114 ∷ 111 ∷ 119 ∷ (decimal number ++ 0 ∷ []))) ++ (8 ∷ 111 ∷ 107 ∷ 0 ∷ 1 ∷ []))))) ++ 0 ∷ []) count
    ∙ fields_grouped (le32 number) (le32 (length (decimal number) + 4)) (decimal number)

row_grouped : (m n l ds end : Bytes) → 3 ∷ (ds ++ (0 ∷ (m ++ (16 ∷ 110 ∷ 0 ∷ (n ++ (2 ∷ 110 ∷ 97 ∷ 109 ∷ 101 ∷ 0 ∷ (l ++ (114 ∷ 111 ∷ 119 ∷ (ds ++ end)))))))))
    ≡ 3 ∷ (ds ++ ((0 ∷ (m ++ (16 ∷ 110 ∷ 0 ∷ (n ++ (2 ∷ 110 ∷ 97 ∷ 109 ∷ 101 ∷ 0 ∷ (l ++ (114 ∷ 111 ∷ 119 ∷ []))))))) ++ (ds ++ end)))
row_grouped m n l ds end = simp append_assoc

pub row_is : (number : ℕ) → element EmbeddedDocument (decimal number) (enc (document (row_fields number))) ≡ 3 ∷ (decimal number ++ (between_digits (length (decimal number)) number ++ (decimal number ++ row_end)))
row_is number =
    let long : length (elements (row_fields number)) + 5 ≡ length (decimal number) + 31 = omega (arith, row_length number) in
    ap (λ k. 3 ∷ (decimal number ++ (0 ∷ (le32 k ++ (elements (row_fields number) ++ 0 ∷ []))))) long
    ∙ ap (λ (b : Bytes). 3 ∷ (decimal number ++ (0 ∷ (le32 (length (decimal number) + 31) ++ b)))) (fields_are number)
    ∙ row_grouped (le32 (length (decimal number) + 31)) (le32 number) (le32 (length (decimal number) + 4)) (decimal number) row_end

pieces_grouped : (x y z end : Bytes) → ((((x ++ (3 ∷ [])) ++ y) ++ z) ++ y) ++ end ≡ x ++ (3 ∷ (y ++ (z ++ (y ++ end))))
pieces_grouped x y z end = simp append_assoc

-- what was appended piece by piece is the element
pub row_put : {E : Type 0} (r : Result (Unit {0}) E) (number : ℕ) (digits before a b c d after : Bytes) → digits ≡ decimal number → a ≡ before ++ (3 ∷ []) → b ≡ a ++ digits → c ≡ b ++ between_digits (length digits) number → d ≡ c ++ digits
    → IfOk r (λ x. after ≡ d ++ row_end) → IfOk r (λ x. after ≡ before ++ element EmbeddedDocument (decimal number) (enc (document (row_fields number))))
row_put (Ok u) number digits before a b c d after is p q s t last =
    let pieces : after ≡ ((((before ++ (3 ∷ [])) ++ digits) ++ between_digits (length digits) number) ++ digits) ++ row_end =
    last ∙ ap (λ (x : Bytes). x ++ row_end) (t ∙ ap (λ (x : Bytes). x ++ digits) (s ∙ ap (λ (x : Bytes). x ++ between_digits (length digits) number) (q ∙ ap (λ (x : Bytes). x ++ digits) p))) in
    pieces
    ∙ ap (λ (ds : Bytes). ((((before ++ (3 ∷ [])) ++ ds) ++ between_digits (length ds) number) ++ ds) ++ row_end) is
    ∙ pieces_grouped before (decimal number) (between_digits (length (decimal number)) number) row_end
    ∙ ap (λ (x : Bytes). before ++ x) (sym (row_is number))
row_put (Err e) number digits before a b c d after is p q s t last = tt
