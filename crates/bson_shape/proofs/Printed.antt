-- What the printer writes.
use Rattle.std.proofs.Common.{◌≡◌, ℕ, zero, suc, ◌+◌, ◌<◌, ◌≤◌, Bool, true, false, cond, List, [], ◌∷◌, ◌++◌, length, get_or, map, take, drop, refl, sym, ap, ◌∙◌, arith, append_assoc, take_all, length-take, string_bytes}
use Rattle.std.specs.Prelude.{nat_lt}
use Rattle.std.proofs.lemmas.Bool.Decides.{nat_tests}
use Rattle.std.proofs.lemmas.List.{map_more}
use Rattle.std.proofs.lemmas.Str.{encode_ascii}
use lib.Utf8.{encode, encodes}
use Rattle.bson_kinds.specs.Text.{Utf8}
use Rattle.bson_shape.specs.Form.{Form}
use Rattle.bson_shape.specs.ShapeView.{fields_of, parts_of, variants_of, content_of}
use Rattle.bson_shape.specs.declared.shape.FieldShape.{FieldShape}
use Rattle.bson_shape.specs.declared.shape.VariantShape.{VariantShape}
use Rattle.bson_shape.specs.Notation.{is_escaped, escaped, name_text, listed, text, named_texts, part_texts, variant_texts, content_text}
use Rattle.bson_shape.specs.PrinterView.{comma_at}
use Rattle.bson_shape.proofs.States.{sep, listed-snoc}
use Rattle.bson_shape.proofs.Steps.{escaped-append}
use Rattle.bson_shape.proofs.CharRuns.{AreHigh, high_encode, not_escaped}
use Rattle.bson_shape.proofs.Loop.{next_of}

escaped-high : (bs : Utf8) → AreHigh bs → escaped bs ≡ bs
escaped-high [] h = refl
escaped-high (b ∷ bs) h = ap (λ t. cond t (92 ∷ b ∷ escaped bs) (b ∷ escaped bs)) (not_escaped b h.0) ∙ ap (λ xs. b ∷ xs) (escaped-high bs h.1)

escaped_low : (c : ℕ) → is_escaped c ≡ true → c < 128
escaped_low c h = grind (arith, nat_tests)

pub escaped_encode : (c : ℕ) → escaped (encode c) ≡ cond (is_escaped c) (92 ∷ encode c) (encode c)
escaped_encode c = by_size (nat_lt c 128) refl
  where
    by_size : (t : Bool) → nat_lt c 128 ≡ t → escaped (encode c) ≡ cond (is_escaped c) (92 ∷ encode c) (encode c)
    by_size true h = let e : encode c ≡ c ∷ [] = encode_ascii c (grind (arith, nat_tests)) in rw e refl
    by_size false h = let high : 128 ≤ c = grind (arith, nat_tests) in escaped-high (encode c) (high_encode c high) ∙ sym (ap (λ t. cond t (92 ∷ encode c) (encode c)) (not_escaped c high))

pub escaped_more : (cs : List ℕ) (k c : ℕ) (out next whole : Utf8) → k < length cs → c ≡ get_or cs k c → next ≡ out ++ escaped (encode c) → out ++ escaped (encodes (drop k cs)) ≡ whole → next ++ escaped (encodes (drop (k + 1) cs)) ≡ whole
escaped_more cs k c out next whole l e pushed so_far =
    ap (λ xs. xs ++ escaped (encodes (drop (k + 1) cs))) pushed ∙ append_assoc out (escaped (encode c)) (escaped (encodes (drop (k + 1) cs)))
    ∙ ap (λ xs. out ++ xs) (sym (ap escaped (next_of cs k c l e) ∙ escaped-append (encode c) (encodes (drop (k + 1) cs)))) ∙ so_far

-- ---- lists

module _ {X : Type 0} (shown : X → Utf8) where
  sep-comma : (xs : List X) (i : ℕ) → length xs ≡ i → sep (map shown xs) ≡ comma_at i
  sep-comma [] zero h = refl
  sep-comma [] (suc i) h = absurd (omega (arith, h))
  sep-comma (x ∷ xs) zero h = absurd (omega (arith, h))
  sep-comma (x ∷ xs) (suc i) h = refl

  -- one more is written
  pub more_printed : (items : List X) (i : ℕ) (x : X) (init out last : Utf8) → i < length items → x ≡ get_or items i x
      → out ≡ init ++ listed (map shown (take i items)) → last ≡ out ++ (comma_at i ++ shown x) → last ≡ init ++ listed (map shown (take (i + 1) items))
  more_printed items i x init out last lt here before ended =
      let front = take i items in
      let so_far = map shown front in
      let count : length front ≡ i = omega (arith, length-take i items) in
      let texts : map shown (take (i + 1) items) ≡ so_far ++ shown x ∷ [] = map_more shown items i x lt ∙ ap (λ y. so_far ++ shown y ∷ []) (sym here) in
      let all : listed (map shown (take (i + 1) items)) ≡ listed so_far ++ (comma_at i ++ shown x) = ap listed texts ∙ listed-snoc so_far (shown x) ∙ ap (λ c. listed so_far ++ (c ++ shown x)) (sep-comma front i count) in
      ended ∙ ap (λ y. y ++ (comma_at i ++ shown x)) before ∙ append_assoc init (listed so_far) (comma_at i ++ shown x) ∙ ap (λ y. init ++ y) (sym all)

  -- all are, and the closing byte
  pub all_printed : (items : List X) (i : ℕ) (old bs init out last : Utf8) (c : ℕ) → length items ≤ i → init ≡ old ++ bs → out ≡ init ++ listed (map shown (take i items)) → last ≡ out ++ c ∷ []
      → last ≡ old ++ (bs ++ (listed (map shown items) ++ c ∷ []))
  all_printed items i old bs init out last c le begun before ended =
      let texts = listed (map shown items) in
      let all : out ≡ (old ++ bs) ++ texts = before ∙ ap (λ y. y ++ listed (map shown (take i items))) begun ∙ ap (λ l. (old ++ bs) ++ listed (map shown l)) (take_all i items le) in
      let regrouped : ((old ++ bs) ++ texts) ++ c ∷ [] ≡ old ++ (bs ++ (texts ++ c ∷ [])) = simp append_assoc in
      ended ∙ ap (λ y. y ++ c ∷ []) all ∙ regrouped

-- a field or a definition, with this byte between its name and its form
abbrev pub field_shown : ℕ → FieldShape → Utf8
field_shown c f = name_text (string_bytes f.name) ++ c ∷ text f.shape

abbrev pub variant_shown : VariantShape → Utf8
variant_shown v = name_text (string_bytes v.name) ++ content_text (content_of v.content)

pub fields_shown : (c : ℕ) (fs : List FieldShape) → map (field_shown c) fs ≡ named_texts c (fields_of fs)
fields_shown c [] = refl
fields_shown c (f ∷ fs) = ap (λ xs. field_shown c f ∷ xs) (fields_shown c fs)

pub parts_shown : (fs : List Form) → map text fs ≡ part_texts (parts_of fs)
parts_shown [] = refl
parts_shown (f ∷ fs) = ap (λ xs. text f ∷ xs) (parts_shown fs)

pub variants_shown : (vs : List VariantShape) → map variant_shown vs ≡ variant_texts (variants_of vs)
variants_shown [] = refl
variants_shown (v ∷ vs) = ap (λ xs. variant_shown v ∷ xs) (variants_shown vs)

-- a comma where one is needed, what is before the form, and the form
pub field_printed : (c : ℕ) (out next last comma name t : Utf8) → next ≡ out ++ (comma ++ (name ++ c ∷ [])) → last ≡ next ++ t → last ≡ out ++ (comma ++ (name ++ c ∷ t))
field_printed c out next last comma name t named ended = ended ∙ ap (λ y. y ++ t) named ∙ regrouped
  where
    regrouped : (out ++ (comma ++ (name ++ c ∷ []))) ++ t ≡ out ++ (comma ++ (name ++ c ∷ t))
    regrouped = simp append_assoc

pub part_printed : (out next last comma t : Utf8) → next ≡ out ++ comma → last ≡ next ++ t → last ≡ out ++ (comma ++ t)
part_printed out next last comma t before ended = ended ∙ ap (λ y. y ++ t) before ∙ append_assoc out comma t

pub variant_printed : (out next last comma name t : Utf8) → next ≡ out ++ (comma ++ name) → last ≡ next ++ t → last ≡ out ++ (comma ++ (name ++ t))
variant_printed out next last comma name t named ended = part_printed out next last (comma ++ name) t named ended ∙ ap (λ y. out ++ y) (append_assoc comma name t)
