-- A file of printed documents has these as its lines.
use Rattle.std.proofs.Common.{◌≡◌, ◌≢◌, ℕ, zero, suc, ◌-◌, ◌<◌, List, [], ◌∷◌, ◌++◌, length, get_or, Bool, true, false, cond, eqb, refl, sym, ap, subst, ◌∙◌, arith, ne_eqb}
use Rattle.std.specs.List.{slice_split, onto_first}
use Rattle.std.specs.Str.Lines.{strip_carriage_return, lines_of_parts, lines}
use Rattle.json.specs.Json.{object, Members}
use Rattle.json.specs.Print.{print_from, print}
use Rattle.json.specs.Tree.{json_tokens}
use Rattle.json.specs.Word.{is_space}
use Rattle.json.proofs.Printed.Trees.{ArePrintable-json_tokens}
use Rattle.bson_kinds.specs.Text.{Bytes, Utf8}
use Rattle.bson_base.specs.Tree.{document, Pairs}
use Rattle.bson_json_laws.specs.Held.{ArePairsHeld}
use Rattle.bson_json_laws.specs.JsonText.{IsText}
use Rattle.bson_json_laws.specs.Lines.{is_blank, Line, filled_lines, file_of_lines}
use Rattle.bson_json_laws.specs.declared.form.JsonForm.{JsonForm}
use Rattle.bson_json_laws.proofs.TextBack.{has_numbers}
use Rattle.bson_json_laws.proofs.Visible.{IsVisible, print_visible}

-- a text that is a line: no control character is in it, and it does not begin with a space
pub record IsLine (text : Utf8) : Type 0 where
  pub first : ℕ
  pub others : Utf8
  pub is : text ≡ first ∷ others
  pub filled : is_space first ≡ false
  pub visible : IsVisible text

abbrev pub AreLines : List Utf8 → Type 0
AreLines [] = Unit {0}
AreLines (t ∷ ts) = IsLine t × AreLines ts

abbrev newline : ℕ → Bool
newline b = eqb b 10

-- ---- the parts between newlines

onto_some : (x : ℕ) (parts : List Bytes) → 0 < length (onto_first x parts)
onto_some x [] = omega arith
onto_some x (p ∷ ps) = omega arith

split_some : (bs : Bytes) → 0 < length (slice_split newline bs)
split_some [] = omega arith
split_some (x ∷ xs) = by_test (eqb x 10) where
  by_test : (b : Bool) → 0 < length (cond b ([] ∷ slice_split newline xs) (onto_first x (slice_split newline xs)))
  by_test true = omega arith
  by_test false = onto_some x (slice_split newline xs)

part_before : (t rest : Bytes) → IsVisible t → slice_split newline (t ++ (10 ∷ rest)) ≡ t ∷ slice_split newline rest
part_before [] rest h = refl
part_before (x ∷ xs) rest h = rw (ne_eqb x 10 (λ e. omega (arith, h.0)), part_before xs rest h.1) refl

line_before : (t : Bytes) (parts : List Bytes) → 0 < length parts → lines_of_parts (t ∷ parts) ≡ strip_carriage_return t ∷ lines_of_parts parts
line_before t [] h = absurd (omega arith)
line_before t (p ∷ ps) h = refl

at_visible : (t : Bytes) (i : ℕ) → IsVisible t → get_or t i 0 ≢ 13
at_visible [] i h e = absurd (omega arith)
at_visible (x ∷ xs) zero h e = omega (arith, h.0)
at_visible (x ∷ xs) (suc i) h e = at_visible xs i h.1 e

not_stripped : (t : Bytes) → IsVisible t → strip_carriage_return t ≡ t
not_stripped t h = rw (ne_eqb (get_or t (length t - 1) 0) 13 (at_visible t (length t - 1) h)) refl

first_line : (t rest : Bytes) → IsVisible t → lines (t ++ (10 ∷ rest)) ≡ t ∷ lines rest
first_line t rest h =
    ap lines_of_parts (part_before t rest h) ∙ line_before t (slice_split newline rest) (split_some rest) ∙ ap (λ l. l ∷ lines rest) (not_stripped t h)

-- ---- the lines of a file

abbrev pub numbered : ℕ → List Utf8 → List Line
numbered n [] = []
numbered n (t ∷ ts) = record { number = n; bytes = t } ∷ numbered (suc n) ts

not_blank : (t : Utf8) → IsLine t → is_blank t ≡ false
not_blank t l = rw l.is (rw l.filled refl)

pub file_lines : (n : ℕ) (ts : List Utf8) → AreLines ts → filled_lines n (lines (file_of_lines ts)) ≡ numbered n ts
file_lines n [] h = refl
file_lines n (t ∷ ts) h =
    ap (filled_lines n) (first_line t (file_of_lines ts) h.0.visible)
    ∙ ap (λ b. cond b (filled_lines (suc n) (lines (file_of_lines ts))) (record { number = n; bytes = t } ∷ filled_lines (suc n) (lines (file_of_lines ts)))) (not_blank t h.0)
    ∙ ap (λ ls. record { number = n; bytes = t } ∷ ls) (file_lines (suc n) ts h.1)

-- ---- the text of a document is a line

begins : (ms : Members) → (others : Utf8) × (print (json_tokens (object ms)) ≡ 123 ∷ others)
unfolding print_from
begins ms = (_, refl)

pub document_line : (form : JsonForm) (ps : Pairs) (text : Utf8) → ArePairsHeld ps → IsText form (document ps) text → IsLine text
document_line form ps text h w =
    let ms = w.is_json.0 in
    let same : text ≡ print (json_tokens (object ms)) = w.is_print ∙ ap (λ j. print (json_tokens j)) w.is_json.1 in
    let first = begins ms in
    record {
      first = 123;
      others = first.0;
      is = same ∙ first.1;
      filled = refl;
      visible = subst IsVisible (sym w.is_print) (print_visible (json_tokens w.json) (ArePrintable-json_tokens w.json (has_numbers form (document ps) w.json h w.is_json)));
    }
