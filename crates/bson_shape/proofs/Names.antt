-- Names: which are there, and which are there twice.
use Rattle.std.proofs.Common.{◌≡◌, ℕ, ◌+◌, ◌<◌, Bool, true, false, cond, ◌||◌, List, [], ◌∷◌, ◌++◌, length, get_or, map, take, drop, refl, ap, ◌∙◌, sym, ⊎_elim, string_bytes}
use mathlib.Core.List.{map-append}
use Rattle.std.specs.Str.{bytes_eq}
use Rattle.std.proofs.Math.Bool.{or-false}
use Rattle.std.proofs.lemmas.Bool.{false≢true, or_left, or_right, or_cases, or_parts, or_from}
use Rattle.std.proofs.lemmas.Bool.Decides.{same_from_decides}
use Rattle.std.proofs.lemmas.List.{take-append-drop, map_more}
use Rattle.std.proofs.lemmas.List.Folds.{list_any-append}
use Rattle.std.proofs.lemmas.Slice.Eq.{bytes_eq-Decides}
use Rattle.bson_kinds.specs.Text.{Utf8}
use Rattle.bson_shape.specs.Form.{Form, Fields, field}
use Rattle.bson_shape.specs.Makers.{has_name, has_repeat, field_names, variant_names, has_field, AreDistinct}
use Rattle.bson_shape.specs.ShapeView.{fields_of, variants_of}
use Rattle.bson_shape.specs.declared.shape.FieldShape.{FieldShape}
use Rattle.bson_shape.specs.declared.shape.VariantShape.{VariantShape}

-- the middle two of four tests change places
or_crossed : (a b c d : Bool) → ((a || b) || (c || d)) ≡ ((a || c) || (b || d))
or_crossed true b c d = refl
or_crossed false true true d = refl
or_crossed false true false d = refl
or_crossed false false c d = refl

bytes_eq-swap : (xs ys : Utf8) → bytes_eq xs ys ≡ bytes_eq ys xs
bytes_eq-swap xs ys =
    same_from_decides _ _ (bytes_eq-Decides xs ys) (λ e. sym ((bytes_eq-Decides ys xs).0 e), λ e. (bytes_eq-Decides ys xs).1 (sym e))

has_name-push : (name n : Utf8) (ns : List Utf8) → has_name name (ns ++ n ∷ []) ≡ (has_name name ns || bytes_eq name n)
has_name-push name n ns = list_any-append (bytes_eq name) ns (n ∷ []) ∙ ap (λ b. has_name name ns || b) (or-false (bytes_eq name n))

-- the new name is the only one that can be there twice now
has_repeat-push : (ns : List Utf8) (name : Utf8) → has_repeat (ns ++ name ∷ []) ≡ (has_repeat ns || has_name name ns)
has_repeat-push [] name = refl
has_repeat-push (n ∷ ns) name =
    (λ i. has_name-push n name ns i || has_repeat-push ns name i) ∙ ap (λ b. (has_name n ns || b) || (has_repeat ns || has_name name ns)) (bytes_eq-swap n name)
    ∙ or_crossed (has_name n ns) (bytes_eq name n) (has_repeat ns) (has_name name ns)

-- what is there twice at first stays so
has_repeat_longer : (ns ms : List Utf8) → has_repeat ns ≡ true → has_repeat (ns ++ ms) ≡ true
has_repeat_longer [] ms e = absurd (false≢true e)
has_repeat_longer (n ∷ ns) ms e =
    ⊎_elim (λ h. or_left _ _ (list_any-append (bytes_eq n) ns ms ∙ or_left _ _ h)) (λ h. or_right _ _ (has_repeat_longer ns ms h)) (or_cases (has_name n ns) (has_repeat ns) e)

-- a set of the names so far takes one more
cond_or : (b had : Bool) → cond b true had ≡ (had || b)
cond_or true true = refl
cond_or true false = refl
cond_or false true = refl
cond_or false false = refl

-- the names of a list, as a loop goes over it
module _ {X : Type 0} (named : X → Utf8) where
  names_apart : (xs : List X) (i : ℕ) → map named xs ≡ map named (take i xs) ++ map named (drop i xs)
  names_apart xs i = ap (map named) (sym (take-append-drop i xs)) ∙ map-append named (take i xs) (drop i xs)

  -- what is among the first names is among all
  has_name_early : (name : Utf8) (xs : List X) (i : ℕ) → has_name name (map named (take i xs)) ≡ true → has_name name (map named xs) ≡ true
  has_name_early name xs i e = ap (has_name name) (names_apart xs i) ∙ list_any-append (bytes_eq name) (map named (take i xs)) (map named (drop i xs)) ∙ or_left _ _ e

  has_repeat_early : (xs : List X) (i : ℕ) → has_repeat (map named (take i xs)) ≡ true → has_repeat (map named xs) ≡ true
  has_repeat_early xs i e = ap has_repeat (names_apart xs i) ∙ has_repeat_longer (map named (take i xs)) (map named (drop i xs)) e

  -- a loop comes to one more of them
  has_name_more : (name : Utf8) (xs : List X) (i : ℕ) (x : X) → i < length xs → x ≡ get_or xs i x → has_name name (map named (take (i + 1) xs)) ≡ (has_name name (map named (take i xs)) || bytes_eq name (named x))
  has_name_more name xs i x h e =
      ap (has_name name) (map_more named xs i x h) ∙ has_name-push name _ (map named (take i xs)) ∙ ap (λ y. has_name name (map named (take i xs)) || bytes_eq name (named y)) (sym e)

  has_repeat_more : (xs : List X) (i : ℕ) (x : X) → i < length xs → x ≡ get_or xs i x → has_repeat (map named (take (i + 1) xs)) ≡ (has_repeat (map named (take i xs)) || has_name (named x) (map named (take i xs)))
  has_repeat_more xs i x h e =
      ap has_repeat (map_more named xs i x h) ∙ has_repeat-push (map named (take i xs)) _ ∙ ap (λ y. has_repeat (map named (take i xs)) || has_name (named y) (map named (take i xs))) (sym e)

  -- it finds the name, or goes on
  pub has_name_found : (name : Utf8) (xs : List X) (i : ℕ) (x : X) → i < length xs → x ≡ get_or xs i x → bytes_eq name (named x) ≡ true → has_name name (map named xs) ≡ true
  has_name_found name xs i x h e same = has_name_early name xs (i + 1) (has_name_more name xs i x h e ∙ or_right _ _ same)

  pub has_name_missed : (name : Utf8) (xs : List X) (i : ℕ) (x : X) → i < length xs → x ≡ get_or xs i x → has_name name (map named (take i xs)) ≡ false → bytes_eq name (named x) ≡ false → has_name name (map named (take (i + 1) xs)) ≡ false
  has_name_missed name xs i x h e before other = has_name_more name xs i x h e ∙ or_from _ _ before other

  -- it comes to a name that is before, or to another
  pub repeat_found : (xs : List X) (i : ℕ) (x : X) → i < length xs → x ≡ get_or xs i x → has_name (named x) (map named (take i xs)) ≡ true → has_repeat (map named xs) ≡ true
  repeat_found xs i x h e before = has_repeat_early xs (i + 1) (has_repeat_more xs i x h e ∙ or_right _ _ before)

  pub repeat_missed : (xs : List X) (i : ℕ) (x : X) → i < length xs → x ≡ get_or xs i x → has_repeat (map named (take i xs)) ≡ false → has_name (named x) (map named (take i xs)) ≡ false → has_repeat (map named (take (i + 1) xs)) ≡ false
  repeat_missed xs i x h e so_far before = has_repeat_more xs i x h e ∙ or_from _ _ so_far before

  pub has_name_added : (q name : Utf8) (xs : List X) (i : ℕ) (x : X) → i < length xs → x ≡ get_or xs i x → name ≡ named x → (had : Bool) → had ≡ has_name q (map named (take i xs)) → cond (bytes_eq name q) true had ≡ has_name q (map named (take (i + 1) xs))
  has_name_added q name xs i x h e same had known =
      cond_or (bytes_eq name q) had ∙ (λ j. known j || bytes_eq (same j) q) ∙ ap (λ b. has_name q (map named (take i xs)) || b) (bytes_eq-swap (named x) q) ∙ sym (has_name_more q xs i x h e)

pub field_names_are : (fs : List FieldShape) → map (λ (f : FieldShape). string_bytes f.name) fs ≡ field_names (fields_of fs)
field_names_are [] = refl
field_names_are (f ∷ fs) = ap (λ ns. string_bytes f.name ∷ ns) (field_names_are fs)

pub variant_names_are : (vs : List VariantShape) → map (λ (v : VariantShape). string_bytes v.name) vs ≡ variant_names (variants_of vs)
variant_names_are [] = refl
variant_names_are (v ∷ vs) = ap (λ ns. string_bytes v.name ∷ ns) (variant_names_are vs)

-- the first name is not among the others, and these are distinct
pub distinct_parts : (name : Utf8) (f : Form) (fs : Fields) → AreDistinct (field name f fs) → (has_field name fs ≡ false) × AreDistinct fs
distinct_parts name f fs e = or_parts (has_field name fs) (has_repeat (field_names fs)) e
