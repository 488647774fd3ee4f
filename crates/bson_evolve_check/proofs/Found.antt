-- What is found by its name.
use Rattle.std.proofs.Common.{◌≡◌, ℕ, suc, List, [], ◌∷◌, get_or, map, Bool, true, false, cond, Option, Some, None, refl, ap, sym, ◌∙◌, string_bytes}
use Rattle.std.specs.Borrow.{Bor}
use Rattle.std.specs.Prelude.{option_copied, option_map, is_some, ◌||◌}
use Rattle.std.specs.Str.{bytes_eq}
use Rattle.std.proofs.lemmas.Slice.Eq.{bytes_eq-Decides}
use Rattle.bson_kinds.specs.Text.{Utf8}
use Rattle.bson_shape.specs.Form.{Fields, no_fields, field}
use Rattle.bson_shape.specs.Guarded.{definition}
use Rattle.bson_shape.specs.Makers.{field_names, has_field, variant_names}
use Rattle.bson_shape.specs.ShapeView as view
use Rattle.bson_shape.specs.ShapeView.{fields_of, variants_of}
use Rattle.bson_shape.specs.declared.shape.FieldShape.{FieldShape}
use Rattle.bson_shape.specs.declared.shape.VariantShape.{VariantShape}
use Rattle.bson_laws.specs.Variants.{content_of}
use Rattle.bson_laws.specs.Named.{form_of, has}
use Rattle.bson_slots.specs.Place.{place_of}

module _ {X : Type 0} (named : X → Utf8) where
  -- the first that has the name
  abbrev pub first_with : List X → Utf8 → Option X
  first_with [] key = None
  first_with (x ∷ xs) key = cond (bytes_eq (named x) key) (Some x) (first_with xs key)

  one_at : (b : Bool) (o : Option ℕ) (x d : X) (xs : List X) (r : Option X) (i : ℕ) → ((j : ℕ) → o ≡ Some j → r ≡ Some (get_or xs j d)) → cond b (Some 0) (option_map suc o) ≡ Some i → cond b (Some x) r ≡ Some (get_or (x ∷ xs) i d)
  one_at true o x d xs r i others e = let first : 0 ≡ i = cc in ap (λ n. Some (get_or (x ∷ xs) n d)) first
  one_at false (Some j) x d xs r i others e = let behind : suc j ≡ i = cc in others j refl ∙ ap (λ n. Some (get_or (x ∷ xs) n d)) behind
  one_at false None x d xs r i others e = absurd cc

  pub with_place : (xs : List X) (key : Utf8) (i : ℕ) (d : X) → place_of (map named xs) key ≡ Some i → first_with xs key ≡ Some (get_or xs i d)
  with_place [] key i d e = absurd cc
  with_place (x ∷ xs) key i d e = one_at (bytes_eq (named x) key) (place_of (map named xs) key) x d xs (first_with xs key) i (λ j q. with_place xs key j d q) e

  one_none : (b : Bool) (o : Option ℕ) (x : X) (r : Option X) → (o ≡ None → r ≡ None) → cond b (Some 0) (option_map suc o) ≡ None → cond b (Some x) r ≡ None
  one_none true o x r others e = absurd cc
  one_none false (Some j) x r others e = absurd cc
  one_none false None x r others e = others refl

  pub without_place : (xs : List X) (key : Utf8) → place_of (map named xs) key ≡ None → first_with xs key ≡ None
  without_place [] key e = refl
  without_place (x ∷ xs) key e = one_none (bytes_eq (named x) key) (place_of (map named xs) key) x (first_with xs key) (λ q. without_place xs key q) e

  some_at : (b : Bool) (o : Option ℕ) (x : X) (r : Option X) (i : ℕ) → ((j : ℕ) → o ≡ Some j → is_some r ≡ true) → cond b (Some 0) (option_map suc o) ≡ Some i → is_some (cond b (Some x) r) ≡ true
  some_at true o x r i others e = refl
  some_at false (Some j) x r i others e = others j refl
  some_at false None x r i others e = absurd cc

  pub some_place : (xs : List X) (key : Utf8) (i : ℕ) → place_of (map named xs) key ≡ Some i → is_some (first_with xs key) ≡ true
  some_place [] key i e = absurd cc
  some_place (x ∷ xs) key i e = some_at (bytes_eq (named x) key) (place_of (map named xs) key) x (first_with xs key) i (λ j q. some_place xs key j q) e

abbrev pub field_name : FieldShape → Utf8
field_name f = string_bytes f.name

abbrev pub variant_name : VariantShape → Utf8
variant_name v = string_bytes v.name

mapped_first : {X Y : Type 0} (f : X → Y) (b : Bool) (x : X) (o : Option X) → option_map f (cond b (Some x) o) ≡ cond b (Some (f x)) (option_map f o)
mapped_first f true x o = refl
mapped_first f false x o = refl

pub form_first : (fs : List FieldShape) (key : Utf8) → form_of (fields_of fs) key ≡ option_map (λ (f : FieldShape). f.shape) (first_with field_name fs key)
form_first [] key = refl
form_first (f ∷ fs) key =
    ap (cond (bytes_eq (string_bytes f.name) key) (Some f.shape)) (form_first fs key)
    ∙ sym (mapped_first (λ (g : FieldShape). g.shape) (bytes_eq (string_bytes f.name) key) f (first_with field_name fs key))

pub content_first : (vs : List VariantShape) (key : Utf8) → content_of (variants_of vs) key ≡ option_map (λ (v : VariantShape). view.content_of v.content) (first_with variant_name vs key)
content_first [] key = refl
content_first (v ∷ vs) key =
    ap (cond (bytes_eq (string_bytes v.name) key) (Some (view.content_of v.content))) (content_first vs key)
    ∙ sym (mapped_first (λ (w : VariantShape). view.content_of w.content) (bytes_eq (string_bytes v.name) key) v (first_with variant_name vs key))

has_first : {X : Type 0} (b : Bool) (f : X) (o : Option X) → (b || is_some o) ≡ is_some (cond b (Some f) o)
has_first true f o = refl
has_first false f o = refl

has_is : (fs : List FieldShape) (key : Utf8) → has (fields_of fs) key ≡ is_some (first_with field_name fs key)
has_is [] key = refl
has_is (f ∷ fs) key = ap (λ b. bytes_eq (string_bytes f.name) key || b) (has_is fs key) ∙ has_first (bytes_eq (string_bytes f.name) key) f (first_with field_name fs key)

pub same_bool : (a b : Bool) → (a ≡ true → b ≡ true) → (b ≡ true → a ≡ true) → a ≡ b
same_bool true b f g = sym (f refl)
same_bool false true f g = g refl
same_bool false false f g = refl

swapped : (xs ys : Utf8) → bytes_eq xs ys ≡ true → bytes_eq ys xs ≡ true
swapped xs ys e = (bytes_eq-Decides ys xs).1 (sym ((bytes_eq-Decides xs ys).0 e))

swap : (xs ys : Utf8) → bytes_eq xs ys ≡ bytes_eq ys xs
swap xs ys = same_bool (bytes_eq xs ys) (bytes_eq ys xs) (swapped xs ys) (swapped ys xs)

-- whether definitions have a name
pub has_definition : (h : Fields) (key : Utf8) → has_field key h ≡ is_some (definition h key)
has_definition no_fields key = refl
has_definition (field name s h) key =
    ap (λ b. b || has_field key h) (swap key name) ∙ ap (λ b. bytes_eq name key || b) (has_definition h key) ∙ has_first (bytes_eq name key) s (definition h key)

pub some_copied : {X : Type 0} (o : Option (Bor X)) → is_some o ≡ is_some (option_copied o)
some_copied None = refl
some_copied (Some x) = refl

-- what a place tells
module _ (fs : List FieldShape) (key : Utf8) where
  pub form_placed : (i : ℕ) (f : FieldShape) → place_of (map field_name fs) key ≡ Some i → f ≡ get_or fs i f → form_of (fields_of fs) key ≡ Some f.shape
  form_placed i f e is = form_first fs key ∙ ap (option_map (λ (g : FieldShape). g.shape)) (with_place field_name fs key i f e ∙ ap Some (sym is))

  pub form_lacking : place_of (map field_name fs) key ≡ None → form_of (fields_of fs) key ≡ None
  form_lacking e = form_first fs key ∙ ap (option_map (λ (g : FieldShape). g.shape)) (without_place field_name fs key e)

  pub has_placed : (i : ℕ) → place_of (map field_name fs) key ≡ Some i → has (fields_of fs) key ≡ true
  has_placed i e = has_is fs key ∙ some_place field_name fs key i e

  pub has_lacking : place_of (map field_name fs) key ≡ None → has (fields_of fs) key ≡ false
  has_lacking e = has_is fs key ∙ ap is_some (without_place field_name fs key e)

module _ (vs : List VariantShape) (key : Utf8) where
  pub content_placed : (i : ℕ) (v : VariantShape) → place_of (map variant_name vs) key ≡ Some i → v ≡ get_or vs i v → content_of (variants_of vs) key ≡ Some (view.content_of v.content)
  content_placed i v e is = content_first vs key ∙ ap (option_map (λ (w : VariantShape). view.content_of w.content)) (with_place variant_name vs key i v e ∙ ap Some (sym is))

  pub content_lacking : place_of (map variant_name vs) key ≡ None → content_of (variants_of vs) key ≡ None
  content_lacking e = content_first vs key ∙ ap (option_map (λ (w : VariantShape). view.content_of w.content)) (without_place variant_name vs key e)

-- the names of fields and variants
pub field_names_of : (fs : List FieldShape) → field_names (fields_of fs) ≡ map field_name fs
field_names_of [] = refl
field_names_of (f ∷ fs) = ap (λ ns. string_bytes f.name ∷ ns) (field_names_of fs)

pub variant_names_of : (vs : List VariantShape) → variant_names (variants_of vs) ≡ map variant_name vs
variant_names_of [] = refl
variant_names_of (v ∷ vs) = ap (λ ns. string_bytes v.name ∷ ns) (variant_names_of vs)
