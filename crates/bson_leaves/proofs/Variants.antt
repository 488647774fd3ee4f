-- The variant that has a name.
use Rattle.std.proofs.Common.{◌≡◌, ◌⊎◌, inl, inr, ℕ, suc, List, [], ◌∷◌, get_or, map, Bool, true, false, cond, Option, Some, None, Ok, refl, ap, ◌∙◌, string_bytes}
use Rattle.std.specs.Global.{Vec}
use Rattle.std.specs.Prelude.{option_map}
use Rattle.std.specs.Str.{bytes_eq}
use Rattle.bson_kinds.specs.Text.{Utf8}
use Rattle.bson_kinds.specs.Outcome.{◌>>=◌}
use Rattle.bson_shape.specs.Form.{Content}
use Rattle.bson_shape.specs.ShapeView as shape_view
use Rattle.bson_shape.specs.ShapeView.{variants_of}
use Rattle.bson_shape.specs.declared.shape.FieldShape.{FieldShape}
use Rattle.bson_shape.specs.declared.shape.Shape.{Shape}
use Rattle.bson_shape.specs.declared.shape.VariantContent.{VariantContent}
use Rattle.bson_shape.specs.declared.shape.VariantContent.TheVariants as contents
use Rattle.bson_shape.specs.declared.shape.VariantShape.{VariantShape}
use Rattle.bson_values.specs.Cause.{unknown_variant, contents_wanted}
use Rattle.bson_values.specs.Marked.{Marked}
use Rattle.bson_laws.specs.Containers.{unit_of}
use Rattle.bson_laws.specs.Judged.{Reading, refused}
use Rattle.bson_laws.specs.Variants.{content_of}
use Rattle.bson_slots.specs.Place.{place_of}
use Rattle.bson_leaves.specs.Named.{variant_named}

abbrev pub named : VariantShape → Utf8
named v = string_bytes v.name

abbrev first_or : Bool → Option ℕ → Option ℕ
first_or b o = cond b (Some 0) (option_map suc o)

abbrev pub this_or : Bool → VariantShape → Reading VariantShape → Reading VariantShape
this_or b v r = cond b (Ok v) r

one_at : (b : Bool) (o : Option ℕ) (v d : VariantShape) (vs : List VariantShape) (r : Reading VariantShape) (i : ℕ) → ((j : ℕ) → o ≡ Some j → r ≡ Ok (get_or vs j d)) → first_or b o ≡ Some i → this_or b v r ≡ Ok (get_or (v ∷ vs) i d)
one_at true o v d vs r i others e = let first : 0 ≡ i = cc in ap (λ n. Ok (get_or (v ∷ vs) n d)) first
one_at false (Some j) v d vs r i others e = let behind : suc j ≡ i = cc in others j refl ∙ ap (λ n. Ok (get_or (v ∷ vs) n d)) behind
one_at false None v d vs r i others e = absurd cc

-- it is at the place of the name
pub named_at : (vs : List VariantShape) (name : Utf8) (i : ℕ) (d : VariantShape) → place_of (map named vs) name ≡ Some i → variant_named vs name ≡ Ok (get_or vs i d)
named_at [] name i d e = absurd cc
named_at (v ∷ vs) name i d e = one_at (bytes_eq (named v) name) (place_of (map named vs) name) v d vs (variant_named vs name) i (λ j f. named_at vs name j d f) e

one_none : (b : Bool) (o : Option ℕ) (v : VariantShape) (r : Reading VariantShape) (name : Utf8) → (o ≡ None → r ≡ refused (unknown_variant name)) → first_or b o ≡ None → this_or b v r ≡ refused (unknown_variant name)
one_none true o v r name others e = absurd cc
one_none false (Some j) v r name others e = absurd cc
one_none false None v r name others e = others refl

-- where the name has no place there is none
pub named_none : (vs : List VariantShape) (name : Utf8) → place_of (map named vs) name ≡ None → variant_named vs name ≡ refused (unknown_variant name)
named_none [] name e = refl
named_none (v ∷ vs) name e = one_none (bytes_eq (named v) name) (place_of (map named vs) name) v (variant_named vs name) name (named_none vs name) e

pub then_read : (b : Bool) (v : VariantShape) (q : Reading VariantShape) (f : VariantShape → Reading Marked) (r : Reading Marked) → r ≡ (q >>= f) → cond b (f v) r ≡ (this_or b v q >>= f)
then_read true v q f r e = refl
then_read false v q f r e = e

-- a text as the variant that has it as its name
abbrev pub unit_read : Utf8 → VariantShape → Reading Marked
unit_read name v = unit_of name (Some (shape_view.content_of v.content))

unit_or : (b : Bool) (name : Utf8) (c : Content) (o : Option Content) → unit_of name (cond b (Some c) o) ≡ cond b (unit_of name (Some c)) (unit_of name o)
unit_or true name c o = refl
unit_or false name c o = refl

pub text_read : (vs : List VariantShape) (name : Utf8) → unit_of name (content_of (variants_of vs) name) ≡ (variant_named vs name >>= unit_read name)
text_read [] name = refl
text_read (v ∷ vs) name =
    unit_or (bytes_eq (named v) name) name (shape_view.content_of v.content) (content_of (variants_of vs) name)
    ∙ then_read (bytes_eq (named v) name) v (variant_named vs name) (unit_read name) (unit_of name (content_of (variants_of vs) name)) (text_read vs name)

-- of a variant with contents a text is not enough
pub contents_missing : (name : Utf8) (c : VariantContent) → ((x : Shape) × (c ≡ contents.Newtype x)) ⊎ ((x : Vec Shape) × (c ≡ contents.Tuple x)) ⊎ ((x : Vec FieldShape) × (c ≡ contents.Struct x))
    → unit_of name (Some (shape_view.content_of c)) ≡ refused contents_wanted
contents_missing name c (inl p) = ap (λ d. unit_of name (Some (shape_view.content_of d))) p.1
contents_missing name c (inr (inl p)) = ap (λ d. unit_of name (Some (shape_view.content_of d))) p.1
contents_missing name c (inr (inr p)) = ap (λ d. unit_of name (Some (shape_view.content_of d))) p.1
