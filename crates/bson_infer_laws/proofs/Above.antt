-- The order of forms: it is transitive, and a join with what is below changes nothing.
use Rattle.std.proofs.Common.{◌≡◌, Bool, true, false, cond, Option, Some, None, inl, inr, refl, ap, sym, subst, ◌∙◌, rules}
use Rattle.std.specs.Prelude.{◌||◌, ◌⊎◌}
use Rattle.std.specs.Str.{bytes_eq}
use Rattle.std.proofs.lemmas.Slice.Eq.{bytes_eq-Decides}
use denote.Enum.Bare.{same_true, true_same}
use Rattle.bson_kinds.specs.Text.{Utf8}
use Rattle.bson_shape.specs.Form.{dropped, Form, leaf, optional, sequence, structure, enumeration, Fields, no_fields, field, no_variants, joined}
use Rattle.bson_shape.specs.declared.leaf.Leaf.{Leaf}
use Rattle.bson_shape.specs.declared.leaf.Leaf.TheVariants.{I32, ByteBuf, Unit as UnitLeaf, Bson}
use Rattle.bson_shape.specs.contracts.leaf.Leaf as leaf_type
use Rattle.bson_laws.specs.Named.{form_of, has}
use Rattle.bson_infer_laws.specs.Join.{same_leaf, nothing, is_nothing, is_unit, opt, grown, within, join_unlike, join_leaves, join_at, new_fields, join, join_fields}
use Rattle.bson_infer_laws.specs.Above.{IsOptional, bare, IsBare, IsNothing, LeafAbove, FieldAbove, NamedIn, Above, FieldsAbove, IsJoined, AreJoined}
use Rattle.bson_kinds.proofs.Apart.{no_some}

pub either : (a b : Bool) → (a || b) ≡ true → (a ≡ true) ⊎ (b ≡ true)
either true b e = inl refl
either false b e = inr e

pub or_left : (a b : Bool) → a ≡ true → (a || b) ≡ true
or_left true b e = refl
or_left false b e = absurd cc

pub or_right : (a b : Bool) → b ≡ true → (a || b) ≡ true
or_right true b e = refl
or_right false b e = e

-- ---- leaves

pub leaf_is : (l m : Leaf) → same_leaf l m ≡ true → l ≡ m
leaf_is l m e = same_true leaf_type.the_type (search rules) l m e

pub leaf_same : (l m : Leaf) → l ≡ m → same_leaf l m ≡ true
leaf_same l m e = true_same leaf_type.the_type l m e

grown_twice : (l : Leaf) → grown (grown l) ≡ grown l
grown_twice I32 = refl
grown_twice ByteBuf = refl
grown_twice l = refl

-- what `within` says, as facts
abbrev pub Lies : Leaf → Leaf → Type 0
Lies l m = (l ≡ m) ⊎ ((grown l ≡ m) ⊎ (m ≡ Bson))

lies_or : (l m : Leaf) → (same_leaf (grown l) m ≡ true) ⊎ (same_leaf m Bson ≡ true) → Lies l m
lies_or l m (inl e) = inr (inl (leaf_is (grown l) m e))
lies_or l m (inr e) = inr (inr (leaf_is m Bson e))

lies_either : (l m : Leaf) → (same_leaf l m ≡ true) ⊎ ((same_leaf (grown l) m || same_leaf m Bson) ≡ true) → Lies l m
lies_either l m (inl e) = inl (leaf_is l m e)
lies_either l m (inr e) = lies_or l m (either _ _ e)

pub lies : (l m : Leaf) → within l m ≡ true → Lies l m
lies l m e = lies_either l m (either _ _ e)

pub lies_within : (l m : Leaf) → Lies l m → within l m ≡ true
lies_within l m (inl e) = or_left _ _ (leaf_same l m e)
lies_within l m (inr (inl e)) = or_right _ _ (or_left _ _ (leaf_same (grown l) m e))
lies_within l m (inr (inr e)) = or_right _ _ (or_right _ _ (leaf_same m Bson e))

lies_trans : (k l m : Leaf) → Lies k l → Lies l m → Lies k m
lies_trans k l m e (inl f) = subst (Lies k) f e
lies_trans k l m (inl e) (inr (inl f)) = inr (inl (ap grown e ∙ f))
lies_trans k l m (inr (inl e)) (inr (inl f)) = inr (inl (sym (grown_twice k) ∙ ap grown e ∙ f))
lies_trans k l m (inr (inr e)) (inr (inl f)) = inr (inr (sym f ∙ ap grown e))
lies_trans k l m e (inr (inr f)) = inr (inr f)

within_trans : (k l m : Leaf) → within k l ≡ true → within l m ≡ true → within k m ≡ true
within_trans k l m e f = lies_within k m (lies_trans k l m (lies k l e) (lies l m f))

bson_top : (l : Leaf) → within Bson l ≡ true → l ≡ Bson
bson_top Bson e = refl
bson_top l e = absurd cc

unit_leaf : (l : Leaf) → within l UnitLeaf ≡ true → same_leaf l UnitLeaf ≡ true
unit_leaf UnitLeaf e = refl
unit_leaf l e = absurd cc

-- ---- nothing, and the unit

pub unit_is : (b : Form) → is_unit b ≡ true → b ≡ leaf UnitLeaf
unit_is (leaf l) e = ap leaf (leaf_is l UnitLeaf e)
unit_is b e = absurd cc

pub nothing_is : (b : Form) → IsNothing b → b ≡ nothing
nothing_is (enumeration no_variants) e = refl
nothing_is b e = absurd cc

nothing_below : (s : Form) → Above s nothing
nothing_below (optional x) = inr (nothing_below x)
nothing_below (leaf l) = tt
nothing_below (structure dropped n fs) = refl
nothing_below s = refl

pub nothing_under : (s b : Form) → IsNothing b → Above s b
nothing_under s b e = subst (Above s) (sym (nothing_is b e)) (nothing_below s)

under_nothing : (s b c : Form) → IsNothing b → Above b c → Above s c
under_nothing s b c e f = nothing_under s c (subst (λ x. Above x c) (nothing_is b e) f)

-- ---- options

pub no_option : (b z : Form) → IsBare b → Above b (optional z) → ⊥
no_option (optional x) z h e = h
no_option (leaf l) z h e = e
no_option (structure dropped n fs) z h e = absurd cc
no_option b z h e = absurd cc

pub bare_of : (b c : Form) → IsBare b → Above b c → IsBare c
bare_of b (optional z) h e = no_option b z h e
bare_of b c h e = tt

pub bare_above : (b c : Form) → Above b c → (is_unit (bare c) ≡ true) ⊎ Above (bare b) (bare c)
bare_above (optional y) c e = e
bare_above b (optional z) e = absurd (no_option b z tt e)
bare_above b c e = inr e

pub option_up : (x y : Form) → Above x y → IsOptional y → IsOptional x
option_up (optional x) y e h = tt
option_up x (optional y) e h = no_option x y tt e
option_up x y e h = h

unit_above : (c : Form) → Above (leaf UnitLeaf) c → (is_unit c ≡ true) ⊎ IsNothing c
unit_above (leaf m) e = inl (unit_leaf m e)
unit_above (optional z) e = absurd e
unit_above (enumeration no_variants) e = inr refl
unit_above c e = absurd cc

unit_over : (x c : Form) → (is_unit c ≡ true) ⊎ IsNothing c → (is_unit c ≡ true) ⊎ Above x c
unit_over x c (inl u) = inl u
unit_over x c (inr n) = inr (nothing_under x c n)

over : (x b c : Form) → (is_unit b ≡ true) ⊎ Above x b → (is_unit c ≡ true) ⊎ Above b c → (Above x b → Above b c → Above x c) → (is_unit c ≡ true) ⊎ Above x c
over x b c e (inl u) t = inl u
over x b c (inl u) (inr f) t = unit_over x c (unit_above c (subst (λ s. Above s c) (unit_is b u) f))
over x b c (inr g) (inr f) t = inr (t g f)

-- ---- transitivity

pub bson_over : (l : Leaf) (c : Form) → l ≡ Bson → IsBare c → LeafAbove l c
bson_over l (leaf k) e h = lies_within k l (inr (inr e))
bson_over l (optional z) e h = h
bson_over l (enumeration no_variants) e h = tt
bson_over l c e h = e

leaf_trans : (l : Leaf) (b c : Form) → LeafAbove l b → Above b c → LeafAbove l c
leaf_trans l (leaf m) (leaf k) e f = within_trans k m l f e
leaf_trans l (leaf m) (optional z) e f = f
leaf_trans l (leaf m) (enumeration no_variants) e f = tt
leaf_trans l (leaf m) c e f = bson_top l (subst (λ x. within x l ≡ true) f e)
leaf_trans l (optional y) c e f = absurd e
leaf_trans l (enumeration no_variants) c e f = nothing_under (leaf l) c f
leaf_trans l b c e f = bson_over l c e (bare_of b c tt f)

pub by_first : {P : Type 0} (b : Bool) (x y : Form) (o : Option Form) → cond b (Some x) o ≡ Some y → (b ≡ true → x ≡ y → P) → (o ≡ Some y → P) → P
by_first true x y o e f g = f refl cc
by_first false x y o e f g = g e

pub by_name : {P : Type 0} (b c : Bool) → (b || c) ≡ true → (b ≡ true → P) → (c ≡ true → P) → P
by_name true c e f g = f refl
by_name false c e f g = g e

none_first : (b : Bool) (y : Form) (o : Option Form) (h : Bool) → cond b (Some y) o ≡ None → (o ≡ None → h ≡ false) → (b || h) ≡ false
none_first true y o h e g = absurd cc
none_first false y o h e g = g e

pub name_is : (m n : Utf8) → bytes_eq m n ≡ true → m ≡ n
name_is m n e = (bytes_eq-Decides m n).0 e

pub field_at : (gs hs : Fields) (n : Utf8) (y : Form) → FieldsAbove gs hs → form_of gs n ≡ Some y → FieldAbove (Above y) y (form_of hs n)
field_at no_fields hs n y h e = absurd (no_some e)
field_at (field m x gs) hs n y h e =
    by_first (bytes_eq m n) x y (form_of gs n) e
    (λ is same. subst (λ k. FieldAbove (Above y) y (form_of hs k)) (name_is m n is) (subst (λ z. FieldAbove (Above z) z (form_of hs m)) same h.0))
    (λ e'. field_at gs hs n y h.1 e')

pub named_at : (hs gs : Fields) (n : Utf8) → NamedIn hs gs → has hs n ≡ true → has gs n ≡ true
named_at no_fields gs n h e = absurd cc
named_at (field m z hs) gs n h e = by_name (bytes_eq m n) (has hs n) e (λ is. subst (λ k. has gs k ≡ true) (name_is m n is) h.0) (λ e'. named_at hs gs n h.1 e')

pub has_some : (fs : Fields) (n : Utf8) (x : Form) → form_of fs n ≡ Some x → has fs n ≡ true
has_some no_fields n x e = absurd (no_some e)
has_some (field m y fs) n x e = by_first (bytes_eq m n) y x (form_of fs n) e (λ is same. or_left _ _ is) (λ e'. or_right _ _ (has_some fs n x e'))

pub has_none : (fs : Fields) (n : Utf8) → form_of fs n ≡ None → has fs n ≡ false
has_none no_fields n e = refl
has_none (field m y fs) n e = none_first (bytes_eq m n) y (form_of fs n) (has fs n) e (λ e'. has_none fs n e')

named_trans : (hs gs fs : Fields) → NamedIn hs gs → NamedIn gs fs → NamedIn hs fs
named_trans no_fields gs fs e f = tt
named_trans (field n z hs) gs fs e f = (named_at gs fs n f e.0, named_trans hs gs fs e.1 f)

field_trans : (x : Form) (og oh : Option Form) → FieldAbove (Above x) x og → ((y : Form) → og ≡ Some y → FieldAbove (Above y) y oh)
    → ((z : Form) → oh ≡ Some z → og ≡ None → ⊥) → ((y z : Form) → Above x y → Above y z → Above x z) → FieldAbove (Above x) x oh
field_trans x None None e f n t = e
field_trans x None (Some z) e f n t = absurd (n z refl refl)
field_trans x (Some y) None e f n t = option_up x y e (f y refl)
field_trans x (Some y) (Some z) e f n t = t y z e (f y refl)

clash : (b : Bool) → b ≡ true → b ≡ false → ⊥
clash b e f = let both : true ≡ false = sym e ∙ f in cc

mutual
  pub above_trans : (a b c : Form) → Above a b → Above b c → Above a c
  above_trans (optional x) b c e f = over x (bare b) (bare c) e (bare_above b c f) (λ g h. above_trans x (bare b) (bare c) g h)
  above_trans (leaf l) b c e f = leaf_trans l b c e f
  above_trans (sequence x) (sequence y) (sequence z) e f = above_trans x y z e f
  above_trans (sequence x) (sequence y) c e f = nothing_under (sequence x) c f
  above_trans (sequence x) b c e f = under_nothing (sequence x) b c e f
  above_trans (structure dropped n fs) (structure dropped m gs) (structure dropped k hs) e f = (fields_trans fs gs hs e.0 f.0 f.1, named_trans hs gs fs f.1 e.1)
  above_trans (structure dropped n fs) (structure dropped m gs) c e f = nothing_under (structure dropped n fs) c f
  above_trans (structure dropped n fs) b c e f = under_nothing (structure dropped n fs) b c e f
  above_trans a b c e f = under_nothing a b c e f

  fields_trans : (fs gs hs : Fields) → FieldsAbove fs gs → FieldsAbove gs hs → NamedIn hs gs → FieldsAbove fs hs
  fields_trans no_fields gs hs e f n = tt
  fields_trans (field m x fs) gs hs e f n = (
    field_trans x (form_of gs m) (form_of hs m) e.0 (λ y is. field_at gs hs m y f is)
        (λ z is none. clash (has gs m) (named_at hs gs m n (has_some hs m z is)) (has_none gs m none)) (λ y z g h. above_trans x y z g h),
    fields_trans fs gs hs e.1 f n,
  )

-- ---- a join with what is below

pub bare_opt : (x : Form) → IsBare x → opt x ≡ optional x
bare_opt (optional x) h = absurd h
bare_opt x h = refl

opt_same : (x : Form) → IsOptional x → opt x ≡ x
opt_same (optional x) h = refl
opt_same x h = absurd h

leaf_with_unit : (l : Leaf) → opt (join_leaves l UnitLeaf) ≡ optional (leaf l)
leaf_with_unit UnitLeaf = refl
leaf_with_unit l = refl

pub with_unit : (x : Form) → IsBare x → is_nothing x ≡ false → opt (join x (leaf UnitLeaf)) ≡ optional x
with_unit (leaf l) h n = leaf_with_unit l
with_unit (optional x) h n = absurd h
with_unit (enumeration no_variants) h n = absurd cc
with_unit x h n = refl

option_absorbs : (x b : Form) → (is_unit b ≡ true) ⊎ Above x b → (Above x b → join x b ≡ x) → IsBare x → cond (is_nothing b || is_unit b) (optional x) (opt (join x b)) ≡ optional x
option_absorbs x b (inl u) t h = ap (λ c. cond c (optional x) (opt (join x b))) (or_right (is_nothing b) (is_unit b) u)
option_absorbs x b (inr g) t h = at (is_nothing b || is_unit b)
  where
    at : (c : Bool) → cond c (optional x) (opt (join x b)) ≡ optional x
    at true = refl
    at false = ap opt (t g) ∙ bare_opt x h

options_absorb : (x y : Form) → (is_unit y ≡ true) ⊎ Above x y → (Above x y → join x y ≡ x) → IsBare x → is_nothing x ≡ false → opt (join x y) ≡ optional x
options_absorb x y (inl u) t h n = ap (λ s. opt (join x s)) (unit_is y u) ∙ with_unit x h n
options_absorb x y (inr g) t h n = ap opt (t g) ∙ bare_opt x h

field_absorbs : (x : Form) (o : Option Form) → FieldAbove (Above x) x o → ((y : Form) → Above x y → join x y ≡ x) → join_at (join x) x o ≡ x
field_absorbs x None e t = opt_same x e
field_absorbs x (Some y) e t = t y e

joined_nothing : (fs : Fields) → joined fs no_fields ≡ fs
joined_nothing no_fields = refl
joined_nothing (field n x fs) = ap (field n x) (joined_nothing fs)

no_new : (fs gs : Fields) → NamedIn gs fs → new_fields fs gs ≡ no_fields
no_new fs no_fields h = refl
no_new fs (field n y gs) h = ap (λ c. cond c (new_fields fs gs) (field n (opt y) (new_fields fs gs))) h.0 ∙ no_new fs gs h.1

mutual
  pub absorbs : (a b : Form) → IsJoined a → Above a b → join a b ≡ a
  absorbs (optional x) (optional y) p e = options_absorb x y e (λ g. absorbs x y p.2 g) p.0 p.1
  absorbs (optional x) b p e = option_absorbs x b e (λ g. absorbs x b p.2 g) p.0
  absorbs (leaf l) (leaf m) p e = ap (λ c. cond c (leaf l) (cond (within l m) (leaf m) (join_unlike (leaf l) (leaf m)))) e
  absorbs (leaf l) (optional y) p e = absurd e
  absorbs (leaf l) (enumeration no_variants) p e = refl
  absorbs (leaf l) b p e = subst (λ k. join (leaf k) b ≡ leaf k) (sym e) refl
  absorbs (sequence x) (sequence y) p e = ap sequence (absorbs x y p e)
  absorbs (sequence x) (enumeration no_variants) p e = refl
  absorbs (sequence x) b p e = absurd cc
  absorbs (structure dropped n fs) (structure dropped m gs) p e =
      (λ i. structure dropped (sym p.0 i) (joined (fields_absorb fs gs p.1 e.0 i) (no_new fs gs e.1 i))) ∙ ap (structure dropped n) (joined_nothing fs)
  absorbs (structure dropped n fs) (enumeration no_variants) p e = refl
  absorbs (structure dropped n fs) b p e = absurd cc
  absorbs (enumeration no_variants) (enumeration no_variants) p e = refl
  absorbs (enumeration no_variants) b p e = absurd cc
  absorbs a b p e = absurd cc

  fields_absorb : (fs gs : Fields) → AreJoined fs → FieldsAbove fs gs → join_fields fs gs ≡ fs
  fields_absorb no_fields gs p e = refl
  fields_absorb (field n x fs) gs p e =
      (λ i. field n (field_absorbs x (form_of gs n) e.0 (λ y g. absorbs x y p.2 g) i) (fields_absorb fs gs p.3 e.1 i))
