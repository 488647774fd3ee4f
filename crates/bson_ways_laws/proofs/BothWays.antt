-- Two readings whose answers, where both give one, are related. Source: serde's data model, over the node that the value is.
use Rattle.std.proofs.Common.{◌≡◌, Bool, true, false, cond, Option, Some, None, Ok, refl, ap, sym, subst, ◌∙◌}
use Rattle.std.specs.Str.{bytes_eq}
use Rattle.bson_kinds.specs.Outcome.{◌>>=◌, result_map}
use Rattle.bson_kinds.specs.Reserved.{reserved_kind}
use Rattle.bson_kinds.specs.Text.{Utf8, begins_with_dollar}
use Rattle.bson_kinds.specs.declared.element_type.ElementType.{ElementType}
use Rattle.bson_kinds.proofs.Outcomes.{ok_is, map_ok, bind_ok}
use Rattle.bson_rawdoc.specs.Node.{Node}
use Rattle.bson_values.specs.Marked.{Marked, MarkedItems, MarkedFields, contents, item_contents, field_contents}
use Rattle.bson_values.specs.Refusal.{Segment, inside}
use Rattle.bson_values.specs.Value as value
use Rattle.bson_values.specs.Value.{Value, Items, Entries, FieldValues, uuid_newtype}
use Rattle.bson_laws.specs.Means.{key_text}
use Rattle.bson_laws.specs.Judged.{Reading, judged}
use Rattle.bson_laws.proofs.Sizes.{inside_ok}
use Rattle.bson_laws.proofs.Tame.{after_judged}

-- ---- values whose keys do not begin with `$`

abbrev pub KeyFree : Option Utf8 → Type 0
KeyFree None = ⊥
KeyFree (Some key) = begins_with_dollar key ≡ false

abbrev pub UnlessUuid : Bool → Type 0 → Type 0
UnlessUuid true P = Unit {0}
UnlessUuid false P = P

abbrev pub UnlessReserved : Option ElementType → Type 0 → Type 0
UnlessReserved None P = P
UnlessReserved (Some k) P = Unit {0}

abbrev mutual
  -- no key of a map begins with `$`, but in the structs of reserved names
  pub IsFree : Value → Type 0
  IsFree (value.some v) = IsFree v
  IsFree (value.newtype name v) = UnlessUuid (bytes_eq name uuid_newtype) (IsFree v)
  IsFree (value.newtype_variant name v) = IsFree v
  IsFree (value.sequence vs) = ItemsFree vs
  IsFree (value.tuple vs) = ItemsFree vs
  IsFree (value.tuple_structure name vs) = ItemsFree vs
  IsFree (value.tuple_variant name vs) = ItemsFree vs
  IsFree (value.map es) = EntriesFree es
  IsFree (value.structure name fs) = UnlessReserved (reserved_kind name) (FieldsFree fs)
  IsFree (value.structure_variant name fs) = FieldsFree fs
  IsFree v = Unit {0}

  pub ItemsFree : Items → Type 0
  ItemsFree value.no_items = Unit {0}
  ItemsFree (value.item v vs) = IsFree v × ItemsFree vs

  pub EntriesFree : Entries → Type 0
  EntriesFree value.no_entries = Unit {0}
  EntriesFree (value.entry k v es) = KeyFree (key_text k) × IsFree v × EntriesFree es

  pub FieldsFree : FieldValues → Type 0
  FieldsFree value.no_field_values = Unit {0}
  FieldsFree (value.field_value name v fs) = IsFree v × FieldsFree fs

-- ---- the same contents, where the first is free

abbrev pub SameValue : Marked → Marked → Type 0
SameValue v w = IsFree (contents v) → contents v ≡ contents w

abbrev pub SameItems : MarkedItems → MarkedItems → Type 0
SameItems vs ws = ItemsFree (item_contents vs) → item_contents vs ≡ item_contents ws

abbrev pub SameFields : MarkedFields → MarkedFields → Type 0
SameFields vs ws = FieldsFree (field_contents vs) → field_contents vs ≡ field_contents ws

-- ---- answers

-- where both give an answer, the two are so
abbrev pub Both : {A B : Type 0} → (A → B → Type 0) → Reading A → Reading B → Type 0
Both {A = A} {B = B} R q r = (a : A) (b : B) → q ≡ Ok a → r ≡ Ok b → R a b

abbrev pub Equal : {A : Type 0} → A → A → Type 0
Equal a b = a ≡ b

pub both_ok : {A B : Type 0} (R : A → B → Type 0) (x : A) (y : B) → R x y → Both R (Ok x) (Ok y)
both_ok R x y h a b e f = subst (λ z. R z b) (ok_is x a e) (subst (R x) (ok_is y b f) h)

pub both_bind : {A B C D : Type 0} (R : A → B → Type 0) (Q : C → D → Type 0) (q : Reading A) (r : Reading B) (f : A → Reading C) (g : B → Reading D) → Both R q r → ((a : A) (b : B) → R a b → Both Q (f a) (g b)) → Both Q (q >>= f) (r >>= g)
both_bind R Q q r f g h next a b e d = let m = bind_ok q f a e in let n = bind_ok r g b d in next m.0 n.0 (h m.0 n.0 m.1 n.1) a b m.2 n.2

pub both_map : {A B C D : Type 0} (R : A → B → Type 0) (Q : C → D → Type 0) (q : Reading A) (r : Reading B) (f : A → C) (g : B → D) → Both R q r → ((a : A) (b : B) → R a b → Q (f a) (g b)) → Both Q (result_map f q) (result_map g r)
both_map R Q q r f g h next a b e d =
    let m = map_ok f q a e in let n = map_ok g r b d in subst (λ z. Q z b) m.2 (subst (Q (f m.0)) n.2 (next m.0 n.0 (h m.0 n.0 m.1 n.1)))

pub both_inside : {A B : Type 0} (R : A → B → Type 0) (s t : Segment) (q : Reading A) (r : Reading B) → Both R q r → Both R (inside s q) (inside t r)
both_inside R s t q r h a b e f = h a b (inside_ok s q a e) (inside_ok t r b f)

pub both_judged : {A B : Type 0} (R : A → B → Type 0) (n m : Node) (f : Node → Reading A) (g : Node → Reading B) → Both R (f n) (g m) → Both R (judged n >>= f) (judged m >>= g)
both_judged R n m f g h a b e d = h a b (after_judged n f a e) (after_judged m g b d)

pub both_then : {A B : Type 0} (R : A → B → Type 0) (n m : Node) (q : Reading A) (r : Reading B) → Both R q r → Both R (judged n >>= λ _. q) (judged m >>= λ _. r)
both_then R n m q r h a b e d = h a b (bind_ok (judged n) (λ _. q) a e).2 (bind_ok (judged m) (λ _. r) b d).2

-- one answer
pub both_equal : {A : Type 0} (q r : Reading A) → q ≡ r → Both Equal q r
both_equal q r h a b e f = ok_is a b (sym e ∙ h ∙ f)

pub both_same : (q r : Reading Marked) → q ≡ r → Both SameValue q r
both_same q r h a b e f free = ap contents (ok_is a b (sym e ∙ h ∙ f))

abbrev pub Any : {A B : Type 0} → A → B → Type 0
Any a b = Unit {0}

-- of either of two, chosen by one test
pub both_cond : {A B : Type 0} (R : A → B → Type 0) (c : Bool) (p q : Reading A) (r s : Reading B) → (c ≡ true → Both R p r) → (c ≡ false → Both R q s) → Both R (cond c p q) (cond c r s)
both_cond R true p q r s h g = h refl
both_cond R false p q r s h g = g refl
