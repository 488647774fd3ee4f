-- The names that a state of the machine has read are texts.
use Rattle.std.proofs.Common.{◌≡◌, ℕ, ◌<◌, true, List, [], ◌∷◌, ◌++◌, subst}
use Rattle.std.specs.Str.{is_utf8}
use Rattle.std.specs.Char.{IsScalar}
use lib.Utf8.{encode, low_scalar}
use Rattle.std.proofs.lemmas.Str.{IsUtf8-append, IsUtf8-encode, IsUtf8-nil, IsUtf8-from_is_utf8, is_utf8-from_IsUtf8, encode_ascii}
use Rattle.bson_kinds.specs.Text.{Utf8}
use Rattle.bson_shape.specs.Form.{Form, Fields, no_fields, field, push_field, Parts, no_parts, part, push_part, Variants, no_variants, variant, push_variant, Content, newtype_content, tuple_content, struct_content}
use Rattle.bson_shape.specs.Machine.{OpenEnum, Holder, Nameless_at, Named_at, Variant_of, Group, Braces, Closed_braces, Parens, Angles, Table, Prefix, Option_prefix, Lossy_prefix, Readable_prefix, Newtype_prefix, Definitions_prefix, Level, In_prefix, In_brackets, In_pair, In_compact, In_map, In_item, Owner, Form_at, Item_of, Reference_at, Mode, Form_due, Behind_sign, Item_due, Bare, Quoted, Escape, Named, Item_done, Done, State, grown, Closed, Closed_form, Closed_variant, Closed_prefix, closed, prefixed}
use Rattle.bson_shape.proofs.States.{after}
use Rattle.bson_shape.specs.Fronts.{HasTextNames, HaveTextNames, PartsHaveTextNames, VariantsHaveTextNames, ContentHasTextNames}
use Rattle.std.proofs.Common.{arith}

pub text-nil : is_utf8 [] ≡ true
text-nil = is_utf8-from_IsUtf8 [] IsUtf8-nil

pub text-append : (xs ys : Utf8) → is_utf8 xs ≡ true → is_utf8 ys ≡ true → is_utf8 (xs ++ ys) ≡ true
text-append xs ys h k = is_utf8-from_IsUtf8 (xs ++ ys) (IsUtf8-append xs ys (IsUtf8-from_is_utf8 xs h) (IsUtf8-from_is_utf8 ys k))

pub text-encode : (c : ℕ) → IsScalar c → is_utf8 (encode c) ≡ true
text-encode c h = is_utf8-from_IsUtf8 (encode c) (IsUtf8-encode c h)

pub text-one : (b : ℕ) → b < 128 → is_utf8 (b ∷ []) ≡ true
text-one b h = subst (λ xs. is_utf8 xs ≡ true) (encode_ascii b h) (text-encode b (low_scalar b (omega arith)))

pub text-push : (xs : Utf8) (b : ℕ) → is_utf8 xs ≡ true → b < 128 → is_utf8 (xs ++ b ∷ []) ≡ true
text-push xs b h k = text-append xs (b ∷ []) h (text-one b k)

abbrev pub TextEnum : OpenEnum → Type 0
TextEnum e = VariantsHaveTextNames e.variants

abbrev pub TextHolder : Holder → Type 0
TextHolder (Nameless_at place) = Unit {0}
TextHolder (Named_at place n) = is_utf8 n ≡ true
TextHolder (Variant_of e n) = TextEnum e × (is_utf8 n ≡ true)

abbrev pub TextGroup : Group → Type 0
TextGroup (Braces h fs) = TextHolder h × HaveTextNames fs
TextGroup (Closed_braces place n fs) = (is_utf8 n ≡ true) × HaveTextNames fs
TextGroup (Parens h ps) = TextHolder h × PartsHaveTextNames ps
TextGroup (Angles e) = TextEnum e
TextGroup (Table place h) = HaveTextNames h

abbrev pub TextPrefix : Prefix → Type 0
TextPrefix Option_prefix = Unit {0}
TextPrefix Lossy_prefix = Unit {0}
TextPrefix Readable_prefix = Unit {0}
TextPrefix (Newtype_prefix n) = is_utf8 n ≡ true
TextPrefix (Definitions_prefix h) = HaveTextNames h

abbrev pub TextOwner : Owner → Type 0
TextOwner (Form_at place) = Unit {0}
TextOwner (Item_of g) = TextGroup g
TextOwner (Reference_at place) = Unit {0}

abbrev pub TextLevels : List Level → Type 0
TextLevels [] = Unit {0}
TextLevels (In_prefix place p ∷ st) = TextPrefix p × TextLevels st
TextLevels (In_brackets place ∷ st) = TextLevels st
TextLevels (In_pair place ∷ st) = TextLevels st
TextLevels (In_compact place r ∷ st) = HasTextNames r × TextLevels st
TextLevels (In_map place k ∷ st) = HasTextNames k × TextLevels st
TextLevels (In_item g n ∷ st) = TextGroup g × (is_utf8 n ≡ true) × TextLevels st

abbrev pub TextMode : Mode → Type 0
TextMode Form_due = Unit {0}
TextMode (Behind_sign sign place) = Unit {0}
TextMode (Item_due g) = TextGroup g
TextMode (Bare owner n) = TextOwner owner × (is_utf8 n ≡ true)
TextMode (Quoted owner n) = TextOwner owner × (is_utf8 n ≡ true)
TextMode (Escape owner n) = TextOwner owner × (is_utf8 n ≡ true)
TextMode (Named owner n) = TextOwner owner × (is_utf8 n ≡ true)
TextMode (Item_done g) = TextGroup g
TextMode (Done f) = HasTextNames f

pub record TextState (s : State) : Type 0 where
  pub mode : TextMode s.0
  pub levels : TextLevels s.1

texts-snoc : (fs : Fields) (n : Utf8) (f : Form) → HaveTextNames fs → is_utf8 n ≡ true → HasTextNames f → HaveTextNames (push_field fs n f)
texts-snoc no_fields n f h t k = (t, k, tt)
texts-snoc (field m g fs) n f h t k = (h.0, h.1, texts-snoc fs n f h.2 t k)

parts_texts-snoc : (ps : Parts) (f : Form) → PartsHaveTextNames ps → HasTextNames f → PartsHaveTextNames (push_part ps f)
parts_texts-snoc no_parts f h k = (k, tt)
parts_texts-snoc (part g ps) f h k = (h.0, parts_texts-snoc ps f h.1 k)

pub variants_texts-snoc : (vs : Variants) (n : Utf8) (c : Content) → VariantsHaveTextNames vs → is_utf8 n ≡ true → ContentHasTextNames c → VariantsHaveTextNames (push_variant vs n c)
variants_texts-snoc no_variants n c h t k = (t, k, tt)
variants_texts-snoc (variant m d vs) n c h t k = (h.0, h.1, variants_texts-snoc vs n c h.2 t k)

-- with one more item
pub names-grown : (g : Group) (n : Utf8) (f : Form) → TextGroup g → is_utf8 n ≡ true → HasTextNames f → TextGroup (grown g n f)
names-grown (Braces h fs) n f k t i = (k.0, texts-snoc fs n f k.1 t i)
names-grown (Closed_braces place m fs) n f k t i = (k.0, texts-snoc fs n f k.1 t i)
names-grown (Parens h ps) n f k t i = (k.0, parts_texts-snoc ps f k.1 i)
names-grown (Angles e) n f k t i = variants_texts-snoc e.variants n (newtype_content f) k t i
names-grown (Table place h) n f k t i = texts-snoc h n f k t i

-- what a closing bracket ends
abbrev pub TextClosed : Closed → Type 0
TextClosed (Closed_form place f) = HasTextNames f
TextClosed (Closed_variant e) = TextEnum e
TextClosed (Closed_prefix place p) = TextPrefix p

pub after_texts : (c : Closed) (st : List Level) → TextClosed c → TextLevels st → TextState (after c st)
after_texts (Closed_form place f) st k l = record { mode = k; levels = l }
after_texts (Closed_variant e) st k l = record { mode = k; levels = l }
after_texts (Closed_prefix place p) st k l = record { mode = tt; levels = (k, l) }

pub names-closed : (g : Group) → TextGroup g → TextClosed (closed g)
names-closed (Braces (Nameless_at place) fs) k = (text-nil, k.1)
names-closed (Braces (Named_at place n) fs) k = k
names-closed (Braces (Variant_of e n) fs) k = variants_texts-snoc e.variants n (struct_content fs) k.0.0 k.0.1 k.1
names-closed (Closed_braces place n fs) k = k
names-closed (Parens (Nameless_at place) ps) k = k.1
names-closed (Parens (Named_at place n) ps) k = k
names-closed (Parens (Variant_of e n) ps) k = variants_texts-snoc e.variants n (tuple_content ps) k.0.0 k.0.1 k.1
names-closed (Angles e) k = k
names-closed (Table place h) k = k

pub names-prefixed : (p : Prefix) (f : Form) → TextPrefix p → HasTextNames f → HasTextNames (prefixed p f)
names-prefixed Option_prefix f k h = h
names-prefixed Lossy_prefix f k h = h
names-prefixed Readable_prefix f k h = h
names-prefixed (Newtype_prefix n) f k h = (k, h)
names-prefixed (Definitions_prefix t) f k h = (k, h)
