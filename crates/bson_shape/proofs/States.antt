-- What a state of the machine has read.
use Rattle.std.proofs.Common.{◌≡◌, ℕ, true, false, List, [], ◌∷◌, ◌++◌, refl, sym, ap, ◌∙◌, append_assoc, append-nil}
use Rattle.bson_kinds.specs.Text.{Utf8}
use Rattle.bson_shape.specs.Form.{dropped, Form, by_mode, sequence, map, structure, Fields, no_fields, field, push_field, Parts, no_parts, part, push_part, Variants, no_variants, variant, push_variant, Content, newtype_content, tuple_content, struct_content}
use Rattle.bson_shape.specs.Notation.{in_bare, names_form, bare, escaped, quoted, name_text, struct_name_text, after_commas, listed, text, in_parens, named_texts, field_texts, definition_texts, part_texts, variant_texts, content_text}
use Rattle.bson_shape.specs.Fronts.{goes_on}
use Rattle.bson_shape.proofs.Words.{or_false}
use Rattle.bson_shape.specs.Machine.{OpenEnum, Holder, Nameless_at, Named_at, Variant_of, Group, Braces, Closed_braces, Parens, Angles, Table, Prefix, Option_prefix, Lossy_prefix, Readable_prefix, Newtype_prefix, Definitions_prefix, Sign, Percent, Ampersand, At, Level, In_prefix, In_brackets, In_pair, In_compact, In_map, In_item, Owner, Form_at, Item_of, Reference_at, Mode, Form_due, Behind_sign, Item_due, Bare, Quoted, Escape, Named, Item_done, Done, State, grown, grown_enum, has_no_fields, has_no_parts, has_no_variants, is_empty, closing, Closed, Closed_form, Closed_variant, Closed_prefix, closed, prefixed, is_written}

-- the comma before a further text
abbrev pub sep : List Utf8 → Utf8
sep [] = []
sep (x ∷ xs) = 44 ∷ []

-- ---- groups, a row for each kind

-- the texts of the items so far
abbrev pub item_texts : Group → List Utf8
item_texts (Braces h fs) = field_texts fs
item_texts (Closed_braces place n fs) = field_texts fs
item_texts (Parens h ps) = part_texts ps
item_texts (Angles e) = variant_texts e.variants
item_texts (Table place h) = definition_texts h

abbrev pub opening : Group → Utf8
opening (Braces h fs) = 123 ∷ []
opening (Closed_braces place n fs) = 123 ∷ 33 ∷ []
opening (Parens h ps) = 40 ∷ []
opening (Angles e) = 60 ∷ []
opening (Table place h) = 40 ∷ []

-- an enum, and the next variant's name
abbrev pub variant_text : OpenEnum → Utf8 → Utf8
variant_text e n = ((60 ∷ listed (variant_texts e.variants)) ++ sep (variant_texts e.variants)) ++ name_text n

-- what is before a brace
abbrev pub braces_text : Holder → Utf8
braces_text (Nameless_at place) = []
braces_text (Named_at place n) = struct_name_text n
braces_text (Variant_of e n) = variant_text e n

-- what is before a parenthesis
abbrev pub parens_text : Holder → Utf8
parens_text (Nameless_at place) = []
parens_text (Named_at place n) = name_text n
parens_text (Variant_of e n) = variant_text e n

-- what is before the opening bracket
abbrev pub before_text : Group → Utf8
before_text (Braces h fs) = braces_text h
before_text (Closed_braces place n fs) = struct_name_text n
before_text (Parens h ps) = parens_text h
before_text (Angles e) = []
before_text (Table place h) = 38 ∷ []

-- between an item's comma and its form
abbrev pub label : Group → Utf8 → Utf8
label (Braces h fs) n = name_text n ++ 58 ∷ []
label (Closed_braces place m fs) n = name_text n ++ 58 ∷ []
label (Parens h ps) n = []
label (Angles e) n = name_text n ++ 61 ∷ []
label (Table place h) n = name_text n ++ 61 ∷ []

abbrev pub group_text : Group → Utf8
group_text g = before_text g ++ (opening g ++ listed (item_texts g))

-- up to the next item
abbrev pub due_text : Group → Utf8
due_text g = group_text g ++ sep (item_texts g)

-- up to the next item's form
abbrev pub item_text : Group → Utf8 → Utf8
item_text g n = due_text g ++ label g n

-- ---- states

-- what is before the name
abbrev pub owner_text : Owner → Utf8
owner_text (Form_at place) = []
owner_text (Item_of g) = due_text g
owner_text (Reference_at place) = 64 ∷ []

abbrev pub prefix_text : Prefix → Utf8
prefix_text Option_prefix = 63 ∷ []
prefix_text Lossy_prefix = 126 ∷ []
prefix_text Readable_prefix = 94 ∷ []
prefix_text (Newtype_prefix n) = name_text n ++ 61 ∷ []
prefix_text (Definitions_prefix h) = 38 ∷ in_parens (definition_texts h)

-- what is written of a form before the one inside it
abbrev pub level_text : Level → Utf8
level_text (In_prefix place p) = prefix_text p
level_text (In_brackets place) = 91 ∷ []
level_text (In_pair place) = 37 ∷ 40 ∷ []
level_text (In_compact place r) = 37 ∷ 40 ∷ (text r ++ 44 ∷ [])
level_text (In_map place k) = 91 ∷ (text k ++ 58 ∷ [])
level_text (In_item g n) = item_text g n

abbrev pub levels_text : List Level → Utf8
levels_text [] = []
levels_text (l ∷ st) = levels_text st ++ level_text l

abbrev pub sign_text : Sign → Utf8
sign_text Percent = 37 ∷ []
sign_text Ampersand = 38 ∷ []
sign_text At = 64 ∷ []

abbrev pub mode_text : Mode → Utf8
mode_text Form_due = []
mode_text (Behind_sign sign place) = sign_text sign
mode_text (Item_due g) = due_text g
mode_text (Bare owner n) = owner_text owner ++ n
mode_text (Quoted owner n) = owner_text owner ++ 34 ∷ escaped n
mode_text (Escape owner n) = owner_text owner ++ (34 ∷ (escaped n ++ 92 ∷ []))
mode_text (Named owner n) = owner_text owner ++ quoted n
mode_text (Item_done g) = group_text g
mode_text (Done f) = text f

abbrev pub written : State → Utf8
written s = levels_text s.1 ++ mode_text s.0

-- a form's text has a last byte of its own, which belongs to no word
pub record HasLastByte (f : Form) : Type 0 where
  pub before : Utf8
  pub byte : ℕ
  pub whole : text f ≡ before ++ byte ∷ []
  pub closes : in_bare byte ≡ false

abbrev pub ValidMode : Mode → Type 0
ValidMode Form_due = Unit {0}
ValidMode (Behind_sign sign place) = Unit {0}
ValidMode (Item_due g) = Unit {0}
ValidMode (Bare owner n) = bare n ≡ true
ValidMode (Quoted owner n) = Unit {0}
ValidMode (Escape owner n) = Unit {0}
ValidMode (Named owner n) = bare n ≡ false
ValidMode (Item_done g) = sep (item_texts g) ≡ 44 ∷ []
ValidMode (Done f) = HasLastByte f

-- ---- lists between commas

after_commas-snoc : (xs : List Utf8) (x : Utf8) → after_commas (xs ++ x ∷ []) ≡ after_commas xs ++ 44 ∷ x
after_commas-snoc [] x = ap (λ ys. 44 ∷ ys) (append-nil x)
after_commas-snoc (y ∷ ys) x = ap (λ zs. 44 ∷ (y ++ zs)) (after_commas-snoc ys x) ∙ ap (λ zs. 44 ∷ zs) (sym (append_assoc y (after_commas ys) (44 ∷ x)))

pub listed-snoc : (xs : List Utf8) (x : Utf8) → listed (xs ++ x ∷ []) ≡ listed xs ++ (sep xs ++ x)
listed-snoc [] x = append-nil x
listed-snoc (y ∷ ys) x = ap (λ zs. y ++ zs) (after_commas-snoc ys x) ∙ sym (append_assoc y (after_commas ys) (44 ∷ x))

sep-snoc : (xs : List Utf8) (x : Utf8) → sep (xs ++ x ∷ []) ≡ 44 ∷ []
sep-snoc [] x = refl
sep-snoc (y ∷ ys) x = refl

-- with this byte between a name and its form
module _ (c : ℕ) where
  named_texts-push : (fs : Fields) (n : Utf8) (f : Form) → named_texts c (push_field fs n f) ≡ named_texts c fs ++ (name_text n ++ c ∷ text f) ∷ []
  named_texts-push no_fields n f = refl
  named_texts-push (field m g fs) n f = ap (λ xs. (name_text m ++ c ∷ text g) ∷ xs) (named_texts-push fs n f)

  -- what is before the new form is apart
  named_texts-grown : (fs : Fields) (n : Utf8) (f : Form) → named_texts c (push_field fs n f) ≡ named_texts c fs ++ ((name_text n ++ c ∷ []) ++ text f) ∷ []
  named_texts-grown fs n f = named_texts-push fs n f ∙ ap (λ x. named_texts c fs ++ x ∷ []) (sym (append_assoc (name_text n) (c ∷ []) (text f)))

  named_texts-none : (fs : Fields) → has_no_fields fs ≡ true → sep (named_texts c fs) ≡ []
  named_texts-none no_fields k = refl
  named_texts-none (field n f fs) k = absurd cc

part_texts-push : (ps : Parts) (f : Form) → part_texts (push_part ps f) ≡ part_texts ps ++ text f ∷ []
part_texts-push no_parts f = refl
part_texts-push (part g ps) f = ap (λ xs. text g ∷ xs) (part_texts-push ps f)

variant_texts-push : (vs : Variants) (n : Utf8) (c : Content) → variant_texts (push_variant vs n c) ≡ variant_texts vs ++ (name_text n ++ content_text c) ∷ []
variant_texts-push no_variants n c = refl
variant_texts-push (variant m d vs) n c = ap (λ xs. (name_text m ++ content_text d) ∷ xs) (variant_texts-push vs n c)

-- ---- one more item

-- the same brackets, with one more text
more_text : (g h : Group) (x : Utf8) → before_text h ≡ before_text g → opening h ≡ opening g → item_texts h ≡ item_texts g ++ x ∷ [] → group_text h ≡ due_text g ++ x
more_text g h x b o e =
    (λ i. b i ++ (o i ++ listed (e i))) ∙ ap (λ zs. before_text g ++ (opening g ++ zs)) (listed-snoc (item_texts g) x)
    ∙ regrouped (before_text g) (opening g) (listed (item_texts g)) (sep (item_texts g))
  where
    regrouped : (a b c d : Utf8) → a ++ (b ++ (c ++ (d ++ x))) ≡ ((a ++ (b ++ c)) ++ d) ++ x
    regrouped a b c d = simp append_assoc

item_texts-grown : (g : Group) (n : Utf8) (f : Form) → item_texts (grown g n f) ≡ item_texts g ++ (label g n ++ text f) ∷ []
item_texts-grown (Braces h fs) n f = named_texts-grown 58 fs n f
item_texts-grown (Closed_braces place m fs) n f = named_texts-grown 58 fs n f
item_texts-grown (Table place h) n f = named_texts-grown 61 h n f
item_texts-grown (Parens h ps) n f = part_texts-push ps f
item_texts-grown (Angles e) n f = variant_texts-push e.variants n (newtype_content f) ∙ ap (λ x. variant_texts e.variants ++ x ∷ []) (sym (append_assoc (name_text n) (61 ∷ []) (text f)))

pub grown_text : (g : Group) (n : Utf8) (f : Form) → group_text (grown g n f) ≡ item_text g n ++ text f
grown_text g n f = brackets g ∙ sym (append_assoc (due_text g) (label g n) (text f))
  where
    brackets : (g : Group) → group_text (grown g n f) ≡ due_text g ++ (label g n ++ text f)
    brackets (Braces h fs) = more_text (Braces h fs) (grown (Braces h fs) n f) (label (Braces h fs) n ++ text f) refl refl (item_texts-grown (Braces h fs) n f)
    brackets (Closed_braces place m fs) = more_text (Closed_braces place m fs) (grown (Closed_braces place m fs) n f) (label (Closed_braces place m fs) n ++ text f) refl refl (item_texts-grown (Closed_braces place m fs) n f)
    brackets (Parens h ps) = more_text (Parens h ps) (grown (Parens h ps) n f) (label (Parens h ps) n ++ text f) refl refl (item_texts-grown (Parens h ps) n f)
    brackets (Angles e) = more_text (Angles e) (grown (Angles e) n f) (label (Angles e) n ++ text f) refl refl (item_texts-grown (Angles e) n f)
    brackets (Table place h) = more_text (Table place h) (grown (Table place h) n f) (label (Table place h) n ++ text f) refl refl (item_texts-grown (Table place h) n f)

-- with one more variant
pub grown_enum_text : (e : OpenEnum) (n : Utf8) (c : Content) → group_text (Angles (grown_enum e n c)) ≡ variant_text e n ++ content_text c
grown_enum_text e n c =
    more_text (Angles e) (Angles (grown_enum e n c)) (name_text n ++ content_text c) refl refl (variant_texts-push e.variants n c)
    ∙ sym (append_assoc (due_text (Angles e)) (name_text n) (content_text c))

-- behind a further one a comma comes next
pub sep-grown : (g : Group) (n : Utf8) (f : Form) → sep (item_texts (grown g n f)) ≡ 44 ∷ []
sep-grown g n f = ap sep (item_texts-grown g n f) ∙ sep-snoc (item_texts g) (label g n ++ text f)

pub sep-variant : (vs : Variants) (n : Utf8) (c : Content) → sep (variant_texts (push_variant vs n c)) ≡ 44 ∷ []
sep-variant vs n c = ap sep (variant_texts-push vs n c) ∙ sep-snoc (variant_texts vs) (name_text n ++ content_text c)

-- before the first none does
pub sep-empty : (g : Group) → is_empty g ≡ true → sep (item_texts g) ≡ []
sep-empty (Braces h fs) k = named_texts-none 58 fs k
sep-empty (Closed_braces place n fs) k = named_texts-none 58 fs k
sep-empty (Table place h) k = named_texts-none 61 h k
sep-empty (Parens h ps) k = of_parts ps k
  where
    of_parts : (ps : Parts) → has_no_parts ps ≡ true → sep (part_texts ps) ≡ []
    of_parts no_parts k = refl
    of_parts (part f ps) k = absurd cc
sep-empty (Angles e) k = of_variants e.variants k
  where
    of_variants : (vs : Variants) → has_no_variants vs ≡ true → sep (variant_texts vs) ≡ []
    of_variants no_variants k = refl
    of_variants (variant n c vs) k = absurd cc

pub levels_grown : (g : Group) (n : Utf8) (st : List Level) (f : Form) → levels_text (In_item g n ∷ st) ++ text f ≡ levels_text st ++ group_text (grown g n f)
levels_grown g n st f = append_assoc (levels_text st) (item_text g n) (text f) ∙ ap (λ xs. levels_text st ++ xs) (sym (grown_text g n f))

-- ---- behind a closing bracket

abbrev pub after : Closed → List Level → State
after (Closed_form place f) st = (Done f, st)
after (Closed_variant e) st = (Item_done (Angles e), st)
after (Closed_prefix place p) st = (Form_due, In_prefix place p ∷ st)

-- what the bracket ends is written so
abbrev pub closed_bytes : Closed → Utf8
closed_bytes (Closed_form place f) = text f
closed_bytes (Closed_variant e) = group_text (Angles e)
closed_bytes (Closed_prefix place p) = prefix_text p

pub after_written : (c : Closed) (st : List Level) → written (after c st) ≡ levels_text st ++ closed_bytes c
after_written (Closed_form place f) st = refl
after_written (Closed_variant e) st = refl
after_written (Closed_prefix place p) st = append-nil (levels_text st ++ prefix_text p)

-- the list and the byte behind it
closed_list : (before bs : Utf8) (c : ℕ) (xs : List Utf8) → before ++ (bs ++ (listed xs ++ c ∷ [])) ≡ (before ++ (bs ++ listed xs)) ++ c ∷ []
closed_list before bs c xs = regrouped (listed xs)
  where
    regrouped : (ys : Utf8) → before ++ (bs ++ (ys ++ c ∷ [])) ≡ (before ++ (bs ++ ys)) ++ c ∷ []
    regrouped ys = simp append_assoc

pub closed_text : (g : Group) → closed_bytes (closed g) ≡ group_text g ++ closing g ∷ []
closed_text (Braces (Nameless_at place) fs) = refl
closed_text (Braces (Named_at place n) fs) = closed_list (struct_name_text n) (123 ∷ []) 125 (field_texts fs)
closed_text (Braces (Variant_of e n) fs) = grown_enum_text e n (struct_content fs) ∙ closed_list (variant_text e n) (123 ∷ []) 125 (field_texts fs)
closed_text (Closed_braces place n fs) = closed_list (struct_name_text n) (123 ∷ 33 ∷ []) 125 (field_texts fs)
closed_text (Parens (Nameless_at place) ps) = refl
closed_text (Parens (Named_at place n) ps) = closed_list (name_text n) (40 ∷ []) 41 (part_texts ps)
closed_text (Parens (Variant_of e n) ps) = grown_enum_text e n (tuple_content ps) ∙ closed_list (variant_text e n) (40 ∷ []) 41 (part_texts ps)
closed_text (Angles e) = refl
closed_text (Table place h) = refl

-- no word goes on before the closing bracket, nor does it belong to one
pub closing-alone : (g : Group) → goes_on (closing g ∷ []) ≡ false
closing-alone (Braces h fs) = refl
closing-alone (Closed_braces place n fs) = refl
closing-alone (Parens h ps) = refl
closing-alone (Angles e) = refl
closing-alone (Table place h) = refl

pub closing-ends : (g : Group) → in_bare (closing g) ≡ false
closing-ends g = (or_false (in_bare (closing g)) (names_form (closing g)) (closing-alone g)).0

abbrev HasMore : Closed → Type 0
HasMore (Closed_form place f) = Unit {0}
HasMore (Closed_variant e) = sep (variant_texts e.variants) ≡ 44 ∷ []
HasMore (Closed_prefix place p) = Unit {0}

pub valid_closed : (g : Group) (st : List Level) → ValidMode (after (closed g) st).0
valid_closed g st = valid (closed g) (closed_text g) (has_more g)
  where
    valid : (c : Closed) → closed_bytes c ≡ group_text g ++ closing g ∷ [] → HasMore c → ValidMode (after c st).0
    valid (Closed_form place f) e m = record { before = group_text g; byte = closing g; whole = e; closes = closing-ends g }
    valid (Closed_variant v) e m = m
    valid (Closed_prefix place p) e m = tt

    has_more : (g : Group) → HasMore (closed g)
    has_more (Braces (Nameless_at place) fs) = tt
    has_more (Braces (Named_at place n) fs) = tt
    has_more (Braces (Variant_of e n) fs) = sep-variant e.variants n (struct_content fs)
    has_more (Closed_braces place n fs) = tt
    has_more (Parens (Nameless_at place) ps) = tt
    has_more (Parens (Named_at place n) ps) = tt
    has_more (Parens (Variant_of e n) ps) = sep-variant e.variants n (tuple_content ps)
    has_more (Angles e) = tt
    has_more (Table place h) = tt

-- ---- other levels

-- a form that begins with a prefix
pub levels_prefixed : (p : Prefix) (place : ℕ) (st : List Level) (f : Form) → levels_text st ++ text (prefixed p f) ≡ levels_text (In_prefix place p ∷ st) ++ text f
levels_prefixed Option_prefix place st f = sym (append_assoc (levels_text st) (63 ∷ []) (text f))
levels_prefixed Lossy_prefix place st f = sym (append_assoc (levels_text st) (126 ∷ []) (text f))
levels_prefixed Readable_prefix place st f = sym (append_assoc (levels_text st) (94 ∷ []) (text f))
levels_prefixed (Definitions_prefix h) place st f = sym (append_assoc (levels_text st) (38 ∷ in_parens (definition_texts h)) (text f))
levels_prefixed (Newtype_prefix n) place st f = ap (λ xs. levels_text st ++ xs) (sym (append_assoc (name_text n) (61 ∷ []) (text f))) ∙ sym (append_assoc (levels_text st) (name_text n ++ 61 ∷ []) (text f))

-- a sequence's text is that of its items' form between brackets
pub levels_item : (place : ℕ) (st : List Level) (f : Form) → levels_text st ++ text (sequence f) ≡ (levels_text (In_brackets place ∷ st) ++ text f) ++ 93 ∷ []
levels_item place st f = regrouped (levels_text st) (text f)
  where
    regrouped : (a b : Utf8) → a ++ 91 ∷ (b ++ 93 ∷ []) ≡ ((a ++ 91 ∷ []) ++ b) ++ 93 ∷ []
    regrouped a b = simp append_assoc

-- a map's text is that of its key behind `[`, and that of its value between `:` and `]`
pub levels_key : (place : ℕ) (k : Form) (st : List Level) → levels_text (In_map place k ∷ st) ++ [] ≡ (levels_text (In_brackets place ∷ st) ++ text k) ++ 58 ∷ []
levels_key place k st = regrouped (levels_text st) (text k)
  where
    regrouped : (a b : Utf8) → (a ++ 91 ∷ (b ++ 58 ∷ [])) ++ [] ≡ ((a ++ 91 ∷ []) ++ b) ++ 58 ∷ []
    regrouped a b = simp (append_assoc, append-nil)

pub levels_value : (place : ℕ) (k v : Form) (st : List Level) → levels_text st ++ text (map k v) ≡ (levels_text (In_map place k ∷ st) ++ text v) ++ 93 ∷ []
levels_value place k v st = regrouped (levels_text st) (text k) (text v)
  where
    regrouped : (a b c : Utf8) → a ++ 91 ∷ (b ++ 58 ∷ (c ++ 93 ∷ [])) ≡ ((a ++ 91 ∷ (b ++ 58 ∷ [])) ++ c) ++ 93 ∷ []
    regrouped a b c = simp append_assoc

-- the text of two forms is that of the readable one behind `%(`, and that of the compact one between `,` and `)`
pub levels_readable : (place : ℕ) (r : Form) (st : List Level) → levels_text (In_compact place r ∷ st) ++ [] ≡ (levels_text (In_pair place ∷ st) ++ text r) ++ 44 ∷ []
levels_readable place r st = regrouped (levels_text st) (text r)
  where
    regrouped : (a b : Utf8) → (a ++ 37 ∷ 40 ∷ (b ++ 44 ∷ [])) ++ [] ≡ ((a ++ 37 ∷ 40 ∷ []) ++ b) ++ 44 ∷ []
    regrouped a b = simp (append_assoc, append-nil)

pub levels_compact : (place : ℕ) (r c : Form) (st : List Level) → levels_text st ++ text (by_mode r c) ≡ (levels_text (In_compact place r ∷ st) ++ text c) ++ 41 ∷ []
levels_compact place r c st = regrouped (levels_text st) (text r) (text c)
  where
    regrouped : (a b c : Utf8) → a ++ 37 ∷ 40 ∷ (b ++ 44 ∷ (c ++ 41 ∷ [])) ≡ ((a ++ 37 ∷ 40 ∷ (b ++ 44 ∷ [])) ++ c) ++ 41 ∷ []
    regrouped a b c = simp append_assoc

-- two forms, of which the readable one was read, may go on so
pub levels_sample : (place : ℕ) (r : Form) (st : List Level) → levels_text st ++ text (by_mode r (structure dropped [] no_fields)) ≡ ((levels_text (In_pair place ∷ st) ++ text r) ++ 44 ∷ []) ++ (123 ∷ 125 ∷ 41 ∷ [])
levels_sample place r st = regrouped (levels_text st) (text r)
  where
    regrouped : (a b : Utf8) → a ++ 37 ∷ 40 ∷ (b ++ 44 ∷ 123 ∷ 125 ∷ 41 ∷ []) ≡ ((((a ++ 37 ∷ 40 ∷ []) ++ b) ++ 44 ∷ []) ++ (123 ∷ 125 ∷ 41 ∷ []))
    regrouped a b = simp append_assoc

pub struct_name-bare : (n : Utf8) → bare n ≡ true → struct_name_text n ≡ n
struct_name-bare [] h = refl
struct_name-bare (b ∷ bs) h = rw h refl

pub name-bare : (n : Utf8) → bare n ≡ true → name_text n ≡ n
name-bare n h = rw h refl

pub name-quoted : (n : Utf8) → bare n ≡ false → name_text n ≡ quoted n
name-quoted n h = rw h refl

pub struct_name-quoted : (n : Utf8) → bare n ≡ false → is_written n ≡ true → struct_name_text n ≡ quoted n
struct_name-quoted [] h w = absurd cc
struct_name-quoted (b ∷ bs) h w = rw h refl
