-- A value that fits a form as it stands fits what the form is unrolled to; and what fits a form in a table fits it where it is unrolled more often.
use Rattle.std.proofs.Common.{◌≡◌, ℕ, zero, suc, ◌≤◌, Bool, true, false, cond, Option, Some, None, refl, ap, sym, subst, ◌∙◌, arith}
use Rattle.std.specs.Prelude.{option_map}
use Rattle.std.specs.Str.{bytes_eq}
use Rattle.bson_kinds.specs.Text.{Utf8}
use Rattle.bson_kinds.proofs.Apart.{no_some}
use Rattle.bson_shape.specs.Form.{UnknownFields, Form, leaf, optional, lossy, human_readable, by_mode, sequence, newtype, unit_structure, map, tuple, tuple_structure, structure, enumeration, reference, definitions, Fields, no_fields, field, Parts, no_parts, part, Content, unit_content, newtype_content, tuple_content, struct_content, Variants, no_variants, variant}
use Rattle.bson_shape.specs.Guarded.{count}
use Rattle.bson_values.specs.Value as value
use Rattle.bson_values.specs.Value.{Value, Items, no_items, item, Entries, no_entries, entry, FieldValues, no_field_values, field_value}
use Rattle.bson_laws.specs.Depths.{value_depth, items_depth, entries_depth, fields_depth}
use Rattle.bson_laws.specs.Fits.{FitsKey, Fits, ItemsFit, PartsFit, EntriesFit, FieldsFit}
use Rattle.bson_laws.specs.Recursive.{FitsIn}
use Rattle.bson_laws.specs.Unrolled.{Meanings, undefined, repeated, unrolled, unrolled_name, unrolled_fields, unrolled_parts, unrolled_variants, unrolled_content, step, names_in, in_table}
use Rattle.bson_laws.specs.Variants.{content_of}
use Rattle.bson_laws.proofs.CutFits.{newtype_is, tuple_is, struct_is}
use Rattle.bson_laws.proofs.Fitting.{fits_lossy, lossy_fits, fits_body, body_fits}

module _ (m : ℕ) where
  -- ---- variants and keys

  content_unrolled : (vs : Variants) (name : Utf8) (g : Meanings) → content_of (unrolled_variants m vs g) name ≡ option_map (λ c. unrolled_content m c g) (content_of vs name)
  content_unrolled no_variants name g = refl
  content_unrolled (variant word c vs) name g = by_case (bytes_eq word name) (content_unrolled vs name g) where
    by_case : (b : Bool) → content_of (unrolled_variants m vs g) name ≡ option_map (λ c. unrolled_content m c g) (content_of vs name)
        → cond b (Some (unrolled_content m c g)) (content_of (unrolled_variants m vs g) name) ≡ option_map (λ c. unrolled_content m c g) (cond b (Some c) (content_of vs name))
    by_case true h = refl
    by_case false h = h

  pub content_is : (vs : Variants) (name : Utf8) (g : Meanings) (c : Content) → content_of vs name ≡ Some c → content_of (unrolled_variants m vs g) name ≡ Some (unrolled_content m c g)
  content_is vs name g c e = content_unrolled vs name g ∙ ap (option_map (λ c. unrolled_content m c g)) e

  key_fits : (key : Form) (k : Value) (g : Meanings) → FitsKey key k → FitsKey (unrolled m key g) k
  key_fits (leaf l) k g f = f
  key_fits (enumeration vs) (value.unit_variant name) g f = content_is vs name g unit_content f
  key_fits s k g f = absurd f

  -- ---- all values

  mutual
    fits : (v : Value) (s : Form) (g : Meanings) → Fits v s → Fits v (unrolled m s g)
    fits v (leaf l) g f = f
    fits v (lossy s) g f = lossy_fits v (unrolled m s g) (fits v s g (fits_lossy v s f))
    fits v (definitions h s) g f = body_fits v no_fields (unrolled m s (names_in m h)) (fits v s (names_in m h) (fits_body v h s f))
    fits value.none (optional s) g f = tt
    fits (value.some v) (optional s) g f = fits v s g f
    fits (value.newtype name v) (newtype n s) g f = (f.0, fits v s g f.1)
    fits (value.unit_structure name) (unit_structure n) g f = f
    fits (value.sequence vs) (sequence s) g f = items_fit vs s g f
    fits (value.map es) (map key s) g f = entries_fit es key s g f
    fits (value.tuple vs) (tuple ps) g f = parts_fit vs ps g f
    fits (value.tuple_structure name vs) (tuple_structure n ps) g f = (f.0, parts_fit vs ps g f.1)
    fits (value.structure name vs) (structure u n fs) g f = (f.0, fields_fit vs fs g f.1)
    fits (value.unit_variant name) (enumeration ws) g f = content_is ws name g unit_content f
    fits (value.newtype_variant name v) (enumeration ws) g f = (unrolled m f.0 g, content_is ws name g (newtype_content f.0) f.1, fits v f.0 g f.2)
    fits (value.tuple_variant name vs) (enumeration ws) g f = (unrolled_parts m f.0 g, content_is ws name g (tuple_content f.0) f.1, parts_fit vs f.0 g f.2)
    fits (value.structure_variant name vs) (enumeration ws) g f = (unrolled_fields m f.0 g, content_is ws name g (struct_content f.0) f.1, fields_fit vs f.0 g f.2)
    fits v s g f = absurd f

    items_fit : (vs : Items) (s : Form) (g : Meanings) → ItemsFit vs s → ItemsFit vs (unrolled m s g)
    items_fit no_items s g f = tt
    items_fit (item v vs) s g f = (fits v s g f.0, items_fit vs s g f.1)

    parts_fit : (vs : Items) (ps : Parts) (g : Meanings) → PartsFit vs ps → PartsFit vs (unrolled_parts m ps g)
    parts_fit no_items no_parts g f = tt
    parts_fit (item v vs) (part s ps) g f = (fits v s g f.0, parts_fit vs ps g f.1)
    parts_fit vs ps g f = absurd f

    entries_fit : (es : Entries) (key s : Form) (g : Meanings) → EntriesFit es key s → EntriesFit es (unrolled m key g) (unrolled m s g)
    entries_fit no_entries key s g f = tt
    entries_fit (entry k v es) key s g f = (key_fits key k g f.0, fits v s g f.1, entries_fit es key s g f.2)

    fields_fit : (vs : FieldValues) (fs : Fields) (g : Meanings) → FieldsFit vs fs → FieldsFit vs (unrolled_fields m fs g)
    fields_fit no_field_values no_fields g f = tt
    fields_fit (field_value name v vs) (field n s fs) g f = (f.0, fits v s g f.1, fields_fit vs fs g f.2)
    fields_fit vs fs g f = absurd f

-- a value of a form is one of the form where no definition stands around it
pub fits_whole : (v : Value) (s : Form) → Fits v s → FitsIn no_fields v s
fits_whole v s f = fits (suc (value_depth v)) v s (names_in (suc (value_depth v)) no_fields) f

-- ---- what fits one form fits another

abbrev Fewer : Form → Form → Type 0
Fewer s t = (v : Value) → Fits v s → Fits v t

-- so it is with what each reference means
abbrev MeansFewer : Meanings → Meanings → Type 0
MeansFewer g k = (name : Utf8) → Fewer (g name) (k name)

-- and with what a variant has inside
record HoldsFewer (o p : Option Content) : Type 0 where
  unit : o ≡ Some unit_content → p ≡ Some unit_content
  newtype : (s : Form) → o ≡ Some (newtype_content s) → (t : Form) × (p ≡ Some (newtype_content t)) × Fewer s t
  tuple : (ps : Parts) → o ≡ Some (tuple_content ps) → (qs : Parts) × (p ≡ Some (tuple_content qs)) × ((vs : Items) → PartsFit vs ps → PartsFit vs qs)
  fields : (fs : Fields) → o ≡ Some (struct_content fs) → (gs : Fields) × (p ≡ Some (struct_content gs)) × ((vs : FieldValues) → FieldsFit vs fs → FieldsFit vs gs)

readable_fits : (s t : Form) → Fewer (human_readable s) t
readable_fits s t value.none f = absurd f
readable_fits s t v f = absurd f

by_mode_fits : (r c t : Form) → Fewer (by_mode r c) t
by_mode_fits r c t value.none f = absurd f
by_mode_fits r c t v f = absurd f

undefined_fits : (name : Utf8) (t : Form) → Fewer (undefined name) t
undefined_fits name t value.none f = absurd f
undefined_fits name t v f = absurd f

optional_fits : (s t : Form) → Fewer s t → Fewer (optional s) (optional t)
optional_fits s t h value.none f = tt
optional_fits s t h (value.some v) f = h v f
optional_fits s t h v f = absurd f

newtype_fits : (name : Utf8) (s t : Form) → Fewer s t → Fewer (newtype name s) (newtype name t)
newtype_fits name s t h (value.newtype n v) f = (f.0, h v f.1)
newtype_fits name s t h v f = absurd f

items_fewer : (s t : Form) → Fewer s t → (vs : Items) → ItemsFit vs s → ItemsFit vs t
items_fewer s t h no_items f = tt
items_fewer s t h (item v vs) f = (h v f.0, items_fewer s t h vs f.1)

sequence_fits : (s t : Form) → Fewer s t → Fewer (sequence s) (sequence t)
sequence_fits s t h (value.sequence vs) f = items_fewer s t h vs f
sequence_fits s t h v f = absurd f

entries_fewer : (key other s t : Form) → ((k : Value) → FitsKey key k → FitsKey other k) → Fewer s t → (es : Entries) → EntriesFit es key s → EntriesFit es other t
entries_fewer key other s t keys h no_entries f = tt
entries_fewer key other s t keys h (entry k v es) f = (keys k f.0, h v f.1, entries_fewer key other s t keys h es f.2)

map_fits : (key other s t : Form) → ((k : Value) → FitsKey key k → FitsKey other k) → Fewer s t → Fewer (map key s) (map other t)
map_fits key other s t keys h (value.map es) f = entries_fewer key other s t keys h es f
map_fits key other s t keys h v f = absurd f

tuple_fits : (ps qs : Parts) → ((vs : Items) → PartsFit vs ps → PartsFit vs qs) → Fewer (tuple ps) (tuple qs)
tuple_fits ps qs h (value.tuple vs) f = h vs f
tuple_fits ps qs h v f = absurd f

tuple_structure_fits : (name : Utf8) (ps qs : Parts) → ((vs : Items) → PartsFit vs ps → PartsFit vs qs) → Fewer (tuple_structure name ps) (tuple_structure name qs)
tuple_structure_fits name ps qs h (value.tuple_structure n vs) f = (f.0, h vs f.1)
tuple_structure_fits name ps qs h v f = absurd f

structure_fits : (u : UnknownFields) (name : Utf8) (fs gs : Fields) → ((vs : FieldValues) → FieldsFit vs fs → FieldsFit vs gs) → Fewer (structure u name fs) (structure u name gs)
structure_fits u name fs gs h (value.structure n vs) f = (f.0, h vs f.1)
structure_fits u name fs gs h v f = absurd f

variants_fit : (vs ws : Variants) → ((name : Utf8) → HoldsFewer (content_of vs name) (content_of ws name)) → Fewer (enumeration vs) (enumeration ws)
variants_fit vs ws h (value.unit_variant name) f = (h name).unit f
variants_fit vs ws h (value.newtype_variant name v) f = let a = (h name).newtype f.0 f.1 in (a.0, a.1, a.2 v f.2)
variants_fit vs ws h (value.tuple_variant name us) f = let a = (h name).tuple f.0 f.1 in (a.0, a.1, a.2 us f.2)
variants_fit vs ws h (value.structure_variant name us) f = let a = (h name).fields f.0 f.1 in (a.0, a.1, a.2 us f.2)
variants_fit vs ws h v f = absurd f

-- ---- of variants

nothing_held : HoldsFewer None None
nothing_held = record { unit = λ e. e; newtype = λ s e. absurd (no_some e); tuple = λ ps e. absurd (no_some e); fields = λ fs e. absurd (no_some e) }

unit_held : HoldsFewer (Some unit_content) (Some unit_content)
unit_held = record { unit = λ e. e; newtype = λ s e. absurd cc; tuple = λ ps e. absurd cc; fields = λ fs e. absurd cc }

newtype_held : (s t : Form) → Fewer s t → HoldsFewer (Some (newtype_content s)) (Some (newtype_content t))
newtype_held s t h = record {
  unit = λ e. absurd cc;
  newtype = λ r e. (t, refl, λ v f. h v (subst (λ q. Fits v q) (sym (newtype_is s r e)) f));
  tuple = λ ps e. absurd cc;
  fields = λ fs e. absurd cc;
}

tuple_held : (ps qs : Parts) → ((vs : Items) → PartsFit vs ps → PartsFit vs qs) → HoldsFewer (Some (tuple_content ps)) (Some (tuple_content qs))
tuple_held ps qs h = record {
  unit = λ e. absurd cc;
  newtype = λ r e. absurd cc;
  tuple = λ rs e. (qs, refl, λ vs f. h vs (subst (λ q. PartsFit vs q) (sym (tuple_is ps rs e)) f));
  fields = λ fs e. absurd cc;
}

fields_held : (fs gs : Fields) → ((vs : FieldValues) → FieldsFit vs fs → FieldsFit vs gs) → HoldsFewer (Some (struct_content fs)) (Some (struct_content gs))
fields_held fs gs h = record {
  unit = λ e. absurd cc;
  newtype = λ r e. absurd cc;
  tuple = λ ps e. absurd cc;
  fields = λ rs e. (gs, refl, λ vs f. h vs (subst (λ q. FieldsFit vs q) (sym (struct_is fs rs e)) f));
}

held_by_case : (b : Bool) (o p q r : Option Content) → HoldsFewer o q → HoldsFewer p r → HoldsFewer (cond b o p) (cond b q r)
held_by_case true o p q r h k = h
held_by_case false o p q r h k = k

by_case : (b : Bool) (s t u w : Form) → Fewer s u → Fewer t w → Fewer (cond b s t) (cond b u w)
by_case true s t u w h k = h
by_case false s t u w h k = k

-- ---- steps that keep it, again and again

repeated_keeps : (a b : Meanings → Meanings) → ((g k : Meanings) → MeansFewer g k → MeansFewer (a g) (b k)) → (n : ℕ) (g k : Meanings) → MeansFewer g k → MeansFewer (repeated n a g) (repeated n b k)
repeated_keeps a b keeps zero g k h = h
repeated_keeps a b keeps (suc n) g k h = keeps (repeated n a g) (repeated n b k) (repeated_keeps a b keeps n g k h)

more_rounds : (a b : Meanings → Meanings) → ((g k : Meanings) → MeansFewer g k → MeansFewer (a g) (b k)) → (m n : ℕ) → m ≤ n → MeansFewer (repeated m a undefined) (repeated n b undefined)
more_rounds a b keeps zero n le = λ name. undefined_fits name (repeated n b undefined name)
more_rounds a b keeps (suc m) zero le = absurd (omega arith)
more_rounds a b keeps (suc m) (suc n) le = keeps (repeated m a undefined) (repeated n b undefined) (more_rounds a b keeps m n (omega arith))

-- what the names of a table mean
table_keeps : (m n : ℕ) → m ≤ n → (t : Fields) → ((g k : Meanings) → MeansFewer g k → MeansFewer (step m t g) (step n t k)) → MeansFewer (names_in m t) (names_in n t)
table_keeps m n le t keeps =
    more_rounds (repeated (suc (count t)) (step m t)) (repeated (suc (count t)) (step n t)) (repeated_keeps (step m t) (step n t) keeps (suc (count t))) m n le

-- ---- more rounds

module _ (m n : ℕ) (le : m ≤ n) where
  mutual
    more : (s : Form) (g k : Meanings) → MeansFewer g k → Fewer (unrolled m s g) (unrolled n s k)
    more (leaf l) g k h = λ v f. f
    more (optional s) g k h = optional_fits (unrolled m s g) (unrolled n s k) (more s g k h)
    more (lossy s) g k h = λ v f. lossy_fits v (unrolled n s k) (more s g k h v (fits_lossy v (unrolled m s g) f))
    more (human_readable s) g k h = readable_fits (unrolled m s g) (human_readable (unrolled n s k))
    more (by_mode r c) g k h = by_mode_fits (unrolled m r g) (unrolled m c g) (by_mode (unrolled n r k) (unrolled n c k))
    more (sequence s) g k h = sequence_fits (unrolled m s g) (unrolled n s k) (more s g k h)
    more (map key s) g k h = map_fits (unrolled m key g) (unrolled n key k) (unrolled m s g) (unrolled n s k) (more_keys key g k h) (more s g k h)
    more (tuple ps) g k h = tuple_fits (unrolled_parts m ps g) (unrolled_parts n ps k) (more_parts ps g k h)
    more (tuple_structure name ps) g k h = tuple_structure_fits name (unrolled_parts m ps g) (unrolled_parts n ps k) (more_parts ps g k h)
    more (newtype name s) g k h = newtype_fits name (unrolled m s g) (unrolled n s k) (more s g k h)
    more (unit_structure name) g k h = λ v f. f
    more (structure u name fs) g k h = structure_fits u name (unrolled_fields m fs g) (unrolled_fields n fs k) (more_fields fs g k h)
    more (enumeration vs) g k h = variants_fit (unrolled_variants m vs g) (unrolled_variants n vs k) (more_variants vs g k h)
    more (reference name) g k h = λ v f. body_fits v no_fields (k name) (h name v (fits_body v no_fields (g name) f))
    more (definitions t s) g k h =
        λ v f. body_fits v no_fields (unrolled n s (names_in n t)) (more s (names_in m t) (names_in n t) (table_keeps m n le t (λ i j b. more_step t i j b)) v (fits_body v no_fields (unrolled m s (names_in m t)) f))

    more_step : (t : Fields) (g k : Meanings) → MeansFewer g k → MeansFewer (unrolled_name m t g) (unrolled_name n t k)
    more_step no_fields g k h = λ name v f. f
    more_step (field word s t) g k h =
        λ name. by_case (bytes_eq word name) (unrolled m s g) (unrolled_name m t g name) (unrolled n s k) (unrolled_name n t k name) (more s g k h) (more_step t g k h name)

    more_keys : (key : Form) (g k : Meanings) → MeansFewer g k → (v : Value) → FitsKey (unrolled m key g) v → FitsKey (unrolled n key k) v
    more_keys (leaf l) g k h v f = f
    more_keys (enumeration vs) g k h (value.unit_variant name) f = (more_variants vs g k h name).unit f
    more_keys s g k h v f = absurd f

    more_parts : (ps : Parts) (g k : Meanings) → MeansFewer g k → (vs : Items) → PartsFit vs (unrolled_parts m ps g) → PartsFit vs (unrolled_parts n ps k)
    more_parts no_parts g k h vs f = f
    more_parts (part s ps) g k h no_items f = absurd f
    more_parts (part s ps) g k h (item v vs) f = (more s g k h v f.0, more_parts ps g k h vs f.1)

    more_fields : (fs : Fields) (g k : Meanings) → MeansFewer g k → (vs : FieldValues) → FieldsFit vs (unrolled_fields m fs g) → FieldsFit vs (unrolled_fields n fs k)
    more_fields no_fields g k h vs f = f
    more_fields (field word s fs) g k h no_field_values f = absurd f
    more_fields (field word s fs) g k h (field_value name v vs) f = (f.0, more s g k h v f.1, more_fields fs g k h vs f.2)

    more_variants : (vs : Variants) (g k : Meanings) → MeansFewer g k → (name : Utf8) → HoldsFewer (content_of (unrolled_variants m vs g) name) (content_of (unrolled_variants n vs k) name)
    more_variants no_variants g k h name = nothing_held
    more_variants (variant word c vs) g k h name =
        held_by_case (bytes_eq word name) (Some (unrolled_content m c g)) (content_of (unrolled_variants m vs g) name) (Some (unrolled_content n c k)) (content_of (unrolled_variants n vs k) name)
        (more_content c g k h) (more_variants vs g k h name)

    more_content : (c : Content) (g k : Meanings) → MeansFewer g k → HoldsFewer (Some (unrolled_content m c g)) (Some (unrolled_content n c k))
    more_content unit_content g k h = unit_held
    more_content (newtype_content s) g k h = newtype_held (unrolled m s g) (unrolled n s k) (more s g k h)
    more_content (tuple_content ps) g k h = tuple_held (unrolled_parts m ps g) (unrolled_parts n ps k) (more_parts ps g k h)
    more_content (struct_content fs) g k h = fields_held (unrolled_fields m fs g) (unrolled_fields n fs k) (more_fields fs g k h)

more_names : (m n : ℕ) → m ≤ n → (t : Fields) → MeansFewer (names_in m t) (names_in n t)
more_names m n le t = table_keeps m n le t (more_step m n le t)

-- a value of a form in a table is one where the form is unrolled more often
pub fits_more : (m n : ℕ) → m ≤ n → (h : Fields) (s : Form) (v : Value) → Fits v (in_table m h s) → Fits v (in_table n h s)
fits_more m n le h s = more m n le s (names_in m h) (names_in n h) (more_names m n le h)

items_more : (m n : ℕ) → m ≤ n → (h : Fields) (s : Form) (vs : Items) → ItemsFit vs (in_table m h s) → ItemsFit vs (in_table n h s)
items_more m n le h s = items_fewer (in_table m h s) (in_table n h s) (fits_more m n le h s)

entries_more : (m n : ℕ) → m ≤ n → (h : Fields) (key s : Form) (es : Entries) → EntriesFit es (in_table m h key) (in_table m h s) → EntriesFit es (in_table n h key) (in_table n h s)
entries_more m n le h key s =
    entries_fewer (in_table m h key) (in_table n h key) (in_table m h s) (in_table n h s) (more_keys m n le key (names_in m h) (names_in n h) (more_names m n le h)) (fits_more m n le h s)

fields_more : (m n : ℕ) → m ≤ n → (h : Fields) (fs : Fields) (vs : FieldValues) → FieldsFit vs (unrolled_fields m fs (names_in m h)) → FieldsFit vs (unrolled_fields n fs (names_in n h))
fields_more m n le h fs = more_fields m n le fs (names_in m h) (names_in n h) (more_names m n le h)

-- ---- values of parts, in a table

-- the items are of a form in a table
abbrev pub ItemsFitIn : Fields → Items → Form → Type 0
ItemsFitIn h vs s = ItemsFit vs (in_table (suc (items_depth vs)) h s)

-- the keys and the values are of two
abbrev pub EntriesFitIn : Fields → Entries → Form → Form → Type 0
EntriesFitIn h es key s = EntriesFit es (in_table (suc (entries_depth es)) h key) (in_table (suc (entries_depth es)) h s)

-- the fields are of these
abbrev pub FieldsFitIn : Fields → FieldValues → Fields → Type 0
FieldsFitIn h vs fs = FieldsFit vs (unrolled_fields (suc (fields_depth vs)) fs (names_in (suc (fields_depth vs)) h))

pub item_in : (h : Fields) (s : Form) (v : Value) (vs : Items) → FitsIn h v s → ItemsFitIn h vs s → ItemsFitIn h (item v vs) s
item_in h s v vs f fs =
    (fits_more (suc (value_depth v)) (suc (items_depth (item v vs))) (omega arith) h s v f, items_more (suc (items_depth vs)) (suc (items_depth (item v vs))) (omega arith) h s vs fs)

pub sequence_in : (h : Fields) (s : Form) (vs : Items) → ItemsFitIn h vs s → FitsIn h (value.sequence vs) (sequence s)
sequence_in h s vs f = items_more (suc (items_depth vs)) (suc (suc (items_depth vs))) (omega arith) h s vs f

pub entry_in : (h : Fields) (key s : Form) (k v : Value) (es : Entries) → FitsKey key k → FitsIn h v s → EntriesFitIn h es key s → EntriesFitIn h (entry k v es) key s
entry_in h key s k v es fk f fs =
    let d = suc (entries_depth (entry k v es)) in
    let rest : EntriesFit es (in_table d h key) (in_table d h s) = entries_more (suc (entries_depth es)) d (omega arith) h key s es fs in
    (key_fits d key k (names_in d h) fk, fits_more (suc (value_depth v)) d (omega arith) h s v f, rest)

pub map_in : (h : Fields) (key s : Form) (es : Entries) → EntriesFitIn h es key s → FitsIn h (value.map es) (map key s)
map_in h key s es f = entries_more (suc (entries_depth es)) (suc (suc (entries_depth es))) (omega arith) h key s es f

pub field_in : (h : Fields) (name : Utf8) (s : Form) (fs : Fields) (v : Value) (vs : FieldValues) → FitsIn h v s → FieldsFitIn h vs fs → FieldsFitIn h (field_value name v vs) (field name s fs)
field_in h name s fs v vs f rest =
    let d = suc (fields_depth (field_value name v vs)) in
    (refl, fits_more (suc (value_depth v)) d (omega arith) h s v f, fields_more (suc (fields_depth vs)) d (omega arith) h fs vs rest)

pub structure_in : (h : Fields) (u : UnknownFields) (name : Utf8) (fs : Fields) (vs : FieldValues) → FieldsFitIn h vs fs → FitsIn h (value.structure name vs) (structure u name fs)
structure_in h u name fs vs f = (refl, fields_more (suc (fields_depth vs)) (suc (suc (fields_depth vs))) (omega arith) h fs vs f)

pub unit_variant_in : (h : Fields) (vs : Variants) (name : Utf8) → content_of vs name ≡ Some unit_content → FitsIn h (value.unit_variant name) (enumeration vs)
unit_variant_in h vs name e = content_is 1 vs name (names_in 1 h) unit_content e

pub newtype_variant_in : (h : Fields) (vs : Variants) (name : Utf8) (s : Form) (v : Value) → content_of vs name ≡ Some (newtype_content s) → FitsIn h v s → FitsIn h (value.newtype_variant name v) (enumeration vs)
newtype_variant_in h vs name s v e f =
    let d = suc (suc (value_depth v)) in
    (in_table d h s, content_is d vs name (names_in d h) (newtype_content s) e, fits_more (suc (value_depth v)) d (omega arith) h s v f)
