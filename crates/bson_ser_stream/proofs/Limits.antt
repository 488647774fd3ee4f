-- What is refused on its way is never refused for its length: that is judged of whole documents alone.
use Rattle.std.proofs.Common.{◌≡◌, ℕ, ℤ, zero, suc, ◌<◌, List, [], length, Bool, true, false, cond, ◌⊎◌, inl, inr, Option, Some, None, Ok, Err, ap, sym, subst, refl, ◌∙◌}
use Rattle.std.specs.Prelude.{int_lt, nat_lt, codes}
use Rattle.std.specs.Str.{bytes_eq}
use Rattle.bson_kinds.specs.Text.{Bytes, Utf8, has_zero}
use Rattle.bson_kinds.specs.Outcome.{◌>>=◌, result_map}
use Rattle.bson_kinds.specs.Reserved.{reserved_kind}
use Rattle.bson_base.specs.Sound.{max_bytes, max_levels, max_binary}
use Rattle.bson_base.specs.Sorted.{sorted}
use Rattle.bson_base.specs.Tree.{Tree, int64, document, array, binary, regular_expression, raw, Pairs, no_pairs, pair, tree, behind_subtype}
use Rattle.bson_kinds.specs.declared.element_type.ElementType.{ElementType}
use Rattle.bson_kinds.specs.declared.element_type.ElementType.TheVariants.{EmbeddedDocument, Array, JavaScriptCodeWithScope, Int32}
use Rattle.bson_values.specs.Cause.{Cause, binary_too_long, too_long}
use Rattle.bson_values.specs.Refusal.{WriteFault, sink_failed, unwritable, invalid_document_key, invalid_cstring, unsigned_exceeds, Refusal, Segment, at_key, at_index, here, inside, under_index, under, Failure, no_memory, bare, placed, with_path}
use Rattle.bson_values.specs.Value.{i64, greatest, written_as, Value, boolean, integer, double, character, str, bytes, none, some, unit, unit_structure, newtype, sequence, map, structure, unit_variant, newtype_variant, tuple, tuple_structure, tuple_variant, structure_variant, raw_document, raw_array, mode, Items, no_items, item, Entries, no_entries, entry, FieldValues, no_field_values, field_value, kind_of, uuid_newtype, readable_inside}
use Rattle.bson_laws.specs.Means.{key_text}
use Rattle.bson_laws.specs.Unwrap.{Part, unwrap, scoped_code}
use Rattle.bson_laws.specs.UuidBytes.{uuid_bytes}
use Rattle.bson_laws.specs.Written.{with_scope}
use Rattle.bson_laws.specs.Spell.{Writing, spell_number, spell_binary, spell_whole, spell_unwrapped, spell_scoped, spell_uuid, enclosed_at, struct_at, reserved_at, named, variant_at, written_key, spell_key, spell_as, spell_items_as, spell_entries_as, spell_fields_as, spell_list, spell_part, spell, at_top, spell_document, size}
use Rattle.bson_laws.proofs.Alike.{AreAlike, Both, SameScope, scopes_alike}
use Rattle.bson_values.specs.Stop.{IsPlaced}
use Rattle.bson_ser_stream.specs.Writing.{with_tree, IsExpected, Fails, too_long_failure}
use Rattle.bson_writing.specs.Halting.{halt_view, Halts}
use Rattle.bson_writing.specs.declared.halt.Halt.{Halt}
use Rattle.bson_values.specs.declared.stop.Stop.TheVariants.{Refused, NoMemory}
use Rattle.bson_writing.specs.declared.halt.Halt.TheVariants.{Stopped, TooLong}

abbrev IsLength : Cause → Type 0
IsLength too_long = Unit {0}
IsLength c = ⊥

abbrev IsLengthFault : WriteFault → Type 0
IsLengthFault sink_failed = ⊥
IsLengthFault (unwritable c) = IsLength c
IsLengthFault (invalid_document_key t) = ⊥
IsLengthFault (invalid_cstring t) = ⊥
IsLengthFault (unsigned_exceeds n) = ⊥

-- no refusal of this answer is for the length
abbrev Else : {A : Type 0} → Writing A → Type 0
Else (Ok x) = Unit {0}
Else (Err r) = IsLengthFault r.fault → ⊥

mapped : {A : Type 0} (container : A → Tree) (r : Writing A) → Else r → Else (result_map container r)
mapped container (Ok x) h = tt
mapped container (Err r) h = h

enclosed_else : {A : Type 0} (container : A → Tree) (levels : ℕ) (parts : ℕ → Writing A) → ((n : ℕ) → Else (parts n)) → Else (enclosed_at container levels parts)
enclosed_else container zero parts h = λ e. e
enclosed_else container (suc n) parts h = mapped container (parts n) (h n)

inside_else : (segment : Segment) (r : Writing Tree) → Else r → Else (inside segment r)
inside_else segment (Ok t) h = tt
inside_else segment (Err f) h = h

named_else : (b : Bool) (name : Utf8) (r : Writing Tree) → Else r → Else (cond b (Err (here (invalid_cstring name))) (under name r))
named_else true name r h = λ e. e
named_else false name r h = inside_else (at_key name) r h

pair_else : (name : Utf8) (r : Writing Tree) → Else r → Else (r >>= λ t. Ok (pair name t no_pairs))
pair_else name (Ok t) h = tt
pair_else name (Err f) h = h

variant_else : (name : Utf8) (levels : ℕ) (content : ℕ → Writing Tree) → ((n : ℕ) → Else (content n)) → Else (variant_at name levels content)
variant_else name levels content h =
    enclosed_else document levels (λ inner. named name (content inner) >>= λ t. Ok (pair name t no_pairs))
    (λ n. pair_else name (named name (content n)) (named_else (has_zero name) name (content n) (h n)))

both_else : {A : Type 0} (join : Tree → A → A) (r : Writing Tree) (s : Writing A) → Else r → Else s → Else (r >>= λ t. s >>= λ xs. Ok (join t xs))
both_else join (Err f) s h k = h
both_else join (Ok t) (Err f) h k = k
both_else join (Ok t) (Ok xs) h k = tt

cstring_else : (b : Bool) (key : Utf8) → Else (cond b (Err (here (invalid_cstring key))) (Ok key))
cstring_else true key = λ e. e
cstring_else false key = tt

key_else : (k : Value) (o : Option Utf8) → Else (written_key k o)
key_else k None = λ e. e
key_else k (Some key) = cstring_else (has_zero key) key

entry_else : (k : Writing Utf8) (r : Writing Tree) (s : Writing Pairs) → Else k → Else r → Else s → Else (k >>= λ key. under key r >>= λ t. s >>= λ ps. Ok (pair key t ps))
entry_else (Err f) r s h i j = h
entry_else (Ok key) r s h i j = both_else (pair key) (under key r) s (inside_else (at_key key) r i) j

wide_else : (b : Bool) (n : ℤ) → Else (cond b (Err (here (unsigned_exceeds n))) (Ok (int64 n)))
wide_else true n = λ e. e
wide_else false n = tt

number_else : (k : ElementType) (n : ℤ) → Else (spell_number k n)
number_else Int32 n = tt
number_else k n = wide_else (int_lt (greatest i64) n) n

allowed_else : (b : Bool) (n : ℕ) (t : Tree) → Else (cond b (Err (here (unwritable (binary_too_long n)))) (Ok t))
allowed_else true n t = λ e. e
allowed_else false n t = tt

binary_else : (subtype : ℕ) (bs : Bytes) → Else (spell_binary subtype bs)
binary_else subtype bs = allowed_else (nat_lt (max_binary subtype) (length bs)) (length (behind_subtype subtype bs)) (binary subtype bs)

uuid_else : (b : Bool) (o : Option Bytes) (r : Writing Tree) → Else r → Else (cond b (spell_uuid o) r)
uuid_else true None r h = λ e. e
uuid_else true (Some bs) r h = binary_else 4 bs
uuid_else false o r h = h

zero_else : (a b : Bool) (p o : Utf8) → Else (cond a (Err (here (invalid_cstring p))) (Ok p) >>= λ x. cond b (Err (here (invalid_cstring o))) (Ok o) >>= λ y. Ok (regular_expression x (sorted y)))
zero_else true b p o = λ e. e
zero_else false true p o = λ e. e
zero_else false false p o = tt

whole_else : (t : Tree) → Else (spell_whole t)
whole_else (regular_expression pattern options) = zero_else (has_zero pattern) (has_zero options) pattern options
whole_else (binary subtype bs) = binary_else subtype bs
whole_else t = tt

unwrapped_else : (o : Option Tree) → Else (spell_unwrapped o)
unwrapped_else None = λ e. e
unwrapped_else (Some t) = whole_else t

-- no value that may be a scope is refused for the length
abbrev ElseIn : Value → Writing Tree → Writing Tree → Type 0
ElseIn v r s = Else r

scoped_else : (o : Option (Utf8 × Writing Tree)) → Both (SameScope ElseIn) o o → Else (spell_scoped o)
scoped_else None h = λ e. e
scoped_else (Some p) h = mapped (with_scope p.0) (under (codes "$scope") p.1) (inside_else (at_key (codes "$scope")) p.1 h.1.2)

reserved_else : (k : ElementType) (u : Option Tree) (o : Option (Utf8 × Writing Tree)) → Both (SameScope ElseIn) o o → Else (reserved_at k u o)
reserved_else JavaScriptCodeWithScope u o h = scoped_else o h
reserved_else k u o h = unwrapped_else u

struct_else : (n : Option ElementType) (fs : FieldValues) (levels : ℕ) (pairs : ℕ → Writing Pairs) (o : Option (Utf8 × Writing Tree)) → Both (SameScope ElseIn) o o → ((n : ℕ) → Else (pairs n)) → Else (struct_at n levels pairs (λ k. reserved_at k (unwrap k fs) o))
struct_else None fs levels pairs o h parts = enclosed_else document levels pairs parts
struct_else (Some k) fs levels pairs o h parts = reserved_else k (unwrap k fs) o h

mutual
  spell_else : (readable : Bool) (v : Value) (levels : ℕ) → Else (spell_as readable v levels)
  spell_else readable (integer type n) levels = number_else (written_as type) n
  spell_else readable (boolean b) levels = tt
  spell_else readable (double bits) levels = tt
  spell_else readable (character c) levels = tt
  spell_else readable (bytes bs) levels = binary_else 0 bs
  spell_else readable none levels = tt
  spell_else readable (some v) levels = spell_else readable v levels
  spell_else readable unit levels = tt
  spell_else readable (unit_structure name) levels = tt
  spell_else readable (newtype name v) levels =
      uuid_else (bytes_eq name uuid_newtype) (uuid_bytes readable v) (spell_as (readable_inside readable name) v levels) (spell_else (readable_inside readable name) v levels)
  spell_else readable (raw_document bs) levels = enclosed_else (raw EmbeddedDocument) levels (λ inside. Ok bs) (λ n. tt)
  spell_else readable (raw_array bs) levels = enclosed_else (raw Array) levels (λ inside. Ok bs) (λ n. tt)
  spell_else true (mode v w) levels = spell_else true v levels
  spell_else false (mode v w) levels = spell_else false w levels
  spell_else readable (str t) levels = tt
  spell_else readable (sequence vs) levels = enclosed_else array levels (spell_items_as readable 0 vs) (λ n. items_else readable 0 vs n)
  spell_else readable (unit_variant name) levels = tt
  spell_else readable (newtype_variant name v) levels = variant_else name levels (spell_as readable v) (λ n. spell_else readable v n)
  spell_else readable (tuple vs) levels = enclosed_else array levels (spell_items_as readable 0 vs) (λ n. items_else readable 0 vs n)
  spell_else readable (tuple_structure name vs) levels = enclosed_else array levels (spell_items_as readable 0 vs) (λ n. items_else readable 0 vs n)
  spell_else readable (tuple_variant name vs) levels = variant_else name levels (λ inner. enclosed_at array inner (spell_items_as readable 0 vs)) (λ n. enclosed_else array n (spell_items_as readable 0 vs) (λ m. items_else readable 0 vs m))
  spell_else readable (structure_variant name fs) levels = variant_else name levels (λ inner. enclosed_at document inner (spell_fields_as readable fs)) (λ n. enclosed_else document n (spell_fields_as readable fs) (λ m. fields_else readable fs m))
  spell_else readable (map es) levels = enclosed_else document levels (spell_entries_as readable es) (λ n. entries_else readable es n)
  spell_else readable (structure name fs) levels =
      struct_else (reserved_kind name) fs levels (spell_fields_as readable fs) (scoped_code (spell_list readable fs levels []))
      (scopes_alike ElseIn (spell_list readable fs levels []) (spell_list readable fs levels []) (list_else readable fs levels [] tt)) (λ n. fields_else readable fs n)

  items_else : (readable : Bool) (i : ℕ) (vs : Items) (levels : ℕ) → Else (spell_items_as readable i vs levels)
  items_else readable i no_items levels = tt
  items_else readable i (item v vs) levels = both_else tree (under_index i (spell_as readable v levels)) (spell_items_as readable (suc i) vs levels) (inside_else (at_index i) (spell_as readable v levels) (spell_else readable v levels)) (items_else readable (suc i) vs levels)

  entries_else : (readable : Bool) (es : Entries) (levels : ℕ) → Else (spell_entries_as readable es levels)
  entries_else readable no_entries levels = tt
  entries_else readable (entry k v es) levels = entry_else (spell_key k) (spell_as readable v levels) (spell_entries_as readable es levels) (key_else k (key_text k)) (spell_else readable v levels) (entries_else readable es levels)

  fields_else : (readable : Bool) (fs : FieldValues) (levels : ℕ) → Else (spell_fields_as readable fs levels)
  fields_else readable no_field_values levels = tt
  fields_else readable (field_value name v fs) levels = both_else (pair name) (named name (spell_as readable v levels)) (spell_fields_as readable fs levels) (named_else (has_zero name) name (spell_as readable v levels) (spell_else readable v levels)) (fields_else readable fs levels)

  list_else : (readable : Bool) (fs : FieldValues) (levels : ℕ) (xs : List (Part (Writing Tree))) → AreAlike ElseIn xs xs → AreAlike ElseIn (spell_list readable fs levels xs) (spell_list readable fs levels xs)
  list_else readable no_field_values levels xs h = h
  list_else readable (field_value name v fs) levels xs h =
      (refl, part_else readable v levels (spell_as readable v levels) (spell_else readable v levels) (spell_list readable fs levels xs) (list_else readable fs levels xs h))

  part_else : (readable : Bool) (v : Value) (levels : ℕ) (s : Writing Tree) → Else s → (xs : List (Part (Writing Tree))) → AreAlike ElseIn xs xs → AreAlike ElseIn (spell_part readable v levels s xs) (spell_part readable v levels s xs)
  part_else readable (structure name fs) levels s p xs h = list_else readable fs levels xs h
  part_else readable (mode v w) levels s p xs h = part_else readable w levels (spell_as readable w levels) (spell_else readable w levels) xs h
  part_else readable v levels s p xs h = (refl, p, h)

top_else : (k : ElementType) (r : Writing Tree) → Else r → Else (at_top k r)
top_else EmbeddedDocument r h = h
top_else k r h = λ e. e

expected_else : (r : Writing Tree) (f : Failure WriteFault) → Else r → IsExpected r f → f ≡ too_long_failure → ⊥
expected_else (Ok t) f h expected is = expected
expected_else (Err r) f h expected is = let same : r.fault ≡ unwritable too_long = cc in h (subst IsLengthFault (sym same) tt)

any_of : (f : Failure WriteFault) (r : Writing Tree) (total : ℕ) → Else r → Fails total r f → f ≡ too_long_failure → max_bytes < total
any_of f r total h (inl want) is = absurd cc
any_of f r total h (inr (inl expected)) is = absurd (expected_else r f h expected is)
any_of f r total h (inr (inr long)) is = long.1

-- what fails with `TooLong` has more bytes than a document may: a value as a part, and a whole document
pub part_too_long : (readable : Bool) (v : Value) (levels total : ℕ) (f : Failure WriteFault) → Fails total (spell_as readable v levels) f → f ≡ too_long_failure → max_bytes < total
part_too_long readable v levels total f h is = any_of f (spell_as readable v levels) total (spell_else readable v levels) h is

pub only_too_long : (v : Value) (f : Failure WriteFault) → Fails (size v) (spell_document v) f → f ≡ too_long_failure → max_bytes < size v
only_too_long v f h is = any_of f (spell_document v) (size v) (top_else (kind_of v) (spell v max_levels) (spell_else false v max_levels)) h is

expected_is : (r : Writing Tree) (old : Bytes) (g : Refusal WriteFault) (f : Failure WriteFault) → with_tree old r ≡ Err g → f ≡ with_path g → IsExpected r f
expected_is (Ok t) old g f e is = absurd cc
expected_is (Err r) old g f e is = let same : g ≡ r = cc in is ∙ ap with_path same

pub placed_is : (g : Refusal WriteFault) (f : Failure WriteFault) → IsPlaced (Some g) f → (f ≡ no_memory) ⊎ (f ≡ with_path g)
placed_is g no_memory h = inl refl
placed_is g (bare x) h = inr h
placed_is g (placed path x) h = inr h

-- what a caller sees of a halt
pub fails : (h : Halt) (f : Failure WriteFault) (total spare : ℕ) (old : Bytes) (r : Writing Tree) → Halts total spare (with_tree old r) h → IsPlaced (halt_view h) f → Fails total r f
fails (Stopped NoMemory) f total spare old r halts is = inl is
fails (Stopped (Refused x)) f total spare old r halts is = elim (placed_is _ f is) [ inl want ↦ inl want | inr expected ↦ inr (inl (expected_is r old _ f halts expected)) ]
fails TooLong f total spare old r halts is = elim (placed_is _ f is) [ inl want ↦ inl want | inr long ↦ inr (inr (long, halts)) ]
