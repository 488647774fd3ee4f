-- Maps from texts to values of a type. Source: serde's data model.
use Rattle.std.specs.Prelude.{◌≡◌, Bool, true, false, ◌&&◌, if◌then◌else◌, List, [], ◌∷◌, map as list_map, Ok, Err, String, string_bytes}
use Rattle.std.specs.Global.{Global}
use Rattle.std.specs.List.{All}
use Rattle.std.specs.Ordering.{nat_cmp}
use Rattle.std.specs.Cmp.Lexicographic.{slice_cmp}
use Rattle.std.specs.String.{string_cmp}
use Rattle.std.specs.Str.{is_utf8}
use Rattle.std.specs.BTreeMap.{BTreeMap, IsOrdered, insert_entry}
use Rattle.bson_kinds.specs.Outcome.{◌>>=◌, result_map}
use Rattle.bson_kinds.specs.Text.{Utf8}
use Rattle.bson_values.specs.Value.{Value, str, map, Entries, no_entries, entry}
use Rattle.bson_type_data.specs.Answers.{Reading, Writing, not_fitting}

-- a key, as a map holds it
abbrev pub Key : Type 0
Key = String Global

-- what pairs are written as, in their order, or the first failure
abbrev pub written_entries : {A : Type 0} → (A → Writing Value) → List (Key × A) → Writing Entries
written_entries w [] = Ok no_entries
written_entries w (e ∷ es) = w e.1 >>= λ v. result_map (entry (str (string_bytes e.0)) v) (written_entries w es)

abbrev pub written_map : {A : Type 0} → (A → Writing Value) → List (Key × A) → Writing Value
written_map w es = result_map map (written_entries w es)

-- a pair: the text of its key, and the contents of its value
abbrev pub pair_contents : {A C : Type 0} → (A → C) → Key × A → Utf8 × C
pair_contents c e = (string_bytes e.0, c e.1)

abbrev pub map_contents : {A C : Type 0} → (A → C) → List (Key × A) → List (Utf8 × C)
map_contents c es = list_map (pair_contents c) es

-- the text of a key
abbrev pub key_text : Value → Utf8
key_text (str t) = t
key_text v = []

abbrev pub is_text : Value → Bool
is_text (str t) = true
is_text v = false

-- each key is a text
abbrev pub are_texts : Entries → Bool
are_texts no_entries = true
are_texts (entry k v es) = is_text k && are_texts es

-- a pair at its place in the order of the keys; of a key that is there the value is replaced
abbrev pub inserted : {C : Type 0} → List (Utf8 × C) → Utf8 → C → List (Utf8 × C)
inserted done k c = insert_entry (slice_cmp nat_cmp) done k c

-- the pairs that are there and those that entries give, or the first failure
abbrev pub taken_entries : {C : Type 0} → (Value → Reading C) → List (Utf8 × C) → Entries → Reading (List (Utf8 × C))
taken_entries t done no_entries = Ok done
taken_entries t done (entry k v es) = t v >>= λ c. taken_entries t (inserted done (key_text k) c) es

-- The pairs that entries give, where each key is a text; the last of repeated keys counts.
abbrev pub taken_pairs : {C : Type 0} → (Value → Reading C) → Entries → Reading (List (Utf8 × C))
taken_pairs t es = if are_texts es then taken_entries t [] es else Err not_fitting

abbrev pub taken_map : {C : Type 0} → (Value → Reading C) → Value → Reading (List (Utf8 × C))
taken_map t (map es) = taken_pairs t es
taken_map t v = Err not_fitting

-- the key is a text of UTF-8, and the value one of the type
abbrev pub IsPairOf : {A : Type 0} → (A → Type 0) → Key × A → Type 0
IsPairOf P e = (is_utf8 (string_bytes e.0) ≡ true) × P e.1

-- keys in order, and each pair so
abbrev pub IsMapOf : {A : Type 0} → (A → Type 0) → BTreeMap Key A → Type 0
IsMapOf P m = IsOrdered string_cmp m × All (IsPairOf P) m.entries
