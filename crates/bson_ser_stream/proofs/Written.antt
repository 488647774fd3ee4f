-- What was appended is as long as its size.
use Rattle.std.proofs.Common.{Bool, ◌≡◌, ℕ, ◌+◌, ◌++◌, length, Ok, ap, arith}
use Rattle.std.proofs.lemmas.List.{length-append}
use Rattle.bson_kinds.specs.Text.{Bytes}
use Rattle.bson_base.specs.Tree.{elements, array_elements}
use Rattle.bson_kinds.proofs.Outcomes.{map_ok}
use Rattle.bson_values.specs.Value.{Items, Entries, FieldValues}
use Rattle.bson_laws.specs.Spell.{Writing, spell_items_as, spell_entries_as, spell_fields_as, size_items_as, size_entries_as, size_fields_as}
use Rattle.bson_laws.proofs.Sizes.{length-spell_items, length-spell_entries, length-spell_fields}
use Rattle.bson_ser_stream.specs.Writing.{with_bytes, with_elements, with_array_elements}

pub length-with_bytes : {A : Type 0} (bytes : A → Bytes) (r : Writing A) (n : ℕ) (old new : Bytes) → ((x : A) → r ≡ Ok x → length (bytes x) ≡ n) → with_bytes bytes old r ≡ Ok new → length new ≡ length old + n
length-with_bytes bytes r n old new long e =
    let m = map_ok (λ x. old ++ bytes x) r new e in
    omega (arith, ap length m.2, length-append old (bytes m.0), long m.0 m.1)

pub length-with_elements : (readable : Bool) (old new : Bytes) (fs : FieldValues) (levels : ℕ) → with_elements old (spell_fields_as readable fs levels) ≡ Ok new → length new ≡ length old + size_fields_as readable fs
length-with_elements readable old new fs levels e = length-with_bytes elements (spell_fields_as readable fs levels) (size_fields_as readable fs) old new (length-spell_fields readable fs levels) e

pub length-with_array_elements : (readable : Bool) (old new : Bytes) (i : ℕ) (vs : Items) (levels : ℕ) → with_array_elements old i (spell_items_as readable i vs levels) ≡ Ok new → length new ≡ length old + size_items_as readable i vs
length-with_array_elements readable old new i vs levels e = length-with_bytes (array_elements i) (spell_items_as readable i vs levels) (size_items_as readable i vs) old new (length-spell_items readable i vs levels) e

pub length-with_entries : (readable : Bool) (old new : Bytes) (es : Entries) (levels : ℕ) → with_elements old (spell_entries_as readable es levels) ≡ Ok new → length new ≡ length old + size_entries_as readable es
length-with_entries readable old new es levels e = length-with_bytes elements (spell_entries_as readable es levels) (size_entries_as readable es) old new (length-spell_entries readable es levels) e
