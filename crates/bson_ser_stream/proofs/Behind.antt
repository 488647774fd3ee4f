-- A field, an entry or a value that was appended, and those behind it.
use Rattle.std.proofs.Common.{Bool, ◌≡◌, ℕ, suc, ◌+◌, length, Ok, Err, refl, arith}
use Rattle.std.specs.Fmt.{decimal}
use Rattle.bson_kinds.specs.Outcome.{◌>>=◌}
use Rattle.bson_kinds.specs.Text.{Bytes, Utf8}
use Rattle.bson_base.specs.Tree.{Tree, Pairs, pair, tree, elements, array_elements}
use Rattle.bson_values.specs.Refusal.{under, under_index}
use Rattle.bson_values.specs.Value.{Value, Items, item, Entries, entry, FieldValues, field_value, no_field_values}
use Rattle.bson_io.specs.Output.{Output}
use Rattle.bson_laws.specs.Spell.{Writing, named, spell_as, spell_items_as, spell_key, spell_entries_as, spell_fields_as, size_as, size_fields_as}
use Rattle.bson_ser_stream.specs.Writing.{with_element, with_entry, with_elements, with_array_elements}
use Rattle.bson_writing.specs.Halting.{Halts}
use Rattle.bson_ser_stream.proofs.Halted.{field_halts}
use Rattle.bson_ser_stream.proofs.Inside.{element_on}
use Rattle.bson_ser_stream.proofs.Puts.{Grows-none}
use Rattle.bson_ser_stream.proofs.Variants.{one_field}
use Rattle.bson_writing.specs.declared.halt.Halt.{Halt}

pub fields_on : (readable : Bool) (name : Utf8) (v : Value) (rest : FieldValues) (levels : ℕ) (old new : Bytes) → with_element old name (named name (spell_as readable v levels)) ≡ Ok new
    → with_elements new (spell_fields_as readable rest levels) ≡ with_elements old (spell_fields_as readable (field_value name v rest) levels)
fields_on readable name v rest levels old new e = element_on elements elements (pair name) name (named name (spell_as readable v levels)) (spell_fields_as readable rest levels) old new (λ t ps. refl) e

entry_on : (k : Writing Utf8) (r : Writing Tree) (s : Writing Pairs) (old new : Bytes) → with_entry old k r ≡ Ok new → with_elements new s ≡ with_elements old (k >>= λ key. under key r >>= λ t. s >>= λ ps. Ok (pair key t ps))
entry_on (Ok key) r s old new e = element_on elements elements (pair key) key (under key r) s old new (λ t ps. refl) e
entry_on (Err f) r s old new e = absurd cc

pub entries_on : (readable : Bool) (key v : Value) (rest : Entries) (levels : ℕ) (old new : Bytes) → with_entry old (spell_key key) (spell_as readable v levels) ≡ Ok new
    → with_elements new (spell_entries_as readable rest levels) ≡ with_elements old (spell_entries_as readable (entry key v rest) levels)
entries_on readable key v rest levels old new e = entry_on (spell_key key) (spell_as readable v levels) (spell_entries_as readable rest levels) old new e

pub items_on : (readable : Bool) (i : ℕ) (v : Value) (rest : Items) (levels : ℕ) (old new : Bytes) → with_element old (decimal i) (under_index i (spell_as readable v levels)) ≡ Ok new
    → with_array_elements new (suc i) (spell_items_as readable (suc i) rest levels) ≡ with_array_elements old i (spell_items_as readable i (item v rest) levels)
items_on readable i v rest levels old new e = element_on (array_elements i) (array_elements (suc i)) tree (decimal i) (under_index i (spell_as readable v levels)) (spell_items_as readable (suc i) rest levels) old new (λ t ts. refl) e

-- why the one field of a struct is not written
pub pair_halts : (readable : Bool) (h : Halt) (name : Utf8) (v : Value) (levels now : ℕ) (begun : Output) → Halts (length name + 2 + size_as readable v) begun.spare (with_element begun.bytes name (named name (spell_as readable v levels))) h
    → Halts (size_fields_as readable (one_field name v)) begun.spare (with_elements begun.bytes (spell_fields_as readable (one_field name v) levels)) h
pair_halts readable h name v levels now begun halts = field_halts readable h name v no_field_values (one_field name v) (one_field name v) levels now now begun begun refl refl (omega arith) (Grows-none begun now) halts
