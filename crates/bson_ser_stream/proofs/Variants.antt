-- A variant with contents is written as a document of one pair: what it holds, under its name.
use Rattle.std.proofs.Common.{Bool, ◌≡◌, ℕ, ◌+◌, ◌++◌, Result, Ok, Err, ap, subst, ◌∙◌, arith, append-nil}
use Rattle.bson_kinds.specs.Text.{Bytes, Utf8}
use Rattle.bson_kinds.specs.Outcome.{◌>>=◌}
use Rattle.bson_base.specs.Tree.{Tree, no_pairs, pair, enc, kind, element}
use Rattle.bson_kinds.specs.declared.element_type.ElementType.{ElementType}
use Rattle.bson_kinds.specs.declared.element_type.ElementType.TheVariants.{EmbeddedDocument}
use Rattle.bson_values.specs.Value.{Value, FieldValues, no_field_values, field_value}
use Rattle.bson_io.specs.Output.{Output}
use Rattle.bson_laws.specs.Spell.{Writing, named, variant_at, variant_size, spell_as, spell_fields_as, size_as, size_fields_as}
use Rattle.bson_ser_stream.specs.Writing.{with_element, with_elements}
use Rattle.bson_ser_stream.specs.Halting.{Puts}
use Rattle.bson_writing.specs.declared.halt.Halt.{Halt}

-- a value under its name, as the one field of a struct
abbrev pub one_field : Utf8 → Value → FieldValues
one_field name v = field_value name v no_field_values

-- the element of a pair is what a document of it holds
one_pair : (name : Utf8) (r : Writing Tree) (old new : Bytes) → with_element old name r ≡ Ok new → with_elements old (r >>= λ t. Ok (pair name t no_pairs)) ≡ Ok new
one_pair name (Err f) old new e = absurd cc
one_pair name (Ok t) old new e = ap (λ b. Ok (old ++ b)) (append-nil (element (kind t) name (enc t))) ∙ e

pub wrote_pair : (readable : Bool) (name : Utf8) (v : Value) (levels : ℕ) (old new : Bytes) → with_element old name (named name (spell_as readable v levels)) ≡ Ok new → with_elements old (spell_fields_as readable (one_field name v) levels) ≡ Ok new
wrote_pair readable name v levels old new e = one_pair name (named name (spell_as readable v levels)) old new e

one_size : (readable : Bool) (name : Utf8) (v : Value) → size_fields_as readable (one_field name v) + 5 ≡ variant_size name (size_as readable v)
one_size readable name v = omega arith

-- a variant is written as a struct of one field
pub puts_variant : (readable : Bool) (name : Utf8) (v : Value) (levels : ℕ) (old new : Output) (before now : ℕ) (r : Result ElementType Halt) → Puts EmbeddedDocument (size_fields_as readable (one_field name v) + 5) (variant_at name levels (spell_as readable v)) old new before now r → Puts EmbeddedDocument (variant_size name (size_as readable v)) (variant_at name levels (spell_as readable v)) old new before now r
puts_variant readable name v levels old new before now r h = subst (λ n. Puts EmbeddedDocument n (variant_at name levels (spell_as readable v)) old new before now r) (one_size readable name v) h
