-- A datum whose values, entries or fields are in a `Vec` is written as the value that it is.
use Rattle.std.proofs.Common.{◌≡◌, ℕ, ◌+◌, ◌⊎◌, inl, inr, List, [], Bool, Option, Some, None, Result, ap, sym, subst, ◌∙◌}
use Rattle.std.specs.Global.{Vec}
use Rattle.bson_kinds.specs.Text.{Utf8}
use Rattle.bson_kinds.specs.Reserved.{reserved_kind}
use Rattle.bson_base.specs.Tree.{document}
use Rattle.bson_kinds.specs.declared.element_type.ElementType.{ElementType}
use Rattle.bson_kinds.specs.declared.element_type.ElementType.TheVariants.{EmbeddedDocument}
use Rattle.bson_values.specs.TextView.{text_view}
use Rattle.bson_values.specs.Value.{Value, FieldValues, sequence, tuple, tuple_structure, structure, kind_as, reserved_or_document}
use Rattle.bson_datum.specs.View.{view, items_view}
use Rattle.bson_datum.proofs.Views.{view-Seq, view-Tuple, view-TupleStruct}
use Rattle.bson_values.specs.declared.text.Text.{Text}
use Rattle.bson_datum.specs.declared.datum.Datum.{Datum, Seq, Tuple, TupleStruct}
use Rattle.bson_io.specs.Output.{Output}
use Rattle.bson_laws.specs.Unwrap.{unwrap, scoped_code}
use Rattle.bson_laws.specs.Spell.{struct_at, struct_size, reserved_at, reserved_size, enclosed_at, spell_as, spell_fields_as, spell_list, size_as, size_fields_as, size_list}
use Rattle.bson_ser_stream.specs.Halting.{Puts}
use Rattle.bson_writing.specs.declared.halt.Halt.{Halt}

module _ (readable : Bool) (levels : ℕ) (old new : Output) (before now : ℕ) (r : Result ElementType Halt) where
  -- the value was appended, or there is a reason not to
  abbrev pub PutsValue : Value → Type 0
  PutsValue v = Puts (kind_as readable v) (size_as readable v) (spell_as readable v levels) old new before now r

  abbrev puts_named : Utf8 → FieldValues → Option ElementType → Type 0
  puts_named name fs o = Puts (reserved_or_document o) (struct_size o (size_fields_as readable fs) (λ k. reserved_size k (unwrap k fs) (scoped_code (size_list readable fs []))))
      (struct_at o levels (spell_fields_as readable fs) (λ k. reserved_at k (unwrap k fs) (scoped_code (spell_list readable fs levels [])))) old new before now r

  -- a datum that is the value of a list that is in its `Vec`
  pub puts_as : {X : Type 0} (d e : Datum) (f : List X → Value) (xs ys : List X) → d ≡ e → xs ≡ ys → view e ≡ f ys → PutsValue (f xs) → PutsValue (view d)
  puts_as d e f xs ys is same seen h = subst PutsValue (ap f same ∙ sym (ap view is ∙ seen)) h

  -- a sequence, a tuple or a tuple struct of these values
  pub puts_array : (d : Datum) (ds : Vec Datum) (xs : List Datum) → (d ≡ Seq ds) ⊎ ((d ≡ Tuple ds) ⊎ ((n : Text) × (d ≡ TupleStruct n ds))) → xs ≡ ds.items → PutsValue (sequence (items_view xs)) → PutsValue (view d)
  puts_array d ds xs (inl is) same h = puts_as d (Seq ds) (λ ys. sequence (items_view ys)) xs ds.items is same (view-Seq ds) h
  puts_array d ds xs (inr (inl is)) same h = puts_as d (Tuple ds) (λ ys. tuple (items_view ys)) xs ds.items is same (view-Tuple ds) h
  puts_array d ds xs (inr (inr is)) same h = puts_as d (TupleStruct is.0 ds) (λ ys. tuple_structure (text_view is.0) (items_view ys)) xs ds.items is.1 same (view-TupleStruct is.0 ds) h

  -- a struct whose name is not reserved, and one whose name is
  pub puts_struct : (name : Utf8) (fs : FieldValues) → reserved_kind name ≡ None → Puts EmbeddedDocument (size_fields_as readable fs + 5) (enclosed_at document levels (spell_fields_as readable fs)) old new before now r → PutsValue (structure name fs)
  puts_struct name fs free h = subst (puts_named name fs) (sym free) h

  pub puts_reserved : (name : Utf8) (fs : FieldValues) (k : ElementType) → reserved_kind name ≡ Some k
      → Puts k (reserved_size k (unwrap k fs) (scoped_code (size_list readable fs []))) (reserved_at k (unwrap k fs) (scoped_code (spell_list readable fs levels []))) old new before now r → PutsValue (structure name fs)
  puts_reserved name fs k is h = subst (puts_named name fs) (sym is) h
