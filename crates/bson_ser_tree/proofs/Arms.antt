-- A datum whose values, entries or fields are in a `Vec` is made into the tree of the value that it is.
use Rattle.std.proofs.Common.{◌≡◌, ℕ, ◌⊎◌, inl, inr, List, Bool, false, Result, ap, sym, subst, ◌∙◌}
use Rattle.std.specs.Global.{Vec}
use Rattle.bson_base.specs.BsonView.{tree_of}
use Rattle.bson_kinds.specs.Text.{Utf8}
use Rattle.bson_base.specs.Tree.{no_pairs}
use Rattle.bson_base.specs.declared.bson.Bson.{Bson}
use Rattle.bson_values.specs.TextView.{text_view}
use Rattle.bson_values.specs.Value.{Value, FieldValues, sequence, tuple, tuple_structure, structure}
use Rattle.bson_datum.specs.View.{view, items_view}
use Rattle.bson_datum.proofs.Views.{view-Seq, view-Tuple, view-TupleStruct}
use Rattle.bson_datum.specs.declared.datum.Datum.{Datum, Seq, Tuple, TupleStruct}
use Rattle.bson_values.specs.declared.ser.Fault.{Fault}
use Rattle.bson_values.specs.declared.stop.Stop.{Stop}
use Rattle.bson_values.specs.declared.text.Text.{Text}
use Rattle.bson_tree_laws.specs.TreeSpell.{is_levelless, tree_struct, tree_spell, tree_fields}
use Rattle.bson_ser_tree.specs.Gives.{Reaches}

module _ (readable in_reserved : Bool) (levels : ℕ) (r : Result Bson (Stop Fault)) where
  -- the tree of the value was made, or there is a reason not to
  abbrev pub MakesValue : Value → Type 0
  MakesValue v = Reaches tree_of r (tree_spell readable in_reserved v levels)

  -- a datum that is the value of a name and of a list that is in its `Vec`
  pub makes_as : {X : Type 0} (d e : Datum) (f : Utf8 → List X → Value) (name text : Utf8) (xs ys : List X) → d ≡ e → name ≡ text → xs ≡ ys → view e ≡ f text ys → MakesValue (f name xs) → MakesValue (view d)
  makes_as d e f name text xs ys is named same seen h = subst MakesValue ((λ i. f (named i) (same i)) ∙ sym (ap view is ∙ seen)) h

  -- a sequence, a tuple or a tuple struct of these values
  pub makes_array : (d : Datum) (ds : Vec Datum) (xs : List Datum) → (d ≡ Seq ds) ⊎ ((d ≡ Tuple ds) ⊎ ((n : Text) × (d ≡ TupleStruct n ds))) → xs ≡ ds.items → MakesValue (sequence (items_view xs)) → MakesValue (view d)
  makes_array d ds xs (inl is) same h = subst MakesValue (ap (λ ys. sequence (items_view ys)) same ∙ sym (ap view is ∙ view-Seq ds)) h
  makes_array d ds xs (inr (inl is)) same h = subst MakesValue (ap (λ ys. tuple (items_view ys)) same ∙ sym (ap view is ∙ view-Tuple ds)) h
  makes_array d ds xs (inr (inr is)) same h = subst MakesValue (ap (λ ys. tuple_structure (text_view is.0) (items_view ys)) same ∙ sym (ap view is.1 ∙ view-TupleStruct is.0 ds)) h

  -- a struct, by whether it takes no level
  pub makes_struct : (name : Utf8) (fs : FieldValues) (levelless : Bool) → levelless ≡ is_levelless in_reserved name → Reaches tree_of r (tree_struct levelless levels (tree_fields readable levelless fs no_pairs)) → MakesValue (structure name fs)
  makes_struct name fs levelless is h = subst (λ b. Reaches tree_of r (tree_struct b levels (tree_fields readable b fs no_pairs))) is h
