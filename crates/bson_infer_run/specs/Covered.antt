-- A sound document, in its bytes, that changes nothing where it is joined to a form. Source: this library's own join of shapes.
use Rattle.std.specs.Prelude.{◌≡◌, ℕ, ◌+◌, true, length, drop, Option, Some, None, Result, Ok, Err}
use Rattle.bson_kinds.specs.Text.{Utf8, IsPlainName}
use Rattle.bson_base.specs.Tree.{Tree, document, Pairs, enc}
use Rattle.bson_kinds.specs.Outcome.{◌>>=◌}
use Rattle.bson_rawdoc.specs.DocumentTree.{tree_at}
use Rattle.bson_rawdoc.specs.RawValue.{value_in}
use Rattle.bson_rawdoc.specs.Walk.{Element}
use Rattle.bson_faults.specs.declared.raw.Error.{Error}
use Rattle.bson_shape.specs.Form.{Form, leaf, Fields, field}
use Rattle.bson_shape.specs.declared.leaf.Leaf.{Leaf}
use Rattle.bson_infer_laws.specs.Above.{Above}
use Rattle.bson_infer_laws.specs.Inferred.{shape_of}
use Rattle.bson_infer_laws.specs.Join.{join}
use Rattle.bson_infer_run.specs.Counted.{settled}
use Rattle.bson_infer_run.specs.Fits.{Fits}
use Rattle.bson_infer_run.specs.SoundTest.{is_sound}
use Rattle.bson_infer_run.specs.SummaryView.{counted_of}
use Rattle.bson_infer_run.specs.declared.summary.StructSummary.{StructSummary}

-- a value without inner values, its leaf and how many bytes it takes; `None` says nothing of the value
abbrev pub IsPlain : Option (Leaf × ℕ) → Result Tree Error → Type 0
IsPlain None r = Unit {0}
IsPlain (Some x) (Ok t) = Fits 0 t × (x.1 ≡ length (enc t)) × (shape_of t ≡ leaf x.0)
IsPlain (Some x) (Err e) = ⊥

-- a value, at most so many levels deep, whose own form is below this one, and how many bytes it takes; `None` says nothing of the value
abbrev pub Has : (levels : ℕ) → Form → Option ℕ → Result Tree Error → Type 0
Has levels s None r = Unit {0}
Has levels s (Some n) (Ok t) = Fits levels t × (n ≡ length (enc t)) × Above s (shape_of t)
Has levels s (Some n) (Err e) = ⊥

-- The first of the fields has this key, its form is above that of the value, and the pair takes so many bytes in a document.
pub record TakesPair (levels : ℕ) (fs rest : Fields) (n : ℕ) (key : Utf8) (t : Tree) : Type 0 where
  pub form : Form
  pub first : fs ≡ field key form rest
  pub name : IsPlainName key
  pub fits : Fits levels t
  pub size : n ≡ length key + 2 + length (enc t)
  pub above : Above form (shape_of t)

abbrev pub Takes : (levels : ℕ) → Fields → Fields → Utf8 → Option ℕ → Result Tree Error → Type 0
Takes levels fs rest key None r = Unit {0}
Takes levels fs rest key (Some n) (Ok t) = TakesPair levels fs rest n key t
Takes levels fs rest key (Some n) (Err e) = ⊥

-- the value of an element, with so many levels left
abbrev pub element_tree : (levels : ℕ) → Element → Result Tree Error
element_tree levels e = value_in e.kind e.value >>= tree_at levels

-- the fields of a struct from this index on
abbrev pub fields_from : StructSummary → ℕ → Fields
fields_from s i = settled s.count (drop i (counted_of s))

-- the bytes are a sound document that adds nothing to the form
abbrev pub IsCovered : Form → Result Pairs Error → Type 0
IsCovered s (Ok ps) = (is_sound ps ≡ true) × (join s (shape_of (document ps)) ≡ s)
IsCovered s (Err e) = ⊥
