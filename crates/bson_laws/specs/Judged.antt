-- What a shape does first with a value, and how a value is dropped. Source: serde's data model, and the limits of this library.
use Rattle.std.specs.Prelude.{ℕ, suc, Option, Some, None, Result, Ok, Err, codes}
use Rattle.bson_kinds.specs.Text.{Utf8}
use Rattle.bson_kinds.specs.Outcome.{◌>>=◌}
use Rattle.bson_rawdoc.specs.Node.{Node, document, array, extended, too_deep, Extended, javascript_code_with_scope, Nodes, ended, faulty, then_node, fault}
use Rattle.bson_kinds.specs.Piece.{Piece}
use Rattle.bson_faults.specs.declared.raw.Error as raw_error
use Rattle.bson_values.specs.Cause as causes
use Rattle.bson_values.specs.Cause.{Cause, raw}
use Rattle.bson_values.specs.Refusal.{Segment, at_key, at_index, ReadFault, unreadable, Refusal, here, inside, under}

-- an answer of reading: something, or a refusal with its path
abbrev pub Reading : Type 0 → Type 0
Reading A = Result A (Refusal ReadFault)

-- the value itself is refused for this cause
abbrev pub refused : {A : Type 0} → Cause → Reading A
refused c = Err (here (unreadable c))

abbrev pub with_level : Node → Reading Node
with_level (too_deep k) = refused causes.too_deep
with_level n = Ok n

abbrev pub faultless : Option raw_error.Error → Node → Reading Node
faultless None n = with_level n
faultless (Some e) n = refused (raw e)

-- A value, as a shape that looks at it judges it first: its own fault, then a document or an array where no level is left. An option (which looks at the kind alone), a
-- newtype, a mark, two forms, definitions and a reference that has one leave this to their inner shape.
abbrev pub judged : Node → Reading Node
judged n = faultless (fault n) n

-- ---- what is dropped

-- where an element is in its document: at its key
abbrev pub at_its_key : ℕ → Piece → Segment
at_its_key i key = at_key key.bytes

-- where an element is in its array: at its index
abbrev pub at_its_index : ℕ → Piece → Segment
at_its_index i key = at_index i

-- the key of a refusal that comes from a scope
abbrev pub scope_key : Utf8
scope_key = codes "$scope"

abbrev mutual
  -- what is inside a judged value, walked to its end and dropped: the elements of a document, those of an array, those of a scope
  pub passes : Node → Reading (Unit {0})
  passes (document slice ns) = pass_nodes at_its_key 0 ns
  passes (array slice ns) = pass_nodes at_its_index 0 ns
  passes (extended x ns) = pass_scope x
  passes n = Ok tt

  pub pass_scope : Extended → Reading (Unit {0})
  pass_scope (javascript_code_with_scope code scope) = under scope_key (judged scope >>= λ _. passes scope)
  pass_scope x = Ok tt

  pub pass_nodes : (ℕ → Piece → Segment) → ℕ → Nodes → Reading (Unit {0})
  pass_nodes place i ended = Ok tt
  pass_nodes place i (faulty e) = refused (raw e)
  pass_nodes place i (then_node key n ns) = inside (place i key) (judged n >>= λ _. passes n) >>= λ _. pass_nodes place (suc i) ns

-- a value that no field takes
abbrev pub ignores : Node → Reading (Unit {0})
ignores n = judged n >>= λ _. passes n
