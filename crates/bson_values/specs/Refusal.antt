-- What is wrong with a value, and where it is. Source: the errors of MongoDB's crate bson, version 2, and its paths.
use Rattle.std.specs.Prelude.{◌≡◌, ℕ, ℤ, List, [], ◌∷◌, Result, Ok, Err}
use Rattle.bson_kinds.specs.Text.{Utf8}
use Rattle.bson_base.specs.Tree.{Tree}
use Rattle.bson_values.specs.Cause.{Cause}

-- a segment of a path: from a value to one inside it
pub data Segment : Type 0 where
  at_key : Utf8 → Segment
  at_index : ℕ → Segment

-- where a value is: the segments to it, the outermost first
abbrev pub Path : Type 0
Path = List Segment

-- what reading refuses for
pub data ReadFault : Type 0 where
  -- a call of the source failed
  io : ReadFault
  -- no reader refuses for these two, which are there for the names of their errors: a text that is not UTF-8, and a byte that is no element type, with the key that it is for
  invalid_utf8_string : ReadFault
  unrecognized_element_type : (key : Utf8) → (byte : ℕ) → ReadFault
  -- an empty document, where the name of a variant is expected; a text in a tree, where the contents of a variant are expected; or the source ended before the length of a document
  end_of_stream : ReadFault
  unreadable : Cause → ReadFault

-- what writing refuses for
pub data WriteFault : Type 0 where
  -- a call of the sink failed; no writer refuses for it, it is there for the name of its error
  sink_failed : WriteFault
  unwritable : Cause → WriteFault
  -- a key of a map that has no text; the refusal carries this tree
  invalid_document_key : Tree → WriteFault
  -- a zero character in a name that is written as a key, or in a part of a regular expression
  invalid_cstring : Utf8 → WriteFault
  -- a number of the type `u64` that does not fit in 64 bits with a sign
  unsigned_exceeds : ℤ → WriteFault

-- a fault, and the path of the value that has it
pub record Refusal (F : Type 0) : Type 0 where
  pub path : Path
  pub fault : F

-- a fault of the value itself
abbrev pub here : {F : Type 0} → F → Refusal F
here f = record { path = []; fault = f }

-- a refusal of the value at a segment, seen from the value that it is in
abbrev pub in_segment : {F : Type 0} → Segment → Refusal F → Refusal F
in_segment s r = record { path = s ∷ r.path; fault = r.fault }

-- an answer for the value at a segment, seen from the value that it is in
abbrev pub inside : {A F : Type 0} → Segment → Result A (Refusal F) → Result A (Refusal F)
inside s (Ok x) = Ok x
inside s (Err r) = Err (in_segment s r)

-- an answer for the value at a key, seen from the document that has the key
abbrev pub under : {A F : Type 0} → Utf8 → Result A (Refusal F) → Result A (Refusal F)
under key = inside (at_key key)

-- an answer for the value at an index, seen from the array that it is in
abbrev pub under_index : {A F : Type 0} → ℕ → Result A (Refusal F) → Result A (Refusal F)
under_index i = inside (at_index i)

-- what a call refuses with: out of memory, a fault without a path, or a failure with the path of a value
pub data Failure (F : Type 0) : Type 0 where
  no_memory : Failure F
  bare : F → Failure F
  placed : Path → Failure F → Failure F

-- a refusal as a call answers it, with its path
abbrev pub with_path : {F : Type 0} → Refusal F → Failure F
with_path r = placed r.path (bare r.fault)

-- the answer is this failure; nothing is said where memory ran out
abbrev pub FailsAs : {Y F : Type 0} → Failure F → Result Y (Failure F) → Type 0
FailsAs no_memory answer = Unit {0}
FailsAs (bare f) answer = answer ≡ Err (bare f)
FailsAs (placed path f) answer = answer ≡ Err (placed path f)
