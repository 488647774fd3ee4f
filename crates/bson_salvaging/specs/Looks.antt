-- Looks at the elements of a document, which are counted. Source: bsonspec.org, version 1.1, `e_list`.
use Rattle.std.specs.Prelude.{ℕ, zero, suc, Bool, true, false, if◌then◌else◌, Result, Ok, Err}
use Rattle.bson_kinds.specs.Text.{Bytes}
use Rattle.bson_kinds.specs.declared.element_type.ElementType.{ElementType}
use Rattle.bson_kinds.specs.declared.element_type.ElementType.TheVariants.{EmbeddedDocument, Array}
use Rattle.bson_faults.specs.declared.raw.Error.{Error}
use Rattle.bson_rawdoc.specs.Envelope.{envelope}
use Rattle.bson_rawdoc.specs.Next.{count}
use Rattle.bson_rawdoc.specs.Walk.{Walk, ended, faulty, then_walk, walk}
use Rattle.bson_salvaging.specs.declared.looking.Look.{Look}

-- a look that found no fault, or one, and how many looks are left
abbrev pub fine : (left : ℕ) → Look
fine left = record { fine = true; left = left }

abbrev pub fault : (left : ℕ) → Look
fault left = record { fine = false; left = left }

-- the look, and then the next one where it found no fault
abbrev pub and_then : Look → (ℕ → Look) → Look
and_then l next = if l.fine then next l.left else l

-- the look in bytes that are framed as a document
abbrev pub in_frame : Result Bytes Error → ℕ → Look → Look
in_frame (Ok b) looks l = l
in_frame (Err e) looks l = fault looks

-- into the documents and arrays in a document
abbrev pub within : (ℕ → Bytes → Look) → ElementType → ℕ → Bytes → Look
within look EmbeddedDocument looks value = look looks value
within look Array looks value = look looks value
within look kind looks value = fine looks

-- Elements one after another end without a fault. Each takes a look; where none is left, that is a fault, too.
abbrev pub look_along : (inner : ElementType → ℕ → Bytes → Look) → (looks : ℕ) → Walk → Look
look_along inner looks ended = fine looks
look_along inner looks (faulty e) = fault looks
look_along inner zero (then_walk e w) = fault 0
look_along inner (suc looks) (then_walk e w) = and_then (inner e.kind looks e.value) (λ left. look_along inner left w)

-- A document, and each document and array in it, has no fault, with so many levels left.
abbrev pub look_deep : (levels : ℕ) → (looks : ℕ) → Bytes → Look
look_deep zero looks b = fault looks
look_deep (suc levels) looks b = in_frame (envelope b) looks (look_along (within (look_deep levels)) looks (walk b))

-- the elements end without a fault
abbrev pub ends_well : Walk → Bool
ends_well ended = true
ends_well (faulty e) = false
ends_well (then_walk e w) = ends_well w

abbrev pub framed : Result Bytes Error → Bool → Bool
framed (Ok b) fine = fine
framed (Err e) fine = false

-- A document has no fault in its frame and its elements; what is in these is not looked at.
abbrev pub is_walked : Bytes → Bool
is_walked b = framed (envelope b) (ends_well (walk b))

abbrev pub framed_count : Result Bytes Error → ℕ → ℕ
framed_count (Ok b) n = n
framed_count (Err e) n = 0

-- how many elements that looked at
abbrev pub walked : Bytes → ℕ
walked b = framed_count (envelope b) (count (walk b))
