-- What the inference from a file of documents comes to. Source: this library's own programs.
use Rattle.std.specs.Prelude.{◌≡◌, ℕ, suc, ◌+◌, List, [], ◌∷◌, Bool, false, if◌then◌else◌, Option, Some, None, Result, Ok, Err}
use Rattle.bson_base.specs.BsonView.{pairs_of}
use Rattle.bson_kinds.specs.Text.{Bytes}
use Rattle.bson_base.specs.Tree.{Tree, document, Pairs, Trees, no_trees, tree}
use Rattle.bson_base.specs.declared.document.Document.{Document}
use Rattle.bson_rawdoc.specs.Cut.{Cut, cut}
use Rattle.bson_faults.specs.declared.raw.Error.{Error}
use Rattle.bson_shape.specs.Form.{Form}
pub use Rattle.bson_infer_laws.specs.Encodings.{piece_pairs}
use Rattle.bson_infer_laws.specs.Inferred.{shape_of, inferred}
use Rattle.bson_infer_laws.specs.Join.{join}
use Rattle.bson_infer_run.specs.SoundTest.{is_sound}
use Rattle.bson_infer_run.specs.declared.file.FileError.{FileError}
use Rattle.bson_infer_run.specs.declared.file.FileError.TheVariants as errors
use Rattle.bson_infer_run.specs.declared.file.Gathered.{Gathered}
use Rattle.bson_infer_run.specs.declared.file.ReadError.{ReadError}
use Rattle.bson_infer_run.specs.declared.file.ReadError.TheVariants as reading

-- a fault in the bytes of a document of a file, with its number, counted from 0
pub record Fault : Type 0 where
  pub number : ℕ
  pub error : Error

-- what the inference from a file comes to
pub data Inferring : Type 0 where
  -- the file is broken at this place
  broken : (place : ℕ) → Inferring
  -- the first fault in the bytes of one of the documents
  faulty : Fault → Inferring
  -- no document has a fault, and that of this number is the first that is not sound
  unsound : (number : ℕ) → Inferring
  -- all are sound, and this is their form
  found : Form → Inferring

abbrev pub fault_or : ℕ → Result Pairs Error → Option Fault → Option Fault
fault_or n (Ok ps) rest = rest
fault_or n (Err e) rest = Some (record { number = n; error = e })

-- the first fault, of the pieces from this number on
abbrev pub first_fault : ℕ → List Bytes → Option Fault
first_fault n [] = None
first_fault n (piece ∷ pieces) = fault_or n (piece_pairs piece) (first_fault (suc n) pieces)

abbrev pub and_document : Result Pairs Error → Trees → Trees
and_document (Ok ps) ts = tree (document ps) ts
and_document (Err e) ts = ts

-- the documents of the pieces without a fault
abbrev pub documents_in : List Bytes → Trees
documents_in [] = no_trees
documents_in (piece ∷ pieces) = and_document (piece_pairs piece) (documents_in pieces)

abbrev pub is_sound_tree : Tree → Bool
is_sound_tree (document ps) = is_sound ps
is_sound_tree t = false

-- the first tree that is not sound, of those from this number on
abbrev pub first_unsound : ℕ → Trees → Option ℕ
first_unsound n no_trees = None
first_unsound n (tree t ts) = if is_sound_tree t then first_unsound (suc n) ts else Some n

abbrev pub inferring_by : Option Fault → Option ℕ → Form → Inferring
inferring_by (Some f) u s = faulty f
inferring_by None (Some n) s = unsound n
inferring_by None None s = found s

abbrev pub of_pieces : List Bytes → Inferring
of_pieces pieces = inferring_by (first_fault 0 pieces) (first_unsound 0 (documents_in pieces)) (inferred (documents_in pieces))

abbrev pub of_cut : Option ℕ → List Bytes → Inferring
of_cut (Some place) pieces = broken place
of_cut None pieces = of_pieces pieces

-- what the inference from the bytes of a file comes to
abbrev pub inferring_of : (file : Bytes) → Inferring
inferring_of file = of_cut (cut file).broken (cut file).pieces

-- ---- calls

-- the call answers this; out of memory is free
abbrev pub IsInferring : Inferring → Result Form FileError → Type 0
IsInferring r (Ok s) = r ≡ found s
IsInferring r (Err (errors.Broken place)) = r ≡ broken place
IsInferring r (Err (errors.Faulty n e)) = r ≡ faulty (record { number = n; error = e })
IsInferring r (Err (errors.NotSound n)) = r ≡ unsound n
IsInferring r (Err errors.NoMemory) = Unit {0}

-- the document that the bytes are was read, or they have this fault; out of memory is free
abbrev pub IsRead : Result Pairs Error → Result Document ReadError → Type 0
IsRead r (Ok d) = r ≡ Ok (pairs_of d)
IsRead r (Err (reading.Raw e)) = r ≡ Err e
IsRead r (Err reading.NoMemory) = Unit {0}

abbrev pub or_number : Option ℕ → Bool → ℕ → Option ℕ
or_number (Some m) sound n = Some m
or_number None sound n = if sound then None else Some n

-- One more document was gathered.
pub record IsGathered (g : Gathered) (ps : Pairs) (h : Gathered) : Type 0 where
  pub number : h.number ≡ g.number + 1
  pub unsound : h.unsound ≡ or_number g.unsound (is_sound ps) g.number
  pub joined : h.unsound ≡ None → h.summary ≡ join g.summary (shape_of (document ps))

abbrev pub Gathers : Gathered → Result Pairs Error → Result Gathered FileError → Type 0
Gathers g (Ok ps) (Ok h) = IsGathered g ps h
Gathers g (Err e) (Err (errors.Faulty n f)) = (n ≡ g.number) × (f ≡ e)
Gathers g r (Err errors.NoMemory) = Unit {0}
Gathers g r x = ⊥

-- what is known of all documents of a whole file, or the first fault
abbrev pub IsAllGathered : List Bytes → Result Gathered FileError → Type 0
IsAllGathered pieces (Ok g) = (first_fault 0 pieces ≡ None) × (first_unsound 0 (documents_in pieces) ≡ g.unsound) × (g.unsound ≡ None → g.summary ≡ inferred (documents_in pieces))
IsAllGathered pieces (Err (errors.Faulty n e)) = first_fault 0 pieces ≡ Some (record { number = n; error = e })
IsAllGathered pieces (Err errors.NoMemory) = Unit {0}
IsAllGathered pieces x = ⊥
