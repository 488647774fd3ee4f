-- What a salvage has done when it ends. Source: this library's own programs.
use Rattle.std.specs.Prelude.{◌≡◌, ◌+◌, ◌⊎◌, ℕ, Bool, true, false, ◌||◌, List, [], ◌∷◌, ◌++◌, length, codes}
use Rattle.std.specs.Fmt.{decimal}
use Rattle.std.specs.Io.KnownBytes.{Consumes, Appends, IsAtEnd}
use Rattle.bson_kinds.specs.Text.{Bytes, Utf8}
use Rattle.bson_io.specs.Ends.{RoseOrLast, AppendsPrefix}
use Rattle.bson_program.specs.Ends.{SourceChange, SinkChange}
use Rattle.bson_program.specs.Run.{AreWritten}
use Rattle.bson_streaming.specs.Streamed.{last_line, Faults}
use Rattle.bson_streaming.specs.declared.closing.Ending.{Ending}
use Rattle.bson_streaming.specs.declared.closing.Ending.TheVariants as endings
use Rattle.bson_salvaging.specs.Looks.{is_walked}
use Rattle.bson_salvaging.specs.Salvage.{Stretch, kept, left_out, salvage}

-- ---- what is written of stretches

abbrev pub bytes_of : Stretch → Bytes
bytes_of (kept document) = document
bytes_of (left_out bytes) = bytes

-- their bytes, one behind another
abbrev pub joined : List Stretch → Bytes
joined [] = []
joined (s ∷ stretches) = bytes_of s ++ joined stretches

abbrev pub saved_of : Stretch → Bytes
saved_of (kept document) = document
saved_of (left_out bytes) = []

-- the documents among them
abbrev pub saved : List Stretch → Bytes
saved [] = []
saved (s ∷ stretches) = saved_of s ++ saved stretches

-- the line for bytes that are left out, from this place on
abbrev pub line_for : (from to : ℕ) → Utf8
line_for from to = codes "bytes " ++ (decimal from ++ (codes " to " ++ (decimal to ++ codes " left out\n")))

abbrev pub lines_of : (place : ℕ) → Stretch → Utf8
lines_of place (kept document) = []
lines_of place (left_out bytes) = line_for place (place + length bytes)

abbrev pub lines : (place : ℕ) → List Stretch → Utf8
lines place [] = []
lines place (s ∷ stretches) = lines_of place s ++ lines (place + length (bytes_of s)) stretches

abbrev pub is_left_out : Stretch → Bool
is_left_out (kept document) = false
is_left_out (left_out bytes) = true

abbrev pub has_left_out : List Stretch → Bool
has_left_out [] = false
has_left_out (s ∷ stretches) = is_left_out s || has_left_out stretches

abbrev pub IsWalked : Stretch → Type 0
IsWalked (kept document) = is_walked document ≡ true
IsWalked (left_out bytes) = Unit {0}

-- each document that is kept has no fault in its frame and its elements
abbrev pub AreWalked : List Stretch → Type 0
AreWalked [] = Unit {0}
AreWalked (s ∷ stretches) = IsWalked s × AreWalked stretches

-- ---- rows

-- All of the source came, and these are its stretches.
pub record IsAll (input : SourceChange) (stretches : List Stretch) (rest : Bytes) : Type 0 where
  pub nothing : rest ≡ []
  pub ended : IsAtEnd input.after
  pub exact : stretches ≡ salvage (joined stretches)

abbrev pub Stops : Ending → SourceChange → List Stretch → (rest : Bytes) → Type 0
Stops endings.Done input stretches rest = IsAll input stretches rest × (has_left_out stretches ≡ false)
Stops endings.SomeRefused input stretches rest = IsAll input stretches rest × (has_left_out stretches ≡ true)
Stops e input stretches rest = Unit {0}

-- Stretches came of the source, and then bytes that are not told. The documents among the stretches were written, and a line for each other one, and then the last line.
pub record Salvaged (input : SourceChange) (out err : SinkChange) (ending : Ending) : Type 0 where
  pub stretches : List Stretch
  pub rest : Bytes
  pub taken : Consumes input.before input.after (joined stretches ++ rest)
  pub walked : AreWalked stretches
  pub stops : Stops ending input stretches rest
  pub faults : Faults ending input
  pub written : AreWritten (saved stretches) (lines 0 stretches ++ last_line ending 0) out err

-- The same, where a call on a sink failed: one of the two has got all, and the other a first part.
pub record CutOff (input : SourceChange) (out err : SinkChange) : Type 0 where
  pub stretches : List Stretch
  pub rest : Bytes
  pub line : Utf8
  pub taken : Consumes input.before input.after (joined stretches ++ rest)
  pub walked : AreWalked stretches
  pub cause : RoseOrLast out.faults_before out.faults_after ⊎ RoseOrLast err.faults_before err.faults_after
  pub out_grew : AppendsPrefix out.before out.after (saved stretches)
  pub err_grew : AppendsPrefix err.before err.after (lines 0 stretches ++ line)
  pub in_order : Appends out.before out.after (saved stretches) ⊎ Appends err.before err.after (lines 0 stretches)

-- what a salvage has done, by how it ended
abbrev pub IsSalvaged : (input : SourceChange) → (out err : SinkChange) → Ending → Type 0
IsSalvaged input out err endings.SinkFault = CutOff input out err
IsSalvaged input out err e = Salvaged input out err e
