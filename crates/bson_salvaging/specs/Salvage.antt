-- What is saved of a file of documents with damage. Source: bsonspec.org, version 1.1, `document`, and the limits of this library.
use Rattle.std.specs.Prelude.{ℕ, zero, suc, ◌+◌, ◌-◌, ◌*◌, ◌^◌, min, Bool, true, false, if◌then◌else◌, nat_lt, List, [], ◌∷◌, length, take, drop, Option, Some, None}
use Rattle.std.specs.Option.{is_some}
use Rattle.bson_kinds.specs.Text.{Bytes}
use Rattle.bson_base.specs.Sound.{max_levels}
use Rattle.bson_rawdoc.specs.Cut.{piece_length}
use Rattle.bson_salvaging.specs.Looks.{fine, fault, look_deep, is_walked, walked}
use Rattle.bson_salvaging.specs.declared.finding.Seen.{Seen}
use Rattle.bson_salvaging.specs.declared.finding.Found.{Found}
use Rattle.bson_salvaging.specs.declared.looking.Look.{Look}
use Rattle.bson_salvaging.specs.declared.stepping.Step.{Step}

-- ---- documents that are looked for behind damage

-- the most bytes of one: 16 MiB, and 16384 more
abbrev pub most_bytes : ℕ
most_bytes = 16793600

abbrev pub seen_by : ℕ → Look → Seen
seen_by n l = record { length = if l.fine then Some n else None; left = l.left }

abbrev pub seen_of : (looks : ℕ) → Bytes → Option ℕ → Seen
seen_of looks b None = record { length = None; left = looks }
seen_of looks b (Some n) = if nat_lt most_bytes n then record { length = None; left = looks } else seen_by n (look_deep max_levels looks (take n b))

-- The length of the document in front, which has at most so many bytes, and no fault in it or in a document or array inside.
abbrev pub seen : (looks : ℕ) → Bytes → Seen
seen looks b = seen_of looks b (piece_length b)

abbrev pub is_seen : Seen → Look
is_seen s = record { fine = is_some s.length; left = s.left }

-- The file ends here, or such a document begins.
abbrev pub goes_on : (looks : ℕ) → Bytes → Look
goes_on looks [] = fine looks
goes_on looks (b ∷ bs) = is_seen (seen looks (b ∷ bs))

abbrev pub counts_of : Bytes → (left : ℕ) → Option ℕ → Look
counts_of b left None = fault left
counts_of b left (Some n) = goes_on left (drop n b)

-- Such a document begins here, and behind it the file ends or another one begins: so what is inside a damaged document is not taken for one of the file.
abbrev pub counts : (looks : ℕ) → Bytes → Look
counts looks b = counts_of b (seen looks b).left (seen looks b).length

-- ---- looks are bounded

-- the looks that are allowed for a file, and those for each of its bytes more
abbrev pub first_looks : ℕ
first_looks = 2 ^ 30

abbrev pub gained : (bytes : ℕ) → (looks : ℕ) → ℕ
gained bytes looks = min (looks + 64 * bytes) (2 ^ 64 - 1)

-- ---- stretches

abbrev pub here_or : Look → (ℕ → Found) → Found
here_or l next = if l.fine then record { count = 0; left = l.left } else (let f = next l.left in record { count = suc f.count; left = f.left })

-- how many bytes are before the first place that counts; all, where none does
abbrev pub search : (looks : ℕ) → Bytes → Found
search looks [] = record { count = 0; left = looks }
search looks (b ∷ bs) = here_or (counts looks (b ∷ bs)) (λ left. search (gained 1 left) bs)

abbrev pub left_out_of : Found → Step
left_out_of f = record { keeps = false; count = suc f.count; left = f.left }

-- the bytes up to a place that counts are left out
abbrev pub damage : (looks : ℕ) → Bytes → Step
damage looks [] = record { keeps = false; count = 0; left = looks }
damage looks (b ∷ bs) = left_out_of (search (gained 1 looks) bs)

-- a document with a fault inside is left out alone where the file goes on behind it: its length is right
abbrev pub faulty : Bytes → (n : ℕ) → Look → Step
faulty b n l = if l.fine then record { keeps = false; count = n; left = gained n l.left } else damage l.left b

abbrev pub leave_all : Bytes → Step
leave_all b = record { keeps = false; count = length b; left = 0 }

-- it took so many looks; where no more are left, the rest of the file is left out
abbrev pub faulty_after : (looks used : ℕ) → Bytes → (n : ℕ) → Step
faulty_after looks used b n = if nat_lt looks used then leave_all b else faulty b n (goes_on (looks - used) (drop n b))

abbrev pub step_of : (looks : ℕ) → Bytes → Option ℕ → Step
step_of looks b None = damage looks b
step_of looks b (Some n) = if is_walked (take n b) then record { keeps = true; count = n; left = gained n looks } else faulty_after looks (walked (take n b)) b n

-- At the place that is due a document of any length is kept whose elements have no fault. Else a stretch is left out.
abbrev pub step : (looks : ℕ) → Bytes → Step
step looks b = step_of looks b (piece_length b)

pub data Stretch : Type 0 where
  kept : (document : Bytes) → Stretch
  left_out : (bytes : Bytes) → Stretch

abbrev pub stretch_of : Bool → Bytes → Stretch
stretch_of true bytes = kept bytes
stretch_of false bytes = left_out bytes

abbrev pub then_stretch : Step → Bytes → (ℕ → Bytes → List Stretch) → List Stretch
then_stretch s b more = stretch_of s.keeps (take s.count b) ∷ more s.left (drop s.count b)

abbrev pub salvage_within : (count : ℕ) → (looks : ℕ) → Bytes → List Stretch
salvage_within zero looks b = []
salvage_within (suc n) looks [] = []
salvage_within (suc n) looks (b ∷ bs) = then_stretch (step looks (b ∷ bs)) (b ∷ bs) (salvage_within n)

-- the stretches of what is left of a file (each has a byte at least, so the length bounds their number)
unfoldable pub salvage_from : (looks : ℕ) → Bytes → List Stretch
salvage_from looks b = salvage_within (length b) looks b

-- the stretches of a whole file
abbrev pub salvage : (file : Bytes) → List Stretch
salvage file = salvage_from first_looks file
