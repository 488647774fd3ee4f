-- What is answered of the first document, and then of what it is read as.
use Rattle.std.proofs.Common.{◌≡◌, ℕ, Option, Result, Ok, Err, ap, ◌∙◌, inl, inr}
use Rattle.bson_kinds.specs.Outcome.{◌>>=◌}
use Rattle.bson_kinds.specs.Text.{Bytes}
use Rattle.bson_io.specs.Ends.{Rose}
use Rattle.bson_values.specs.ErrorView.{read_failure}
use Rattle.bson_values.specs.Refusal.{ReadFault, Failure, no_memory, bare, placed, io, invalid_utf8_string, unrecognized_element_type, end_of_stream, unreadable, FailsAs}
use Rattle.bson_values.specs.declared.de.Error.{Error}
use Rattle.bson_values.specs.Returned.{Reads}
use Rattle.bson_source.specs.FirstDocument.{first_document}
use Rattle.bson_source.specs.FromSource.{IsAll, Stops, Ends, ReadsOne, read_first}

-- a failure before the document is read
pub stops_then : {X Y : Type 0} (all failed : Type 0) (f : Failure ReadFault) (first : Result X (Failure ReadFault)) (read : X → Result Y (Failure ReadFault)) → Stops all failed f first → Stops all failed f (first >>= read)
stops_then all failed no_memory first read h = tt
stops_then all failed (bare io) first read (inl h) = inl h
stops_then all failed (bare io) first read (inr h) = inr (h.0, ap (λ r. r >>= read) h.1)
stops_then all failed (bare invalid_utf8_string) first read h = (h.0, ap (λ r. r >>= read) h.1)
stops_then all failed (bare (unrecognized_element_type key byte)) first read h = (h.0, ap (λ r. r >>= read) h.1)
stops_then all failed (bare end_of_stream) first read h = (h.0, ap (λ r. r >>= read) h.1)
stops_then all failed (bare (unreadable c)) first read h = (h.0, ap (λ r. r >>= read) h.1)
stops_then all failed (placed path f) first read h = (h.0, ap (λ r. r >>= read) h.1)

stops_as : {Y : Type 0} (all failed : Type 0) (f : Failure ReadFault) (answer : Result Y (Failure ReadFault)) → all → FailsAs f answer → Stops all failed f answer
stops_as all failed no_memory answer a h = tt
stops_as all failed (bare io) answer a h = inr (a, h)
stops_as all failed (bare invalid_utf8_string) answer a h = (a, h)
stops_as all failed (bare (unrecognized_element_type key byte)) answer a h = (a, h)
stops_as all failed (bare end_of_stream) answer a h = (a, h)
stops_as all failed (bare (unreadable c)) answer a h = (a, h)
stops_as all failed (placed path f) answer a h = (a, h)

ends_as : {X Y : Type 0} (see : X → Y) (all failed : Type 0) (r : Result X Error) (answer : Result Y (Failure ReadFault)) → all → Reads see r answer → Ends see all failed r answer
ends_as see all failed (Ok x) answer a h = (a, h)
ends_as see all failed (Err e) answer a h = stops_as all failed (read_failure e) answer a h

fails_then : {X Y : Type 0} (f : Failure ReadFault) (first : Result X (Failure ReadFault)) (d : X) (read : X → Result Y (Failure ReadFault)) → first ≡ Ok d → FailsAs f (read d) → FailsAs f (first >>= read)
fails_then no_memory first d read e h = tt
fails_then (bare f) first d read e h = ap (λ r. r >>= read) e ∙ h
fails_then (placed path f) first d read e h = ap (λ r. r >>= read) e ∙ h

reads_then : {X Y Z : Type 0} (see : Z → Y) (r : Result Z Error) (first : Result X (Failure ReadFault)) (d : X) (read : X → Result Y (Failure ReadFault)) → first ≡ Ok d → Reads see r (read d) → Reads see r (first >>= read)
reads_then see (Ok x) first d read e h = ap (λ r. r >>= read) e ∙ h
reads_then see (Err f) first d read e h = fails_then (read_failure f) first d read e h

-- what the document is read as
pub ends_then : {X Y Z : Type 0} (see : Z → Y) (all failed : Type 0) (r : Result Z Error) (first : Result X (Failure ReadFault)) (d : X) (read : X → Result Y (Failure ReadFault)) → all → first ≡ Ok d → Reads see r (read d) → Ends see all failed r (first >>= read)
ends_then see all failed r first d read a e h = ends_as see all failed r (first >>= read) a (reads_then see r first d read e h)

-- ---- at a source

-- no document is taken
pub not_taken : {X Y Z : Type 0} (see : X → Bytes) (other : Z → Y) (read : Bytes → Result Y (Failure ReadFault)) (old new : Option Bytes) (before now : ℕ) (e : Error)
    → ReadsOne see first_document old new before now (Err e) → ReadsOne other (read_first read) old new before now (Err e)
not_taken see other read old new before now e h = record {
  came = h.came;
  taken = h.taken;
  within = h.within;
  exact = stops_then (IsAll new h.came) (Rose before now) (read_failure e) (first_document h.came) read h.exact;
}

-- a document is taken, and read
pub read_taken : {X Y Z : Type 0} (see : X → Bytes) (other : Z → Y) (read : Bytes → Result Y (Failure ReadFault)) (old new : Option Bytes) (before now : ℕ) (x : X) (r : Result Z Error)
    → ReadsOne see first_document old new before now (Ok x) → Reads other r (read (see x)) → ReadsOne other (read_first read) old new before now r
read_taken see other read old new before now x r h gives = record {
  came = h.came;
  taken = h.taken;
  within = h.within;
  exact = ends_then other (IsAll new h.came) (Rose before now) r (first_document h.came) (see x) read h.exact.0 h.exact.1 gives;
}
