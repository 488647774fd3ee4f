-- What the steps of a recast by way of trees come to, from the answers of the calls.
use Rattle.std.proofs.Common.{◌≡◌, ℕ, Option, Some, None, Result, Ok, Err, refl, ap, sym, subst, ◌∙◌, inl, inr}
use Rattle.std.specs.Prelude.{◌≢◌, ◌⊎◌, option_map}
use Rattle.std.specs.Global.{Vec}
use Rattle.bson_base.specs.Encoded.{EncodeFault, IsRefusedFor}
use Rattle.bson_kinds.specs.Outcome.{◌>>=◌}
use Rattle.bson_kinds.specs.Text.{Bytes}
use Rattle.bson_base.specs.Tree.{Pairs}
use Rattle.bson_faults.specs.declared.raw.Error.{Error}
use Rattle.bson_faults.specs.declared.raw.Error.TheVariants.{NoMemory}
use Rattle.bson_values.specs.ErrorView.{read_failure, write_failure}
use Rattle.bson_values.specs.Refusal.{ReadFault, WriteFault, Failure, no_memory, bare, placed, FailsAs}
use Rattle.bson_values.specs.Value.{Value}
use Rattle.bson_values.specs.declared.de.Error as de
use Rattle.bson_values.specs.declared.ser.Error as ser
use Rattle.bson_rawdoc.specs.DocumentTree.{document_pairs, Gives}
use Rattle.bson_shape.specs.Form.{Form}
use Rattle.bson_tree_recast.specs.ByTree.{raw_told, unread_for, unencoded_for, or_ends, document_step, value_step, made_step, bytes_step, tree_recast_of}
use Rattle.bson_tree_recast.specs.Recast.{Unwritten, IsRecast, IsReadError, IsWriteError, Ending, in_reading, in_writing, stopped, StopsAs, Steps, ended}
use Rattle.bson_tree_recast.specs.declared.error.RecastError.{RecastError}
use Rattle.bson_tree_recast.specs.declared.error.RecastError.TheVariants as errors

-- a recast that ends at a step ends so for all that comes behind it
pub carried : {X Y : Type 0} (o : Option Ending) (expected : Result X Ending) (next : X → Result Y Ending) → StopsAs o expected → StopsAs o (expected >>= next)
carried None expected next h = tt
carried (Some x) expected next h = ap (λ d. d >>= next) h

-- the last step is the recast
pub last : (expected : Result Bytes Ending) (r : Result (Vec ℕ) RecastError) → Steps (λ v. v.items) r expected → IsRecast (ended expected) r
last expected (Ok v) h = ap ended h
last expected (Err (errors.Read e)) h = ap ended h
last expected (Err (errors.Write e)) h = subst (λ r. Unwritten r (write_failure e)) (sym (ap ended h)) (inl refl)
last expected (Err errors.NoMemory) h = tt

-- what a call gives is given at its step
pub ends_given : {A E : Type 0} (ends : E → Ending) (r : Result A E) (x : A) → r ≡ Ok x → or_ends ends r ≡ Ok x
ends_given ends r x h = ap (or_ends ends) h

-- ---- all steps

-- what comes behind a document, and behind a value
abbrev after_value : Value → Result Bytes Ending
after_value v = made_step v >>= bytes_step

abbrev after_document : Form → Pairs → Result Bytes Ending
after_document s ps = value_step s ps >>= after_value

-- each step gave something
pub all_made : (s : Form) (bytes : Bytes) (ps qs : Pairs) (v : Value) (r : Result (Vec ℕ) RecastError) → document_step bytes ≡ Ok ps → value_step s ps ≡ Ok v → made_step v ≡ Ok qs → Steps (λ x. x.items) r (bytes_step qs)
    → IsRecast (tree_recast_of s bytes) r
all_made s bytes ps qs v r d w m h =
    let is : (document_step bytes >>= after_document s) ≡ bytes_step qs = ap (λ x. x >>= after_document s) d ∙ ap (λ x. x >>= after_value) w ∙ ap (λ x. x >>= bytes_step) m in
    last (document_step bytes >>= after_document s) r (subst (Steps (λ x. x.items) r) (sym is) h)

-- the first, the second or the third ended it
pub document_ends : (s : Form) (bytes : Bytes) (e : RecastError) → StopsAs (stopped e) (document_step bytes) → IsRecast (tree_recast_of s bytes) (Err e)
document_ends s bytes e h = last (document_step bytes >>= after_document s) (Err e) (carried (stopped e) (document_step bytes) (after_document s) h)

pub value_ends : (s : Form) (bytes : Bytes) (ps : Pairs) (e : RecastError) → document_step bytes ≡ Ok ps → StopsAs (stopped e) (value_step s ps) → IsRecast (tree_recast_of s bytes) (Err e)
value_ends s bytes ps e d h =
    let is : (document_step bytes >>= after_document s) ≡ (value_step s ps >>= after_value) = ap (λ x. x >>= after_document s) d in
    last (document_step bytes >>= after_document s) (Err e) (subst (StopsAs (stopped e)) (sym is) (carried (stopped e) (value_step s ps) after_value h))

pub made_ends : (s : Form) (bytes : Bytes) (ps : Pairs) (v : Value) (e : RecastError) → document_step bytes ≡ Ok ps → value_step s ps ≡ Ok v → StopsAs (stopped e) (made_step v) → IsRecast (tree_recast_of s bytes) (Err e)
made_ends s bytes ps v e d w h =
    let is : (document_step bytes >>= after_document s) ≡ (made_step v >>= bytes_step) = ap (λ x. x >>= after_document s) d ∙ ap (λ x. x >>= after_value) w in
    last (document_step bytes >>= after_document s) (Err e) (subst (StopsAs (stopped e)) (sym is) (carried (stopped e) (made_step v) bytes_step h))

-- ---- the document

-- bytes that are not framed as a document have none; of others it is what their bytes have
pub unframed : {X : Type 0} (see : X → Pairs) (e : Error) (frame : Result Bytes Error) → Err e ≡ frame → Gives see (Err e) (frame >>= document_pairs)
unframed see e frame h = inl (ap (λ r. r >>= document_pairs) (sym h))

pub framed : {X : Type 0} (see : X → Pairs) (r : Result X Error) (b : Bytes) (frame : Result Bytes Error) → Ok b ≡ frame → Gives see r (document_pairs b) → Gives see r (frame >>= document_pairs)
framed see r b frame h g = subst (Gives see r) (ap (λ x. x >>= document_pairs) h) g

-- what is told of a fault of bytes
pub told : {A : Type 0} (fault : Error) (expected : Result A Ending) → expected ≡ Err (unread_for fault) → StopsAs (option_map unread_for (raw_told fault)) expected
told NoMemory expected h = tt
told fault expected h = h

-- a fault of bytes is told, unless memory ran out
pub document_stops : {A : Type 0} (fault : Error) (expected : Result A Error) → (expected ≡ Err fault) ⊎ (fault ≡ NoMemory) → StopsAs (option_map unread_for (raw_told fault)) (or_ends unread_for expected)
document_stops fault expected (inl e) = told fault (or_ends unread_for expected) (ap (or_ends unread_for) e)
document_stops fault expected (inr none) = subst (λ f. StopsAs (option_map unread_for (raw_told f)) (or_ends unread_for expected)) (sym none) tt

pub document_stopped : {A : Type 0} (fault : Error) (r : RecastError) (expected : Result A Error) → stopped r ≡ option_map unread_for (raw_told fault) → (expected ≡ Err fault) ⊎ (fault ≡ NoMemory) → StopsAs (stopped r) (or_ends unread_for expected)
document_stopped fault r expected is h = subst (λ o. StopsAs o (or_ends unread_for expected)) (sym is) (document_stops fault expected h)

-- ---- the value

read_failed : (f g : Failure ReadFault) (expected : Result Value (Failure ReadFault)) → FailsAs f expected → f ≡ g → f ≢ no_memory → or_ends in_reading expected ≡ Err (in_reading g)
read_failed no_memory g expected h same some = absurd (some refl)
read_failed (bare x) g expected h same some = ap (or_ends in_reading) h ∙ ap (λ y. Err (in_reading y)) same
read_failed (placed p x) g expected h same some = ap (or_ends in_reading) h ∙ ap (λ y. Err (in_reading y)) same

-- a failure of reading ends the recast, unless memory ran out
pub value_stops : (e : de.Error) (r : RecastError) (expected : Result Value (Failure ReadFault)) → FailsAs (read_failure e) expected → IsReadError e r → StopsAs (stopped r) (or_ends in_reading expected)
value_stops e errors.NoMemory expected h is = tt
value_stops e (errors.Read d) expected h is = read_failed (read_failure e) (read_failure d) expected h (ap read_failure (sym is.0)) is.1
value_stops e (errors.Write d) expected h is = absurd is

-- ---- the document that is made

write_failed : (f g : Failure WriteFault) (expected : Result Pairs (Failure WriteFault)) → FailsAs f expected → f ≡ g → f ≢ no_memory → or_ends in_writing expected ≡ Err (in_writing g)
write_failed no_memory g expected h same some = absurd (some refl)
write_failed (bare x) g expected h same some = ap (or_ends in_writing) h ∙ ap (λ y. Err (in_writing y)) same
write_failed (placed p x) g expected h same some = ap (or_ends in_writing) h ∙ ap (λ y. Err (in_writing y)) same

-- a failure of writing ends the recast, unless memory ran out
pub made_stops : (e : ser.Error) (r : RecastError) (expected : Result Pairs (Failure WriteFault)) → FailsAs (write_failure e) expected → IsWriteError e r → StopsAs (stopped r) (or_ends in_writing expected)
made_stops e errors.NoMemory expected h is = tt
made_stops e (errors.Write d) expected h is = write_failed (write_failure e) (write_failure d) expected h (ap write_failure (sym is.0)) is.1
made_stops e (errors.Read d) expected h is = absurd is

-- ---- its bytes

pub bytes_stop : (o : Option EncodeFault) (expected : Result Bytes EncodeFault) → IsRefusedFor o expected → StopsAs (option_map unencoded_for o) (or_ends unencoded_for expected)
bytes_stop None expected h = tt
bytes_stop (Some f) expected h = ap (or_ends unencoded_for) h

pub bytes_stopped : (o : Option EncodeFault) (r : RecastError) (expected : Result Bytes EncodeFault) → stopped r ≡ option_map unencoded_for o → IsRefusedFor o expected → StopsAs (stopped r) (or_ends unencoded_for expected)
bytes_stopped o r expected is h = subst (λ x. StopsAs x (or_ends unencoded_for expected)) (sym is) (bytes_stop o expected h)
