-- The failure of a whole document.
use Rattle.std.proofs.Common.{◌≡◌, false, Option, Some, None, Ok, Err, refl, ap, sym, subst, ◌∙◌}
use Rattle.bson_kinds.specs.Text.{Bytes}
use Rattle.bson_base.specs.Sound.{max_levels}
use Rattle.bson_kinds.specs.declared.element_type.ElementType.TheVariants.{EmbeddedDocument}
use Rattle.bson_faults.specs.declared.raw.Error as raw
use Rattle.bson_faults.specs.declared.raw.Error.TheVariants.{NoMemory}
use Rattle.bson_rawdoc.specs.Envelope.{envelope}
use Rattle.bson_rawdoc.specs.Node.{node_in}
use Rattle.bson_shape.specs.Form.{Form}
use Rattle.bson_values.specs.Cause as cause
use Rattle.bson_values.specs.ErrorView.{read_failure, raw_failure}
use Rattle.bson_values.specs.Refusal.{ReadFault, Refusal, Failure, no_memory, bare, placed, unreadable, FailsAs}
use Rattle.bson_values.specs.Stop.{IsPlaced}
use Rattle.bson_values.specs.declared.de.Error as de
use Rattle.bson_laws.specs.Judged.{Reading}
use Rattle.bson_laws.specs.Reads.{reads, answered, marked_at}
use Rattle.bson_laws.specs.Settled.{settled}
use Rattle.bson_met.specs.Gives.{RefusesAs}

-- A fault of the bytes: what the error that it becomes tells is the refusal for it, but that nothing is said where memory ran out.
fault_told : (Y : Type 0) (fault : raw.Error) → FailsAs {Y = Y} (raw_failure fault) (Err (bare (unreadable (cause.raw fault))))
fault_told Y NoMemory = tt
fault_told Y fault = refl

-- the bytes are refused for the fault of their envelope
pub frame_refused : (s : Form) (bytes : Bytes) (fault : raw.Error) (e : de.Error) → Err fault ≡ envelope bytes → read_failure e ≡ raw_failure fault → FailsAs (read_failure e) (marked_at s bytes)
frame_refused s bytes fault e is told =
    let refused : Err (bare (unreadable (cause.raw fault))) ≡ marked_at s bytes =
    ap (λ r. elim r [ Ok d ↦ answered (reads (settled false s) (node_in max_levels EmbeddedDocument d)) | Err f ↦ Err (bare (unreadable (cause.raw f))) ]) is in
    subst (λ f. FailsAs f (marked_at s bytes)) (sym told) (subst (FailsAs (raw_failure fault)) refused (fault_told _ fault))

pub placed_as : {A : Type 0} (o : Option (Refusal ReadFault)) (f : Failure ReadFault) (r : Reading A) → IsPlaced o f → RefusesAs o r → FailsAs f (answered r)
placed_as None f r p h = subst (λ g. FailsAs g (answered r)) (sym p) tt
placed_as (Some x) no_memory r p h = tt
placed_as (Some x) (bare e) r p h = absurd cc
placed_as (Some x) (placed path f) r p h = ap answered h ∙ ap Err (sym p)
