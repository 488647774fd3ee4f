-- What a value means is read back as the normal form of the value.
use Rattle.std.proofs.Common.{◌≡◌, Some, Result, Ok, Err, refl, ap, ◌∙◌}
use Rattle.bson_base.specs.Sound.{IsSound}
use Rattle.bson_kinds.specs.Text.{Bytes}
use Rattle.bson_base.specs.Tree.{Tree, enc}
use Rattle.bson_shape.specs.Form.{Form, no_fields}
use Rattle.bson_shape.specs.Makers.{IsShape}
use Rattle.bson_values.specs.Refusal.{ReadFault, Failure, no_memory, bare, placed, FailsAs}
use Rattle.bson_values.specs.ErrorView.{read_failure}
use Rattle.bson_values.specs.Value.{Value}
use Rattle.bson_datum.specs.View.{view}
use Rattle.bson_datum.specs.declared.datum.Datum.{Datum}
use Rattle.bson_values.specs.declared.de.Error.{Error}
use Rattle.bson_laws.specs.Recursive.{FitsIn}
use Rattle.bson_laws.specs.Means.{means, norm}
use Rattle.bson_laws.specs.Plain.{IsPlain}
use Rattle.bson_kinds.specs.Outcome.{result_map}
use Rattle.bson_values.specs.Marked.{Marked, contents}
use Rattle.bson_values.specs.Returned.{Reads}
use Rattle.bson_datum.specs.MarkedView.{marked}
use Rattle.bson_datum.proofs.Marks.{marked-contents}
use Rattle.bson_laws.specs.Reads.{reads_document, reads_marked}
use Rattle.bson_laws.proofs.AtShapes.{means_read}
use Rattle.bson_de_raw.specs.Gives.{GivesValue}
use Rattle.bson_de_raw.specs.ReadsLossy.{reads_lossy_marked, reads_lossy}

-- where the answer is a value, only out of memory fails
fails_for_memory : (f : Failure ReadFault) (v : Value) (answer : Result Value (Failure ReadFault)) → answer ≡ Ok v → FailsAs f answer → f ≡ no_memory
fails_for_memory no_memory v answer is h = refl
fails_for_memory (bare f) v answer is h = absurd cc
fails_for_memory (placed path f) v answer is h = absurd cc

pub gives_value : (v : Value) (r : Result Datum Error) (answer : Result Value (Failure ReadFault)) → answer ≡ Ok v → Reads view r answer → GivesValue v r
gives_value v (Ok d) answer is h = cc
gives_value v (Err e) answer is h = fails_for_memory (read_failure e) v answer is h

fails_without : (f : Failure ReadFault) (answer : Result Marked (Failure ReadFault)) → FailsAs f answer → FailsAs f (result_map contents answer)
fails_without no_memory answer h = tt
fails_without (bare f) answer h = ap (result_map contents) h
fails_without (placed path f) answer h = ap (result_map contents) h

gives_without : (r : Result Datum Error) (answer : Result Marked (Failure ReadFault)) → Reads marked r answer → Reads view r (result_map contents answer)
gives_without (Ok d) answer h = ap (result_map contents) h ∙ ap Ok (marked-contents d)
gives_without (Err e) answer h = fails_without (read_failure e) answer h

-- what is given with its marks is given without them
pub gives_document : (s : Form) (bytes : Bytes) (r : Result Datum Error) → Reads marked r (reads_marked s bytes) → Reads view r (reads_document s bytes)
gives_document s bytes r h = gives_without r (reads_marked s bytes) h

pub gives_lossy : (s : Form) (bytes : Bytes) (r : Result Datum Error) → Reads marked r (reads_lossy_marked s bytes) → Reads view r (reads_lossy s bytes)
gives_lossy s bytes r h = gives_without r (reads_lossy_marked s bytes) h

pub read_back : (s : Form) (bytes : Bytes) (v : Value) (t : Tree) (r : Result Datum Error) → IsShape s → IsPlain s → FitsIn no_fields v s → means v ≡ Some t → IsSound t → bytes ≡ enc t → Reads marked r (reads_marked s bytes) → GivesValue (norm v) r
read_back s bytes v t r shape plain fits mean sound is exact =
    gives_value (norm v) r (reads_document s bytes) (ap (reads_document s) is ∙ means_read s v t shape plain fits mean sound) (gives_document s bytes r exact)
