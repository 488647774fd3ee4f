-- What was recast is recast again as the same bytes.
use Rattle.std.proofs.Common.{◌≡◌, ◌≤◌, length, Result, Ok, Err, refl, ap, sym, subst, arith}
use Rattle.std.specs.Prelude.{ℕ, IfOk}
use Rattle.std.specs.Global.{Vec}
use Rattle.bson_kinds.specs.Outcome.{result_map}
use Rattle.bson_base.specs.Sound.{max_bytes, max_levels}
use Rattle.bson_kinds.specs.Text.{Bytes, AreBytes}
use Rattle.bson_base.specs.Tree.{Tree, enc}
use Rattle.bson_kinds.specs.declared.element_type.ElementType.TheVariants.{EmbeddedDocument}
use Rattle.bson_rawdoc.specs.Envelope.{envelope}
use Rattle.bson_rawdoc.specs.Node.{node_in}
use Rattle.bson_faults.specs.declared.raw.Error.{Error}
use Rattle.bson_shape.specs.Form.{Form}
use Rattle.bson_shape.specs.Makers.{IsShape}
use Rattle.bson_values.specs.Cause.{raw}
use Rattle.bson_values.specs.Marked.{contents}
use Rattle.bson_values.specs.Refusal.{bare, unreadable}
use Rattle.bson_values.specs.Value.{Value}
use Rattle.bson_laws.specs.CompactReads.{reads}
use Rattle.bson_laws.specs.Reads.{answered, reads_document}
use Rattle.bson_laws.specs.Settled.{IsSettled}
use Rattle.bson_laws.specs.Spell.{spell_document}
use Rattle.bson_laws.proofs.AtShapes.{document_again}
use Rattle.bson_laws.proofs.ReadAgain.{document_size}
use Rattle.bson_de_raw.specs.ReadsLossy.{reads_lossy}
use Rattle.bson_de_raw.proofs.Lossy.{lossy_document_again}
use Rattle.bson_tree_recast.proofs.Written.{Reader, written_as, recast_as}
use Rattle.bson_tree_recast.specs.declared.error.RecastError.{RecastError}
use Rattle.bson_tree_recast.specs.Recast.{writes, recast_read, recast_of, IsRecast}
use Rattle.bson_recasting.specs.Recasting.{lossy_recast_of}

-- what is written has at most as many bytes as a document may
pub written_fits : (read : Reader) (bytes out : Bytes) → recast_read (read bytes) ≡ writes out → length out ≤ max_bytes
written_fits read bytes out e =
    let w = written_as read bytes out (read bytes) refl e in
    omega (arith, w.fits, document_size w.value w.tree w.spelled, ap length w.is)

-- what is read and spelled as a document is read of the document again, as what is spelled as it
abbrev ReadsAgain : Reader → Type 0
ReadsAgain read = (bytes : Bytes) (d : Value) (t : Tree) → AreBytes bytes → read bytes ≡ Ok d → spell_document d ≡ Ok t → length (enc t) ≤ max_bytes
    → (v : Value) × (read (enc t) ≡ Ok v) × (spell_document v ≡ Ok t)

written_again : (read : Reader) → ReadsAgain read → (bytes out : Bytes) → AreBytes bytes → recast_read (read bytes) ≡ writes out → recast_read (read out) ≡ writes out
written_again read reads bytes out are e =
    let w = written_as read bytes out (read bytes) refl e in
    let fits : length (enc w.tree) ≤ max_bytes = omega (arith, w.fits, document_size w.value w.tree w.spelled) in
    let next = reads bytes w.value w.tree are w.is_read w.spelled fits in
    subst (λ b. recast_read (read b) ≡ writes b) (sym w.is) (recast_as read (enc w.tree) next.0 w.tree next.1 next.2 fits)

pub recast_again : (s : Form) (bytes out : Bytes) → IsShape s → IsSettled s → AreBytes bytes → recast_of s bytes ≡ writes out → recast_of s out ≡ writes out
recast_again s bytes out shape expected are e = written_again (reads_document s) (λ b d t h. document_again s b d t shape expected h) bytes out are e

pub lossy_again : (s : Form) (bytes out : Bytes) → IsShape s → IsSettled s → AreBytes bytes → lossy_recast_of s bytes ≡ writes out → lossy_recast_of s out ≡ writes out
lossy_again s bytes out shape expected are e = written_again (reads_lossy s) (λ b d t h. lossy_document_again s b d t shape expected h) bytes out are e

pub given_back : (s : Form) (bytes : Bytes) → IsShape s → IsSettled s → AreBytes bytes → (r : Result (Vec ℕ) RecastError) → IsRecast (recast_of s bytes) r → IfOk r (λ v. recast_of s v.items ≡ writes v.items)
given_back s bytes shape expected are (Ok v) h = recast_again s bytes v.items shape expected are h
given_back s bytes shape expected are (Err e) h = tt

pub given_lossy_back : (s : Form) (bytes : Bytes) → IsShape s → IsSettled s → AreBytes bytes → (r : Result (Vec ℕ) RecastError) → IsRecast (lossy_recast_of s bytes) r → IfOk r (λ v. lossy_recast_of s v.items ≡ writes v.items)
given_lossy_back s bytes shape expected are (Ok v) h = lossy_again s bytes v.items shape expected are h
given_lossy_back s bytes shape expected are (Err e) h = tt

-- ---- the frame

-- bytes that are read are framed as a document
read_framed : (s : Form) (bytes : Bytes) (d : Value) (r : Result Bytes Error) → envelope bytes ≡ r
    → result_map contents (elim r [ Ok b ↦ answered (reads s (node_in max_levels EmbeddedDocument b)) | Err f ↦ Err (bare (unreadable (raw f))) ]) ≡ Ok d → (b : Bytes) × (envelope bytes ≡ Ok b)
read_framed s bytes d (Ok b) is h = (b, is)
read_framed s bytes d (Err f) is h = absurd cc

-- bytes that are recast are framed as a document
pub recast_framed : (s : Form) (bytes out : Bytes) → recast_of s bytes ≡ writes out → (b : Bytes) × (envelope bytes ≡ Ok b)
recast_framed s bytes out e =
    let w = written_as (reads_document s) bytes out (reads_document s bytes) refl e in
    read_framed s bytes w.value (envelope bytes) refl w.is_read
