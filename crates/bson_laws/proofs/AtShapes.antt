-- The laws at shapes, which may be recursive, from those at the forms that these are unrolled to.
use Rattle.std.proofs.Common.{◌≡◌, ℕ, suc, ◌+◌, ◌≤◌, length, Bool, Some, Ok, refl, sym, ◌∙◌, arith}
use Rattle.bson_kinds.specs.Outcome.{result_map}
use Rattle.bson_base.specs.Sound.{IsClean, IsSound, max_bytes, max_levels}
use Rattle.bson_kinds.specs.Text.{Bytes, AreBytes}
use Rattle.bson_base.specs.Tree.{Tree, depth, enc}
use Rattle.bson_rawdoc.specs.Node.{Node}
use Rattle.bson_shape.specs.Form.{Form, lossy, no_fields}
use Rattle.bson_shape.specs.Makers.{IsShape}
use Rattle.bson_values.specs.Marked.{Marked, contents}
use Rattle.bson_values.specs.Value.{Value}
use Rattle.bson_laws.specs.CompactReads.{reads}
use Rattle.bson_laws.specs.Depths.{value_depth}
use Rattle.bson_laws.specs.Means.{means, norm}
use Rattle.bson_laws.specs.Owned.{IsOwned}
use Rattle.bson_laws.specs.Plain.{IsPlain}
use Rattle.bson_laws.specs.Reads.{reads_document}
use Rattle.bson_laws.specs.ReadsFrom.{reads_tree}
use Rattle.bson_laws.specs.Recursive.{view, FitsIn, IsTable}
use Rattle.bson_laws.specs.Settled.{IsSettled}
use Rattle.bson_laws.specs.Spell.{HoldsNumbers, IsWrittenUnlessLarge, spell_document}
use Rattle.bson_laws.specs.SuitsTrees.{SuitsTrees}
use Rattle.bson_laws.specs.Unrolled.{in_table, max_steps, whole}
use Rattle.bson_laws.specs.Views.{views}
use Rattle.bson_laws.specs.Writable.{IsWritable}
use Rattle.bson_laws.proofs.Documents as documents
use Rattle.bson_laws.proofs.Equations.{view_as, fits_as}
use Rattle.bson_laws.proofs.Fitted as fitted
use Rattle.bson_laws.proofs.Judged.{ReadAs}
use Rattle.bson_laws.proofs.MarkedNodes.{IsMarked}
use Rattle.bson_laws.proofs.MarkedReads as marked
use Rattle.bson_laws.proofs.OwnedUnrolled.{owned_whole}
use Rattle.bson_laws.proofs.PlainUnrolled.{plain_in, plain_whole}
use Rattle.bson_laws.proofs.ReadAgain as read_again
use Rattle.bson_laws.proofs.ReadBack as read_back
use Rattle.bson_laws.proofs.SettledUnrolled.{settled_whole}
use Rattle.bson_laws.proofs.ShapeUnrolled.{shape_whole}
use Rattle.bson_laws.proofs.SuitsUnrolled.{suits_whole}
use Rattle.bson_laws.proofs.Viewed as viewed
use Rattle.bson_laws.proofs.WritableUnrolled.{writable_whole}

no_table : IsTable no_fields
no_table = record { guarded = refl; shapes = tt }

steps_left : (levels : ℕ) → levels ≤ max_levels → suc levels ≤ max_steps
unfolding max_steps
steps_left levels l = omega arith

-- a tree of few levels is at a shape what it is where the shape is read
pub view_whole : (s : Form) (t : Tree) → IsShape s → depth t ≤ max_levels → views (whole s) t ≡ view no_fields s t
view_whole s t p l = view_as max_steps no_fields s t no_table p (steps_left (depth t) l)

-- what a sound tree is at a shape is read from its bytes
pub views_reads : (s : Form) (t : Tree) (v : Value) → IsShape s → IsPlain s → IsSound t → view no_fields s t ≡ Some v → reads_document s (enc t) ≡ Ok v
views_reads s t v p plain sound e = read_back.views_reads (whole s) t v (shape_whole s p) (plain_whole s plain) sound (view_whole s t p sound.nests ∙ e)

-- it fits the shape
pub views_fit : (s : Form) (t : Tree) (v : Value) → IsShape s → IsSound t → view no_fields s t ≡ Some v → FitsIn no_fields v s
views_fit s t v p sound e =
    let m = suc (depth t + value_depth v) in
    fits_as m (suc (value_depth v)) no_fields s v no_table p (omega arith) (omega arith) (viewed.views_fit (in_table m no_fields s) t v sound.clean (view_as m no_fields s t no_table p (omega arith) ∙ e))

-- and is its own normal form
pub norm_same : (s : Form) (t : Tree) (v : Value) → IsShape s → IsPlain s → IsSound t → view no_fields s t ≡ Some v → norm v ≡ v
norm_same s t v p plain sound e = viewed.norm_same (whole s) t v (plain_whole s plain) sound.clean (view_whole s t p sound.nests ∙ e)

-- what a value that fits a shape means is, at the shape, the normal form of the value
pub views_means : (s : Form) (v : Value) (t : Tree) → IsShape s → IsPlain s → FitsIn no_fields v s → means v ≡ Some t → IsClean t → view no_fields s t ≡ Some (norm v)
views_means s v t p plain fits e clean =
    let m = suc (depth t + value_depth v) in
    let here = fits_as (suc (value_depth v)) m no_fields s v no_table p (omega arith) (omega arith) fits in
    sym (view_as m no_fields s t no_table p (omega arith)) ∙ fitted.views_means v (in_table m no_fields s) t (plain_in m s plain) here e clean

pub means_read : (s : Form) (v : Value) (t : Tree) → IsShape s → IsPlain s → FitsIn no_fields v s → means v ≡ Some t → IsSound t → reads_document s (enc t) ≡ Ok (norm v)
means_read s v t p plain fits e sound = views_reads s t (norm v) p plain sound (views_means s v t p plain fits e sound.clean)

-- what a clean tree is at a shape is read from it in memory
pub views_reads_tree : (readable : Bool) (s : Form) (t : Tree) (v : Value) → IsShape s → IsPlain s → SuitsTrees s → IsClean t → depth t ≤ max_levels → view no_fields s t ≡ Some v → result_map contents (reads_tree readable s t) ≡ Ok v
views_reads_tree readable s t v p plain suits clean deep e = read_back.views_reads_tree readable (whole s) t v (shape_whole s p) (plain_whole s plain) (suits_whole s suits) clean deep (view_whole s t p deep ∙ e)

-- what is read is written, unless it is too large
pub document_written : (s : Form) (bytes : Bytes) (v : Value) → IsShape s → IsWritable s → AreBytes bytes → reads_document s bytes ≡ Ok v → IsWrittenUnlessLarge (spell_document v)
document_written s bytes v p writable are e = documents.document_written (whole s) bytes v (shape_whole s p) (writable_whole s writable.keys) writable.document are e

-- and is never refused for a number
pub document_numbers : (s : Form) (bytes : Bytes) (v : Value) → AreBytes bytes → reads_document s bytes ≡ Ok v → HoldsNumbers (spell_document v)
document_numbers s bytes v are e = documents.document_numbers (whole s) bytes v are e

-- what was read and written is read again, and written as the same bytes
pub document_again : (s : Form) (bytes : Bytes) (v : Value) (t : Tree) → IsShape s → IsSettled s → AreBytes bytes → reads_document s bytes ≡ Ok v → spell_document v ≡ Ok t → length (enc t) ≤ max_bytes
    → (w : Value) × (reads_document s (enc t) ≡ Ok w) × (spell_document w ≡ Ok t)
document_again s bytes v t p expected are e q l = read_again.document_again (whole s) bytes v t (shape_whole s p) (settled_whole s expected) are e q l

-- what is read at a shape that borrows nothing is read where texts are mended
pub value_marked : (s : Form) (n : Node) (m : Marked) → IsOwned s → IsMarked n → reads s n ≡ Ok m → ReadAs contents (reads (lossy s) n) (contents m)
value_marked s n m owned in_marks e = marked.marked_reads (whole s) n m (owned_whole s owned) in_marks e

pub document_marked : (s : Form) (bytes : Bytes) (v : Value) → IsOwned s → reads_document s bytes ≡ Ok v → reads_document (lossy s) bytes ≡ Ok v
document_marked s bytes v owned e = marked.document_marked (whole s) bytes v (owned_whole s owned) e
