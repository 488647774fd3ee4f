-- Where a shape borrows nothing, what is recast at it is recast so where texts are mended.
use Rattle.std.proofs.Common.{◌≡◌, ℕ, zero, suc, [], Bool, true, false, cond, Option, Some, None, Ok, Err, refl, ap, sym, subst, ◌∙◌}
use Rattle.std.specs.Prelude.{IfSome}
use Rattle.std.specs.Str.{bytes_eq}
use Rattle.bson_kinds.specs.Text.{Bytes, Utf8}
use Rattle.bson_base.specs.Tree.{Tree}
use Rattle.bson_kinds.specs.declared.element_type.ElementType.{ElementType}
use Rattle.bson_rawdoc.specs.Node.{Node, node_in, inner_node, value_node}
use Rattle.bson_rawdoc.specs.RawValue.{RawValue}
use Rattle.bson_shape.specs.Form.{Form, lossy, Fields, no_fields, field}
use Rattle.bson_shape.specs.Guarded.{count}
use Rattle.bson_shape.specs.ShapeView.{fields_of}
use Rattle.bson_values.specs.Marked.{Marked, contents}
use Rattle.bson_laws.specs.Judged.{Reading}
use Rattle.bson_laws.specs.Owned.{IsOwned, AreFieldsOwned}
use Rattle.bson_laws.specs.Scopes.{table_meaning, meanings_of, laid}
use Rattle.bson_laws.specs.Spell.{spell}
use Rattle.bson_laws.specs.Unrolled.{Meanings, undefined, repeated, unrolled, unrolled_name, step, max_steps}
use Rattle.bson_laws.specs.declared.origin.Reader.{Reader}
use Rattle.bson_laws.proofs.MarkedNodes.{IsMarked, node_marked, seen_marked}
use Rattle.bson_laws.proofs.AtShapes.{document_marked}
use Rattle.bson_laws.proofs.MarkedReads.{marked_reads}
use Rattle.bson_laws.proofs.OwnedUnrolled.{owned_unrolled}
use Rattle.bson_pass_parts.specs.Put.{of_writing, recast_by, recast_node, recast_for, IsPut}
use Rattle.bson_pass_parts.specs.ReadsUnrolled.{reads}
use Rattle.bson_pass_parts.specs.Recast.{IsRecastAs}
use Rattle.bson_pass_parts.specs.Run.{IsKept}

-- ---- what names mean

abbrev AllOwned : Meanings → Type 0
AllOwned g = (name : Utf8) → IsOwned (g name)

name_owned : (h : Fields) (g : Meanings) → AllOwned g → AreFieldsOwned h → (key : Utf8) → IsOwned (unrolled_name max_steps h g key)
name_owned no_fields g all owned key = tt
name_owned (field name s h) g all owned key = by_case (bytes_eq name key) (owned_unrolled max_steps s g all owned.0) (name_owned h g all owned.1 key) where
  by_case : (b : Bool) → IsOwned (unrolled max_steps s g) → IsOwned (unrolled_name max_steps h g key) → IsOwned (cond b (unrolled max_steps s g) (unrolled_name max_steps h g key))
  by_case true x y = x
  by_case false x y = y

-- what each step keeps is kept by many
repeated_owned : (n : ℕ) (f : Meanings → Meanings) (g : Meanings) → ((h : Meanings) → AllOwned h → AllOwned (f h)) → AllOwned g → AllOwned (repeated n f g)
repeated_owned zero f g keep owned = owned
repeated_owned (suc n) f g keep owned = keep (repeated n f g) (repeated_owned n f g keep owned)

meaning_owned : (rounds steps : ℕ) (h : Fields) → AreFieldsOwned h → AllOwned (table_meaning rounds steps h)
unfolding table_meaning
meaning_owned rounds steps h owned =
    let keep : (g : Meanings) → AllOwned g → AllOwned (step max_steps h g) = λ g all name. name_owned h g all owned name in
    repeated_owned steps (step max_steps h) (repeated rounds (repeated (suc (count h)) (step max_steps h)) undefined) keep
    (repeated_owned rounds (repeated (suc (count h)) (step max_steps h)) undefined (λ g all. repeated_owned (suc (count h)) (step max_steps h) g keep all) (λ name. tt))

-- a form that borrows nothing, in definitions that borrow nothing, is unrolled to such a form
laid_owned : (r : Reader) (s : Form) → AreFieldsOwned (fields_of r.table.now) → IsOwned s → IsOwned (laid r s)
laid_owned r s table owned = owned_unrolled max_steps s (meanings_of r) (meaning_owned r.rounds r.steps (fields_of r.table.now) table) owned

-- ---- what is recast

marked_put : (s : Form) (levels : ℕ) (n : Node) (old new : Bytes) (k : ElementType) → IsOwned s → IsMarked n → IsPut (recast_node s levels n) old new k → IsPut (recast_node (lossy s) levels n) old new k
marked_put s levels n old new k owned marked put = by_read (reads s n) refl put where
  by_read : (r : Reading Marked) → reads s n ≡ r → IsPut (recast_by (λ v. spell (contents v) levels) r) old new k → IsPut (recast_node (lossy s) levels n) old new k
  by_read (Ok v) is h =
      let again = marked_reads s n v owned marked is in
      subst (λ (o : Option Tree). IsPut o old new k) (sym (ap (recast_by (λ v. spell (contents v) levels)) again.1 ∙ ap (λ x. of_writing (spell x levels)) again.2)) h
  by_read (Err e) is h = absurd h

-- the value of an element
pub if_marked_put : (o : Option ElementType) (r : Reader) (s : Form) (levels : ℕ) (v : RawValue) (old new : Bytes) → AreFieldsOwned (fields_of r.table.now) → IsOwned s
    → IfSome o (IsPut (recast_for r s levels (value_node (inner_node levels) v)) old new) → IfSome o (IsPut (recast_for r (lossy s) levels (value_node (inner_node levels) v)) old new)
if_marked_put (Some k) r s levels v old new table owned put = marked_put (laid r s) levels (value_node (inner_node levels) v) old new k (laid_owned r s table owned) (seen_marked levels v) put
if_marked_put None r s levels v old new table owned put = tt

-- a value that is kept
pub marked_kept : (r : Reader) (s : Form) (levels : ℕ) (k : ElementType) (b : Bytes) → AreFieldsOwned (fields_of r.table.now) → IsOwned s → IsKept (laid r s) levels k b → IsKept (laid r (lossy s)) levels k b
marked_kept r s levels k b table owned kept = marked_put (laid r s) levels (node_in levels k b) [] b k (laid_owned r s table owned) (node_marked levels k b) kept

-- a whole document
document_recast : (s : Form) (bytes made : Bytes) → IsOwned s → IsRecastAs s bytes made → IsRecastAs (lossy s) bytes made
document_recast s bytes made owned p = record { value = p.value; tree = p.tree; read = document_marked s bytes p.value owned p.read; spelled = p.spelled; encoded = p.encoded; fits = p.fits }

pub if_recast : {A : Type 0} (items : A → Bytes) (r : Option A) (s : Form) (bytes : Bytes) → IsOwned s → IfSome r (λ v. IsRecastAs s bytes (items v)) → IfSome r (λ v. IsRecastAs (lossy s) bytes (items v))
if_recast items (Some v) s bytes owned p = document_recast s bytes (items v) owned p
if_recast items None s bytes owned p = tt
