-- Values whose bytes are kept.
use Rattle.std.proofs.Common.{◌≡◌, ℕ, ◌≤◌, ◌++◌, [], length, false, Result, Ok, Err, refl, ap, sym, subst, ◌∙◌}
use Rattle.std.specs.Option.{IfSome}
use Rattle.std.specs.Result.{IfOk, result_ok}
use Rattle.bson_kinds.specs.Outcome.{result_map}
use Rattle.bson_base.specs.Sound.{max_levels, max_bytes}
use Rattle.bson_kinds.specs.Text.{Bytes}
use Rattle.bson_base.specs.Tree.{Tree}
use Rattle.bson_kinds.specs.declared.element_type.ElementType.{ElementType}
use Rattle.bson_kinds.specs.declared.element_type.ElementType.TheVariants.{EmbeddedDocument}
use Rattle.bson_rawdoc.specs.Envelope.{envelope}
use Rattle.bson_rawdoc.specs.Node.{node_in}
use Rattle.bson_shape.specs.Form.{leaf}
use Rattle.bson_shape.specs.declared.leaf.Leaf.{Leaf}
use Rattle.bson_values.specs.Cause.{raw}
use Rattle.bson_values.specs.Marked.{Marked, contents}
use Rattle.bson_values.specs.Refusal.{bare, unreadable}
use Rattle.bson_laws.specs.Judged.{Reading}
use Rattle.bson_laws.specs.Reads.{answered}
use Rattle.bson_laws.specs.Spell.{Writing, spell, at_top}
use Rattle.bson_laws.proofs.Framed.{frame}
use Rattle.bson_laws.proofs.Sizes.{spell_kind}
use Rattle.bson_itself.specs.Kept.{IsWrittenAsRead}
use Rattle.bson_pass_parts.specs.ReadsUnrolled.{reads}
use Rattle.bson_pass_parts.specs.Put.{of_writing, recast_by, recast_node, IsPut}
use Rattle.bson_pass_parts.specs.Recast.{IsRecastAs}
use Rattle.bson_pass_parts.specs.Run.{IsKept}

-- what is kept is recast as its bytes
pub kept_put : (l : Leaf) (levels : ℕ) (k : ElementType) (b old new : Bytes) → IsWrittenAsRead (leaf l) levels k b → new ≡ old ++ b → IsPut (recast_node (leaf l) levels (node_in levels k b)) old new k
kept_put l levels k b old new h put =
    subst (λ o. IsPut o old new k) (sym (ap (recast_by (λ v. spell (contents v) levels)) h.read ∙ ap of_writing h.spelled)) (h.kind_is, put ∙ ap (λ (x : Bytes). old ++ x) (sym h.encoded))

-- what is kept is read as a value that is written as its bytes
module _ (l : Leaf) (levels : ℕ) (k : ElementType) (b : Bytes) where
  spelled_so : (v : Marked) (w : Writing Tree) → reads (leaf l) (node_in levels k b) ≡ Ok v → spell (contents v) levels ≡ w → IsPut (of_writing w) [] b k → IsWrittenAsRead (leaf l) levels k b
  spelled_so v (Err r) read is h = absurd h
  spelled_so v (Ok t) read is h = record { given = v; tree = t; read = read; spelled = is; kind_is = h.0; encoded = sym h.1 }

  read_so : (r : Reading Marked) → reads (leaf l) (node_in levels k b) ≡ r → IsPut (recast_by (λ v. spell (contents v) levels) r) [] b k → IsWrittenAsRead (leaf l) levels k b
  read_so (Err e) is h = absurd h
  read_so (Ok v) is h = spelled_so v (spell (contents v) levels) is refl h

  pub kept_written : IsKept (leaf l) levels k b → IsWrittenAsRead (leaf l) levels k b
  kept_written h = read_so (reads (leaf l) (node_in levels k b)) refl h

-- ---- a whole document

pub document_copied : (l : Leaf) (b d made : Bytes) → envelope b ≡ Ok d → IsWrittenAsRead (leaf l) max_levels EmbeddedDocument b → length b ≤ max_bytes → made ≡ b → IsRecastAs (leaf l) b made
document_copied l b d made passed h few copied =
    let framed : envelope b ≡ Ok b = passed ∙ ap Ok (sym (frame b d passed).0) in
    record {
      value = contents h.given;
      tree = h.tree;
      read = ap (λ r. result_map contents (elim r [ Ok d ↦ answered (reads (leaf l) (node_in max_levels EmbeddedDocument d)) | Err e ↦ Err (bare (unreadable (raw e))) ])) framed ∙ ap (λ q. result_map contents (answered q)) h.read;
      spelled = ap (λ k. at_top k (spell (contents h.given) max_levels)) (sym (spell_kind false (contents h.given) max_levels h.tree h.spelled) ∙ h.kind_is) ∙ h.spelled;
      encoded = h.encoded ∙ sym copied;
      fits = subst (λ (x : Bytes). length x ≤ max_bytes) (sym copied) few;
    }

-- what was copied, where there was memory for it
pub if_copied : {A E : Type 0} (items : A → Bytes) (P : Bytes → Type 0) (b : Bytes) (r : Result A E) → IfOk r (λ v. items v ≡ b) → ((made : Bytes) → made ≡ b → P made) → IfSome (result_ok r) (λ v. P (items v))
if_copied items P b (Ok v) copied each = each (items v) copied
if_copied items P b (Err e) copied each = tt
