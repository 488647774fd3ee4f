-- Values that are read and written by themselves.
use Rattle.std.proofs.Common.{◌≡◌, ℕ, [], ◌++◌, false, Option, Ok, Err, refl, ap, sym, subst, ◌∙◌}
use Rattle.bson_kinds.specs.Text.{Bytes}
use Rattle.bson_base.specs.Tree.{Tree, enc}
use Rattle.bson_kinds.specs.declared.element_type.ElementType.{ElementType}
use Rattle.bson_rawdoc.specs.Node.{Node}
use Rattle.bson_shape.specs.Form.{Form}
use Rattle.bson_values.specs.Marked.{contents}
use Rattle.bson_datum.specs.MarkedView.{marked}
use Rattle.bson_values.specs.Value.{kind_as}
use Rattle.bson_datum.specs.View.{view}
use Rattle.bson_datum.specs.declared.datum.Datum.{Datum}
use Rattle.bson_datum.proofs.Marks.{marked-contents}
use Rattle.bson_laws.specs.Spell.{Writing, spell, spell_as}
use Rattle.bson_laws.proofs.Sizes.{spell_kind}
use Rattle.bson_ser_stream.specs.Writing.{with_tree}
use Rattle.bson_pass_parts.specs.ReadsUnrolled.{reads}
use Rattle.bson_pass_parts.specs.Put.{of_writing, recast_by, recast_node, IsPut}

-- the bytes of what was read and written were appended
pub alone_put : (s : Form) (levels : ℕ) (n : Node) (d : Datum) (k : ElementType) (empty bytes old new : Bytes) → reads s n ≡ Ok (marked d) → empty ≡ [] → with_tree empty (spell_as false (view d) levels) ≡ Ok bytes
    → k ≡ kind_as false (view d) → new ≡ old ++ bytes → IsPut (recast_node s levels n) old new k
alone_put s levels n d k empty bytes old new read none written kind_is put =
    subst (λ (o : Option Tree). IsPut o old new k) (sym (ap (recast_by (λ v. spell (contents v) levels)) read ∙ ap (λ v. of_writing (spell v levels)) (marked-contents d)))
    (by_writing (spell (view d) levels) refl (ap (λ b. with_tree b (spell (view d) levels)) (sym none) ∙ written)) where
      by_writing : (w : Writing Tree) → spell (view d) levels ≡ w → with_tree [] w ≡ Ok bytes → IsPut (of_writing w) old new k
      by_writing (Err r) is h = absurd cc
      by_writing (Ok t) is h =
          let same : enc t ≡ bytes = cc in
          (spell_kind false (view d) levels t is ∙ sym kind_is, put ∙ ap (λ b. old ++ b) (sym same))
