-- Values at references and at definitions: they are recast as at what these mean.
use Rattle.std.proofs.Common.{◌≡◌, ℕ, [], Option, Some, ap, sym, subst}
use Rattle.std.specs.Prelude.{IfSome}
use Rattle.bson_kinds.specs.Text.{Bytes, Utf8}
use Rattle.bson_base.specs.Tree.{Tree}
use Rattle.bson_kinds.specs.declared.element_type.ElementType.{ElementType}
use Rattle.bson_rawdoc.specs.Node.{Node, node_in}
use Rattle.bson_shape.specs.Form.{Form, sequence, reference, definitions, Fields}
use Rattle.bson_shape.specs.ShapeView.{nodes}
use Rattle.bson_laws.specs.Scopes.{meanings_of, laid, IsDefinedAs}
use Rattle.bson_laws.specs.Unrolled.{Meanings, unrolled, names_in, in_table, max_steps}
use Rattle.bson_laws.specs.declared.origin.Definition.{Definition}
use Rattle.bson_laws.specs.declared.origin.Reader.{Reader}
use Rattle.bson_pass_parts.specs.Put.{recast_node, recast_for, IsPut}
use Rattle.bson_pass_parts.specs.Run.{IsKept}

-- ---- definitions: their body in their table

pub inside_smaller : (q : Reader) (h : Fields) (s : Form) → meanings_of q ≡ names_in max_steps h → nodes (laid q s) ≡ nodes (in_table max_steps h s)
inside_smaller q h s names = ap (λ (g : Meanings). nodes (unrolled max_steps s g)) names

inside_is : (r q : Reader) (h : Fields) (s : Form) (levels : ℕ) (n : Node) → meanings_of q ≡ names_in max_steps h → recast_for q s levels n ≡ recast_for r (definitions h s) levels n
inside_is r q h s levels n names = λ i. recast_node (unrolled max_steps s (names i)) levels n

pub inside_put : (o : Option ElementType) (r q : Reader) (h : Fields) (s : Form) (levels : ℕ) (n : Node) (old new : Bytes) → meanings_of q ≡ names_in max_steps h → IfSome o (IsPut (recast_for q s levels n) old new)
    → IfSome o (IsPut (recast_for r (definitions h s) levels n) old new)
inside_put o r q h s levels n old new names put = subst (λ (t : Option Tree). IfSome o (IsPut t old new)) (inside_is r q h s levels n names) put

-- ---- a reference: its definition

pub reference_smaller : (r : Reader) (d : Definition) (name : Utf8) → IsDefinedAs (Some d) r name → nodes (meanings_of r name) ≡ nodes (laid d.reader d.shape.now)
reference_smaller r d name means = ap nodes means.0

reference_is : (r : Reader) (d : Definition) (name : Utf8) (levels : ℕ) (n : Node) → IsDefinedAs (Some d) r name → recast_for d.reader d.shape.now levels n ≡ recast_for r (reference name) levels n
reference_is r d name levels n means = λ i. recast_node (sym means.0 i) levels n

pub reference_put : (o : Option ElementType) (r : Reader) (d : Definition) (name : Utf8) (levels : ℕ) (n : Node) (old new : Bytes) → IsDefinedAs (Some d) r name → IfSome o (IsPut (recast_for d.reader d.shape.now levels n) old new)
    → IfSome o (IsPut (recast_for r (reference name) levels n) old new)
reference_put o r d name levels n old new means put = subst (λ (t : Option Tree). IfSome o (IsPut t old new)) (reference_is r d name levels n means) put

pub reference_kept : (r : Reader) (d : Definition) (name : Utf8) (levels : ℕ) (k : ElementType) (b : Bytes) → IsDefinedAs (Some d) r name → IsKept (laid d.reader d.shape.now) levels k b → IsKept (laid r (reference name)) levels k b
reference_kept r d name levels k b means kept = subst (λ (t : Option Tree). IsPut t [] b k) (reference_is r d name levels (node_in levels k b) means) kept

-- ---- a sequence of references

sequence_is : (r : Reader) (d : Definition) (name : Utf8) (levels : ℕ) (n : Node) → IsDefinedAs (Some d) r name → recast_for d.reader (sequence d.shape.now) levels n ≡ recast_for r (sequence (reference name)) levels n
sequence_is r d name levels n means = λ i. recast_node (sequence (sym means.0 i)) levels n

pub sequence_put : (o : Option ElementType) (r : Reader) (d : Definition) (name : Utf8) (levels : ℕ) (n : Node) (old new : Bytes) → IsDefinedAs (Some d) r name → IfSome o (IsPut (recast_for d.reader (sequence d.shape.now) levels n) old new)
    → IfSome o (IsPut (recast_for r (sequence (reference name)) levels n) old new)
sequence_put o r d name levels n old new means put = subst (λ (t : Option Tree). IfSome o (IsPut t old new)) (sequence_is r d name levels n means) put
