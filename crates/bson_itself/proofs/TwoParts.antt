-- Values of two parts: a text, and behind it an ObjectId or a document.
use Rattle.std.proofs.Common.{◌≡◌, ℕ, ◌+◌, ◌≤◌, ◌<◌, ◌++◌, length, take, drop, refl, ap, sym, subst, ◌∙◌, arith}
use Rattle.std.proofs.lemmas.List.{length-append, length-drop, length-take-le}
use Rattle.std.proofs.lemmas.List.Elements.{All-take}
use Rattle.std.proofs.Math.Seq.{take-add}
use Rattle.bson_kinds.specs.Text.{Bytes, AreBytes}
use Rattle.bson_base.specs.Tree.{Tree, Pairs, document, javascript_code_with_scope, raw, kind, enc, le32, after_total}
use Rattle.bson_kinds.specs.declared.element_type.ElementType.TheVariants as kinds
use Rattle.bson_rawdoc.specs.Numbers.{uint32_in}
use Rattle.bson_laws.proofs.Keys.{dropped}
use Rattle.bson_itself.specs.Encoded.{EncodesItself, IsTextValue, IsPointer}
use Rattle.bson_itself.specs.Itself.{IsItself}
use Rattle.bson_itself.specs.declared.untyped.UntypedLeaf.TheVariants.{Bson}
use Rattle.bson_itself.proofs.Parts.{front_is}

-- a text and twelve bytes
pub pointer_is : (b : Bytes) (n : ℕ) → AreBytes b → n + 12 ≤ length b → IsTextValue (take n b) → IsPointer (take (n + 12) b)
pointer_is b n all within text =
    let id = take 12 (drop n b) in
    let twelve : length id ≡ 12 = length-take-le 12 (drop n b) (omega (arith, length-drop n b)) in
    (text.0, id, text.1, record { are_bytes = All-take (λ x. x < 256) 12 (drop n b) (dropped n b all); count = twelve }, ap (λ (x : Bytes). x ++ id) text.2 ∙ sym (take-add n 12 b))

document_of : (t : Tree) (levels : ℕ) → kind t ≡ kinds.EmbeddedDocument → IsItself Bson t levels → (ps : Pairs) × (t ≡ document ps)
document_of (document ps) levels e own = (ps, refl)
document_of (raw k b) levels e own = absurd own
document_of t levels e own = absurd cc

-- the length of all, a text, a document
pub scoped_is : (levels : ℕ) (b : Bytes) (n m : ℕ) → AreBytes b → 4 + n + m ≤ length b → uint32_in b ≡ 4 + n + m → IsTextValue (take n (drop 4 b)) → EncodesItself Bson kinds.EmbeddedDocument levels (take m (drop n (drop 4 b)))
    → EncodesItself Bson kinds.JavaScriptCodeWithScope levels (take (4 + n + m) b)
scoped_is levels b n m all within is code scope =
    let parts = drop 4 b in
    let two = take n parts ++ take m (drop n parts) in
    let d = document_of scope.0 levels scope.1 scope.2 in
    let size : length two + 4 ≡ uint32_in b =
    omega (arith, is, length-append (take n parts) (take m (drop n parts)), length-take-le n parts (omega (arith, length-drop 4 b)), length-take-le m (drop n parts) (omega (arith, length-drop 4 b, length-drop n parts))) in
    let spelled : enc (document d.0) ≡ take m (drop n parts) = ap enc (sym d.1) ∙ scope.3 in (
      javascript_code_with_scope code.0 d.0,
      refl,
      (code.1, subst (λ t. IsItself Bson t levels) d.1 scope.2),
      (λ i. after_total (code.2 i ++ spelled i))
          ∙ (λ i. le32 (size i) ++ two)
          ∙ (λ i. sym (front_is b all (omega arith)) i ++ sym (take-add n m parts) i)
          ∙ sym (take-add 4 (n + m) b)
          ∙ ap (λ k. take k b) (omega arith),
    )
