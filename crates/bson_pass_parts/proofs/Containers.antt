-- Documents and arrays that take a level, and what is in them.
use Rattle.std.proofs.Common.{◌≡◌, ℕ, suc, [], ◌++◌, true, Option, Some, None, Ok, Err, refl, ap, sym, subst, ◌∙◌}
use Rattle.std.specs.Option.{option_map}
use Rattle.bson_kinds.specs.Outcome.{◌>>=◌, result_map}
use Rattle.bson_kinds.specs.Reserved.{reserved_kind}
use Rattle.bson_kinds.specs.Text.{Bytes, Utf8}
use Rattle.bson_base.specs.Tree as tree
use Rattle.bson_base.specs.Tree.{Tree, Trees, Pairs, enc, kind, enclosed, elements, array_elements}
use Rattle.bson_kinds.specs.declared.element_type.ElementType.{ElementType}
use Rattle.bson_kinds.specs.declared.element_type.ElementType.TheVariants as kinds
use Rattle.bson_rawdoc.specs.Envelope.{inside, is_closed}
use Rattle.bson_kinds.specs.Piece.{made}
use Rattle.bson_rawdoc.specs.Node.{inner_node, node_in, nodes_with}
use Rattle.bson_rawdoc.specs.Walk.{walk}
use Rattle.bson_shape.specs.Form.{UnknownFields, Form, sequence, structure, Fields}
use Rattle.bson_values.specs.Marked.{contents, item_contents, field_contents}
use Rattle.bson_values.specs.Value as value
use Rattle.bson_laws.specs.Containers.{reads_items}
use Rattle.bson_laws.specs.Judged.{Reading}
use Rattle.bson_laws.specs.Slots.{fill, finish}
use Rattle.bson_laws.specs.Spell.{Writing, spell, spell_items, spell_fields}
use Rattle.bson_pass_parts.specs.ReadsUnrolled.{reads, slots_of}
use Rattle.bson_pass_parts.specs.Put.{of_writing, recast_by, recast_node, recast_items, recast_fields, ArePut, IsPut, AreItemsPut, ArePairsPut}

pub mapped : {A B : Type 0} (f : A → B) (w : Writing A) → of_writing (result_map f w) ≡ option_map f (of_writing w)
mapped f (Ok x) = refl
mapped f (Err r) = refl

-- something that is read is written as what is in it, wrapped
pub recast_mapped : {A B C D : Type 0} (write : B → Writing D) (wrap_value : A → B) (write_inside : A → Writing C) (wrap : C → D) (r : Reading A) → ((x : A) → write (wrap_value x) ≡ result_map wrap (write_inside x))
    → recast_by write (result_map wrap_value r) ≡ option_map wrap (recast_by write_inside r)
recast_mapped write wrap_value write_inside wrap (Err e) is = refl
recast_mapped write wrap_value write_inside wrap (Ok x) is = ap of_writing (is x) ∙ mapped wrap (write_inside x)

container_made : {A : Type 0} (bytes : A → Bytes) (wrap : A → Tree) (k : ElementType) (o : Option A) (old begun filled ended : Bytes) → ((x : A) → (kind (wrap x) ≡ k) × (enclosed (bytes x) ≡ enc (wrap x)))
    → ((b : Bytes) → filled ≡ begun ++ b → ended ≡ old ++ enclosed b) → ArePut bytes o begun filled → IsPut (option_map wrap o) old ended k
container_made bytes wrap k None old begun filled ended is wraps h = absurd h
container_made bytes wrap k (Some x) old begun filled ended is wraps h = ((is x).0, wraps (bytes x) h ∙ ap (λ b. old ++ b) (is x).1)

-- a container of a kind that was closed behind what is in it
container_put : {A : Type 0} (bytes : A → Bytes) (wrap : A → Tree) (k : ElementType) (s : Form) (o : Option A) (levels m : ℕ) (b old begun filled ended : Bytes) → ((x : A) → (kind (wrap x) ≡ k) × (enclosed (bytes x) ≡ enc (wrap x)))
    → recast_node s (suc m) (inner_node (suc m) k b) ≡ option_map wrap o → levels ≡ suc m → ((b : Bytes) → filled ≡ begun ++ b → ended ≡ old ++ enclosed b) → ArePut bytes o begun filled
    → IsPut (recast_node s levels (inner_node levels k b)) old ended k
container_put bytes wrap k s o levels m b old begun filled ended is node_is e wraps h =
    subst (λ n. IsPut (recast_node s n (inner_node n k b)) old ended k) (sym e)
    (subst (λ (p : Option Tree). IsPut p old ended k) (sym node_is) (container_made bytes wrap k o old begun filled ended is wraps h))

-- ---- arrays

-- an array that was closed behind these elements
pub elements_put : (s : Form) (o : Option Trees) (levels m : ℕ) (b old begun filled ended : Bytes) → recast_node s (suc m) (inner_node (suc m) kinds.Array b) ≡ option_map tree.array o → levels ≡ suc m
    → ((b : Bytes) → filled ≡ begun ++ b → ended ≡ old ++ enclosed b) → AreItemsPut o 0 begun filled → IsPut (recast_node s levels (inner_node levels kinds.Array b)) old ended kinds.Array
elements_put s o levels m b old begun filled ended is e wraps h = container_put (array_elements 0) tree.array kinds.Array s o levels m b old begun filled ended (λ ts. (refl, refl)) is e wraps h

pub array_put : (s : Form) (levels m : ℕ) (b old begun filled ended : Bytes) → levels ≡ suc m → ((b : Bytes) → filled ≡ begun ++ b → ended ≡ old ++ enclosed b) → AreItemsPut (recast_items s m 0 (nodes_with (node_in m) (walk b))) 0 begun filled
    → IsPut (recast_node (sequence s) levels (inner_node levels kinds.Array b)) old ended kinds.Array
array_put s levels m b old begun filled ended e wraps h =
    let ns = nodes_with (node_in m) (walk b) in
    elements_put (sequence s) (recast_items s m 0 ns) levels m b old begun filled ended
    (recast_mapped (λ v. spell (contents v) (suc m)) value.sequence (λ vs. spell_items 0 (item_contents vs) m) tree.array (reads_items (reads s) 0 ns) (λ vs. refl)) e wraps h

-- ---- structs

-- a document that was closed behind these elements
pub pairs_put : (s : Form) (o : Option Pairs) (levels m : ℕ) (b old begun filled ended : Bytes) → recast_node s (suc m) (inner_node (suc m) kinds.EmbeddedDocument b) ≡ option_map tree.document o → levels ≡ suc m
    → ((b : Bytes) → filled ≡ begun ++ b → ended ≡ old ++ enclosed b) → ArePairsPut o begun filled → IsPut (recast_node s levels (inner_node levels kinds.EmbeddedDocument b)) old ended kinds.EmbeddedDocument
pairs_put s o levels m b old begun filled ended is e wraps h = container_put elements tree.document kinds.EmbeddedDocument s o levels m b old begun filled ended (λ ps. (refl, refl)) is e wraps h

pub struct_put : (u : UnknownFields) (name : Utf8) (fs : Fields) (levels m : ℕ) (b old begun filled ended : Bytes) → reserved_kind name ≡ None → levels ≡ suc m → ((b : Bytes) → filled ≡ begun ++ b → ended ≡ old ++ enclosed b)
    → ArePairsPut (recast_fields u (slots_of fs) m (nodes_with (node_in m) (walk b))) begun filled → IsPut (recast_node (structure u name fs) levels (inner_node levels kinds.EmbeddedDocument b)) old ended kinds.EmbeddedDocument
struct_put u name fs levels m b old begun filled ended free e wraps h =
    let ns = nodes_with (node_in m) (walk b) in
    pairs_put (structure u name fs) (recast_fields u (slots_of fs) m ns) levels m b old begun filled ended
    (recast_mapped (λ v. spell (contents v) (suc m)) (value.structure (made name)) (λ vs. spell_fields (field_contents vs) m) tree.document (fill u ns (slots_of fs) >>= finish) (λ vs. rw free refl)) e wraps h

-- ---- documents and arrays that are closed

pub array_node : (levels m : ℕ) (b : Bytes) → levels ≡ suc m → is_closed b ≡ true → node_in levels kinds.Array b ≡ inner_node levels kinds.Array b
array_node levels m b e closed = subst (λ n. node_in n kinds.Array b ≡ inner_node n kinds.Array b) (sym e) (rw closed refl)

pub document_node : (levels m : ℕ) (b : Bytes) → levels ≡ suc m → is_closed b ≡ true → node_in levels kinds.EmbeddedDocument b ≡ inner_node levels kinds.EmbeddedDocument b
document_node levels m b e closed = subst (λ n. node_in n kinds.EmbeddedDocument b ≡ inner_node n kinds.EmbeddedDocument b) (sym e) (rw closed refl)

-- the bytes of a document or an array are what is in them, closed
pub frame_wraps : (b : Bytes) → enclosed (inside b) ≡ b → (e : Bytes) → inside b ≡ [] ++ e → b ≡ [] ++ enclosed e
frame_wraps b frame e is = sym frame ∙ ap enclosed is

pub array_kept : (s : Form) (levels m : ℕ) (b : Bytes) → levels ≡ suc m → is_closed b ≡ true → enclosed (inside b) ≡ b → AreItemsPut (recast_items s m 0 (nodes_with (node_in m) (walk b))) 0 [] (inside b)
    → IsPut (recast_node (sequence s) levels (node_in levels kinds.Array b)) [] b kinds.Array
array_kept s levels m b e closed frame h =
    subst (λ n. IsPut (recast_node (sequence s) levels n) [] b kinds.Array) (sym (array_node levels m b e closed)) (array_put s levels m b [] [] (inside b) b e (frame_wraps b frame) h)

pub struct_kept : (u : UnknownFields) (name : Utf8) (fs : Fields) (levels m : ℕ) (b : Bytes) → reserved_kind name ≡ None → levels ≡ suc m → is_closed b ≡ true → enclosed (inside b) ≡ b
    → ArePairsPut (recast_fields u (slots_of fs) m (nodes_with (node_in m) (walk b))) [] (inside b) → IsPut (recast_node (structure u name fs) levels (node_in levels kinds.EmbeddedDocument b)) [] b kinds.EmbeddedDocument
struct_kept u name fs levels m b free e closed frame h =
    subst (λ n. IsPut (recast_node (structure u name fs) levels n) [] b kinds.EmbeddedDocument) (sym (document_node levels m b e closed)) (struct_put u name fs levels m b [] [] (inside b) b free e (frame_wraps b frame) h)
