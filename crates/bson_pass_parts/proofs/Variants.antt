-- Documents at enums: the variant that the first key names, and its contents.
use Rattle.std.proofs.Common.{◌≡◌, ℕ, zero, suc, ◌<◌, ◌≤◌, List, [], ◌∷◌, ◌++◌, length, get_or, drop, true, false, Option, Some, None, Result, Ok, Err, refl, ap, sym, subst, ◌∙◌, string_bytes, arith}
use Rattle.std.specs.Prelude.{IfSome}
use Rattle.std.specs.Option.{option_map}
use Rattle.std.specs.Str.{bytes_eq}
use Rattle.std.proofs.lemmas.List.{append-nil, take_all}
use Rattle.bson_kinds.specs.Outcome.{◌>>=◌, result_map}
use Rattle.bson_kinds.specs.Text.{Bytes, Utf8, has_zero}
use Rattle.bson_base.specs.Tree as tree
use Rattle.bson_base.specs.Tree.{Tree, no_pairs, pair, enc, kind, element, enclosed}
use Rattle.bson_kinds.specs.declared.element_type.ElementType.{ElementType}
use Rattle.bson_kinds.specs.declared.element_type.ElementType.TheVariants as kinds
use Rattle.bson_rawdoc.specs.Envelope.{inside, is_closed}
use Rattle.bson_rawdoc.specs.Node as node
use Rattle.bson_rawdoc.specs.Node.{Whole, of_bytes, Node, Nodes, then_node, inner_node, node_in, nodes_with}
use Rattle.bson_kinds.specs.Piece.{borrowed, made}
use Rattle.bson_rawdoc.specs.Walk.{walk, walk_elements}
use Rattle.bson_shape.specs.Form.{dropped, enumeration, Variants, Content, unit_content, newtype_content, tuple_content, struct_content}
use Rattle.bson_shape.specs.Makers.{has_name, has_repeat, variant_names, AreVariants, IsContent}
use Rattle.bson_shape.specs.ShapeView.{variants_of, content_of, variants_nodes, content_nodes}
use Rattle.bson_shape.specs.declared.shape.VariantShape.{VariantShape}
use Rattle.bson_values.specs.Marked.{Marked, contents}
use Rattle.bson_values.specs.Refusal.{under}
use Rattle.bson_values.specs.Value as value
use Rattle.bson_laws.specs.Judged.{Reading, judged}
use Rattle.bson_laws.specs.Reads as at_settled
use Rattle.bson_laws.specs.Settled.{settled_variants, settled_content}
use Rattle.bson_laws.specs.Scopes.{laid_variants, laid_content}
use Rattle.bson_laws.specs.declared.origin.Reader.{Reader}
use Rattle.bson_laws.specs.Slots.{read_structure}
use Rattle.bson_laws.specs.Spell.{Writing, spell, named, variant_at}
use Rattle.bson_laws.specs.Taken.{array_of}
use Rattle.bson_pass_parts.specs.ReadsUnrolled.{reads, reads_parts, slots_of}
use Rattle.bson_pass_parts.specs.Put.{of_writing, recast_by, recast_node, recast_for, recast_content, IsPut, IsElementPut, AreInsidePut}
use Rattle.bson_pass_parts.specs.Run.{NamesVariant, element_of, size}
use Rattle.bson_pass_parts.proofs.Containers.{pairs_put, document_node, frame_wraps}
use Rattle.bson_pass_parts.proofs.KnownNames.{bytes_same}
use Rattle.bson_pass_parts.proofs.Places.{or_false}
use Rattle.bson_pass_parts.proofs.Runs.{kept_element}

-- the name of a variant
abbrev pub variant_name : VariantShape → Utf8
variant_name v = string_bytes v.name

-- a value at the variant that its key names, and at the contents of a variant
abbrev reads_variant : Variants → Utf8 → Node → Reading Marked
reads_variant vs = at_settled.reads_variant (settled_variants false vs)

abbrev reads_content : Utf8 → Content → Node → Reading Marked
reads_content name c = at_settled.reads_content name (settled_content false c)

-- ---- the variant of a name

-- a name that no variant has is that of none of them
other_name : (vs : List VariantShape) (i : ℕ) (v : VariantShape) (name : Utf8) → i < length vs → v ≡ get_or vs i v → has_name name (variant_names (variants_of vs)) ≡ false → bytes_eq name (variant_name v) ≡ false
other_name [] i v name lt got h = absurd (omega arith)
other_name (w ∷ vs) zero v name lt got h = ap (λ u. bytes_eq name (variant_name u)) got ∙ (or_false (bytes_eq name (variant_name w)) (has_name name (variant_names (variants_of vs))) h).0
other_name (w ∷ vs) (suc i) v name lt got h = other_name vs i v name (omega arith) got (or_false (bytes_eq name (variant_name w)) (has_name name (variant_names (variants_of vs))) h).1

-- where the names are different, a value under the name of a variant is read as its contents
variant_read : (reader : Reader) (vs : List VariantShape) (i : ℕ) (v : VariantShape) (n : Node) → i < length vs → v ≡ get_or vs i v → has_repeat (variant_names (variants_of vs)) ≡ false
    → reads_variant (laid_variants reader (variants_of vs)) (variant_name v) n ≡ reads_content (variant_name v) (laid_content reader (content_of v.content)) n
variant_read reader [] i v n lt got distinct = absurd (omega arith)
variant_read reader (w ∷ vs) zero v n lt got distinct =
    subst (λ u. reads_variant (laid_variants reader (variants_of (w ∷ vs))) (variant_name u) n ≡ reads_content (variant_name u) (laid_content reader (content_of u.content)) n) (sym got) (rw (bytes_same (variant_name w) (variant_name w) refl) refl)
variant_read reader (w ∷ vs) (suc i) v n lt got distinct =
    let parts = or_false (has_name (variant_name w) (variant_names (variants_of vs))) (has_repeat (variant_names (variants_of vs))) distinct in
    rw (other_name vs i v (variant_name w) (omega arith) got parts.0) (variant_read reader vs i v n (omega arith) got parts.1)

-- the contents of each variant are as its maker asks
content_at : (vs : List VariantShape) (i : ℕ) (v : VariantShape) → i < length vs → v ≡ get_or vs i v → AreVariants (variants_of vs) → IsContent (content_of v.content)
content_at [] i v lt got shapes = absurd (omega arith)
content_at (w ∷ vs) zero v lt got shapes = subst (λ (u : VariantShape). IsContent (content_of u.content)) (sym got) shapes.1
content_at (w ∷ vs) (suc i) v lt got shapes = content_at vs i v (omega arith) got shapes.2

pub named_content : (vs : List VariantShape) (v : VariantShape) (bytes : Bytes) (k : ElementType) (b : Bytes) → NamesVariant vs bytes v k b → AreVariants (variants_of vs) → IsContent (content_of v.content)
named_content vs v bytes k b names shapes = content_at vs names.place v names.within names.there shapes

-- and have fewer nodes than the variants
variant_fewer : (reader : Reader) (vs : List VariantShape) (i : ℕ) (v : VariantShape) → i < length vs → v ≡ get_or vs i v → content_nodes (laid_content reader (content_of v.content)) < variants_nodes (laid_variants reader (variants_of vs))
variant_fewer reader [] i v lt got = absurd (omega arith)
variant_fewer reader (w ∷ vs) zero v lt got = omega (arith, ap (λ (u : VariantShape). content_nodes (laid_content reader (content_of u.content))) got)
variant_fewer reader (w ∷ vs) (suc i) v lt got = omega (arith, variant_fewer reader vs i v (omega arith) got)

pub named_smaller : (reader : Reader) (vs : List VariantShape) (v : VariantShape) (bytes : Bytes) (k : ElementType) (b : Bytes) → NamesVariant vs bytes v k b
    → content_nodes (laid_content reader (content_of v.content)) < variants_nodes (laid_variants reader (variants_of vs))
named_smaller reader vs v bytes k b names = variant_fewer reader vs names.place v names.within names.there

-- ---- contents

-- a document of one pair
abbrev pair_of : Utf8 → Tree → Tree
pair_of name t = tree.document (pair name t no_pairs)

pair_written : (name : Utf8) (w : Writing Tree) → has_zero name ≡ false → of_writing (result_map tree.document (named name w >>= λ t. Ok (pair name t no_pairs))) ≡ option_map (pair_of name) (of_writing w)
pair_written name (Err e) closed = rw closed refl
pair_written name (Ok t) closed = rw closed refl

-- something that is read is written as a variant of this name with what it is written as
variant_by : {A : Type 0} (name : Utf8) (m : ℕ) (wrap : A → Marked) (write : A → Writing Tree) (r : Reading A) → ((x : A) → spell (contents (wrap x)) (suc m) ≡ variant_at name (suc m) (λ inside. write x)) → has_zero name ≡ false
    → recast_by (λ v. spell (contents v) (suc m)) (under name (result_map wrap r)) ≡ option_map (pair_of name) (recast_by write r)
variant_by name m wrap write (Err e) is closed = refl
variant_by name m wrap write (Ok x) is closed = ap of_writing (is x) ∙ pair_written name (write x) closed

mapped_inside : {A B C E : Type 0} (f : B → C) (r : Result A E) (g : A → Result B E) → (r >>= λ x. result_map f (g x)) ≡ result_map f (r >>= g)
mapped_inside f (Ok x) g = refl
mapped_inside f (Err e) g = refl

written_inside : {A : Type 0} (write : Marked → Writing Tree) (wrap : A → Marked) (r : Reading A) → recast_by write (result_map wrap r) ≡ recast_by (λ x. write (wrap x)) r
written_inside write wrap (Ok x) = refl
written_inside write wrap (Err e) = refl

-- the same for what is read inside a value, where it is written as a value without the name
inside_by : {A B : Type 0} (name : Utf8) (m : ℕ) (wrap bare : B → Marked) (r : Reading A) (g : A → Reading B) → ((x : B) → spell (contents (wrap x)) (suc m) ≡ variant_at name (suc m) (λ inside. spell (contents (bare x)) m)) → has_zero name ≡ false
    → recast_by (λ v. spell (contents v) (suc m)) (under name (r >>= λ x. result_map wrap (g x))) ≡ option_map (pair_of name) (recast_by (λ v. spell (contents v) m) (r >>= λ x. result_map bare (g x)))
inside_by name m wrap bare r g is closed =
    ap (λ q. recast_by (λ v. spell (contents v) (suc m)) (under name q)) (mapped_inside wrap r g)
    ∙ variant_by name m wrap (λ x. spell (contents (bare x)) m) (r >>= g) is closed
    ∙ ap (option_map (pair_of name)) (sym (ap (recast_by (λ v. spell (contents v) m)) (mapped_inside bare r g) ∙ written_inside (λ v. spell (contents v) m) bare (r >>= g)))

-- the contents of a variant are written under its name
content_written : (name : Utf8) (c : Content) (m : ℕ) (n : Node) → has_zero name ≡ false → recast_by (λ v. spell (contents v) (suc m)) (reads_content name c n) ≡ option_map (pair_of name) (recast_content c m n)
content_written name unit_content m n closed = refl
content_written name (newtype_content s) m n closed = variant_by name m (value.newtype_variant (made name)) (λ v. spell (contents v) m) (reads s n) (λ x. refl) closed
content_written name (tuple_content ps) m n closed = inside_by name m (value.tuple_variant (made name)) value.tuple (judged n >>= array_of) (reads_parts ps 0) (λ x. refl) closed
content_written name (struct_content fs) m n closed = inside_by name m (value.structure_variant (made name)) (value.structure (made [])) (judged n) (read_structure dropped (slots_of fs)) (λ x. refl) closed

-- ---- the whole document

-- a document whose first key names a variant
first_written : (reader : Reader) (vs : List VariantShape) (i : ℕ) (v : VariantShape) (m : ℕ) (slice : Whole) (n : Node) (ns : Nodes) → i < length vs → v ≡ get_or vs i v → has_repeat (variant_names (variants_of vs)) ≡ false → has_zero (variant_name v) ≡ false
    → recast_for reader (enumeration (variants_of vs)) (suc m) (node.document slice (then_node (borrowed (variant_name v)) n ns)) ≡ option_map (pair_of (variant_name v)) (recast_content (laid_content reader (content_of v.content)) m n)
first_written reader vs i v m slice n ns lt got distinct closed =
    ap (recast_by (λ v. spell (contents v) (suc m))) (variant_read reader vs i v n lt got distinct) ∙ content_written (variant_name v) (laid_content reader (content_of v.content)) m n closed

-- the element whose key names a variant was put
pair_put : (reader : Reader) (vs : List VariantShape) (v : VariantShape) (levels : ℕ) (bytes : Bytes) (k : ElementType) (b old new : Bytes) → NamesVariant vs bytes v k b → has_repeat (variant_names (variants_of vs)) ≡ false
    → IsElementPut (recast_content (laid_content reader (content_of v.content)) levels (node_in levels k b)) (variant_name v) old new → AreInsidePut (enumeration (laid_variants reader (variants_of vs))) levels (nodes_with (node_in levels) (walk_elements bytes)) old new
pair_put reader vs v levels bytes k b old new names distinct put = by_tree (recast_content (laid_content reader (content_of v.content)) levels (node_in levels k b)) refl put where
  by_tree : (o : Option Tree) → recast_content (laid_content reader (content_of v.content)) levels (node_in levels k b) ≡ o → IsElementPut o (variant_name v) old new
      → AreInsidePut (enumeration (laid_variants reader (variants_of vs))) levels (nodes_with (node_in levels) (walk_elements bytes)) old new
  by_tree None is h = absurd h
  by_tree (Some t) is h = (
    pair (variant_name v) t no_pairs,
    λ slice. ap (λ w. recast_for reader (enumeration (variants_of vs)) (suc levels) (node.document slice (nodes_with (node_in levels) w))) names.head.behind
        ∙ first_written reader vs names.place v levels slice (node_in levels k b) (nodes_with (node_in levels) (walk_elements (drop (size (element_of k (variant_name v) b)) bytes))) names.within names.there distinct names.head.closed
        ∙ ap (option_map (pair_of (variant_name v))) is,
    h ∙ ap (λ (x : Bytes). old ++ x) (sym (append-nil (element (kind t) (variant_name v) (enc t)))),
  )

-- the same, where it was put
pub if_pair_put : {A : Type 0} (reader : Reader) (r : Option A) (vs : List VariantShape) (v : VariantShape) (levels : ℕ) (bytes : Bytes) (k : ElementType) (name b old new : Bytes) → name ≡ variant_name v → NamesVariant vs bytes v k b
    → has_repeat (variant_names (variants_of vs)) ≡ false → IfSome r (λ _. IsElementPut (recast_content (laid_content reader (content_of v.content)) levels (node_in levels k b)) name old new)
    → IfSome r (λ _. AreInsidePut (enumeration (laid_variants reader (variants_of vs))) levels (nodes_with (node_in levels) (walk_elements bytes)) old new)
if_pair_put reader None vs v levels bytes k name b old new same names distinct put = tt
if_pair_put reader (Some x) vs v levels bytes k name b old new same names distinct put =
    pair_put reader vs v levels bytes k b old new names distinct (subst (λ n. IsElementPut (recast_content (laid_content reader (content_of v.content)) levels (node_in levels k b)) n old new) same put)

-- a document that was closed behind this pair
pub enum_put : (vs : Variants) (levels m : ℕ) (b old begun filled ended : Bytes) → levels ≡ suc m → ((b : Bytes) → filled ≡ begun ++ b → ended ≡ old ++ enclosed b) → AreInsidePut (enumeration vs) m (nodes_with (node_in m) (walk b)) begun filled
    → IsPut (recast_node (enumeration vs) levels (inner_node levels kinds.EmbeddedDocument b)) old ended kinds.EmbeddedDocument
enum_put vs levels m b old begun filled ended e wraps h = pairs_put (enumeration vs) (Some h.0) levels m b old begun filled ended (h.1 (of_bytes b)) e wraps h.2

-- ---- what is kept

-- a document whose one pair is kept
pub pair_kept : (reader : Reader) (vs : List VariantShape) (v : VariantShape) (levels : ℕ) (bytes : Bytes) (k : ElementType) (b : Bytes) → NamesVariant vs bytes v k b → has_repeat (variant_names (variants_of vs)) ≡ false
    → length bytes ≤ size (element_of k (variant_name v) b) → IsPut (recast_content (laid_content reader (content_of v.content)) levels (node_in levels k b)) [] b k → AreInsidePut (enumeration (laid_variants reader (variants_of vs))) levels (nodes_with (node_in levels) (walk_elements bytes)) [] bytes
pair_kept reader vs v levels bytes k b names distinct all kept =
    let whole : bytes ≡ element k (variant_name v) b = sym (take_all (size (element_of k (variant_name v) b)) bytes all) ∙ names.head.is in
    pair_put reader vs v levels bytes k b [] bytes names distinct (kept_element (recast_content (laid_content reader (content_of v.content)) levels (node_in levels k b)) (variant_name v) b [] bytes k kept whole)

pub enum_kept : (vs : Variants) (levels m : ℕ) (b : Bytes) → levels ≡ suc m → is_closed b ≡ true → enclosed (inside b) ≡ b → AreInsidePut (enumeration vs) m (nodes_with (node_in m) (walk b)) [] (inside b)
    → IsPut (recast_node (enumeration vs) levels (node_in levels kinds.EmbeddedDocument b)) [] b kinds.EmbeddedDocument
enum_kept vs levels m b e closed frame h =
    subst (λ n. IsPut (recast_node (enumeration vs) levels n) [] b kinds.EmbeddedDocument) (sym (document_node levels m b e closed)) (enum_put vs levels m b [] [] (inside b) b e (frame_wraps b frame) h)
