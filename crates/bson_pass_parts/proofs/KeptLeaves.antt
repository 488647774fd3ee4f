-- Values that are written at a leaf as they were read.
use Rattle.std.proofs.Common.{◌≡◌, ℕ, ℤ, pos, negsuc, w32, w64, FitsSigned, ◌<◌, ◌≤◌, ◌^◌, [], ◌∷◌, ◌++◌, length, drop, drop-cons, get_or, true, false, cond, Ok, Err, refl, ap, sym, subst, ◌∙◌, arith}
use Rattle.std.proofs.lemmas.Int.{ints}
use Rattle.std.proofs.lemmas.List.{length-drop, take-append-drop}
use Rattle.bson_base.specs.Sound.{IsClean}
use Rattle.bson_kinds.specs.Text.{AreBytes, Bytes}
use Rattle.bson_base.specs.Tree as tree
use Rattle.bson_base.specs.Tree.{Tree, kind, enc, depth}
use Rattle.bson_kinds.specs.declared.element_type.ElementType.{ElementType}
use Rattle.bson_kinds.specs.declared.element_type.ElementType.TheVariants as kinds
use Rattle.bson_rawdoc.specs.Node.{from_input, node_in, tree_node}
use Rattle.bson_rawdoc.specs.Numbers.{int32_in, int64_in, uint32_in}
use Rattle.bson_kinds.specs.Piece.{borrowed, made}
use Rattle.bson_shape.specs.Form.{Form, leaf}
use Rattle.bson_shape.specs.declared.leaf.Leaf.{Leaf}
use Rattle.bson_shape.specs.declared.leaf.Leaf.TheVariants as leaves
use Rattle.bson_values.specs.Marked.{Marked, contents}
use Rattle.bson_values.specs.Refusal.{here, unsigned_exceeds}
use Rattle.bson_values.specs.Value as value
use Rattle.bson_values.specs.Value.{str, i32, i64, in_range}
use Rattle.bson_values.specs.Cause.{out_of_range}
use Rattle.bson_laws.specs.Datum.{datum, sorted_tree, uuid_datum}
use Rattle.bson_laws.specs.Judged.{refused}
use Rattle.bson_laws.specs.CompactReads.{reads}
use Rattle.bson_laws.specs.Spell.{spell}
use Rattle.bson_laws.proofs.Coded.{IsCoded, clean_coded}
use Rattle.bson_laws.proofs.Codec.{seen_again}
use Rattle.bson_laws.proofs.DatumContents.{datum_contents}
use Rattle.bson_laws.proofs.DatumSpelled.{datum_spelled}
use Rattle.bson_laws.proofs.Keys.{dropped}
use Rattle.bson_laws.proofs.TameBytes.{int32_fits, int64_fits}
use Rattle.bson_laws.proofs.Writable.{wide_small}
use Rattle.bson_itself.specs.Encoded.{IsTextValue, IsTrueOrFalse}
use Rattle.bson_itself.specs.Kept.{IsWrittenAsRead}
use Rattle.bson_itself.proofs.Parts.{int32_bytes, int64_bytes, front_is}
use Rattle.bson_pass_parts.specs.Run.{IsKept, IsUuid}
use Rattle.bson_pass_parts.proofs.Copies.{kept_put}

-- ---- leaves

-- a tree that is read at the shape as a value that is written as the tree
tree_kept : (s : Form) (levels : ℕ) (t : Tree) (v : Marked) (b : Bytes) → IsCoded t → length b < 2 ^ 31 → enc t ≡ b → reads s (tree_node from_input t levels) ≡ Ok v → spell (contents v) levels ≡ Ok t → IsWrittenAsRead s levels (kind t) b
tree_kept s levels t v b coded small is read spelled =
    let short : length (enc t) < 2 ^ 31 = subst (λ (x : Bytes). length x < 2 ^ 31) (sym is) small in
    record {
      given = v;
      tree = t;
      read = ap (λ x. reads s (node_in levels (kind t) x)) (sym is) ∙ ap (reads s) (seen_again levels t coded short) ∙ read;
      spelled = spelled;
      kind_is = refl;
      encoded = is;
    }

-- the same for the data of a tree
datum_kept : (s : Form) (levels : ℕ) (t : Tree) (b : Bytes) → IsClean t → depth t ≤ levels → sorted_tree t ≡ t → length b < 2 ^ 31 → enc t ≡ b → reads s (tree_node from_input t levels) ≡ Ok (datum made t) → IsWrittenAsRead s levels (kind t) b
datum_kept s levels t b clean deep same small is read =
    tree_kept s levels t (datum made t) b (clean_coded t clean) small is read (ap (λ d. spell d levels) (datum_contents t) ∙ datum_spelled false t levels clean deep ∙ ap Ok same)

in_i32 : (n : ℤ) → FitsSigned w32 n → in_range i32 n ≡ true
in_i32 (pos n) h = grind (arith, ints, h)
in_i32 (negsuc n) h = grind (arith, ints, h)

in_i64 : (n : ℤ) → FitsSigned w64 n → in_range i64 n ≡ true
in_i64 (pos n) h = grind (arith, ints, h)
in_i64 (negsuc n) h = grind (arith, ints, h)

pub text_kept : (levels : ℕ) (b : Bytes) → IsTextValue b → length b < 2 ^ 31 → IsWrittenAsRead (leaf leaves.Str) levels kinds.String b
text_kept levels b t small = tree_kept (leaf leaves.Str) levels (tree.string t.0) (str (borrowed t.0)) b t.1 small t.2 (rw t.1 refl) refl

pub string_kept : (levels : ℕ) (b : Bytes) → IsTextValue b → length b < 2 ^ 31 → IsWrittenAsRead (leaf leaves.String) levels kinds.String b
string_kept levels b t small = tree_kept (leaf leaves.String) levels (tree.string t.0) (str (made t.0)) b t.1 small t.2 (rw t.1 refl) refl

pub boolean_kept : (levels : ℕ) (b : Bytes) → IsTrueOrFalse b → length b < 2 ^ 31 → IsWrittenAsRead (leaf leaves.Bool) levels kinds.Boolean b
boolean_kept levels b t small = tree_kept (leaf leaves.Bool) levels (tree.boolean t.0) (value.boolean t.0) b tt small t.1 refl refl

pub double_kept : (levels : ℕ) (b : Bytes) → length b ≡ 8 → IsWrittenAsRead (leaf leaves.Double) levels kinds.Double b
double_kept levels b eight = tree_kept (leaf leaves.Double) levels (tree.double b) (value.double b) b eight (omega (arith, eight)) refl refl refl

pub int32_kept : (levels : ℕ) (b : Bytes) → AreBytes b → length b ≡ 4 → IsWrittenAsRead (leaf leaves.I32) levels kinds.Int32 b
int32_kept levels b all four =
    let n = int32_in b in
    tree_kept (leaf leaves.I32) levels (tree.int32 n) (value.integer i32 n) b (int32_fits b) (omega (arith, four)) (int32_bytes b all four) (ap (λ c. cond c (Ok (value.integer i32 n)) (refused (out_of_range n))) (in_i32 n (int32_fits b))) refl

pub int64_kept : (levels : ℕ) (b : Bytes) → AreBytes b → length b ≡ 8 → IsWrittenAsRead (leaf leaves.I64) levels kinds.Int64 b
int64_kept levels b all eight =
    let n = int64_in b in
    tree_kept (leaf leaves.I64) levels (tree.int64 n) (value.integer i64 n) b (int64_fits b) (omega (arith, eight)) (int64_bytes b all eight) (ap (λ c. cond c (Ok (value.integer i64 n)) (refused (out_of_range n))) (in_i64 n (int64_fits b)))
    (ap (λ c. cond c (Err (here (unsigned_exceeds n))) (Ok (tree.int64 n))) (wide_small n (int64_fits b)))

pub id_kept : (levels : ℕ) (b : Bytes) → AreBytes b → length b ≡ 12 → IsWrittenAsRead (leaf leaves.ObjectId) levels kinds.ObjectId b
id_kept levels b all twelve = datum_kept (leaf leaves.ObjectId) levels (tree.object_id b) b (record { count = twelve; are_bytes = all }) (omega arith) refl (omega (arith, twelve)) refl refl

pub date_kept : (levels : ℕ) (b : Bytes) → AreBytes b → length b ≡ 8 → IsWrittenAsRead (leaf leaves.DateTime) levels kinds.DateTime b
date_kept levels b all eight = datum_kept (leaf leaves.DateTime) levels (tree.date_time (int64_in b)) b (int64_fits b) (omega arith) refl (omega (arith, eight)) (int64_bytes b all eight) refl

pub decimal_kept : (levels : ℕ) (b : Bytes) → AreBytes b → length b ≡ 16 → IsWrittenAsRead (leaf leaves.Decimal128) levels kinds.Decimal128 b
decimal_kept levels b all sixteen = datum_kept (leaf leaves.Decimal128) levels (tree.decimal128 b) b (record { count = sixteen; are_bytes = all }) (omega arith) refl (omega (arith, sixteen)) refl refl

-- a binary of sixteen bytes and subtype 4
pub uuid_kept : (levels : ℕ) (b : Bytes) → IsUuid b → length b ≡ 21 → IsWrittenAsRead (leaf leaves.Uuid) levels kinds.Binary b
uuid_kept levels b h size =
    tree_kept (leaf leaves.Uuid) levels (tree.binary 4 h.0) (uuid_datum made h.0) b (clean_coded (tree.binary 4 h.0) (record { is_byte = omega arith; are_bytes = h.1.are_bytes; fits = omega (arith, h.1.count) })) (omega (arith, size)) h.2 (rw h.1.count refl)
    (rw h.1.count refl)

binary_parts : (b : Bytes) (subtype : ℕ) → length (drop 5 b) ≡ uint32_in b → AreBytes b → 5 ≤ length b → get_or b 4 0 ≡ subtype → tree.after_length subtype (drop 5 b) ≡ b
binary_parts b subtype count bytes many is =
    (λ i. tree.le32 (count i) ++ (sym is i ∷ drop 5 b))
    ∙ (λ i. sym (front_is b bytes (omega arith)) i ++ sym (drop-cons b 4 0 many) i)
    ∙ take-append-drop 4 b

-- the bytes of such a binary
pub uuid_is : (b : Bytes) → AreBytes b → length b ≡ 21 → uint32_in b ≡ 16 → get_or b 4 0 ≡ 4 → IsUuid b
uuid_is b bytes size count subtype =
    let sixteen : length (drop 5 b) ≡ 16 = omega (arith, length-drop 5 b, size) in
    (drop 5 b, record { are_bytes = dropped 5 b bytes; count = sixteen }, binary_parts b 4 (sixteen ∙ sym count) bytes (omega (arith, size)) subtype)

-- what is written as it was read is kept
pub kept_as_read : (l : Leaf) (levels : ℕ) (k : ElementType) (b : Bytes) → IsWrittenAsRead (leaf l) levels k b → IsKept (leaf l) levels k b
kept_as_read l levels k b h = kept_put l levels k b [] b h refl
