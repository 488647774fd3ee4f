-- Values at leaves.
use Rattle.std.proofs.Common.{◌≡◌, ℕ, ℤ, zero, suc, w64, FitsSigned, ◌≤◌, ◌<◌, ◌^◌, ◌++◌, false, true, Option, Some, None, Ok, refl, ap, sym, subst, ◌∙◌, arith}
use Rattle.std.specs.Prelude.{IfSome}
use Rattle.std.specs.Int.{cast_unsigned}
use Rattle.std.specs.Str.{is_utf8}
use Rattle.bson_base.specs.Sound.{IsClean, HasBytes, IsBinary}
use Rattle.bson_kinds.specs.Text.{Bytes, Utf8}
use Rattle.bson_base.specs.Tree as tree
use Rattle.bson_base.specs.Tree.{Tree, depth}
use Rattle.bson_kinds.specs.declared.element_type.ElementType.{ElementType}
use Rattle.bson_kinds.specs.declared.element_type.ElementType.TheVariants as kinds
use Rattle.bson_rawdoc.specs.Node as node
use Rattle.bson_rawdoc.specs.Node.{opens}
use Rattle.bson_rawdoc.specs.Numbers.{int32_in, int64_in}
use Rattle.bson_kinds.specs.Piece.{borrowed, made}
use Rattle.bson_shape.specs.Form.{leaf}
use Rattle.bson_shape.specs.declared.leaf.Leaf.TheVariants as leaves
use Rattle.bson_values.specs.Marked.{contents}
use Rattle.bson_laws.specs.Datum.{datum, sorted_tree}
use Rattle.bson_laws.specs.Judged.{ignores}
use Rattle.bson_laws.specs.Spell.{spell}
use Rattle.bson_laws.proofs.DatumContents.{datum_contents}
use Rattle.bson_laws.proofs.DatumSpelled.{datum_spelled}
use Rattle.bson_pass_parts.specs.Put.{of_writing, recast_by, recast_node, IsPut}

-- the data of a tree are written as the tree
tree_written : (t : Tree) (levels : ℕ) → IsClean t → depth t ≤ levels → recast_by (λ v. spell (contents v) levels) (Ok (datum made t)) ≡ Some (sorted_tree t)
tree_written t levels clean deep = ap of_writing (ap (λ d. spell d levels) (datum_contents t) ∙ datum_spelled false t levels clean deep)

pub id_put : (id old new : Bytes) (levels : ℕ) → HasBytes 12 id → new ≡ old ++ id → IsPut (recast_node (leaf leaves.ObjectId) levels (opens (node.object_id (borrowed id)))) old new kinds.ObjectId
id_put id old new levels clean put = subst (λ (o : Option Tree). IsPut o old new kinds.ObjectId) (sym (tree_written (tree.object_id id) levels clean (omega arith))) (refl, put)

pub decimal_put : (bytes old new : Bytes) (levels : ℕ) → HasBytes 16 bytes → new ≡ old ++ bytes → IsPut (recast_node (leaf leaves.Decimal128) levels (opens (node.decimal128 (borrowed bytes)))) old new kinds.Decimal128
decimal_put bytes old new levels clean put = subst (λ (o : Option Tree). IsPut o old new kinds.Decimal128) (sym (tree_written (tree.decimal128 bytes) levels clean (omega arith))) (refl, put)

pub timestamp_put : (time increment : ℕ) (old new : Bytes) (levels : ℕ) → time < 2 ^ 32 → increment < 2 ^ 32 → new ≡ old ++ (tree.le32 increment ++ tree.le32 time)
    → IsPut (recast_node (leaf leaves.Timestamp) levels (opens (node.timestamp time increment))) old new kinds.Timestamp
timestamp_put time increment old new levels t i put = subst (λ (o : Option Tree). IsPut o old new kinds.Timestamp) (sym (tree_written (tree.timestamp time increment) levels (t, i) (omega arith))) (refl, put)

-- ---- binaries

-- what was put is what the node is recast as, where the bytes are as they have to be
pub if_put : {P : Type 0} (r : Option ElementType) (o : Option Tree) (t : Tree) (old new : Bytes) → (P → o ≡ Some t) → IfSome r (IsPut (Some t) old new) → IfSome r (λ _. P) → IfSome r (IsPut o old new)
if_put None o t old new reads put clean = tt
if_put (Some k) o t old new reads put clean = subst (λ p. IsPut p old new k) (sym (reads clean)) put

pub binary_read : (subtype : ℕ) (bytes : Bytes) (levels : ℕ) → IsBinary subtype bytes → recast_node (leaf leaves.Binary) levels (node.binary_node false subtype (borrowed bytes)) ≡ Some (tree.binary subtype bytes)
binary_read zero bytes levels clean = tree_written (tree.binary 0 bytes) levels clean (omega arith)
binary_read (suc n) bytes levels clean = tree_written (tree.binary (suc n) bytes) levels clean (omega arith)

-- a binary that no field takes
pub binary_passed : (subtype : ℕ) (bytes : Bytes) → ignores (node.binary_node false subtype (borrowed bytes)) ≡ Ok tt
binary_passed zero bytes = refl
binary_passed (suc n) bytes = refl

-- ---- texts

pub text_read : (t : Utf8) (levels : ℕ) → is_utf8 t ≡ true → recast_node (leaf leaves.Str) levels (node.string (borrowed t)) ≡ Some (tree.string t)
text_read t levels h = rw h refl

pub string_read : (t : Utf8) (levels : ℕ) → is_utf8 t ≡ true → recast_node (leaf leaves.String) levels (node.string (borrowed t)) ≡ Some (tree.string t)
string_read t levels h = rw h refl

pub time_put : (n : ℤ) (old new : Bytes) (levels : ℕ) → FitsSigned w64 n → new ≡ old ++ tree.le64 (cast_unsigned w64 n) → IsPut (recast_node (leaf leaves.DateTime) levels (opens (node.date_time n))) old new kinds.DateTime
time_put n old new levels clean put = subst (λ (o : Option Tree). IsPut o old new kinds.DateTime) (sym (tree_written (tree.date_time n) levels clean (omega arith))) (refl, put)

-- ---- numbers in their bytes

pub int32_node : (levels : ℕ) (b : Bytes) → node.node_in levels kinds.Int32 b ≡ node.int32 (int32_in b)
int32_node zero b = refl
int32_node (suc n) b = refl

pub int64_node : (levels : ℕ) (b : Bytes) → node.node_in levels kinds.Int64 b ≡ node.int64 (int64_in b)
int64_node zero b = refl
int64_node (suc n) b = refl
