-- Reading by example: opened values, what is borrowed, structs and enums.
use Rattle.std.proofs.Common.{◌≡◌, ℕ, pos, [], ◌∷◌, ◌++◌, Bool, true, false, Ok, Err, refl}
use Rattle.std.specs.Prelude.{codes}
use Rattle.std.specs.Str.{bytes_eq, is_utf8}
use Rattle.std.specs.Str.Lossy.{utf8_lossy}
use Rattle.bson_kinds.specs.Text.{Bytes, Utf8}
use Rattle.bson_base.specs.Tree as tree
use Rattle.bson_kinds.specs.declared.element_type.ElementType.TheVariants.{Boolean, ObjectId, EmbeddedDocument, Array, JavaScriptCodeWithScope}
use Rattle.bson_base.specs.Made.{digits}
use Rattle.bson_rawdoc.specs.Node.{of_opening, of_bytes, from_input, Node, string, document, made_document, array, bytes, boolean, null, int32, int64, broken, too_deep, Nodes, ended, faulty, then_node, mended, object_id, symbol, javascript_code_with_scope, decimal128, opens, tree_node}
use Rattle.bson_faults.specs.declared.raw.Error.{Error}
use Rattle.bson_kinds.specs.Piece.{borrowed, made}
use Rattle.bson_shape.specs.Form.{dropped, denied, Form, leaf, lossy, map, structure, enumeration, no_fields, field, unit_content, newtype_content, no_variants, variant}
use Rattle.bson_shape.specs.declared.leaf.Leaf.TheVariants.{Any, I32, Str, String, Unit, RawDocument, RawArray, RawBson}
use Rattle.bson_shape.specs.declared.leaf.Leaf.TheVariants as leaves
use Rattle.bson_values.specs.Value as value
use Rattle.bson_values.specs.Value.{i32, u8, no_entries, entry, no_field_values, field_value}
use Rattle.bson_values.specs.Cause as causes
use Rattle.bson_values.specs.Cause.{raw, invalid_type, not_borrowed, invalid_length, missing_field, duplicate_field, unknown_field, unit_in_document}
use Rattle.bson_values.specs.Refusal.{at_key, end_of_stream, here, unreadable, unwritable, invalid_document_key}
use Rattle.bson_laws.specs.ReadsRaw.{scoped_code, decimal_struct}
use Rattle.bson_laws.specs.Reads.{reads}
use Rattle.bson_laws.specs.Spell.{spell_binary, spell_as, spell, spell_key, spell_document}

abbrev oid_struct : Form → Form
oid_struct s = structure dropped (codes "T") (field (codes "$oid") s no_fields)

-- an ObjectId at a struct of its digits: they are made, and owned
at_string : (id : Bytes) → is_utf8 (digits id) ≡ true
    → reads (oid_struct (leaf String)) (opens (object_id (borrowed id))) ≡ Ok (value.structure (made (codes "T")) (field_value (made (codes "$oid")) (value.str (made (digits id))) no_field_values))
at_string id h = rw h refl

-- so they cannot be borrowed
at_str : (id : Bytes) → is_utf8 (digits id) ≡ true → reads (oid_struct (leaf Str)) (opens (object_id (borrowed id))) ≡ Err (record { path = at_key (codes "$oid") ∷ []; fault = unreadable not_borrowed })
at_str id h = rw h refl

-- a symbol without a shape: its key is made, its text is borrowed
at_any : (t : Utf8) → is_utf8 t ≡ true → reads (leaf Any) (opens (symbol (borrowed t))) ≡ Ok (value.map (entry (value.str (made (codes "$symbol"))) (value.str (borrowed t)) no_entries))
at_any t h = rw h (rw h refl)

-- a code with scope at an enum is the variant that its first key names
at_enum : (t : Utf8) → is_utf8 t ≡ true
    → reads (enumeration (variant (codes "$code") (newtype_content (leaf String)) no_variants)) (opens (javascript_code_with_scope (borrowed t) (made_document ended))) ≡ Ok (value.newtype_variant (made (codes "$code")) (value.str (made t)))
at_enum t h = rw h (rw h refl)

-- a scope where no level is left is refused where it is read, and not at a shape that takes no code with scope
scope_too_deep : (t : Utf8) → is_utf8 t ≡ true → reads (leaf Any) (tree_node from_input (tree.javascript_code_with_scope t tree.no_pairs) 0) ≡ Err (record { path = at_key (codes "$scope") ∷ []; fault = unreadable causes.too_deep })
scope_too_deep t h = rw h (rw h refl)

scope_unread : (t : Utf8) → is_utf8 t ≡ true → reads (leaf Unit) (tree_node from_input (tree.javascript_code_with_scope t tree.no_pairs) 0) ≡ Err (here (unreadable (invalid_type JavaScriptCodeWithScope)))
scope_unread t h = rw h refl

-- ---- what is borrowed

-- the bytes of an opened decimal cannot be borrowed, whether they are a text or not
decimal_at_str : (b : Bytes) → reads (structure dropped (codes "T") (field (codes "$numberDecimalBytes") (leaf Str) no_fields)) (opens (decimal128 (borrowed b))) ≡ Err (record { path = at_key (codes "$numberDecimalBytes") ∷ []; fault = unreadable not_borrowed })
decimal_at_str b = refl

-- those of a decimal at `rawbson` are borrowed, where texts are mended too
decimal_borrowed : (b : Bytes) → reads (leaf RawBson) (opens (decimal128 (borrowed b))) ≡ Ok (decimal_struct (borrowed b))
decimal_borrowed b = refl

decimal_mended : (b : Bytes) → reads (leaf RawBson) (mended (opens (decimal128 (borrowed b)))) ≡ Ok (decimal_struct (borrowed b))
decimal_mended b = refl

-- where texts are mended, a binary without a shape is owned
binary_mended : (b : Bytes) → reads (leaf Any) (mended (bytes false (borrowed b))) ≡ Ok (value.bytes (made b))
binary_mended b = refl

-- at `bytes` it is borrowed all the same, but a text is not
bytes_mended : (b : Bytes) → reads (leaf leaves.Bytes) (mended (bytes false (borrowed b))) ≡ Ok (value.bytes (borrowed b))
bytes_mended b = refl

text_mended : (t : Utf8) → is_utf8 (utf8_lossy t) ≡ true → reads (leaf leaves.Bytes) (mended (string (borrowed t))) ≡ Err (here (unreadable not_borrowed))
text_mended t h = rw h refl

-- a key is not mended, and not borrowed: the refusal is that of the map
key_mended : (k : Utf8) → reads (map (leaf Str) (leaf Any)) (mended (made_document (then_node (borrowed k) null ended))) ≡ Err (here (unreadable not_borrowed))
key_mended k = refl

-- a map reads a repeated key once, with the last value at the first place
repeated : (k : Utf8) → bytes_eq k k ≡ true → reads (map (leaf String) (leaf Any)) (made_document (then_node (borrowed k) null (then_node (borrowed k) (boolean true) ended))) ≡ Ok (value.map (entry (value.str (made k)) (value.boolean true) no_entries))
repeated k h = rw h refl

-- ---- structs

abbrev one_field : Form
one_field = structure dropped (codes "T") (field (codes "a") (leaf I32) no_fields)

-- a second element of a field is refused before its value is looked at
field_twice : (n : Node) → reads one_field (made_document (then_node (borrowed (codes "a")) (int32 (pos 5)) (then_node (borrowed (codes "a")) n ended))) ≡ Err (here (unreadable (duplicate_field (codes "a"))))
field_twice n = refl

-- a fault that ends the list comes before a field that is missing
field_missing : reads one_field (made_document ended) ≡ Err (here (unreadable (missing_field (codes "a"))))
field_missing = refl

list_faulty : (e : Error) → reads one_field (made_document (faulty e)) ≡ Err (here (unreadable (raw e)))
list_faulty e = refl

-- an element that no field takes is dropped, but a fault in it is refused at its key
other_dropped : reads one_field (made_document (then_node (borrowed (codes "b")) null (then_node (borrowed (codes "a")) (int64 (pos 5)) ended))) ≡ Ok (value.structure (made (codes "T")) (field_value (made (codes "a")) (value.integer i32 (pos 5)) no_field_values))
other_dropped = refl

other_broken : (e : Error) → reads one_field (made_document (then_node (borrowed (codes "b")) (broken Boolean e) ended)) ≡ Err (record { path = at_key (codes "b") ∷ []; fault = unreadable (raw e) })
other_broken e = refl

-- an array gives the fields by their places; what is behind the last is not looked at
by_place : (ns : Nodes) (k : Utf8) → reads one_field (array of_opening (then_node (borrowed k) (int32 (pos 5)) ns)) ≡ Ok (value.structure (made (codes "T")) (field_value (made (codes "a")) (value.integer i32 (pos 5)) no_field_values))
by_place ns k = refl

too_few : reads one_field (array of_opening ended) ≡ Err (here (unreadable (invalid_length 0)))
too_few = refl

-- a struct that denies unknown fields refuses the key of one at the document, before its value is looked at; and it takes no array
abbrev closed_field : Form
closed_field = structure denied (codes "T") (field (codes "a") (leaf I32) no_fields)

other_denied : (n : Node) (ns : Nodes) → reads closed_field (made_document (then_node (borrowed (codes "b")) n ns)) ≡ Err (here (unreadable (unknown_field (codes "b"))))
other_denied n ns = refl

closed_by_key : reads closed_field (made_document (then_node (borrowed (codes "a")) (int64 (pos 5)) ended)) ≡ Ok (value.structure (made (codes "T")) (field_value (made (codes "a")) (value.integer i32 (pos 5)) no_field_values))
closed_by_key = refl

closed_by_place : (ns : Nodes) → reads closed_field (array of_opening ns) ≡ Err (here (unreadable (invalid_type Array)))
closed_by_place ns = refl

-- ---- enums

abbrev one_unit : Form
one_unit = enumeration (variant (codes "A") unit_content no_variants)

-- a unit variant at a document is refused before its value is looked at
unit_at_document : (n : Node) → reads one_unit (made_document (then_node (borrowed (codes "A")) n ended)) ≡ Err (here (unreadable unit_in_document))
unit_at_document n = refl

enum_empty : reads one_unit (made_document ended) ≡ Err (here end_of_stream)
enum_empty = refl

-- where no level is left, an empty document is too deep first
enum_too_deep : reads one_unit (too_deep EmbeddedDocument) ≡ Err (here (unreadable causes.too_deep))
enum_too_deep = refl

-- ---- what stays in its bytes

-- a document of the input is borrowed, whatever is in it
raw_document : (b : Bytes) (e : Error) → reads (leaf RawDocument) (document (of_bytes b) (faulty e)) ≡ Ok (value.raw_document (borrowed b))
raw_document b e = refl

-- one that is made cannot be, at an array it is of another kind
made_at_document : reads (leaf RawDocument) (made_document ended) ≡ Err (here (unreadable not_borrowed))
made_at_document = refl

made_at_array : reads (leaf RawArray) (made_document ended) ≡ Err (here (unreadable (invalid_type EmbeddedDocument)))
made_at_array = refl

made_at_value : reads (leaf RawBson) (made_document ended) ≡ Err (here (unreadable not_borrowed))
made_at_value = refl

-- an extended value is no document there
id_at_document : (id : Bytes) → reads (leaf RawDocument) (opens (object_id (borrowed id))) ≡ Err (here (unreadable (invalid_type ObjectId)))
id_at_document id = refl

-- where texts are mended, a document and a byte string are borrowed all the same, and a text is owned
marked_document : (b : Bytes) (ns : Nodes) → reads (lossy (leaf RawDocument)) (document (of_bytes b) ns) ≡ Ok (value.raw_document (borrowed b))
marked_document b ns = refl

marked_bytes : (b : Bytes) → reads (lossy (leaf RawBson)) (bytes false (borrowed b)) ≡ Ok (value.bytes (borrowed b))
marked_bytes b = refl

marked_text : (t : Utf8) → is_utf8 (utf8_lossy t) ≡ true → reads (lossy (leaf RawBson)) (string (borrowed t)) ≡ Ok (value.str (made (utf8_lossy t)))
marked_text t h = rw h refl

-- the scope of a code stays in its bytes; where no level is left, it is refused
scope_kept : (t : Utf8) (b : Bytes) → is_utf8 t ≡ true → reads (leaf RawBson) (opens (javascript_code_with_scope (borrowed t) (document (of_bytes b) ended))) ≡ Ok (scoped_code (borrowed t) (borrowed b))
scope_kept t b h = rw h refl

raw_scope_too_deep : (t : Utf8) → is_utf8 t ≡ true
    → reads (leaf RawBson) (opens (javascript_code_with_scope (borrowed t) (too_deep EmbeddedDocument))) ≡ Err (record { path = at_key (codes "$scope") ∷ []; fault = unreadable causes.too_deep })
raw_scope_too_deep t h = rw h refl

-- ---- what is written of it

-- a document in its bytes is written as it is, at the top too; an array is not
bytes_spelled : (b : Bytes) → spell_document (value.raw_document b) ≡ Ok (tree.raw EmbeddedDocument b)
bytes_spelled b = refl

array_at_top : (b : Bytes) → spell_document (value.raw_array b) ≡ Err (here (unwritable (causes.top_level Array)))
array_at_top b = refl

-- it takes a level
bytes_too_deep : (b : Bytes) → spell (value.raw_document b) 0 ≡ Err (here (unwritable causes.too_deep))
bytes_too_deep b = refl

-- it may be the scope of a code, in the readable form and in the compact one
abbrev scoped_struct : Utf8 → Bytes → value.Value
scoped_struct c b = value.structure (codes "$codeWithScope") (field_value (codes "$code") (value.str c) (field_value (codes "$scope") (value.raw_document b) no_field_values))

scope_spelled : (r : Bool) (c : Utf8) (b : Bytes) → spell_as r (scoped_struct c b) 1 ≡ Ok (tree.raw JavaScriptCodeWithScope (tree.after_total (tree.closed_text c ++ b)))
scope_spelled r c b = refl

scope_deep : (c : Utf8) (b : Bytes) → spell (scoped_struct c b) 0 ≡ Err (record { path = at_key (codes "$scope") ∷ []; fault = unwritable causes.too_deep })
scope_deep c b = refl

-- it is no key
array_as_key : (b : Bytes) → spell_key (value.raw_array b) ≡ Err (here (invalid_document_key (tree.array tree.no_trees)))
array_as_key b = refl

document_as_key : (b : Bytes) → spell_key (value.raw_document b) ≡ Err (here (invalid_document_key (tree.document tree.no_pairs)))
document_as_key b = refl

-- a binary is written from its bytes and its subtype
binary_spelled : (b : Bytes) (levels : ℕ) → spell (value.structure (codes "$binary") (field_value (codes "$binary") (value.structure [] (field_value (codes "bytes") (value.bytes b) (field_value (codes "subType") (value.integer u8 (pos 5)) no_field_values))) no_field_values)) levels ≡ spell_binary 5 b
binary_spelled b levels = refl
