-- One element on, in bytes where elements are one behind another.
use Rattle.std.proofs.Common.{◌≡◌, ℕ, suc, ◌+◌, ◌<◌, List, [], ◌∷◌, ◌++◌, Bor, length, get_or, drop, true, Option, ap, sym, subst, ◌∙◌, arith}
use Rattle.std.specs.Fmt.{decimal}
use Rattle.std.specs.Str.{bytes_eq}
use Rattle.bson_kinds.specs.Text.{Bytes, Utf8, has_zero}
use Rattle.bson_base.specs.Tree.{Trees, Pairs}
use Rattle.bson_rawdoc.specs.Node.{node_in, nodes_with}
use Rattle.bson_rawdoc.specs.Walk.{Element, walk_elements}
use Rattle.bson_shape.specs.Form.{UnknownFields, Form}
use Rattle.bson_shape.specs.Makers.{AreDistinct}
use Rattle.bson_shape.specs.ShapeView.{fields_of, parts_of}
use Rattle.bson_shape.specs.declared.leaf.Leaf.{Leaf}
use Rattle.bson_shape.specs.declared.shape.FieldShape.{FieldShape}
use Rattle.bson_laws.specs.Scopes.{laid, laid_parts}
use Rattle.bson_laws.specs.declared.origin.Reader.{Reader}
use Rattle.bson_keys.specs.New.{is_new}
use Rattle.bson_pass_parts.specs.Free.{takes_keys}
use Rattle.bson_pass_parts.specs.Found.{name_of}
use Rattle.bson_pass_parts.specs.Put.{recast_node, recast_for, recast_items, recast_parts, IsElementPut}
use Rattle.bson_pass_parts.specs.Run.{IsHead, IsKept, run, size}
use Rattle.bson_pass_parts.proofs.Entries.{AreEntriesPut, entry_step}
use Rattle.bson_pass_parts.proofs.Items.{AreLeft, item_step}
use Rattle.bson_pass_parts.proofs.Places.{AreUnderWay, expected_step, same_name}
use Rattle.bson_pass_parts.proofs.Runs.{walk_next, next_kept}
use Rattle.bson_pass_parts.proofs.Tuples.{part_at_put}

-- the element of the next field
pub next_expected : (reader : Reader) (u : UnknownFields) (fs : List FieldShape) (levels : ℕ) (whole : Option Pairs) (place at n : ℕ) (bytes : Bytes) (e : Element) (f : FieldShape) (old made new : Bytes)
    → AreUnderWay reader u fs levels whole (nodes_with (node_in levels) (walk_elements (drop at bytes))) place old made → IsHead (drop at bytes) e → n ≡ size e → place < length fs → f ≡ get_or fs place f → bytes_eq (name_of f) e.key ≡ true
    → AreDistinct (fields_of fs) → IsElementPut (recast_for reader f.shape levels (node_in levels e.kind e.value)) e.key made new → AreUnderWay reader u fs levels whole (nodes_with (node_in levels) (walk_elements (drop (at + n) bytes))) (place + 1) old new
next_expected reader u fs levels whole place at n bytes e f old made new before head is lt got same distinct put =
    let named : name_of f ≡ e.key = same_name (name_of f) e.key same in
    expected_step reader u fs levels whole place old made (walk_elements (drop at bytes)) (walk_elements (drop (at + n) bytes)) e f new before (walk_next bytes at n e head is) lt got same distinct (ap has_zero named ∙ head.closed)
    (subst (λ k. IsElementPut (recast_for reader f.shape levels (node_in levels e.kind e.value)) k made new) (sym named) put)

-- the same, where it is left in the run from the first byte on
pub next_field_kept : (reader : Reader) (u : UnknownFields) (fs : List FieldShape) (levels : ℕ) (whole : Option Pairs) (place at n : ℕ) (bytes : Bytes) (e : Element) (f : FieldShape)
    → AreUnderWay reader u fs levels whole (nodes_with (node_in levels) (walk_elements (drop at bytes))) place [] (run bytes 0 at) → IsHead (drop at bytes) e → n ≡ size e → place < length fs → f ≡ get_or fs place f → bytes_eq (name_of f) e.key ≡ true
    → AreDistinct (fields_of fs) → IsKept (laid reader f.shape) levels e.kind e.value → AreUnderWay reader u fs levels whole (nodes_with (node_in levels) (walk_elements (drop (at + n) bytes))) (place + 1) [] (run bytes 0 (at + n))
next_field_kept reader u fs levels whole place at n bytes e f before head is lt got same distinct kept =
    let put = subst (λ m. IsElementPut (recast_for reader f.shape levels (node_in levels e.kind e.value)) e.key (run bytes 0 at) (run bytes 0 (at + m))) (sym is) (next_kept (laid reader f.shape) levels bytes 0 at e [] (omega arith) head kept) in
    next_expected reader u fs levels whole place at n bytes e f [] (run bytes 0 at) (run bytes 0 (at + n)) before head is lt got same distinct put

-- the next element of an array
pub next_item : (s : Form) (levels i j : ℕ) (whole : Option Trees) (at n : ℕ) (bytes : Bytes) (e : Element) (key : Utf8) (old made new : Bytes) → AreLeft whole (recast_items s levels i (nodes_with (node_in levels) (walk_elements (drop at bytes)))) i old made
    → IsHead (drop at bytes) e → n ≡ size e → key ≡ decimal i → j ≡ suc i → IsElementPut (recast_node s levels (node_in levels e.kind e.value)) key made new
    → AreLeft whole (recast_items s levels j (nodes_with (node_in levels) (walk_elements (drop (at + n) bytes)))) j old new
next_item s levels i j whole at n bytes e key old made new before head is index next put =
    subst (λ k. AreLeft whole (recast_items s levels k (nodes_with (node_in levels) (walk_elements (drop (at + n) bytes)))) k old new) (sym next)
    (item_step s levels i (walk_elements (drop at bytes)) (walk_elements (drop (at + n) bytes)) e whole key old made new (walk_next bytes at n e head is) index before put)

-- the same, where it is left in the run from the first byte on
pub next_item_kept : (s : Form) (levels i j : ℕ) (whole : Option Trees) (at n : ℕ) (bytes : Bytes) (e : Element) → AreLeft whole (recast_items s levels i (nodes_with (node_in levels) (walk_elements (drop at bytes)))) i [] (run bytes 0 at)
    → IsHead (drop at bytes) e → n ≡ size e → e.key ≡ decimal i → j ≡ suc i → IsKept s levels e.kind e.value
    → AreLeft whole (recast_items s levels j (nodes_with (node_in levels) (walk_elements (drop (at + n) bytes)))) j [] (run bytes 0 (at + n))
next_item_kept s levels i j whole at n bytes e before head is index next kept =
    let put = subst (λ m. IsElementPut (recast_node s levels (node_in levels e.kind e.value)) e.key (run bytes 0 at) (run bytes 0 (at + m))) (sym is) (next_kept s levels bytes 0 at e [] (omega arith) head kept) in
    next_item s levels i j whole at n bytes e e.key [] (run bytes 0 at) (run bytes 0 (at + n)) before head is index next put

-- the next part of a tuple
pub next_part : (reader : Reader) (ss : List Form) (s : Form) (levels i : ℕ) (whole : Option Trees) (at n : ℕ) (bytes : Bytes) (e : Element) (key : Utf8) (old made new : Bytes) → i < length ss → s ≡ get_or ss i s
    → AreLeft whole (recast_parts (laid_parts reader (parts_of (drop i ss))) levels i (nodes_with (node_in levels) (walk_elements (drop at bytes)))) i old made → IsHead (drop at bytes) e → n ≡ size e → key ≡ decimal i
    → IsElementPut (recast_for reader s levels (node_in levels e.kind e.value)) key made new → AreLeft whole (recast_parts (laid_parts reader (parts_of (drop (i + 1) ss))) levels (i + 1) (nodes_with (node_in levels) (walk_elements (drop (at + n) bytes)))) (i + 1) old new
next_part reader ss s levels i whole at n bytes e key old made new lt got before head is index put =
    part_at_put reader ss s levels i (walk_elements (drop at bytes)) (walk_elements (drop (at + n) bytes)) e whole key old made new lt got (walk_next bytes at n e head is) index before put

-- the same, where it is left in the run from the first byte on
pub next_part_kept : (reader : Reader) (ss : List Form) (s : Form) (levels i : ℕ) (whole : Option Trees) (at n : ℕ) (bytes : Bytes) (e : Element) → i < length ss → s ≡ get_or ss i s
    → AreLeft whole (recast_parts (laid_parts reader (parts_of (drop i ss))) levels i (nodes_with (node_in levels) (walk_elements (drop at bytes)))) i [] (run bytes 0 at) → IsHead (drop at bytes) e → n ≡ size e → e.key ≡ decimal i → IsKept (laid reader s) levels e.kind e.value
    → AreLeft whole (recast_parts (laid_parts reader (parts_of (drop (i + 1) ss))) levels (i + 1) (nodes_with (node_in levels) (walk_elements (drop (at + n) bytes)))) (i + 1) [] (run bytes 0 (at + n))
next_part_kept reader ss s levels i whole at n bytes e lt got before head is index kept =
    let put = subst (λ m. IsElementPut (recast_for reader s levels (node_in levels e.kind e.value)) e.key (run bytes 0 at) (run bytes 0 (at + m))) (sym is) (next_kept (laid reader s) levels bytes 0 at e [] (omega arith) head kept) in
    next_part reader ss s levels i whole at n bytes e e.key [] (run bytes 0 at) (run bytes 0 (at + n)) lt got before head is index put

-- an entry of a new key
pub next_entry : (key : Leaf) (s : Form) (levels : ℕ) (whole : Option Pairs) (names : List Utf8) (name : Bor Utf8) (at n : ℕ) (bytes : Bytes) (e : Element) (old made new : Bytes) → takes_keys key ≡ true
    → AreEntriesPut key s levels whole (nodes_with (node_in levels) (walk_elements (drop at bytes))) names old made → IsHead (drop at bytes) e → n ≡ size e → name.now ≡ e.key → is_new name.now names ≡ true
    → IsElementPut (recast_node s levels (node_in levels e.kind e.value)) e.key made new → AreEntriesPut key s levels whole (nodes_with (node_in levels) (walk_elements (drop (at + n) bytes))) (names ++ name.now ∷ []) old new
next_entry key s levels whole names name at n bytes e old made new takes before head is named new_key put =
    entry_step key s levels whole names name (walk_elements (drop at bytes)) (walk_elements (drop (at + n) bytes)) e old made new takes (walk_next bytes at n e head is) before named new_key (ap has_zero named ∙ head.closed)
    (subst (λ k. IsElementPut (recast_node s levels (node_in levels e.kind e.value)) k made new) (sym named) put)
