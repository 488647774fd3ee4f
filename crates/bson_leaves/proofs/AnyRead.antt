-- Values without a shape, by the items of arrays and the entries of documents.
use Rattle.std.proofs.Common.{◌≡◌, ℕ, zero, suc, ◌-◌, ◌<◌, true, Option, Some, None, Ok, refl, ap, sym, ◌∙◌, arith}
use Rattle.bson_kinds.specs.Text.{Bytes}
use Rattle.bson_kinds.specs.Outcome.{◌>>=◌, result_map}
use Rattle.bson_kinds.proofs.Outcomes.{bind_ok}
use Rattle.bson_kinds.specs.declared.element_type.ElementType.{ElementType}
use Rattle.bson_kinds.specs.declared.element_type.ElementType.TheVariants as kinds
use Rattle.bson_rawdoc.specs.Node.{of_bytes, Node, document, array, extended, Nodes, ended, faulty, then_node, nodes_with, node_in, inner_node, value_node}
use Rattle.bson_kinds.specs.Piece.{Piece, borrowed}
use Rattle.bson_rawdoc.specs.RawValue as raws
use Rattle.bson_rawdoc.specs.RawValue.{RawValue, value_in}
use Rattle.bson_rawdoc.specs.Walk.{Element, Walk, then_walk, walk}
use Rattle.bson_values.specs.Marked.{Marked, MarkedEntries}
use Rattle.bson_values.specs.Refusal.{under, under_index}
use Rattle.bson_values.specs.Value as value
use Rattle.bson_values.specs.Value.{item, no_entries}
use Rattle.bson_laws.specs.Containers.{reads_items, reads_entries}
use Rattle.bson_laws.specs.Judged.{Reading, judged, with_level}
use Rattle.bson_laws.specs.ReadsLeaf.{put_entry, read_any, any_items, any_entries}
use Rattle.bson_laws.specs.Taken.{document_of}
use Rattle.bson_laws.proofs.Tame.{judged_is}
use Rattle.bson_met.specs.MetView.{document_at}
use Rattle.bson_met.specs.Sizes.{size, sizes}
use Rattle.bson_met.proofs.Judging.{judged_good}
use Rattle.bson_texts.proofs.Loops.{bind_same, judged_same}
use Rattle.bson_leaves.specs.Any.{any_at, any_within, is_opened, any_items_at, any_entries_at}
use Rattle.bson_leaves.specs.Next.{IsNextElement}

-- ---- items and entries

pub any_items_are : (i : ℕ) (ns : Nodes) → any_items i ns ≡ reads_items any_at i ns
any_items_are i ended = refl
any_items_are i (faulty e) = refl
any_items_are i (then_node k n ns) =
    (λ j. under_index i (sym (judged_same n (read_any)) j) >>= λ v. result_map (item v) (any_items_are (suc i) ns j))

-- a key that is read as a text of the same marks
abbrev pub as_str : Piece → Reading Marked
as_str k = Ok (value.str k)

pub any_entries_are : (ns : Nodes) (es : MarkedEntries) → any_entries ns es ≡ reads_entries as_str any_at ns es
any_entries_are ended es = refl
any_entries_are (faulty e) es = refl
any_entries_are (then_node k n ns) es =
    ap (λ r. under k.bytes r >>= λ v. any_entries ns (put_entry (value.str k) v es)) (sym (judged_same n (read_any)))
    ∙ bind_same (under k.bytes (any_at n)) (λ v. any_entries ns (put_entry (value.str k) v es)) (λ v. reads_entries as_str any_at ns (put_entry (value.str k) v es)) (λ v. any_entries_are ns (put_entry (value.str k) v es))

-- ---- values of the input

-- the values in an array of the input, where a level is left for it
pub array_within : (levels : ℕ) (b : Bytes) → 0 < levels → inner_node levels kinds.Array b ≡ array (of_bytes b) (nodes_with (node_in (levels - 1)) (walk b))
array_within levels b some = let e : levels ≡ suc (levels - 1) = omega (arith, some) in ap (λ l. inner_node l kinds.Array b) e

pub document_within : (levels : ℕ) (b : Bytes) → 0 < levels → inner_node levels kinds.EmbeddedDocument b ≡ document (of_bytes b) (nodes_with (node_in (levels - 1)) (walk b))
document_within levels b some = let e : levels ≡ suc (levels - 1) = omega (arith, some) in ap (λ l. inner_node l kinds.EmbeddedDocument b) e

-- an array and a document of the input as values
pub any_array_is : (levels : ℕ) (b : Bytes) → any_within levels (raws.array b) ≡ result_map value.sequence (any_items_at (inner_node levels kinds.Array b))
any_array_is zero b = refl
any_array_is (suc levels) b = refl

pub any_document_is : (levels : ℕ) (b : Bytes) → any_within levels (raws.document b) ≡ result_map value.map (any_entries_at (inner_node levels kinds.EmbeddedDocument b))
any_document_is zero b = refl
any_document_is (suc levels) b = refl

pub any_inner_document_is : (levels : ℕ) (b : Bytes) → any_at (inner_node levels kinds.EmbeddedDocument b) ≡ result_map value.map (any_entries_at (inner_node levels kinds.EmbeddedDocument b))
any_inner_document_is zero b = refl
any_inner_document_is (suc levels) b = refl

-- a value that is opened
pub any_opened_is : (levels : ℕ) (k : ElementType) (b : Bytes) (v : RawValue) → Ok v ≡ value_in k b → is_opened v ≡ true → any_within levels v ≡ result_map value.map (any_entries_at (node_in levels k b))
any_opened_is levels k b v e o = opened_is v o ∙ ap (λ r. result_map value.map ((r >>= document_of) >>= λ ms. any_entries ms no_entries)) (sym (judged_good levels k b v e)) where
  opened_is : (v : RawValue) → is_opened v ≡ true → any_within levels v ≡ result_map value.map ((with_level (value_node (inner_node levels) v) >>= document_of) >>= λ ms. any_entries ms no_entries)
  opened_is raws.undefined o = refl
  opened_is (raws.object_id id) o = refl
  opened_is (raws.date_time n) o = refl
  opened_is (raws.regular_expression p q) o = refl
  opened_is (raws.db_pointer n id) o = refl
  opened_is (raws.javascript_code t) o = refl
  opened_is (raws.symbol t) o = refl
  opened_is (raws.javascript_code_with_scope c s) o = refl
  opened_is (raws.timestamp t i) o = refl
  opened_is (raws.decimal128 d) o = refl
  opened_is raws.max_key o = refl
  opened_is raws.min_key o = refl
  opened_is (raws.binary (suc s) d) o = refl
  opened_is (raws.binary zero d) o = absurd cc
  opened_is (raws.double d) o = absurd cc
  opened_is (raws.string t) o = absurd cc
  opened_is (raws.document d) o = absurd cc
  opened_is (raws.array d) o = absurd cc
  opened_is (raws.boolean d) o = absurd cc
  opened_is raws.null o = absurd cc
  opened_is (raws.int32 d) o = absurd cc
  opened_is (raws.int64 d) o = absurd cc

-- what is left of an array or a document of the input
pub next_is : (old new : Walk) (o : Option Element) (e : Element) → IsNextElement old (Ok o) new → o ≡ Some e → old ≡ then_walk e new
next_is old new (Some f) e h is = h ∙ ap (λ (x : Element). then_walk x new) (some_is f e is) where
  some_is : (f e : Element) → Some f ≡ Some e → f ≡ e
  some_is f e is = cc
next_is old new None e h is = absurd cc

pub walk_first : (see : ElementType → Bytes → Node) (old new : Walk) (e : Element) → old ≡ then_walk e new → nodes_with see old ≡ then_node (borrowed e.key) (see e.kind e.value) (nodes_with see new)
walk_first see old new e first = ap (nodes_with see) first

-- what is in a document is smaller than it
document_of_smaller : (m : Node) (ns : Nodes) → document_of m ≡ Ok ns → sizes ns < size m
document_of_smaller (document slice ms) ns e = let same : ms ≡ ns = cc in omega (arith, ap sizes same)
document_of_smaller (extended x ms) ns e = let same : ms ≡ ns = cc in omega (arith, ap sizes same)
document_of_smaller m ns e = absurd cc

pub document_smaller : (n : Node) (ns : Nodes) → document_at n ≡ Ok ns → sizes ns < size n
document_smaller n ns e = let j = bind_ok (judged n) document_of ns e in omega (arith, document_of_smaller j.0 ns j.2, ap size (judged_is n j.0 j.1))
