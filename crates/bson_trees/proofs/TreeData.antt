-- Values that are read as trees, by the data that are made of them.
use Rattle.std.proofs.Common.{◌≡◌, ℕ, zero, suc, Bool, true, false, cond, Option, Some, None, Ok, Err, refl, ap, sym, subst, ◌∙◌}
use Rattle.std.specs.Str.{bytes_eq}
use Rattle.bson_kinds.specs.Text.{Utf8}
use Rattle.bson_kinds.specs.Outcome.{◌>>=◌, result_map}
use Rattle.bson_base.specs.Pairs.{put}
use Rattle.bson_base.specs.Tree as tree
use Rattle.bson_base.specs.Tree.{Tree, Pairs, no_pairs, pair, Trees, kind}
use Rattle.bson_kinds.proofs.Outcomes.{map_ok}
use Rattle.bson_rawdoc.specs.Node as node
use Rattle.bson_rawdoc.specs.Node.{Node, Nodes, ended, faulty, then_node}
use Rattle.bson_kinds.specs.Piece.{Piece, made}
use Rattle.bson_values.specs.Cause.{invalid_type, unknown_field}
use Rattle.bson_values.specs.Marked.{Marked, MarkedItems, MarkedEntries, contents}
use Rattle.bson_datum.specs.MarkedView.{marked}
use Rattle.bson_values.specs.ErrorView.{read_fault}
use Rattle.bson_values.specs.Refusal.{ReadFault, Refusal, under, under_index}
use Rattle.bson_values.specs.Stop.{stop_view}
use Rattle.bson_values.specs.Value as value
use Rattle.bson_values.specs.Value.{item, entry, kind_of}
use Rattle.bson_values.specs.Wrapper.{of_key}
use Rattle.bson_datum.specs.View.{view}
use Rattle.bson_datum.proofs.Marks.{marked-contents}
use Rattle.bson_datum.specs.declared.datum.Datum.{Datum}
use Rattle.bson_values.specs.declared.de.Fault.{Fault}
use Rattle.bson_values.specs.declared.stop.Stop.{Stop}
use Rattle.bson_values.specs.declared.wrapper.Wrapper.{Wrapper}
use Rattle.bson_laws.specs.Containers.{reads_items}
use Rattle.bson_laws.specs.Datum.{datum, itself, pair_data, tree_data}
use Rattle.bson_laws.specs.Judged.{Reading, refused, judged, scope_key}
use Rattle.bson_laws.specs.ReadsLeaf.{put_entry}
use Rattle.bson_laws.specs.Trees.{as_tree, read_tree, array_trees, document_tree, after_code, after_scope, by_key, by_meaning, pairs_in}
use Rattle.bson_laws.specs.Wrapped.{Meaning, body, code, scope}
use Rattle.bson_laws.proofs.DatumContents.{datum_contents}
use Rattle.bson_laws.proofs.Sizes.{under_ok}
use Rattle.bson_met.specs.Gives.{RefusesAs}
use Rattle.bson_met.specs.Next.{IsAdvanced}
use Rattle.bson_met.specs.declared.elements.Step.{Step}
use Rattle.bson_met.proofs.Refusals.{StopsAs, stops_map}
use Rattle.bson_texts.proofs.Loops.{judged_same}
use Rattle.bson_wrapped.specs.Bodies.{is_body, body_of, body_at}
use Rattle.bson_wrapped.specs.Data.{scoped_datum}
use Rattle.bson_wrapped.proofs.Made.{err_is, stops_through, under_map}
use Rattle.bson_trees.specs.Trees.{tree_at, tree_under, elements_from, wrapped_tree, wrapped_at, code_from, scope_from, entries_at, scope_at, extended_at, is_map, is_raw}

-- ---- refusals

map_through : {A B C D : Type 0} (o : Option (Refusal ReadFault)) (f : A → B) (x : Reading A) (g : A → C) (h : C → D) → RefusesAs o (result_map f x) → RefusesAs o (result_map h (result_map g x))
map_through None f x g h e = tt
map_through (Some r) f (Ok a) g h e = absurd cc
map_through (Some r) f (Err q) g h e = err_is q r e

map_as : {A B C : Type 0} (o : Option (Refusal ReadFault)) (f : A → B) (x : Reading A) (h : A → C) → RefusesAs o (result_map f x) → RefusesAs o (result_map h x)
map_as None f x h e = tt
map_as (Some r) f (Ok a) h e = absurd cc
map_as (Some r) f (Err q) h e = err_is q r e

-- what stops one thing that is made stops another
pub map_stops : {A B C : Type 0} (s : Stop Fault) (f : A → B) (x : Reading A) (h : A → C) → StopsAs s (result_map f x) → StopsAs s (result_map h x)
map_stops s f x h e = map_as (stop_view read_fault s) f x h e

back_as : {A B : Type 0} (o : Option (Refusal ReadFault)) (f : A → B) (x : Reading A) → RefusesAs o (result_map f x) → RefusesAs o x
back_as None f x e = tt
back_as (Some r) f (Ok a) e = absurd cc
back_as (Some r) f (Err q) e = err_is q r e

-- what stops what is made stops what it is made of
pub stops_back : {A B : Type 0} (s : Stop Fault) (f : A → B) (x : Reading A) → StopsAs s (result_map f x) → StopsAs s x
stops_back s f x e = back_as (stop_view read_fault s) f x e

then_as : {A B C : Type 0} (o : Option (Refusal ReadFault)) (f : A → B) (x : Reading A) (h : A → Reading C) → RefusesAs o (result_map f x) → RefusesAs o (x >>= h)
then_as None f x h e = tt
then_as (Some r) f (Ok a) h e = absurd cc
then_as (Some r) f (Err q) h e = err_is q r e

-- and what is read on from it
pub bind_stops : {A B C : Type 0} (s : Stop Fault) (f : A → B) (x : Reading A) (h : A → Reading C) → StopsAs s (result_map f x) → StopsAs s (x >>= h)
bind_stops s f x h e = then_as (stop_view read_fault s) f x h e

-- ---- the items of an array

one_item : (i : ℕ) (r : Reading Tree) (rest : Reading Trees)
    → result_map (tree_data made) (under_index i r >>= λ t. result_map (tree.tree t) rest) ≡ (under_index i (result_map (datum made) r) >>= λ v. result_map (item v) (result_map (tree_data made) rest))
one_item i (Ok t) (Ok ts) = refl
one_item i (Ok t) (Err e) = refl
one_item i (Err e) rest = refl

pub trees_are : (i : ℕ) (ns : Nodes) → result_map (tree_data made) (array_trees i ns) ≡ reads_items tree_at i ns
trees_are i ended = refl
trees_are i (faulty e) = refl
trees_are i (then_node k n ns) =
    ap (λ r. result_map (tree_data made) (under_index i r >>= λ t. result_map (tree.tree t) (array_trees (suc i) ns))) (sym (judged_same n (as_tree)))
    ∙ one_item i (read_tree n) (array_trees (suc i) ns)
    ∙ ap (λ rest. under_index i (tree_at n) >>= λ v. result_map (item v) rest) (trees_are (suc i) ns)

pub array_made : (r : Reading Trees) (is : MarkedItems) → result_map (tree_data made) r ≡ Ok is → result_map (datum made) (result_map tree.array r) ≡ Ok (value.sequence is)
array_made (Ok ts) is e = let same : tree_data made ts ≡ is = cc in ap (λ x. Ok (value.sequence x)) same
array_made (Err q) is e = absurd cc

pub array_stops : (s : Stop Fault) (r : Reading Trees) → StopsAs s (result_map (tree_data made) r) → StopsAs s (result_map (datum made) (result_map tree.array r))
array_stops s (Ok ts) h = stops_through s (tree_data made) (Ok ts) (λ x. Ok (tree.array x)) (datum made) h
array_stops s (Err q) h = stops_through s (tree_data made) (Err q) (λ x. Ok (tree.array x)) (datum made) h

-- ---- the pairs of a document

chosen : (b : Bool) (x y : Pairs) (es : MarkedEntries) → es ≡ pair_data made y → cond b (pair_data made x) es ≡ pair_data made (cond b x y)
chosen true x y es e = refl
chosen false x y es e = e

-- a pair that is put is the entry that is put
pub put_data : (key : Utf8) (t : Tree) (ps : Pairs) → put_entry (value.str (made key)) (datum made t) (pair_data made ps) ≡ pair_data made (put key t ps)
put_data key t no_pairs = refl
put_data key t (pair k old ps) = chosen (bytes_eq key k) (pair k t ps) (pair k old (put key t ps)) _ (ap (entry (value.str (made k)) (datum made old)) (put_data key t ps))

module _ (k : Piece) (n : Node) (ns : Nodes) (ps : Pairs) where
  abbrev on : Option Wrapper → Reading Tree → Reading Tree
  on w r = by_key w k.bytes n r (λ t. document_tree ns (put k.bytes t ps)) (λ t. after_code t ns) (λ qs. after_scope qs ns)

  on_judged : document_tree (then_node k n ns) ps ≡ on (of_key k.bytes) (read_tree n)
  on_judged = ap (on (of_key k.bytes)) (sym (judged_same n (as_tree)))

  -- an element whose key is no wrapper key
  pub pair_read : None ≡ of_key k.bytes → (v : Marked) → tree_under k.bytes n ≡ Ok v
      → (qs : Pairs) × (document_tree (then_node k n ns) ps ≡ document_tree ns qs) × (put_entry (value.str (made k.bytes)) v (pair_data made ps) ≡ pair_data made qs)
  pair_read none v e =
      let m = map_ok (datum made) (read_tree n) v (under_ok k.bytes (tree_at n) v e) in (
        put k.bytes m.0 ps,
        on_judged ∙ (λ i. on (sym none i) (m.1 i)),
        ap (λ x. put_entry (value.str (made k.bytes)) x (pair_data made ps)) (sym m.2) ∙ put_data k.bytes m.0 ps,
      )

  -- one that is refused
  pub pair_stops_tree : None ≡ of_key k.bytes → (s : Stop Fault) → StopsAs s (tree_under k.bytes n) → StopsAs s (document_tree (then_node k n ns) ps)
  pair_stops_tree none s h =
      let here = bind_stops s (datum made) (under k.bytes (read_tree n)) (λ t. document_tree ns (put k.bytes t ps))
      (subst (λ (r : Reading Marked). StopsAs s r) (under_map k.bytes (datum made) (read_tree n)) h) in
      subst (λ (r : Reading Tree). StopsAs s r) (sym (on_judged ∙ ap (λ w. on w (read_tree n)) (sym none))) here

  pub pair_stops : None ≡ of_key k.bytes → (s : Stop Fault) → StopsAs s (tree_under k.bytes n) → StopsAs s (elements_from (then_node k n ns) ps)
  pair_stops none s h = stops_map s (datum made) (document_tree (then_node k n ns) ps) (pair_stops_tree none s h)

  -- one whose key is a wrapper key
  pub wrapped_whole : (w : Wrapper) → Some w ≡ of_key k.bytes → wrapped_tree w k.bytes n ns ≡ document_tree (then_node k n ns) ps
  wrapped_whole w some = sym (on_judged ∙ ap (λ x. on x (read_tree n)) (sym some))

  pub wrapped_read : (w : Wrapper) → Some w ≡ of_key k.bytes → wrapped_at w k.bytes n ns ≡ elements_from (then_node k n ns) ps
  wrapped_read w some = ap (result_map (datum made)) (wrapped_whole w some)

-- ---- wrapper keys

-- the value of a key that has a body
pub body_wrapped : (w : Wrapper) (m : Meaning) (key : Utf8) (n : Node) (r : Reading Tree) (f : Utf8 → Reading Tree) (g : Pairs → Reading Tree) → is_body m ≡ true
    → body_at w (body_of m) key n ≡ result_map (datum made) (by_meaning w m key n r f g)
body_wrapped w (body read) key n r f g e = refl
body_wrapped w code key n r f g e = absurd cc
body_wrapped w scope key n r f g e = absurd cc

-- a scope, and then what comes after it
pub scope_then : (key : Utf8) (n : Node) (ns : Nodes) (es : MarkedEntries) → scope_at key n ≡ Ok es
    → (ps : Pairs) × (es ≡ pair_data made ps) × (scope_from ps ns ≡ result_map (datum made) (under key (read_tree n >>= pairs_in) >>= λ x. after_scope x ns))
scope_then key n ns es e =
    let inner = read_tree n >>= pairs_in in
    let m = map_ok (pair_data made) inner es (under_ok key (result_map (pair_data made) inner) es e) in (
      m.0,
      sym m.2,
      ap (λ (r : Reading Pairs). result_map (datum made) (under key r >>= λ x. after_scope x ns)) (sym m.1),
    )

pub scope_stops : (key : Utf8) (n : Node) (s : Stop Fault) {C D : Type 0} (h : Pairs → Reading C) (g : C → D) → StopsAs s (scope_at key n) → StopsAs s (result_map g (under key (read_tree n >>= pairs_in) >>= h))
scope_stops key n s h g e =
    let inner = read_tree n >>= pairs_in in
    stops_through s (pair_data made) (under key inner) h g (subst (λ (r : Reading MarkedEntries). StopsAs s r) (under_map key (pair_data made) inner) e)

-- ---- code with a scope

module _ (t key : Utf8) (n : Node) where
  abbrev pairs_there : Reading Pairs
  pairs_there = under key (read_tree n >>= pairs_in)

  -- the code with the scope that the value is
  abbrev pub scoped : Reading Marked
  scoped = result_map (datum made) (result_map (tree.javascript_code_with_scope t) pairs_there)

  pub scoped_read : (es : MarkedEntries) → scope_at key n ≡ Ok es → scoped ≡ Ok (scoped_datum t es)
  scoped_read es e =
      let m = map_ok (pair_data made) (read_tree n >>= pairs_in) es (under_ok key (entries_at n) es e) in
      ap (λ (r : Reading Pairs). result_map (datum made) (result_map (tree.javascript_code_with_scope t) (under key r))) m.1 ∙ ap (λ x. Ok (scoped_datum t x)) m.2

  pub scoped_stops : (s : Stop Fault) → StopsAs s (scope_at key n) → StopsAs s scoped
  scoped_stops s h =
      map_through (stop_view read_fault s) (pair_data made) pairs_there (tree.javascript_code_with_scope t) (datum made)
      (subst (λ (r : Reading MarkedEntries). StopsAs s r) (under_map key (pair_data made) (read_tree n >>= pairs_in)) h)

-- the text of a code, behind which its scope comes
pub code_scoped : (t : Utf8) (k : Piece) (n : Node) (ns : Nodes) → bytes_eq k.bytes scope_key ≡ true → code_from t (then_node k n ns) ≡ scoped t k.bytes n
code_scoped t k n ns e =
    ap (λ b. result_map (datum made) (cond b (result_map (tree.javascript_code_with_scope t) (under k.bytes ((judged n >>= λ _. as_tree n) >>= pairs_in))) (refused (unknown_field k.bytes)))) e
    ∙ ap (λ r. result_map (datum made) (result_map (tree.javascript_code_with_scope t) (under k.bytes (r >>= pairs_in)))) (sym (judged_same n (as_tree)))

-- a code with a scope as it is
pub extended_scoped : (p : Piece) (n : Node) → extended_at (node.javascript_code_with_scope p n) ≡ scoped p.bytes scope_key n
extended_scoped p n = ap (λ r. result_map (datum made) (result_map (tree.javascript_code_with_scope p.bytes) (under scope_key (r >>= pairs_in)))) (sym (judged_same n (as_tree)))

-- ---- the end of a list

pub list_ends : (old new : Nodes) (b : Bool) (s : Step) → IsAdvanced old (Ok b) s new → b ≡ false → old ≡ ended
list_ends old new false s h e = h.0
list_ends old new true s h e = absurd cc

-- ---- trees that are documents, and kinds

-- data that are none are refused
pub other_tree : (t : Tree) (v : Marked) → is_map v ≡ false → datum made t ≡ v → result_map (pair_data made) (pairs_in t) ≡ refused (invalid_type (kind t))
other_tree (tree.document ps) v none e = absurd (let b : true ≡ false = ap is_map e ∙ none in cc)
other_tree t v none e = refl

datum_kind : (t : Tree) → is_raw t ≡ false → kind_of (datum itself t) ≡ kind t
datum_kind (tree.binary zero b) e = refl
datum_kind (tree.binary (suc n) b) e = refl
datum_kind (tree.raw k b) e = absurd cc
datum_kind t e = refl

-- data are written as the kind of their tree
pub kind_is : (d : Datum) (t : Tree) → is_raw t ≡ false → datum made t ≡ marked d → kind_of (view d) ≡ kind t
kind_is d t plain e = ap kind_of (sym (marked-contents d) ∙ ap contents (sym e) ∙ datum_contents t) ∙ datum_kind t plain
