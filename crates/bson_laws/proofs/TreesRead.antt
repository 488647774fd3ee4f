-- A tree without wrapper keys is read as itself, with the options of its regular expressions in order.
use Rattle.std.proofs.Common.{◌≡◌, ℕ, zero, suc, [], ◌∷◌, ◌≤◌, List, Bool, true, false, cond, Some, None, Ok, refl, ap, sym, subst, ◌∙◌, arith}
use Rattle.std.specs.Prelude.{◌&&◌, nat_eq, length}
use Rattle.std.specs.Str.{bytes_eq, is_utf8}
use Rattle.std.proofs.lemmas.Bool.{and_parts}
use Rattle.bson_kinds.specs.Kind.{byte}
use Rattle.bson_kinds.specs.Text.{Bytes, Utf8, begins_with_dollar}
use Rattle.bson_kinds.specs.Outcome.{◌>>=◌, result_map}
use Rattle.bson_base.specs.Pairs.{put}
use Rattle.bson_base.specs.Sound.{Lacks, IsClean, ArePairsClean, AreTreesClean}
use Rattle.bson_base.specs.Tree as tree
use Rattle.bson_base.specs.Tree.{Tree, Pairs, no_pairs, pair, Trees, no_trees, kind, depth, pairs_depth, trees_depth}
use Rattle.bson_kinds.proofs.Outcomes.{some_is}
use Rattle.bson_rawdoc.specs.Node.{Sight, fault, tree_node, pair_nodes, tree_nodes}
use Rattle.bson_kinds.specs.Piece.{made}
use Rattle.bson_values.specs.Cause.{wrong_kind, invalid_length}
use Rattle.bson_values.specs.Marked.{contents}
use Rattle.bson_values.specs.Refusal.{under, under_index}
use Rattle.bson_values.specs.Value.{Value}
use Rattle.bson_values.specs.Wrapper as wrapper
use Rattle.bson_values.specs.Wrapper.{wrappers, with_key, of_key}
use Rattle.bson_values.specs.declared.wrapper.Wrapper.{Wrapper}
use Rattle.bson_laws.specs.Datum.{datum, uuid_datum, itself, sorted_tree, sorted_pairs, sorted_trees}
use Rattle.bson_laws.specs.Leaves as leaf_kinds
use Rattle.bson_laws.specs.Leaves.{ExtendedLeaf, object_ids, uuids, of_kind, documents}
use Rattle.bson_laws.specs.Judged.{Reading, refused, judged, faultless, scope_key}
use Rattle.bson_laws.specs.Trees.{pairs_in, by_key, after_scope, after_code, as_tree, array_trees, document_tree, read_tree}
use Rattle.bson_laws.specs.ReadsExtended.{tree_of_kind, read_extended}
use Rattle.bson_laws.specs.Views.{views_extended}
use Rattle.bson_laws.proofs.DatumContents.{datum_contents, sorted_kind}
use Rattle.bson_laws.proofs.Fitted.{unlike_swap, bytes_same}
use Rattle.bson_laws.proofs.Judged.{ReadAs, text_whole, both_whole, scope_whole, IsNotRaw, level_there}
use Rattle.bson_kinds.proofs.Apart.{no_some}

-- ---- wrapper keys

-- each of these keys begins with `$`
abbrev all_dollar : List Wrapper → Bool
all_dollar [] = true
all_dollar (w ∷ ws) = begins_with_dollar (wrapper.key w) && all_dollar ws

unlike : (b : Bool) (key k : Utf8) → bytes_eq key k ≡ b → begins_with_dollar k ≡ true → begins_with_dollar key ≡ false → b ≡ false
unlike true key k is d e = absurd (let same = ap begins_with_dollar (bytes_same key k is) in let both : true ≡ false = sym d ∙ sym same ∙ e in cc)
unlike false key k is d e = refl

none_in : (ws : List Wrapper) (key : Utf8) → all_dollar ws ≡ true → begins_with_dollar key ≡ false → with_key key ws ≡ None
none_in [] key a e = refl
none_in (w ∷ ws) key a e =
    let parts = and_parts (begins_with_dollar (wrapper.key w)) (all_dollar ws) a in
    ap (λ b. cond b (Some w) (with_key key ws)) (unlike (bytes_eq key (wrapper.key w)) key (wrapper.key w) refl parts.0 e) ∙ none_in ws key parts.1 e

-- a key that does not begin with `$` is no wrapper key
pub no_wrapper : (key : Utf8) → begins_with_dollar key ≡ false → of_key key ≡ None
unfolding of_key
no_wrapper key e = none_in wrappers key refl e

-- ---- trees that are read

abbrev mutual
  -- the texts are UTF-8, no key is a wrapper key, and none occurs twice; nothing is given by its bytes
  pub IsReadable : Tree → Type 0
  IsReadable (tree.string t) = is_utf8 t ≡ true
  IsReadable (tree.document ps) = ArePairsReadable ps
  IsReadable (tree.array ts) = AreTreesReadable ts
  IsReadable (tree.regular_expression p q) = (is_utf8 p ≡ true) × (is_utf8 q ≡ true)
  IsReadable (tree.db_pointer namespace id) = is_utf8 namespace ≡ true
  IsReadable (tree.javascript_code t) = is_utf8 t ≡ true
  IsReadable (tree.symbol t) = is_utf8 t ≡ true
  IsReadable (tree.javascript_code_with_scope code scope) = (is_utf8 code ≡ true) × ArePairsReadable scope
  IsReadable (tree.raw k b) = ⊥
  IsReadable t = Unit {0}

  pub ArePairsReadable : Pairs → Type 0
  ArePairsReadable no_pairs = Unit {0}
  ArePairsReadable (pair key t ps) = (of_key key ≡ None) × Lacks key ps × IsReadable t × ArePairsReadable ps

  pub AreTreesReadable : Trees → Type 0
  AreTreesReadable no_trees = Unit {0}
  AreTreesReadable (tree.tree t ts) = IsReadable t × AreTreesReadable ts

-- clean trees are
mutual
  pub clean_readable : (t : Tree) → IsClean t → IsReadable t
  clean_readable (tree.string t) c = c
  clean_readable (tree.document ps) c = pairs_readable ps c
  clean_readable (tree.array ts) c = trees_readable ts c
  clean_readable (tree.regular_expression p q) c = (c.0.text, c.1.text)
  clean_readable (tree.db_pointer namespace id) c = c.0
  clean_readable (tree.javascript_code t) c = c
  clean_readable (tree.symbol t) c = c
  clean_readable (tree.javascript_code_with_scope code scope) c = (c.0, pairs_readable scope c.1)
  clean_readable (tree.raw k b) c = absurd c
  clean_readable t c = tt

  pairs_readable : (ps : Pairs) → ArePairsClean ps → ArePairsReadable ps
  pairs_readable no_pairs c = tt
  pairs_readable (pair key t ps) c = (no_wrapper key c.0.free.no_dollar, c.1, clean_readable t c.2, pairs_readable ps c.3)

  trees_readable : (ts : Trees) → AreTreesClean ts → AreTreesReadable ts
  trees_readable no_trees c = tt
  trees_readable (tree.tree t ts) c = (clean_readable t c.0, trees_readable ts c.1)

-- ---- no fault

whole : (at : Sight) (t : Tree) (levels : ℕ) → IsReadable t → fault (tree_node at t levels) ≡ None
whole at (tree.string t) levels c = text_whole at t c
whole at (tree.document ps) levels c = scope_whole at ps levels
whole at (tree.array ts) zero c = refl
whole at (tree.array ts) (suc levels) c = refl
whole at (tree.binary zero b) levels c = refl
whole at (tree.binary (suc n) b) levels c = refl
whole at (tree.regular_expression p q) levels c = both_whole _ _ (text_whole at p c.0) (text_whole at q c.1)
whole at (tree.db_pointer namespace id) levels c = text_whole at namespace c
whole at (tree.javascript_code t) levels c = text_whole at t c
whole at (tree.symbol t) levels c = text_whole at t c
whole at (tree.javascript_code_with_scope code scope) levels c = both_whole _ _ (text_whole at code c.0) (scope_whole at scope levels)
whole at (tree.raw k b) levels c = absurd c
whole at t levels c = refl

readable_not_raw : (t : Tree) → IsReadable t → IsNotRaw t
readable_not_raw (tree.raw k b) c = absurd c
readable_not_raw t c = tt

pub judged_readable : (at : Sight) (t : Tree) (levels : ℕ) → IsReadable t → depth t ≤ levels → judged (tree_node at t levels) ≡ Ok (tree_node at t levels)
judged_readable at t levels c d = ap (λ o. faultless o (tree_node at t levels)) (whole at t levels c) ∙ level_there at t levels (readable_not_raw t c) d

-- ---- pairs

abbrev joined : Pairs → Pairs → Pairs
joined no_pairs qs = qs
joined (pair k t ps) qs = pair k t (joined ps qs)

joined_none : (ps : Pairs) → joined ps no_pairs ≡ ps
joined_none no_pairs = refl
joined_none (pair k t ps) = ap (pair k t) (joined_none ps)

joined_one : (ps : Pairs) (k : Utf8) (t : Tree) (qs : Pairs) → joined (joined ps (pair k t no_pairs)) qs ≡ joined ps (pair k t qs)
joined_one no_pairs k t qs = refl
joined_one (pair j u ps) k t qs = ap (pair j u) (joined_one ps k t qs)

put_last : (key : Utf8) (t : Tree) (ps : Pairs) → Lacks key ps → put key t ps ≡ joined ps (pair key t no_pairs)
put_last key t no_pairs l = refl
put_last key t (pair k old ps) l = ap (λ b. cond b (pair k t ps) (pair k old (put key t ps))) l.0 ∙ ap (pair k old) (put_last key t ps l.1)

-- no pair that is to come has the key of one that is there
abbrev AreNew : Pairs → Pairs → Type 0
AreNew no_pairs done = Unit {0}
AreNew (pair k t ps) done = Lacks k done × AreNew ps done

new_first : (ps : Pairs) → AreNew ps no_pairs
new_first no_pairs = tt
new_first (pair k t ps) = (tt, new_first ps)

lacks_one : (k key : Utf8) (t : Tree) (done : Pairs) → bytes_eq k key ≡ false → Lacks k done → Lacks k (joined done (pair key t no_pairs))
lacks_one k key t no_pairs e l = (e, tt)
lacks_one k key t (pair j u done) e l = (l.0, lacks_one k key t done e l.1)

new_more : (ps done : Pairs) (key : Utf8) (t : Tree) → Lacks key ps → AreNew ps done → AreNew ps (joined done (pair key t no_pairs))
new_more no_pairs done key t l n = tt
new_more (pair k u ps) done key t l n = (lacks_one k key t done (unlike_swap key k l.0) n.0, new_more ps done key t l.1 n.1)

-- ---- trees

mutual
  pub tree_again : (at : Sight) (t : Tree) (levels : ℕ) → IsReadable t → depth t ≤ levels → as_tree (tree_node at t levels) ≡ Ok (sorted_tree t)
  tree_again at (tree.document ps) zero c d = absurd (omega arith)
  tree_again at (tree.document ps) (suc n) c d = pairs_again at ps n no_pairs c (omega arith) (new_first ps)
  tree_again at (tree.array ts) zero c d = absurd (omega arith)
  tree_again at (tree.array ts) (suc n) c d = ap (result_map tree.array) (trees_again at ts 0 n c (omega arith))
  tree_again at (tree.binary zero b) levels c d = refl
  tree_again at (tree.binary (suc n) b) levels c d = refl
  tree_again at (tree.javascript_code_with_scope code scope) zero c d = absurd (omega arith)
  tree_again at (tree.javascript_code_with_scope code scope) (suc n) c d =
      ap (λ r. result_map (tree.javascript_code_with_scope code) (under scope_key (r >>= pairs_in))) (pairs_again at scope n no_pairs c.1 (omega arith) (new_first scope))
  tree_again at (tree.raw k b) levels c d = absurd c
  tree_again at t levels c d = refl

  pairs_again : (at : Sight) (ps : Pairs) (n : ℕ) (done : Pairs) → ArePairsReadable ps → pairs_depth ps ≤ n → AreNew ps done
      → document_tree (pair_nodes at ps n) done ≡ Ok (tree.document (joined done (sorted_pairs ps)))
  pairs_again at no_pairs n done c d new = ap (λ x. Ok (tree.document x)) (sym (joined_none done))
  pairs_again at (pair key t ps) n done c d new =
      let u = tree_node at t n in
      let ns = pair_nodes at ps n in
      let value = judged u >>= λ _. as_tree u in
      let others = λ (x : Tree). document_tree ns (put key x done) in
      let read : value ≡ Ok (sorted_tree t) = ap (λ r. r >>= λ _. as_tree u) (judged_readable at t n c.2 (omega arith)) ∙ tree_again at t n c.2 (omega arith) in
      ap (λ m. by_key m key u value others (λ x. after_code x ns) (λ qs. after_scope qs ns)) c.0
      ∙ ap (λ r. under key r >>= others) read
      ∙ ap (document_tree ns) (put_last key (sorted_tree t) done new.0)
      ∙ pairs_again at ps n (joined done (pair key (sorted_tree t) no_pairs)) c.3 (omega arith) (new_more ps done key (sorted_tree t) c.1 new.1)
      ∙ ap (λ x. Ok (tree.document x)) (joined_one done key (sorted_tree t) (sorted_pairs ps))

  trees_again : (at : Sight) (ts : Trees) (i n : ℕ) → AreTreesReadable ts → trees_depth ts ≤ n → array_trees i (tree_nodes at i ts n) ≡ Ok (sorted_trees ts)
  trees_again at no_trees i n c d = refl
  trees_again at (tree.tree t ts) i n c d =
      let u = tree_node at t n in
      let ns = tree_nodes at (suc i) ts n in
      ap (λ r. under_index i (r >>= λ _. as_tree u) >>= λ x. result_map (tree.tree x) (array_trees (suc i) ns)) (judged_readable at t n c.0 (omega arith))
      ∙ ap (λ r. under_index i r >>= λ x. result_map (tree.tree x) (array_trees (suc i) ns)) (tree_again at t n c.0 (omega arith))
      ∙ ap (result_map (tree.tree (sorted_tree t))) (trees_again at ts (suc i) n c.1 (omega arith))

-- a clean tree is read as itself
pub read_again : (at : Sight) (t : Tree) (levels : ℕ) → IsReadable t → depth t ≤ levels → read_tree (tree_node at t levels) ≡ Ok (sorted_tree t)
read_again at t levels c d = ap (λ r. r >>= as_tree) (judged_readable at t levels c d) ∙ tree_again at t levels c d

-- ---- at the leaves of extended kinds

kind_again : (b : Bool) (t : Tree) (v : Value) → cond b (Some (datum itself (sorted_tree t))) None ≡ Some v → ReadAs contents (result_map (datum made) (cond b (Ok (sorted_tree t)) (refused (wrong_kind (kind (sorted_tree t)))))) v
kind_again true t v e = (datum made (sorted_tree t), refl, datum_contents (sorted_tree t) ∙ some_is (datum itself (sorted_tree t)) v e)
kind_again false t v e = absurd (no_some e)

uuid_again : (a b : Bool) (bs : Bytes) (v : Value) (r : Reading Bytes) → cond (a && b) (Some (uuid_datum itself bs)) None ≡ Some v → ReadAs contents (result_map (uuid_datum made) (cond a (cond b (Ok bs) (refused (invalid_length (length bs)))) r)) v
uuid_again true true bs v r e = (uuid_datum made bs, refl, some_is (uuid_datum itself bs) v e)
uuid_again true false bs v r e = absurd (no_some e)
uuid_again false b bs v r e = absurd (no_some e)

-- what a clean tree is there is read from it
pub extended_again : (at : Sight) (k : ExtendedLeaf) (t : Tree) (v : Value) (levels : ℕ) → IsClean t → depth t ≤ levels → views_extended k t ≡ Some v → ReadAs contents (read_extended k (tree_node at t levels)) v
extended_again at object_ids (tree.object_id id) v levels c d e = (datum made (tree.object_id id), refl, some_is (datum itself (tree.object_id id)) v e)
extended_again at uuids (tree.binary zero b) v levels c d e = absurd (no_some e)
extended_again at uuids (tree.binary (suc n) b) v levels c d e = uuid_again (nat_eq (suc n) 4) (nat_eq (length b) 16) b v _ e
extended_again at (of_kind k) t v levels c d e =
    subst (λ (r : Reading Tree). ReadAs contents (result_map (datum made) (r >>= tree_of_kind k)) v) (sym (tree_again at t levels (clean_readable t c) d))
    (kind_again (nat_eq (byte (kind (sorted_tree t))) (byte k)) t v (ap (λ j. cond (nat_eq (byte j) (byte k)) (Some (datum itself (sorted_tree t))) None) (sorted_kind t) ∙ e))
extended_again at leaf_kinds.trees t v levels c d e =
    (datum made (sorted_tree t), ap (result_map (datum made)) (tree_again at t levels (clean_readable t c) d), datum_contents (sorted_tree t) ∙ some_is (datum itself (sorted_tree t)) v e)
extended_again at documents (tree.document ps) v levels c d e =
    let u = sorted_tree (tree.document ps) in
    (datum made u, ap (λ r. result_map (λ qs. datum made (tree.document qs)) (r >>= pairs_in)) (tree_again at (tree.document ps) levels (clean_readable (tree.document ps) c) d), datum_contents u ∙ some_is (datum itself u) v e)
extended_again at k t v levels c d e = absurd (no_some e)
