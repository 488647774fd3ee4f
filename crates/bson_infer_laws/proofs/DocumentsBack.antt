-- The bytes of sound documents, one behind another, are these documents.
use Rattle.std.proofs.Common.{◌≡◌, ℕ, zero, suc, ◌+◌, ◌^◌, ◌<◌, ◌≤◌, ◌++◌, length, Some, None, Result, Ok, false, cond, refl, ap, sym, ◌∙◌, arith}
use Rattle.std.specs.Prelude.{nat_lt}
use Rattle.std.specs.Str.{bytes_eq}
use Rattle.std.proofs.lemmas.Bool.{le-ltb, cond-false}
use Rattle.std.proofs.lemmas.List.{length-append, take_at, drop_at}
use Rattle.bson_kinds.specs.Outcome.{◌>>=◌, result_map}
use Rattle.bson_base.specs.Pairs.{put}
use Rattle.bson_base.specs.Sound.{Lacks, IsClean, ArePairsClean, AreTreesClean, IsSound}
use Rattle.bson_kinds.specs.Text.{Bytes, Utf8}
use Rattle.bson_base.specs.Tree as tree
use Rattle.bson_base.specs.Tree.{Tree, document, array, Pairs, no_pairs, pair, Trees, no_trees, kind, enclosed, enc, elements, array_elements, depth, pairs_depth, trees_depth}
use Rattle.bson_kinds.specs.declared.element_type.ElementType.TheVariants.{EmbeddedDocument}
use Rattle.bson_base.proofs.Lengths.{head_size, tail_size, first_size, later_size, elements_size, array_elements_size, length-javascript_code_with_scope}
use Rattle.bson_rawdoc.specs.Cut.{with_piece, length_within, piece_length, cut_from, cut}
use Rattle.bson_rawdoc.specs.DocumentTree.{pairs_with, and_last, trees_with, pairs_at, trees_at, tree_at, document_pairs}
use Rattle.bson_rawdoc.specs.Extent.{extent}
use Rattle.bson_rawdoc.specs.RawValue.{value_in}
use Rattle.bson_rawdoc.specs.Walk.{walk_elements}
use Rattle.bson_faults.specs.declared.raw.Error.{Error}
use Rattle.bson_rawdoc.proofs.Pieces.{cut-nil, cut_more}
use Rattle.bson_rawdoc.proofs.Walks.{walk-nil}
use Rattle.bson_laws.specs.Datum.{sorted_tree, sorted_pairs, sorted_trees}
use Rattle.bson_laws.proofs.Coded.{clean_coded}
use Rattle.bson_laws.proofs.Encoded.{walk_inside, walk_again, array_walk_again}
use Rattle.bson_laws.proofs.Extents.{extent_again}
use Rattle.bson_laws.proofs.Fitted.{unlike_swap}
use Rattle.bson_laws.proofs.ReadBack.{envelope_again}
use Rattle.bson_infer_laws.specs.Encodings.{piece_pairs, encodings, cut_into}
use Rattle.bson_infer_laws.specs.Inferred.{AllTrees}
use Rattle.bson_laws.proofs.Judged.{clean_not_raw}
use Rattle.bson_infer_laws.proofs.RawValues.{raw_of, value_back}

-- ---- pairs one behind another

abbrev and_pairs : Pairs → Pairs → Pairs
and_pairs no_pairs qs = qs
and_pairs (pair k t ps) qs = pair k t (and_pairs ps qs)

and_none : (ps : Pairs) → and_pairs ps no_pairs ≡ ps
and_none no_pairs = refl
and_none (pair k t ps) = ap (pair k t) (and_none ps)

and_one : (ps : Pairs) (k : Utf8) (t : Tree) (qs : Pairs) → and_pairs (and_pairs ps (pair k t no_pairs)) qs ≡ and_pairs ps (pair k t qs)
and_one no_pairs k t qs = refl
and_one (pair j u ps) k t qs = ap (pair j u) (and_one ps k t qs)

put_last : (k : Utf8) (t : Tree) (ps : Pairs) → Lacks k ps → put k t ps ≡ and_pairs ps (pair k t no_pairs)
put_last k t no_pairs l = refl
put_last k t (pair j u ps) l = ap (λ b. cond b (pair j t ps) (pair j u (put k t ps))) l.0 ∙ ap (pair j u) (put_last k t ps l.1)

-- no pair that is to come has the key of one that is there
abbrev AreNew : Pairs → Pairs → Type 0
AreNew no_pairs done = Unit {0}
AreNew (pair k t ps) done = Lacks k done × AreNew ps done

new_first : (ps : Pairs) → AreNew ps no_pairs
new_first no_pairs = tt
new_first (pair k t ps) = (tt, new_first ps)

lacks_one : (k key : Utf8) (t : Tree) (done : Pairs) → bytes_eq k key ≡ false → Lacks k done → Lacks k (and_pairs done (pair key t no_pairs))
lacks_one k key t no_pairs e l = (e, tt)
lacks_one k key t (pair j u done) e l = (l.0, lacks_one k key t done e l.1)

new_more : (ps done : Pairs) (key : Utf8) (t : Tree) → Lacks key ps → AreNew ps done → AreNew ps (and_pairs done (pair key t no_pairs))
new_more no_pairs done key t l n = tt
new_more (pair k u ps) done key t l n = (lacks_one k key t done (unlike_swap key k l.0) n.0, new_more ps done key t l.1 n.1)

-- ---- values one behind another

abbrev and_trees : Trees → Trees → Trees
and_trees no_trees us = us
and_trees (tree.tree t ts) us = tree.tree t (and_trees ts us)

all_trees : (ts : Trees) → and_trees ts no_trees ≡ ts
all_trees no_trees = refl
all_trees (tree.tree t ts) = ap (tree.tree t) (all_trees ts)

and_last_one : (ts : Trees) (t : Tree) (us : Trees) → and_trees (and_last ts t) us ≡ and_trees ts (tree.tree t us)
and_last_one no_trees t us = refl
and_last_one (tree.tree u ts) t us = ap (tree.tree u) (and_last_one ts t us)

-- ---- trees

-- an encoded value is the tree, where so many levels are left for it
abbrev IsBack : ℕ → Type 0
IsBack levels = (t : Tree) → IsClean t → depth t ≤ levels → length (enc t) < 2 ^ 31 → (value_in (kind t) (enc t) >>= tree_at levels) ≡ Ok (sorted_tree t)

module _ (levels : ℕ) (each : IsBack levels) where
  pairs_back : (done ps : Pairs) → ArePairsClean ps → pairs_depth ps ≤ levels → length (elements ps) < 2 ^ 31 → AreNew ps done
      → pairs_with (tree_at levels) done (walk_elements (elements ps)) ≡ Ok (and_pairs done (sorted_pairs ps))
  pairs_back done no_pairs c d l new = ap (pairs_with (tree_at levels) done) walk-nil ∙ ap Ok (sym (and_none done))
  pairs_back done (pair key t ps) c d l new =
      let u = sorted_tree t in
      let rest = walk_elements (elements ps) in
      ap (pairs_with (tree_at levels) done) (walk_again key t ps (c.0.text, c.0.free.no_zero) (clean_coded t c.2) l)
      ∙ ap (λ r. r >>= λ v. pairs_with (tree_at levels) (put key v done) rest) (each t c.2 (omega arith) (omega (arith, head_size key t ps)))
      ∙ ap (λ qs. pairs_with (tree_at levels) qs rest) (put_last key u done new.0)
      ∙ pairs_back (and_pairs done (pair key u no_pairs)) ps c.3 (omega arith) (omega (arith, tail_size key t ps)) (new_more ps done key u c.1 new.1)
      ∙ ap Ok (and_one done key u (sorted_pairs ps))

  trees_back : (i : ℕ) (done ts : Trees) → AreTreesClean ts → trees_depth ts ≤ levels → length (array_elements i ts) < 2 ^ 31
      → trees_with (tree_at levels) done (walk_elements (array_elements i ts)) ≡ Ok (and_trees done (sorted_trees ts))
  trees_back i done no_trees c d l = ap (trees_with (tree_at levels) done) walk-nil ∙ ap Ok (sym (all_trees done))
  trees_back i done (tree.tree t ts) c d l =
      let u = sorted_tree t in
      let rest = walk_elements (array_elements (suc i) ts) in
      ap (trees_with (tree_at levels) done) (array_walk_again i t ts (clean_coded t c.0) l)
      ∙ ap (λ r. r >>= λ v. trees_with (tree_at levels) (and_last done v) rest) (each t c.0 (omega arith) (omega (arith, first_size i t ts)))
      ∙ trees_back (suc i) (and_last done u) ts c.1 (omega arith) (omega (arith, later_size i t ts))
      ∙ ap Ok (and_last_one done u (sorted_trees ts))

  -- the document or the array that has such elements
  pub document_back : (ps : Pairs) → ArePairsClean ps → pairs_depth ps ≤ levels → length (elements ps) < 2 ^ 31 → pairs_at (suc levels) (enclosed (elements ps)) ≡ Ok (sorted_pairs ps)
  document_back ps c d l = ap (pairs_with (tree_at levels) no_pairs) (walk_inside (elements ps)) ∙ pairs_back no_pairs ps c d l (new_first ps)

  array_back : (ts : Trees) → AreTreesClean ts → trees_depth ts ≤ levels → length (array_elements 0 ts) < 2 ^ 31 → trees_at (suc levels) (enclosed (array_elements 0 ts)) ≡ Ok (sorted_trees ts)
  array_back ts c d l = ap (trees_with (tree_at levels) no_trees) (walk_inside (array_elements 0 ts)) ∙ trees_back 0 no_trees ts c d l

-- the value in its bytes is the tree
abbrev IsMade : ℕ → Type 0
IsMade levels = (t : Tree) → IsClean t → depth t ≤ levels → length (enc t) < 2 ^ 31 → tree_at levels (raw_of t) ≡ Ok (sorted_tree t)

read_first : (levels : ℕ) → IsMade levels → IsBack levels
read_first levels make t c d l = ap (λ r. r >>= tree_at levels) (value_back t (clean_not_raw t c) (clean_coded t c) l) ∙ make t c d l

tree_back : (levels : ℕ) → IsMade levels
tree_back zero (document ps) c d l = absurd (omega arith)
tree_back zero (array ts) c d l = absurd (omega arith)
tree_back zero (tree.javascript_code_with_scope code scope) c d l = absurd (omega arith)
tree_back (suc n) (document ps) c d l = ap (result_map document) (document_back n (read_first n (tree_back n)) ps c (omega arith) (omega (arith, elements_size ps)))
tree_back (suc n) (array ts) c d l = ap (result_map array) (array_back n (read_first n (tree_back n)) ts c (omega arith) (omega (arith, array_elements_size ts)))
tree_back (suc n) (tree.javascript_code_with_scope code scope) c d l =
    ap (result_map (tree.javascript_code_with_scope code)) (document_back n (read_first n (tree_back n)) scope c.1 (omega arith) (omega (arith, length-javascript_code_with_scope code scope)))
tree_back levels (tree.raw k b) c d l = absurd c
tree_back levels t c d l = refl

-- ---- a file

-- the bytes of a sound document are the document, with the options of its regular expressions in order
pub read_back : (ps : Pairs) → IsSound (document ps) → piece_pairs (enc (document ps)) ≡ Ok (sorted_pairs ps)
read_back ps s =
    let small : length (enc (document ps)) < 2 ^ 31 = let f = s.fits in omega arith in
    ap (λ r. r >>= document_pairs) (envelope_again ps small) ∙ document_back 199 (read_first 199 (tree_back 199)) ps s.clean (let n = s.nests in omega arith) (omega (arith, small, elements_size ps))

there : (n : ℕ) (bytes : Bytes) (r : Result ℕ Error) → r ≡ Ok n → n ≤ length bytes → length_within (length bytes) r ≡ Some n
there n bytes r e l = ap (length_within (length bytes)) e ∙ cond-false (nat_lt (length bytes) n) None (Some n) (le-ltb _ _ l)

-- a document in front is cut off
pub first_cut : (place : ℕ) (ps : Pairs) (rest : Bytes) → IsSound (document ps)
    → cut_from place (enc (document ps) ++ rest) ≡ with_piece (enc (document ps)) (cut_from (place + length (enc (document ps))) rest)
first_cut place ps rest s =
    let bytes = enc (document ps) in
    let n = length bytes in
    let small : n < 2 ^ 31 = let f = s.fits in omega arith in
    let long : piece_length (bytes ++ rest) ≡ Some n = there n (bytes ++ rest) (extent EmbeddedDocument (bytes ++ rest)) (extent_again (document ps) rest (clean_coded (document ps) s.clean) small) (omega (arith, length-append bytes rest)) in
    cut_more place (bytes ++ rest) n long ∙ (λ i. with_piece (take_at bytes rest n refl i) (cut_from (place + n) (drop_at bytes rest n refl i)))

cut_back : (place : ℕ) (ts : Trees) → AllTrees IsSound ts → cut_from place (encodings ts) ≡ cut_into ts
cut_back place no_trees s = cut-nil place
cut_back place (tree.tree (document ps) ts) s = first_cut place ps (encodings ts) s.0 ∙ ap (with_piece (enc (document ps))) (cut_back (place + length (enc (document ps))) ts s.1)
cut_back place (tree.tree t ts) s = absurd s.0.document

-- the bytes of sound documents, one behind another, are cut into the bytes of each
pub file_back : (ts : Trees) → AllTrees IsSound ts → cut (encodings ts) ≡ cut_into ts
file_back ts s = cut_back 0 ts s
