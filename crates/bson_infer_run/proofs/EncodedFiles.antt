-- The inference from the bytes of sound documents, one behind another.
use Rattle.std.proofs.Common.{◌≡◌, ℕ, suc, true, List, Option, Some, None, Ok, refl, ap, ◌∙◌}
use Rattle.std.specs.Prelude.{if◌then◌else◌}
use Rattle.bson_kinds.specs.Text.{Bytes}
use Rattle.bson_base.specs.Tree.{document, Pairs, Trees, no_trees, tree, enc}
use Rattle.bson_rawdoc.specs.Cut.{Cut, cut}
use Rattle.bson_laws.specs.Datum.{sorted_pairs, sorted_trees}
use Rattle.bson_base.specs.Sound.{IsSound}
use Rattle.bson_infer_laws.specs.Encodings.{encodings, each_encoding, cut_into}
use Rattle.bson_infer_laws.specs.Inferred.{inferred}
use Rattle.bson_infer_laws.specs.Join.{nothing}
use Rattle.bson_infer_laws.proofs.DocumentsBack.{read_back, file_back}
use Rattle.bson_infer_laws.proofs.SortedOptions.{sorted_sound, sorted_joined}
use Rattle.bson_infer_run.specs.Files.{found, piece_pairs, fault_or, first_fault, and_document, documents_in, is_sound_tree, first_unsound, inferring_by, of_cut, inferring_of}
use Rattle.bson_infer_run.specs.Infer.{AreSound}
use Rattle.bson_infer_run.specs.SoundTest.{is_sound}
use Rattle.bson_infer_run.proofs.SoundTests.{sound_decided}

piece_back : (ps : Pairs) → IsSound (document ps) → piece_pairs (enc (document ps)) ≡ Ok (sorted_pairs ps)
piece_back ps s = read_back ps s

no_fault : (n : ℕ) (ts : Trees) → AreSound ts → first_fault n (each_encoding ts) ≡ None
no_fault n no_trees s = refl
no_fault n (tree (document ps) ts) s = ap (λ r. fault_or n r (first_fault (suc n) (each_encoding ts))) (piece_back ps s.0) ∙ no_fault (suc n) ts s.1
no_fault n (tree t ts) s = absurd s.0.document

documents_back : (ts : Trees) → AreSound ts → documents_in (each_encoding ts) ≡ sorted_trees ts
documents_back no_trees s = refl
documents_back (tree (document ps) ts) s = λ i. and_document (piece_back ps s.0 i) (documents_back ts s.1 i)
documents_back (tree t ts) s = absurd s.0.document

none_unsound : (n : ℕ) (ts : Trees) → AreSound ts → first_unsound n (sorted_trees ts) ≡ None
none_unsound n no_trees s = refl
none_unsound n (tree (document ps) ts) s =
    ap (λ b. if b then first_unsound (suc n) (sorted_trees ts) else Some n) ((sound_decided (sorted_pairs ps)).1 (sorted_sound ps s.0)) ∙ none_unsound (suc n) ts s.1
none_unsound n (tree t ts) s = absurd s.0.document

-- it comes to the join of their forms
pub encoded_file : (ts : Trees) → AreSound ts → inferring_of (encodings ts) ≡ found (inferred ts)
encoded_file ts s =
    ap (λ (c : Cut). of_cut c.broken c.pieces) (file_back ts s)
    ∙ (λ i. inferring_by (no_fault 0 ts s i) (first_unsound 0 (documents_back ts s i)) (inferred (documents_back ts s i)))
    ∙ (λ i. inferring_by None (none_unsound 0 ts s i) (sorted_joined nothing ts i))
