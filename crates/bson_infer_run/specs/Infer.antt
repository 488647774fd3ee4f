-- What the inference from documents answers. Source: this library's own join of shapes.
use Rattle.std.specs.Prelude.{◌≡◌, ℕ, zero, suc, List, [], ◌∷◌, Result, Ok, Err}
use Rattle.bson_base.specs.BsonView.{pairs_of}
use Rattle.bson_base.specs.Sound.{IsSound}
use Rattle.bson_base.specs.Tree.{document, Trees, no_trees, tree}
use Rattle.bson_base.specs.declared.document.Document.{Document}
use Rattle.bson_shape.specs.Form.{Form}
use Rattle.bson_infer_laws.specs.Inferred.{inferred, AllTrees}
use Rattle.bson_infer_run.specs.declared.error.InferError.{InferError}
use Rattle.bson_infer_run.specs.declared.error.InferError.TheVariants.{NotSound, NoMemory}

-- the documents of a slice, as trees
abbrev pub documents_of : List Document → Trees
documents_of [] = no_trees
documents_of (d ∷ ds) = tree (document (pairs_of d)) (documents_of ds)

abbrev pub AreSound : Trees → Type 0
AreSound ts = AllTrees IsSound ts

-- the tree at this index is not sound, and each before it is
abbrev pub IsFirstUnsound : ℕ → Trees → Type 0
IsFirstUnsound i no_trees = ⊥
IsFirstUnsound zero (tree t ts) = ¬ IsSound t
IsFirstUnsound (suc i) (tree t ts) = IsSound t × IsFirstUnsound i ts

-- the join of the forms of all, where all are sound, unless memory runs out; else the first that is not
abbrev pub Infers : Result Form InferError → Trees → Type 0
Infers (Ok s) ts = AreSound ts × (s ≡ inferred ts)
Infers (Err (NotSound i)) ts = IsFirstUnsound i ts
Infers (Err NoMemory) ts = AreSound ts
