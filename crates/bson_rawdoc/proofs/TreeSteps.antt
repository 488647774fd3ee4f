-- One more value of an array.
use Rattle.std.proofs.Common.{◌≡◌, List, [], ◌∷◌, ◌++◌, refl, ap}
use Rattle.bson_base.specs.BsonView.{tree_of, trees_of}
use Rattle.bson_base.specs.Tree.{tree}
use Rattle.bson_base.specs.declared.bson.Bson.{Bson}
use Rattle.bson_rawdoc.specs.DocumentTree.{and_last}

pub last_of : (bs : List Bson) (b : Bson) → trees_of (bs ++ b ∷ []) ≡ and_last (trees_of bs) (tree_of b)
last_of [] b = refl
last_of (c ∷ bs) b = ap (tree (tree_of c)) (last_of bs b)
