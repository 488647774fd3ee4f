-- What a writer has made of the parts that it was given so far. It has nothing any more once it has failed. Source: this library's own readers and writers.
use Rattle.std.specs.Prelude.{Bool, Option}
use Rattle.bson_kinds.specs.Text.{Utf8}
use Rattle.bson_base.specs.Tree.{Trees, Pairs}

-- the trees of values, and whether values with two forms are made in their readable form
pub record ItemsMade : Type 0 where
  pub readable : Bool
  pub trees : Option Trees

-- the pairs of a document
pub record PairsMade : Type 0 where
  pub readable : Bool
  pub pairs : Option Pairs

-- the same, with the text of the key that the next value takes
pub record EntriesMade : Type 0 where
  pub made : PairsMade
  pub key : Utf8

-- the same, with the name of a variant
pub record VariantItemsMade : Type 0 where
  pub variant : Utf8
  pub made : ItemsMade

pub record VariantPairsMade : Type 0 where
  pub variant : Utf8
  pub made : PairsMade
