-- A migration under way. For the contracts of functions inside this crate and their proofs; no public contract cites it. Source: this library's own programs.
use Rattle.std.specs.Prelude.{◌≡◌, ◌+◌, ℕ, List, [], ◌++◌, length}
use Rattle.bson_kinds.specs.Text.{Bytes}
use Rattle.bson_rawdoc.specs.Cut.{Cut, cut}
use Rattle.bson_shape.specs.Form.{Form}
use Rattle.bson_tree_recast.specs.Recast.{Recast}
use Rattle.bson_migrate_run.specs.declared.migrating.Refused.{Refused}
use Rattle.bson_migrate_run.specs.Migrating.{bytes_of, outputs, listed, not_recast, AreListed}

-- The recast of the document with this number: its bytes are behind the output now, and it is last in the list if it is refused.
pub record IsOneMigrated (number : ℕ) (r : Recast) (old new : Bytes) (before after : List Refused) : Type 0 where
  pub more : List Refused
  pub are_listed : AreListed (listed number r []) more
  pub grew : after ≡ before ++ more
  pub wrote : new ≡ old ++ bytes_of r

-- So far: of a file this is left, from the document of this number on; these bytes are the output, and these documents are listed.
pub record IsUnderWay (s : Form) (file : Bytes) (left : Cut) (number : ℕ) (output : Bytes) (refused : List Refused) : Type 0 where
  pub whole : outputs s (cut file).pieces ≡ output ++ outputs s left.pieces
  pub list : (rest : List Refused) → AreListed (not_recast s number left.pieces) rest → AreListed (not_recast s 0 (cut file).pieces) (refused ++ rest)
  pub break : (cut file).broken ≡ left.broken
  pub count : number + length left.pieces ≡ length (cut file).pieces
