-- What a call that writes a whole value answers. Source: this library's own errors.
use Rattle.std.specs.Prelude.{Bool, Result, Ok, Err}
use Rattle.bson_kinds.specs.Outcome.{◌>>=◌}
use Rattle.bson_base.specs.Tree.{Tree, document, kind, Pairs}
use Rattle.bson_values.specs.Cause.{not_document}
use Rattle.bson_values.specs.Refusal.{WriteFault, unwritable, Refusal, here, Failure, bare, with_path}
use Rattle.bson_values.specs.Value.{Value}
use Rattle.bson_laws.specs.Spell.{Writing}
use Rattle.bson_tree_laws.specs.TreeSpell.{tree_whole}

-- a refusal is answered with its path, or without it
abbrev pub with_paths : {Y : Type 0} → Writing Y → Result Y (Failure WriteFault)
with_paths (Ok x) = Ok x
with_paths (Err r) = Err (with_path r)

abbrev pub without_paths : {Y : Type 0} → Writing Y → Result Y (Failure WriteFault)
without_paths (Ok x) = Ok x
without_paths (Err r) = Err (bare r.fault)

-- the pairs of a document; every other value is refused
abbrev pub only_document : Tree → Writing Pairs
only_document (document ps) = Ok ps
only_document t = Err (here (unwritable (not_document (kind t))))

-- a whole value that is to be a document
abbrev pub document_whole : (readable : Bool) → Value → Writing Pairs
document_whole readable v = tree_whole readable v >>= only_document
