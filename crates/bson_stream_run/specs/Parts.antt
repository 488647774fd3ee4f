-- The migration of a file in parts. Source: this library's own programs.
use Rattle.std.specs.Prelude.{ℕ, ◌+◌, ◌++◌, map}
use Rattle.bson_migrate_run.specs.Migrating.{NotRecast, Migrating, broken, migrated}

-- a document that is not recast, where so many documents are before it
abbrev pub renumbered : (documents : ℕ) → NotRecast → NotRecast
renumbered documents d = record d { number = documents + d.number }

-- The migration of a file, by that of a part in front of so many bytes and documents, and by that of what is behind the part.
abbrev pub in_parts : (bytes documents : ℕ) → Migrating → Migrating → Migrating
in_parts bytes documents (broken place) rest = broken place
in_parts bytes documents (migrated output refused) (broken place) = broken (bytes + place)
in_parts bytes documents (migrated output refused) (migrated more others) = migrated (output ++ more) (refused ++ map (renumbered documents) others)
