-- What the calls give of a recast. Source: this library's own readers and writers.
use Rattle.std.specs.Prelude.{◌≡◌, ◌⊎◌, ◌++◌, ℕ, ◌<◌, Result, Ok, Err}
use Rattle.std.specs.Global.{Vec}
use Rattle.bson_kinds.specs.Text.{Bytes}
use Rattle.bson_base.specs.Sound.{max_bytes}
use Rattle.bson_shape.specs.Form.{Form}
use Rattle.bson_values.specs.Value.{Value}
use Rattle.bson_values.specs.Refusal.{Path, WriteFault, Failure, bare, placed}
use Rattle.bson_de_raw.specs.ReadsLossy.{reads_lossy}
use Rattle.bson_laws.specs.Reads.{reads_document}
use Rattle.bson_laws.specs.Spell.{size, IsTooLarge}
use Rattle.bson_ser_stream.specs.Writing.{too_long_failure}
use Rattle.bson_tree_recast.specs.Recast.{Recast, writes, recast_read, IsRefusal}
pub use Rattle.bson_tree_recast.specs.Recast.{IfUnwritten, IsForNoNumber}
use Rattle.bson_tree_recast.specs.declared.error.RecastError.{RecastError}
use Rattle.bson_tree_recast.specs.declared.error.RecastError.TheVariants.{Read, Write, NoMemory}

-- the recast of a document's bytes at a shape, where texts are mended
abbrev pub lossy_recast_of : Form → Bytes → Recast
lossy_recast_of s bytes = recast_read (reads_lossy s bytes)

-- What a recast that appends to a buffer returns; the buffer held the old bytes before and holds the new ones now.
abbrev pub IsAppended : Recast → (old new : Bytes) → Result (Unit {0}) RecastError → Type 0
IsAppended r old new (Ok u) = (bytes : Bytes) × (r ≡ writes bytes) × (new ≡ old ++ bytes)
IsAppended r old new (Err e) = IsRefusal r e × (new ≡ old)

-- these bytes, or out of memory
abbrev pub GivesBytes : Bytes → Result (Vec ℕ) RecastError → Type 0
GivesBytes bytes (Ok v) = v.items ≡ bytes
GivesBytes bytes (Err (Read e)) = ⊥
GivesBytes bytes (Err (Write e)) = ⊥
GivesBytes bytes (Err NoMemory) = Unit {0}

-- A value is too large: it takes more bytes than a document may, or something in it nests too deep or is a binary of more bytes than a binary may have.
abbrev pub IsForSize : Form → Bytes → Failure WriteFault → Type 0
IsForSize s bytes f =
    ((f ≡ too_long_failure) × ((d : Value) → reads_document s bytes ≡ Ok d → max_bytes < size d))
    ⊎ ((path : Path) × (fault : WriteFault) × (f ≡ placed path (bare fault)) × IsTooLarge fault)
