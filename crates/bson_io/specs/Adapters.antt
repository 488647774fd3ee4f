-- What contracts see of the adapters over std's readers and writers: their count of faults, and the reader or writer
-- that they wrap. Source: this library's own types.
use Rattle.std.specs.Prelude.{ℕ}
use Rattle.bson_io.specs.declared.adapters.ReadAdapter.{ReadAdapter}
use Rattle.bson_io.specs.declared.adapters.WriteAdapter.{WriteAdapter}

-- how many reads failed so far
abbrev pub read_faults : {R : Type 0} → ReadAdapter R → ℕ
read_faults a = a.faults

-- how many writes failed so far
abbrev pub write_faults : {W : Type 0} → WriteAdapter W → ℕ
write_faults a = a.faults

-- the reader that a source wraps
abbrev pub reader_of : {R : Type 0} → ReadAdapter R → R
reader_of a = a.inner

-- the writer that a sink wraps
abbrev pub writer_of : {W : Type 0} → WriteAdapter W → W
writer_of a = a.inner
