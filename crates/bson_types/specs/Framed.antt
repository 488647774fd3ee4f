-- Values that are given by the bytes of a document: these bytes pass the test of the envelope. Source: bsonspec.org, version 1.1, `document`.
use Rattle.std.specs.Prelude.{◌≡◌, Ok}
use Rattle.bson_rawdoc.specs.Envelope.{envelope}
use Rattle.bson_values.specs.Value.{Value, some, newtype, raw_document, mode}

-- the bytes pass the test of their envelope, in each form that the value has
abbrev pub IsFramed : Value → Type 0
IsFramed (raw_document bytes) = envelope bytes ≡ Ok bytes
IsFramed (some v) = IsFramed v
IsFramed (newtype name v) = IsFramed v
IsFramed (mode readable compact) = IsFramed readable × IsFramed compact
IsFramed v = Unit {0}
