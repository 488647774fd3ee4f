-- What decoding a base64 text into a buffer leaves. Source: RFC 4648, section 4.
use Rattle.std.specs.Prelude.{◌≡◌, ℕ, ◌<◌, length, Option, Some, None, Result, Ok, Err}
use Rattle.bson_kinds.specs.Text.{Bytes}
use Rattle.bson_io.specs.Output.{Output, Appended}
use Rattle.bson_values.specs.Cause.{bad_step}
use Rattle.bson_values.specs.Refusal.{unwritable}
use Rattle.bson_writing.specs.Halting.{IsOutOfMemory, IsHereOrMemory}
use Rattle.bson_writing.specs.declared.halt.Halt.{Halt}
use Rattle.bson_ser_stream.specs.declared.base64_text.Base64Fault.{Base64Fault}
use Rattle.bson_ser_stream.specs.declared.base64_text.Base64Fault.TheVariants.{NotBase64, NoMemory}

-- The bytes of the definition were appended.
pub record IsDecoded (expected : Option Bytes) (old new : Output) (before now : ℕ) : Type 0 where
  pub bytes : Bytes
  pub is_expected : expected ≡ Some bytes
  pub appended : Appended old new bytes before now

-- the bytes of the definition were appended; or it gives none; or those that it gives take more room than is spare
abbrev pub Decodes : {T : Type 0} → Result T Base64Fault → Option Bytes → Output → Output → ℕ → ℕ → Type 0
Decodes (Ok x) expected old new before now = IsDecoded expected old new before now
Decodes (Err NotBase64) expected old new before now = expected ≡ None
Decodes (Err NoMemory) expected old new before now = (bytes : Bytes) → expected ≡ Some bytes → old.spare < length bytes

-- the halt is the refusal of a text that is not base64, or memory ran out
abbrev pub IsFault : Base64Fault → Halt → Type 0
IsFault NotBase64 h = IsHereOrMemory (unwritable bad_step) h
IsFault NoMemory h = IsOutOfMemory h
