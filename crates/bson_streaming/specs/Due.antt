-- What is due to a sink. For the contracts of functions inside this crate and their proofs. Source: this library's own programs.
use Rattle.std.specs.Prelude.{◌≡◌, ◌++◌, Option, Result, Ok, Err}
use Rattle.std.specs.Io.KnownBytes.{Appends}
use Rattle.bson_kinds.specs.Text.{Bytes}
use Rattle.bson_io.specs.Ends.{RoseOrLast, AppendsPrefix}
use Rattle.bson_io.specs.declared.ends.Failed.{Failed}
use Rattle.bson_program.specs.Ends.{SinkChange}

-- A first part of these bytes was written, and the rest is due.
pub record IsDue (old new : Option Bytes) (due bytes : Bytes) : Type 0 where
  pub wrote : Bytes
  pub grown : Appends old new wrote
  pub whole : bytes ≡ wrote ++ due

-- A first part of what was due was written, and the rest is due; no call on the sink failed.
pub record Moves (out : SinkChange) (old new : Bytes) : Type 0 where
  pub parts : IsDue out.before out.after new old
  pub quiet : out.faults_after ≡ out.faults_before

-- A first part of what was due was written, and a call on the sink failed.
pub record Fails (out : SinkChange) (due : Bytes) : Type 0 where
  pub part : AppendsPrefix out.before out.after due
  pub cause : RoseOrLast out.faults_before out.faults_after

abbrev pub IsFlushed : SinkChange → (old new : Bytes) → Result (Unit {0}) Failed → Type 0
IsFlushed out old new (Ok u) = Moves out old new
IsFlushed out old new (Err e) = Fails out old
