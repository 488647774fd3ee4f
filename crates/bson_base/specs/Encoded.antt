-- The bytes of a document, or why it has none. Source: bsonspec.org, version 1.1, `cstring`, and the limits of this library.
use Rattle.std.specs.Prelude.{◌≡◌, ℕ, ◌++◌, length, nat_lt, if◌then◌else◌, Option, Some, None, Result, Ok, Err, string_bytes}
use Rattle.std.specs.Global.{Vec}
use Rattle.bson_kinds.specs.Outcome.{or_else}
use Rattle.bson_kinds.specs.Text.{Bytes, Utf8, has_zero}
use Rattle.bson_base.specs.Sound.{max_bytes, max_binary}
use Rattle.bson_base.specs.Tree.{Tree, document, array, binary, regular_expression, javascript_code_with_scope, Pairs, no_pairs, pair, Trees, no_trees, tree, behind_subtype, enc}
use Rattle.bson_base.specs.declared.encoding.EncodeError.{EncodeError}
use Rattle.bson_base.specs.declared.encoding.EncodeError.TheVariants as errors

-- why a document has no bytes
pub data EncodeFault : Type 0 where
  -- this key, or part of a regular expression, holds a zero character
  key_zero : Utf8 → EncodeFault
  -- a binary is longer than one of its subtype may be: it has so many bytes behind its subtype
  binary_too_long : ℕ → EncodeFault
  -- there are more bytes than a document may have
  too_long : EncodeFault

abbrev pub zero_fault : Utf8 → Option EncodeFault
zero_fault t = if has_zero t then Some (key_zero t) else None

abbrev pub binary_fault : (subtype : ℕ) → Bytes → Option EncodeFault
binary_fault subtype bytes = if nat_lt (max_binary subtype) (length bytes) then Some (binary_too_long (length (behind_subtype subtype bytes))) else None

abbrev mutual
  -- the first fault of the keys, the regular expressions and the binaries of a value, in document order
  pub encode_fault : Tree → Option EncodeFault
  encode_fault (document ps) = pairs_encode_fault ps
  encode_fault (array ts) = trees_encode_fault ts
  encode_fault (binary subtype bytes) = binary_fault subtype bytes
  encode_fault (regular_expression pattern options) = or_else (zero_fault pattern) (zero_fault options)
  encode_fault (javascript_code_with_scope code scope) = pairs_encode_fault scope
  encode_fault t = None

  pub pairs_encode_fault : Pairs → Option EncodeFault
  pairs_encode_fault no_pairs = None
  pairs_encode_fault (pair key t ps) = or_else (zero_fault key) (or_else (encode_fault t) (pairs_encode_fault ps))

  pub trees_encode_fault : Trees → Option EncodeFault
  trees_encode_fault no_trees = None
  trees_encode_fault (tree t ts) = or_else (encode_fault t) (trees_encode_fault ts)

-- these bytes, where there is no fault and they are no more than a document may have
abbrev pub within_limit : Option EncodeFault → Bytes → Result Bytes EncodeFault
within_limit (Some f) bytes = Err f
within_limit None bytes = if nat_lt max_bytes (length bytes) then Err too_long else Ok bytes

-- the bytes of a document, or the first fault in it; that there are too many bytes comes last
abbrev pub encoded : Pairs → Result Bytes EncodeFault
encoded ps = within_limit (pairs_encode_fault ps) (enc (document ps))

-- the fault that an error tells; none where memory ran out
abbrev pub fault_told : EncodeError → Option EncodeFault
fault_told (errors.KeyZero t) = Some (key_zero (string_bytes t))
fault_told (errors.BinaryTooLong n) = Some (binary_too_long n)
fault_told errors.TooLong = Some too_long
fault_told errors.NoMemory = None

-- the call is refused so, unless memory ran out
abbrev pub IsRefusedFor : Option EncodeFault → Result Bytes EncodeFault → Type 0
IsRefusedFor None r = Unit {0}
IsRefusedFor (Some f) r = r ≡ Err f

-- the call gives these bytes, or is refused for this fault, unless memory ran out
abbrev pub Encodes : Result (Vec ℕ) EncodeError → Result Bytes EncodeFault → Type 0
Encodes (Ok v) r = r ≡ Ok v.items
Encodes (Err e) r = IsRefusedFor (fault_told e) r

-- the same, of a part of the document, for the fault that is the first in it
abbrev pub IsPartRefusedFor : Option EncodeFault → Option EncodeFault → Type 0
IsPartRefusedFor None fault = Unit {0}
IsPartRefusedFor (Some f) fault = fault ≡ Some f

-- the error tells that this text holds a zero, or that memory ran out
abbrev pub TellsZero : EncodeError → Utf8 → Type 0
TellsZero e t = IsPartRefusedFor (fault_told e) (Some (key_zero t))

-- a part without a fault is appended as these bytes; one with a fault is refused for it
abbrev pub Puts : Result (Unit {0}) EncodeError → Option EncodeFault → (old new bytes : Bytes) → Type 0
Puts (Ok u) fault old new bytes = (fault ≡ None) × (new ≡ old ++ bytes)
Puts (Err e) fault old new bytes = IsPartRefusedFor (fault_told e) fault
