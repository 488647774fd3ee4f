-- Why the canonical text of a value is not read as the value. Source: MongoDB's extended JSON, version 2, "Parsers": an object with a wrapper key must be of its form; no text tells the bytes of
-- a NaN, or of a decimal that is not canonical; and what nests too deep is not read.
use Rattle.std.specs.Prelude.{ℕ, suc, nat_le, Bool, false, if◌then◌else◌, Option, Some, None, option_map, is_some, codes}
use Rattle.std.specs.Str.{bytes_eq}
use Rattle.bson_decimals.specs.Decimals.{decimal_text}
use Rattle.bson_decimals.specs.Reading.{decimal_of_text}
use Rattle.bson_kinds.specs.Outcome.{or_else}
use Rattle.bson_kinds.specs.Text.{Bytes, Utf8}
use Rattle.bson_base.specs.Sound.{max_levels}
use Rattle.bson_base.specs.Tree.{Tree, double, document, array, javascript_code_with_scope, decimal128, Pairs, no_pairs, pair, Trees, no_trees, tree, depth}
use Rattle.bson_values.specs.Refusal.{Refusal, here, in_segment, Segment, at_key, at_index}
use Rattle.bson_json_laws.specs.Doubles.{float_in, double_bytes}
use Rattle.bson_json_laws.specs.WrapperKeys.{wrapper_of}
use Rattle.bson_json_laws.specs.declared.text_fault.TextFault.{TextFault}
use Rattle.bson_json_laws.specs.declared.text_fault.TextFault.TheVariants.{WrapperKey, OddNan, OddDecimal, TooDeep}

-- the key is a wrapper key
abbrev pub key_fault : Utf8 → Option (Refusal TextFault)
key_fault key = if is_some (wrapper_of key) then Some (here WrapperKey) else None

-- the bytes are not those that the text of their number stands for
abbrev pub double_fault : Bytes → Option (Refusal TextFault)
double_fault bytes = if bytes_eq (double_bytes (float_in bytes)) bytes then None else Some (here OddNan)

abbrev pub are_these : Bytes → Option Bytes → Bool
are_these bytes (Some others) = bytes_eq others bytes
are_these bytes None = false

abbrev pub decimal_fault : Bytes → Option (Refusal TextFault)
decimal_fault bytes = if are_these bytes (decimal_of_text (decimal_text bytes)) then None else Some (here OddDecimal)

-- a fault of the value at a segment, seen from the value that it is in
abbrev pub fault_in : Segment → Option (Refusal TextFault) → Option (Refusal TextFault)
fault_in s fault = option_map (in_segment s) fault

abbrev mutual
  -- the first fault of a value in document order; of a key before its value
  pub text_fault : Tree → Option (Refusal TextFault)
  text_fault (double bytes) = double_fault bytes
  text_fault (decimal128 bytes) = decimal_fault bytes
  text_fault (document ps) = pairs_text_fault ps
  text_fault (array ts) = trees_text_fault 0 ts
  text_fault (javascript_code_with_scope code scope) = fault_in (at_key (codes "$scope")) (pairs_text_fault scope)
  text_fault t = None

  pub pairs_text_fault : Pairs → Option (Refusal TextFault)
  pairs_text_fault no_pairs = None
  pairs_text_fault (pair key t ps) = or_else (fault_in (at_key key) (or_else (key_fault key) (text_fault t))) (pairs_text_fault ps)

  -- the first value has this index
  pub trees_text_fault : ℕ → Trees → Option (Refusal TextFault)
  trees_text_fault i no_trees = None
  trees_text_fault i (tree t ts) = or_else (fault_in (at_index i) (text_fault t)) (trees_text_fault (suc i) ts)

-- that a document nests deeper than 200 levels
abbrev pub levels_fault : (within : Bool) → Option (Refusal TextFault)
levels_fault within = if within then None else Some (here TooDeep)

-- the first fault of a document; that of its levels comes last
abbrev pub document_text_fault : Pairs → Option (Refusal TextFault)
document_text_fault ps = or_else (pairs_text_fault ps) (levels_fault (nat_le (depth (document ps)) max_levels))
