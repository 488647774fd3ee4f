-- The printed texts of faults and failures. Source: this library's own texts.
use Rattle.std.specs.Prelude.{[], ◌∷◌, ◌++◌, Option, Some, option_map, codes}
use Rattle.std.specs.Fmt.{decimal}
use Rattle.bson_kinds.specs.Text.{Utf8}
use Rattle.bson_values.specs.PathView.{path_view}
use Rattle.bson_values.specs.Printed.{printed_path}
use Rattle.bson_values.specs.Refusal.{Path}
use Rattle.bson_values.specs.Wrapper.{key}
use Rattle.bson_json_laws.specs.declared.failure.Failure.{Failure}
use Rattle.bson_json_laws.specs.declared.failure.Failure.TheVariants.{At, NoMemory}
use Rattle.bson_json_laws.specs.declared.json_fault.JsonFault.{JsonFault}
use Rattle.bson_json_laws.specs.declared.json_fault.JsonFault.TheVariants.{NotJson, BadWrapper, KeyTwice, NumberTooLarge, NotDocument, TooDeep}
use Rattle.bson_json_laws.specs.declared.text_fault.TextFault.{TextFault}
use Rattle.bson_json_laws.specs.declared.text_fault.TextFault.TheVariants as text_faults
use Rattle.bson_json_laws.specs.declared.text_fault.TextFault.TheVariants.{WrapperKey, OddNan, OddDecimal}

abbrev pub printed_text_fault : TextFault → Utf8
printed_text_fault WrapperKey = codes "wrapper key"
printed_text_fault OddNan = codes "NaN with other bytes"
printed_text_fault OddDecimal = codes "decimal with other bytes"
printed_text_fault text_faults.TooDeep = codes "nested deeper than 200 levels"

abbrev pub printed_json_fault : JsonFault → Utf8
printed_json_fault (NotJson place) = codes "not JSON at byte " ++ decimal place
printed_json_fault (BadWrapper w) = codes "bad " ++ key w
printed_json_fault KeyTwice = codes "key twice"
printed_json_fault NumberTooLarge = codes "number too large"
printed_json_fault NotDocument = codes "not a document"
printed_json_fault TooDeep = codes "nested deeper than 200 levels"

-- where a fault is; nothing where it is of the whole
abbrev pub printed_place : Path → Utf8
printed_place [] = []
printed_place (s ∷ ss) = codes " at " ++ printed_path (s ∷ ss)

-- a failure, whose fault is printed so, where that is known
abbrev pub printed_failure : {F : Type 0} → (F → Option Utf8) → Failure F → Option Utf8
printed_failure printed NoMemory = Some (codes "out of memory")
printed_failure printed (At path fault) = option_map (λ t. t ++ printed_place (path_view path)) (printed fault)
