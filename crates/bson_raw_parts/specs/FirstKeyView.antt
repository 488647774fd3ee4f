-- What contracts see of a first key in code. Source: this library's own types.
use Rattle.std.specs.Prelude.{Option, Some, None}
use Rattle.bson_values.specs.declared.wrapper.Wrapper.{Wrapper}
use Rattle.bson_laws.specs.FirstKeys as keys
use Rattle.bson_laws.specs.FirstKeys.{first_key}
use Rattle.bson_raw_parts.specs.declared.first_keys.FirstKey.{FirstKey}
use Rattle.bson_raw_parts.specs.declared.first_keys.FirstKey.TheVariants.{Body, Code, Ordinary}

abbrev pub said_by : Wrapper → keys.FirstKey → FirstKey
said_by w (keys.body form) = Body w
said_by w keys.code = Code
said_by w keys.ordinary = Ordinary

-- what a wrapper key says of the document that begins with it
abbrev pub said : Wrapper → FirstKey
said w = said_by w (first_key w)

-- what a key says, by the wrapper key that it is
abbrev pub said_of : Option Wrapper → FirstKey
said_of (Some w) = said w
said_of None = Ordinary
