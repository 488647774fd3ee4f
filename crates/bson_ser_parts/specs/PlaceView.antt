-- What contracts see of places, and of the places that are left behind some parts. Source: this library's own types.
use Rattle.std.specs.Prelude.{◌≡◌, false, List, ◌∷◌, map, Option, Some, None}
use Rattle.bson_kinds.specs.Text.{Utf8}
use Rattle.bson_values.specs.Value.{Value}
use Rattle.bson_laws.specs.Unwrap.{Part, a_key, a_value, listed_part}
use Rattle.bson_ser_parts.specs.Places.{Place, this_key, key_of, object_id, number, base64, subtype, text, byte_string, decimal, byte, unsigned, scope, agrees}
use Rattle.bson_ser_parts.specs.declared.place.Place as code
use Rattle.bson_ser_parts.specs.declared.place.Place.TheVariants as places

abbrev pub place_view : code.Place → Place
place_view (places.Key name) = this_key name.now
place_view (places.KeyOf name other) = key_of name.now other.now
place_view places.ObjectId = object_id
place_view places.Number = number
place_view places.Base64 = base64
place_view places.Subtype = subtype
place_view places.Text = text
place_view places.Bytes = byte_string
place_view places.Decimal = decimal
place_view places.Byte = byte
place_view places.Unsigned = unsigned
place_view places.Scope = scope

abbrev pub places_view : List code.Place → List Place
places_view ps = map place_view ps

-- what is before some parts, as a function of them
abbrev pub Front : Type 0
Front = List (Part Value) → List (Part Value)

-- a key
abbrev pub key_front : Utf8 → Front
key_front name rest = a_key name ∷ rest

-- a value that is no struct and has one form
abbrev pub plain_front : Value → Front
plain_front v rest = a_value v v ∷ rest

-- a field: its key, and what stands for its value
abbrev pub field_front : Utf8 → Value → Front
field_front name v rest = a_key name ∷ listed_part v rest

-- The parts at the front are what the first places say, and these places are left for the parts behind them; or no places, where a part is not what its place says.
abbrev pub Behind : Option (List code.Place) → (places : List code.Place) → Front → Type 0
Behind (Some left) ps front = (rest : List (Part Value)) → agrees (places_view ps) (front rest) ≡ agrees (places_view left) rest
Behind None ps front = (rest : List (Part Value)) → agrees (places_view ps) (front rest) ≡ false
