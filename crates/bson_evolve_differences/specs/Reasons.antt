-- Why a pair of parts passes no row of compatibility. Source: this library's own comparison of shapes.
use Rattle.bson_kinds.specs.Text.{Utf8}

pub data Reason : Type 0 where
  -- the old part may be null, and the new one takes no null
  may_be_null : Reason
  -- the new integer type lacks numbers of the old one
  narrower : Reason
  -- the tuples have different numbers of items
  other_length : Reason
  -- keys of the old part are not keys of the new map
  other_keys : Reason
  -- the table has no row for parts of these kinds
  no_row : Reason
  -- the old struct lacks this field of the new one, which is no option
  missing_field : Utf8 → Reason
  -- the new struct refuses this field of the old one
  unknown_field : Utf8 → Reason
  -- the new enum lacks this variant of the old one
  missing_variant : Utf8 → Reason
  -- the contents of this variant are of different kinds, or tuples with different numbers of items
  other_content : Utf8 → Reason
  -- in the variant of the first name, the old struct lacks the field of the second one, which is no option
  missing_in_variant : Utf8 → Utf8 → Reason
