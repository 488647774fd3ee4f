-- The text of a reason. Source: this library's own texts.
use Rattle.std.specs.Prelude.{◌++◌, codes}
use Rattle.bson_kinds.specs.Text.{Utf8}
use Rattle.bson_evolve_differences.specs.Reasons.{Reason, may_be_null, narrower, other_length, other_keys, no_row, missing_field, unknown_field, missing_variant, other_content, missing_in_variant}

abbrev pub reason_text : Reason → Utf8
reason_text may_be_null = codes "the old part may be null, and the new one takes no null"
reason_text narrower = codes "the new type lacks numbers of the old one"
reason_text other_length = codes "the tuples have different numbers of items"
reason_text other_keys = codes "keys of the old part are not keys of the new map"
reason_text no_row = codes "the table has no row for such parts"
reason_text (missing_field name) = codes "the new field " ++ (name ++ codes " is no option, and the old struct lacks it")
reason_text (unknown_field name) = codes "the new struct refuses the field " ++ name
reason_text (missing_variant name) = codes "the new enum lacks the variant " ++ name
reason_text (other_content name) = codes "the variant " ++ (name ++ codes " has other content")
reason_text (missing_in_variant variant name) = codes "the new field " ++ (name ++ (codes " of the variant " ++ (variant ++ codes " is no option, and the old variant lacks it")))
