-- What contracts see of a path: its segments. Source: this library's own types.
use Rattle.std.specs.Prelude.{map, string_bytes}
use Rattle.bson_values.specs.Refusal as refusal
use Rattle.bson_values.specs.Refusal.{at_key, at_index}
use Rattle.bson_values.specs.declared.path.Segment.{Segment}
use Rattle.bson_values.specs.declared.path.Segment.TheVariants.{Key, Index}
use Rattle.bson_values.specs.declared.path.Path.{Path}

abbrev pub segment_view : Segment → refusal.Segment
segment_view (Key key) = at_key (string_bytes key)
segment_view (Index n) = at_index n

abbrev pub path_view : Path → refusal.Path
path_view p = map segment_view p.segments.items
