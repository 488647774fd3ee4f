-- What contracts see of a value that is dropped. Source: serde's data model.
use Rattle.bson_kinds.specs.Outcome.{◌>>=◌}
use Rattle.bson_rawdoc.specs.Node.{Node}
use Rattle.bson_laws.specs.Judged.{Reading, judged, passes}

-- a value, judged and walked to its end
abbrev pub pass_at : Node → Reading (Unit {0})
pass_at n = judged n >>= passes
