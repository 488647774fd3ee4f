-- A value at an option.
use Rattle.std.proofs.Common.{◌≡◌, true, Ok, refl}
use Rattle.bson_rawdoc.specs.Node.{Node, null}
use Rattle.bson_values.specs.Marked.{Marked}
use Rattle.bson_values.specs.Value as value
use Rattle.bson_laws.specs.Containers.{reads_option}
use Rattle.bson_laws.specs.Judged.{Reading}
use Rattle.bson_met.specs.Nulls.{is_null}

pub option_null : (n : Node) (r : Reading Marked) → is_null n ≡ true → reads_option n r ≡ Ok value.none
option_null null r e = refl
option_null n r e = absurd cc
