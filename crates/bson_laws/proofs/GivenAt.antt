-- What reading gives at a shape.
use Rattle.std.proofs.Common.{◌≡◌, Ok}
use Rattle.bson_rawdoc.specs.Node.{Sight, Node}
use Rattle.bson_shape.specs.Form.{Form}
use Rattle.bson_values.specs.Marked.{Marked, contents}
use Rattle.bson_laws.specs.Reads.{reads}
use Rattle.bson_laws.specs.ReadsExtended.{read_extended}
use Rattle.bson_laws.proofs.Given as given
use Rattle.bson_laws.proofs.Given.{IsGiven}
use Rattle.bson_laws.proofs.GivenExtended.{extended_given}
use Rattle.bson_laws.proofs.Tame.{IsTame}

pub reads_given : (at : Sight) (s : Form) (n : Node) (v : Marked) → IsTame at n → reads s n ≡ Ok v → IsGiven at (contents v) s
reads_given = given.reads_given read_extended extended_given
