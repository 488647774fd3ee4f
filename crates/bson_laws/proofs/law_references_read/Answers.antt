use Rattle.bson_laws.proofs.Bounds.{bytes_within, tree_within}
use Rattle.bson_laws.proofs.CutReads.{height_mended}
use Rattle.bson_laws.proofs.Equations.{read_reference, read_undefined, read_definitions}
use Rattle.bson_laws.proofs.law_references_read.Goals as goal

pub returns : goal.returns
returns c = record { reference = read_reference; undefined = read_undefined; definitions = read_definitions; bytes = bytes_within; trees = tree_within; mended = height_mended }
