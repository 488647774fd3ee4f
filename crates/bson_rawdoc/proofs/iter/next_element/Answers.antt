use Rattle.std.proofs.Common.{ap, ◌∙◌, arith}
use Rattle.std.proofs.lemmas.List.{nil_from_length}
use Rattle.bson_rawdoc.specs.Walk.{walk_elements}
use Rattle.bson_rawdoc.proofs.Walks.{walk-nil}
use Rattle.bson_rawdoc.proofs.Taken.{step_of}
use Rattle.bson_rawdoc.proofs.iter.next_element.Goals as goal

pub returns-in-empty : goal.returns-in-empty
returns-in-empty c = ap walk_elements (nil_from_length c.args.bytes.now (omega arith)) ∙ walk-nil

pub returns-in-len1-up : goal.returns-in-len1-up
returns-in-len1-up c = step_of c.args.bytes.now c.element_at.result (omega arith) c.element_at.ensures
