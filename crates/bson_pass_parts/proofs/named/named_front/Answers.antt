use Rattle.std.proofs.Common.{drop}
use Rattle.bson_rawdoc.specs.Walk.{walk_elements}
use Rattle.bson_pass_parts.specs.Run.{element_of, size}
use Rattle.bson_pass_parts.proofs.Runs.{front_is}
use Rattle.bson_pass_parts.proofs.named.named_front.Goals as goal

pub returns : goal.returns
returns c =
    let e = element_of c.args.kind c.args.key.now c.args.value.now in
    front_is c.args.bytes.now e (walk_elements (drop (size e) c.args.bytes.now), c.requires.behind)
