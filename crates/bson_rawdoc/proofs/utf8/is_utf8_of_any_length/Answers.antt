use Rattle.std.proofs.Common.{◌∙◌}
use Rattle.bson_rawdoc.proofs.Keys.{decided}
use Rattle.bson_rawdoc.proofs.utf8.is_utf8_of_any_length.Goals as goal

pub returns : goal.returns
returns c = c.is_ok.ensures.value ∙ decided c.args.bytes.now c.from_utf8.result c.from_utf8.ensures
