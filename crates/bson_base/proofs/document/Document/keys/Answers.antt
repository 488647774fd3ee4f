use Rattle.std.proofs.Common.{◌∙◌, ap}
use Rattle.bson_key_map.specs.Keys.{key_texts}
use Rattle.bson_base.proofs.Documents.{keys-pairs, distinct-pairs}
use Rattle.bson_base.proofs.document.Document.keys.Goals as goal

pub returns : goal.returns
returns c =
    let ps = c.args.self.now.0 in
    record { keys = c.over.ensures ∙ ap key_texts c.as_slice.ensures.pairs ∙ keys-pairs ps; distinct = distinct-pairs ps c.as_slice.ensures.unique }
