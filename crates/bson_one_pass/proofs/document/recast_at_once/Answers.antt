use Rattle.std.proofs.Common.{◌≡◌, ◌≤◌, [], length, sym, rules}
use Rattle.bson_base.specs.Sound.{max_bytes}
use Rattle.bson_rawdoc.specs.DocumentView.{document_bytes}
use Rattle.bson_one_pass.proofs.Whole.{document_put}
use Rattle.bson_one_pass.proofs.document.recast_at_once.Goals as goal

pub returns-in-EmbeddedDocument : goal.returns-in-EmbeddedDocument
returns-in-EmbeddedDocument c =
    let made = c.recast_value.new.made.items in
    let empty : c.in-Ok-with_capacity.made.items ≡ [] = search rules in
    let few : length made ≤ max_bytes = search rules in
    record { recast = document_put c.new.result c.args.shape.now c.args.bytes.now (document_bytes c.in-Ok.document) made c.new.ensures.readable (c.new.ensures.whole c.args.shape.now) (sym c.in-Ok.ensures.envelope) (rw empty at (rw c.in-EmbeddedDocument.is at c.in_ok-recast_value.ensures.put)) few }
