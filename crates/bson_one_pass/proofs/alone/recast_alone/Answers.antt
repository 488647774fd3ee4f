use Rattle.std.proofs.Common.{◌++◌, ap, ◌∙◌, rules}
use Rattle.bson_rawdoc.specs.Node.{node_in}
use Rattle.bson_laws.specs.Scopes.{laid}
use Rattle.bson_one_pass.proofs.HandedOver.{alone_put}
use Rattle.bson_one_pass.proofs.alone.recast_alone.Goals as goal

pub returns : goal.returns
returns c =
    let old = c.args.made.now.items in
    alone_put (laid c.args.reader.now c.args.shape.now) c.args.levels (node_in c.args.levels c.args.element.now.kind c.args.element.now.value) c.in-Ok.datum c.in-Ok-put_value.kind c.new-out.result.bytes c.put_value.new.out.bytes old c.put.new.made.items (search rules)
    (search rules) c.in-Ok-put_value.ensures.bytes c.in-Ok-put_value.ensures.kind (c.in_ok-put.ensures ∙ ap (λ b. old ++ b) c.as_bytes.ensures)
