use Rattle.std.proofs.Common.{◌≡◌, [], string_bytes, subst, arith}
use Rattle.std.proofs.lemmas.List.{nil_from_length}
use Rattle.bson_buffers.specs.Buffers.{call_of}
use Rattle.bson_buffers.specs.Compares.{IsCompared}
use Rattle.bson_buffers.proofs.Compared.{comparison}
use Rattle.bson_buffers.proofs.differing.compare.Goals as goal

pub returns-in-Ok : goal.returns-in-Ok
returns-in-Ok c =
    let expected = c.in-Ok.expected in
    let none : c.deliver.new.output ≡ [] = nil_from_length c.deliver.new.output (omega (arith, c.deliver.auto.output)) in
    subst (λ after. IsCompared c.args.old.now c.args.new.now c.deliver.result.status (call_of c.deliver.result [] after c.args.text.now c.deliver.new.text)) none
    (comparison c.args.old.now c.args.new.now expected.place expected.output.items (string_bytes expected.text) c.deliver.result.status _ expected.status c.in-Ok.ensures c.deliver.ensures)
