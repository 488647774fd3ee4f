use Rattle.std.proofs.Common.{string_bytes}
use Rattle.bson_buffers.proofs.Recast.{recast}
use Rattle.bson_buffers.proofs.recasting.recast_whole.Goals as goal

pub returns-in-Ok : goal.returns-in-Ok
returns-in-Ok c =
    let expected = c.in-Ok.expected in
    recast c.args.shape.now c.args.bytes.now expected.status expected.place expected.output.items (string_bytes expected.text) c.deliver.result.status _ c.in-Ok.ensures c.deliver.ensures
