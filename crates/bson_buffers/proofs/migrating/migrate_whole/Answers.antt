use Rattle.std.proofs.Common.{string_bytes}
use Rattle.bson_buffers.proofs.Migrated.{is_migrated}
use Rattle.bson_buffers.proofs.migrating.migrate_whole.Goals as goal

pub returns-in-Ok : goal.returns-in-Ok
returns-in-Ok c =
    let expected = c.in-Ok.expected in
    is_migrated c.args.shape.now c.args.file.now expected.status expected.place expected.output.items (string_bytes expected.text) c.deliver.result.status _ c.in-Ok.ensures c.deliver.ensures
