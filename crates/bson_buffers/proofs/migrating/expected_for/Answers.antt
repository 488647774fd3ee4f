use Rattle.bson_buffers.specs.Asked.{DenotesShape}
use Rattle.bson_buffers.proofs.Migrated.{expected_for_file}
use Rattle.bson_buffers.proofs.migrating.expected_for.Goals as goal

pub returns-in-Ok-migrate : goal.returns-in-Ok-migrate
returns-in-Ok-migrate c =
    let named : DenotesShape c.args.shape.now c.in-Ok.shape = rw c.in-Ok.is at c.in_ok-shape.ensures in
    expected_for_file c.args.shape.now c.args.file.now c.in-Ok.shape c.in-Ok-migrate.migration c.expected_for_migration.result named c.in-Ok-migrate.ensures.exact c.in-Ok-migrate.ensures.again c.expected_for_migration.ensures
