use Rattle.std.proofs.Common.{◌∙◌}
use Rattle.bson_buffers.proofs.Skipped.{offset_further}
use Rattle.bson_buffers.proofs.listing.offset_by.Goals as goal

pub returns-then-number-wanted : goal.returns-then-number-wanted
returns-then-number-wanted c = c.skip.ensures ∙ offset_further c.args.file.now c.args.number c.args.wanted c.args.offset c.requires c.if-number-wanted.true
