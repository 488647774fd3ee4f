use Rattle.std.proofs.Common.{sym}
use Rattle.bson_laws.proofs.TreesRead.{no_wrapper}
use Rattle.bson_raw_parts.proofs.first_keys.wrapper_of.Goals as goal

pub returns-then-not-begins_with_dollar : goal.returns-then-not-begins_with_dollar
returns-then-not-begins_with_dollar c = sym (no_wrapper c.args.key.now (sym c.if-not-begins_with_dollar.ensures))
