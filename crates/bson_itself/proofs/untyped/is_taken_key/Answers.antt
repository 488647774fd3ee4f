use Rattle.std.proofs.Common.{sym}
use Rattle.bson_laws.proofs.TreesRead.{no_wrapper}
use Rattle.bson_itself.proofs.untyped.is_taken_key.Goals as goal

pub returns-then-not-begins_with_dollar : goal.returns-then-not-begins_with_dollar
returns-then-not-begins_with_dollar c = λ _. rw c.in-Bson.is (no_wrapper c.args.key.now (sym c.if-not-begins_with_dollar.ensures))
