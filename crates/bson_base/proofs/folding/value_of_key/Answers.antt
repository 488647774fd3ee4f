use Rattle.std.proofs.Common.{sym}
use Rattle.bson_base.specs.BsonView.{tree_of}
use Rattle.bson_base.specs.Folded.{forms}
use Rattle.bson_base.proofs.Folds.{no_form}
use Rattle.bson_base.proofs.folding.value_of_key.Goals as goal

pub returns-in_default : goal.returns-in_default
returns-in_default c = sym (no_form forms c.args.key.now (tree_of c.args.value.now) (c.in_default.not-text, (c.in_default.not-text-2, (c.in_default.not-text-3, (c.in_default.not-text-4, (c.in_default.not-text-5, (c.in_default.not-text-6, (c.in_default.not-text-7, (c.in_default.not-text-8, (c.in_default.not-text-9, (c.in_default.not-text-10, (c.in_default.not-text-11, (c.in_default.not-text-12, (c.in_default.not-text-13, (c.in_default.not-text-14, (c.in_default.not-text-15, (c.in_default.not-text-16, tt)))))))))))))))))
