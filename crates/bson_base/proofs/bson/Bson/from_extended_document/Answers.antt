use Rattle.std.proofs.Common.{rules, ◌≡◌, ap, sym, ◌∙◌, false, None}
use Rattle.std.specs.Prelude.{is_some}
use Rattle.bson_base.specs.BsonView.{pairs_of}
use Rattle.bson_base.specs.Folded.{alone, in_pair}
use Rattle.bson_base.specs.Tree.{document}
use Rattle.bson_base.proofs.Folds.{stays}
use Rattle.bson_base.proofs.Rows.{row_pairs}
use Rattle.bson_base.proofs.bson.Bson.from_extended_document.Goals as goal

pub returns-in-None : goal.returns-in-None
returns-in-None c =
    let two : is_some (in_pair (pairs_of c.args.document)) ≡ false = search rules in
    let one : alone (pairs_of c.args.document) ≡ None = search rules in
    record { folded = ap document (row_pairs c.args.document.0) ∙ sym (stays (pairs_of c.args.document) two one) }
