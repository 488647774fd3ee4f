use Rattle.bson_editing.proofs.Kept.{kept}
use Rattle.bson_editing.proofs.laws.law_edit_kept.Goals as goal

pub returns : goal.returns
returns g c = λ x steps document all env none lacks. kept (g.C.Changes.changing x) steps document all env none lacks
