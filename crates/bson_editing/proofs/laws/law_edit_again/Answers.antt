use Rattle.bson_editing.proofs.Twice.{edited_again}
use Rattle.bson_editing.proofs.laws.law_edit_again.Goals as goal

pub returns : goal.returns
returns g c = λ x steps document made values settled fresh h. edited_again (g.C.Changes.changing x) values settled steps document made fresh h
