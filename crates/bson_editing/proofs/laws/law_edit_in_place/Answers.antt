use Rattle.bson_editing.proofs.InPlace.{in_place_law}
use Rattle.bson_editing.proofs.laws.law_edit_in_place.Goals as goal

pub returns : goal.returns
returns g c = λ x steps document made values names h. in_place_law (g.C.Changes.changing x) steps document made values names h
