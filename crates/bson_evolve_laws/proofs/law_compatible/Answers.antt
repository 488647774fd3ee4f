use Rattle.bson_evolve_laws.proofs.Compatible.{compatible_views}
use Rattle.bson_evolve_laws.proofs.law_compatible.Goals as goal

pub returns : goal.returns
returns c =
    record {
      views = λ old new d t shape new_shape plain new_plain compatible fits meant sound. compatible_views old new d t shape new_shape plain new_plain compatible fits meant sound.clean;
    }
