use Rattle.bson_infer_run.proofs.SoundTests.{sound_decided}
use Rattle.bson_infer_run.proofs.laws.law_sound.Goals as goal

pub returns : goal.returns
returns c = record { sound = λ ps e. (sound_decided ps).0 e; passes = λ ps s. (sound_decided ps).1 s }
