use Rattle.bson_json_laws.proofs.SoundTexts.{sound_held, sound_passes}
use Rattle.bson_json_laws.proofs.laws.law_sound_text.Goals as goal

pub returns-clause-held : goal.returns-clause-held
returns-clause-held c = sound_held

pub returns-clause-passes : goal.returns-clause-passes
returns-clause-passes c = sound_passes
