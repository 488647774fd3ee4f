use Rattle.std.proofs.Common.{sym}
use Rattle.bson_laws.proofs.Sizes.{spell_kind, length-spell}
use Rattle.bson_laws.proofs.Spelled.{spell_means}
use Rattle.bson_laws.proofs.law_spell_means.Goals as goal

pub returns : goal.returns
returns c = record { spells = λ d t e s. (spell_means d t e s).0; size = λ r d levels t e. sym (length-spell r d levels t e); kind = λ r d levels t e. spell_kind r d levels t e }
