use Rattle.bson_laws.proofs.OpenedTrees.{document_represented}
use Rattle.bson_laws.proofs.Represented.{represents_itself, clean_represented}
use Rattle.bson_laws.proofs.RepresentedMended.{represents_mended}
use Rattle.bson_laws.proofs.law_opened_represents.Goals as goal

pub returns : goal.returns
returns c = record { represents = represents_itself; mended = represents_mended; clean = clean_represented; document = document_represented }
