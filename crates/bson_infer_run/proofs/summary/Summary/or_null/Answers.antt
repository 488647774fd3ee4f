use Rattle.std.proofs.Common.{ap, ◌∙◌}
use Rattle.bson_infer_laws.specs.Join.{opt}
use Rattle.bson_infer_run.proofs.Summaries.{with_null}
use Rattle.bson_infer_run.proofs.summary.Summary.or_null.Goals as goal

pub returns : goal.returns
returns c = with_null c.self.inside.or_null c.self.inside.kind ∙ ap opt c.self.view_is
