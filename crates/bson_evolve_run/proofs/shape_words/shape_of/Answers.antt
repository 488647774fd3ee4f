use Rattle.std.proofs.Common.{ap, ◌∙◌}
use Rattle.std.specs.Prelude.{Err}
use Rattle.bson_evolve_run.proofs.WordLines.{refuses}
use Rattle.bson_evolve_run.proofs.shape_words.shape_of.Goals as goal

pub returns-in_ok-line_of-in-Err : goal.returns-in_ok-line_of-in-Err
returns-in_ok-line_of-in-Err c =
    record {
      exact = refuses c.args.which.now c.args.word.now c.in-Err.e c.in_ok-line_of-in-Err.field-0 c.in_ok-line_of-in-Err.ensures c.in-Err.ensures.exact
          (λ p is. c.parse.ensures.not_notation p (c.in-Err.is ∙ ap Err is)) (λ p x is. c.parse.ensures.refused p x (c.in-Err.is ∙ ap Err is));
    }
