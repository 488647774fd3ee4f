use Rattle.std.proofs.Common.{sym, ◌∙◌}
use Rattle.bson_texts.proofs.Characters.{first_alone, first_of_more}
use Rattle.bson_texts.proofs.text.one_character.Goals as goal

pub returns-in-Some : goal.returns-in-Some
returns-in-Some c =
    sym (first_of_more c.args.text.now _ _ c.in_ok-first.first c.in-Some.field-0 c.utf8.text (sym c.chars-characters.ensures.rest ∙ c.in_ok-first.ensures.steps.0) c.in-Some.ensures.steps.0)

pub returns-in-None : goal.returns-in-None
returns-in-None c =
    sym (first_alone c.args.text.now _ c.in_ok-first.first c.utf8.text (sym c.chars-characters.ensures.rest ∙ c.in_ok-first.ensures.steps.0) c.in-None.ensures.steps.0.0)
