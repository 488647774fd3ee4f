use Rattle.std.proofs.Common.{◌≡◌, ◌∷◌, [], map, sym, subst, ◌∙◌, string_bytes}
use Rattle.std.specs.Prelude.{IfOk}
use Rattle.bson_program.specs.Prepared.{Says}
use Rattle.bson_program.specs.Program.{IsExpected}
use Rattle.bson_evolve_run.specs.Rows.{check_program, no_input}
use Rattle.bson_evolve_run.proofs.Answering.{ok_map, usage_expected, two_words}
use Rattle.bson_evolve_run.proofs.running.prepare.Goals as goal

pub returns-then-words-ne2 : goal.returns-then-words-ne2
returns-then-words-ne2 c = ok_map c.refusal.result _ _ (λ a refusal. usage_expected c.args.words.now c.if-words-ne2.true a refusal.0 refusal.1 refusal.2) c.refusal.ensures

pub returns : goal.returns
returns c =
    let ws = c.args.words.now in
    let first = c.index-words-0.result in
    let second = c.index-words-1.result in
    let are : c.as_str.result.now ∷ c.as_str-2.result.now ∷ [] ≡ map string_bytes ws =
    (λ i. c.as_str.ensures.value i ∷ c.as_str-2.ensures.value i ∷ []) ∙ sym (two_words ws first second c.if-words-ne2.false c.index-words-0.is c.index-words-1.is) in
    subst (λ xs. IfOk c.answer_to_words.result (Says (IsExpected check_program xs no_input))) are c.answer_to_words.ensures
