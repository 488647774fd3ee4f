use Rattle.std.proofs.Common.{◌≡◌, Some, None, SFits, rules, subst, w64}
use Rattle.std.proofs.lemmas.Int.{to_z-of_z}
use Rattle.std.specs.Prelude.{pos}
use Rattle.bson_values.specs.Cause.{out_of_range}
use Rattle.bson_values.specs.Marked.{Marked}
use Rattle.bson_values.specs.Value.{integer, u32}
use Rattle.bson_laws.specs.Leaves.{numbers}
use Rattle.bson_values.specs.ErrorView.{read_fault}
use Rattle.bson_values.specs.Stop.{stop_view}
use Rattle.bson_met.specs.Gives.{IsRefusedOrNoMemory}
use Rattle.bson_met.proofs.Refusals.{refused_stops}
use Rattle.bson_texts.specs.Leaves.{number_as}
use Rattle.bson_wrapped.proofs.Numbers.{number_stops, number_done, number_far}
use Rattle.bson_wrapped.proofs.fields.U32FieldValue.read.Goals as goal

pub returns-in_err-number : goal.returns-in_err-number
returns-in_err-number c = let here = number_stops u32 c.args.value.now c.in_err-number.field-0.0 c.in_err-number.ensures.integer in record { exact = search (rules, here) }

pub returns-in-Some : goal.returns-in-Some
returns-in-Some c =
    let z = c.in_ok-number.number in
    let fits : SFits w64 z = search rules in
    let v = integer u32 (pos c.in-Some.number) in
    record {
      exact = number_done u32 c.args.value.now z v c.in_ok-number.ensures.integer (subst (λ n. Some v ≡ number_as (numbers u32) n) (to_z-of_z w64 z fits) c.in-Some.ensures);
    }

pub returns-in-None : goal.returns-in-None
returns-in-None c =
    let z = c.in_ok-number.number in
    let fits : SFits w64 z = search rules in
    let stop = c.refused.result in
    record {
      exact = number_far u32 c.args.value.now z stop c.in_ok-number.ensures.integer (subst (λ n. None ≡ number_as (numbers u32) n) (to_z-of_z w64 z fits) c.in-None.ensures)
          (refused_stops Marked (out_of_range z) stop (subst (λ n. IsRefusedOrNoMemory (out_of_range n) (stop_view read_fault stop)) (to_z-of_z w64 z fits) c.refused.ensures.here));
    }
