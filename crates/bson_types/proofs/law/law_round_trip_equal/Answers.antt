use Rattle.std.proofs.Common.{◌≡◌, Ok, sym, ◌∙◌, rules}
use Rattle.bson_type_data.specs.Answers.{Reading}
use Rattle.bson_types.proofs.law.law_round_trip_equal.Goals as goal

same_contents : {C : Type 0} (a b : C) → ◌≡◌ {A = Reading C} (Ok a) (Ok b) → a ≡ b
same_contents a b e = cc

pub returns : goal.returns
returns g c = record {
  equal = λ x y v t is shape plain written means sound read.
      let again = c.law_round_trip.ensures.again x v t is shape plain written means sound in
      (g.met.T.EqualByContents c.lifetimes (search rules)).equal x y (same_contents (g.T.Deserialize.contents x) (g.T.Deserialize.contents y) (sym again.call ∙ read));
}
