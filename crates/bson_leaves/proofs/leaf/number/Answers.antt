use Rattle.std.proofs.Common.{◌≡◌, Some, SFits, rules, subst, w64}
use Rattle.std.proofs.lemmas.Int.{to_z-of_z}
use Rattle.bson_datum.specs.MarkedView.{marked}
use Rattle.bson_laws.specs.Leaves.{leaf_kind}
use Rattle.bson_texts.specs.Leaves.{number_as}
use Rattle.bson_leaves.proofs.NumberLeaves.{number_given}
use Rattle.bson_leaves.proofs.leaf.number.Goals as goal

pub returns-in-Some : goal.returns-in-Some
returns-in-Some c =
    let kind = leaf_kind c.args.leaf in
    let fits : SFits w64 c.in_ok-number.number = search rules in
    record {
      exact = number_given kind c.args.value.now c.in_ok-number.number (marked c.in-Some.datum) c.in_ok-number.ensures.integer
          (subst (λ n. Some (marked c.in-Some.datum) ≡ number_as kind n) (to_z-of_z w64 c.in_ok-number.number fits) c.in-Some.ensures.exact);
    }
