use Rattle.std.proofs.Common.{◌≡◌, ap, sym, subst, ◌∙◌, rules}
use Rattle.bson_kinds.specs.Outcome.{◌>>=◌}
use Rattle.bson_kinds.specs.Text.{Bytes}
use Rattle.bson_base.specs.Tree as tree
use Rattle.bson_base.specs.Tree.{Tree}
use Rattle.bson_values.specs.Refusal.{under}
use Rattle.bson_values.specs.declared.wrapper.Wrapper.TheVariants.{Binary, Uuid}
use Rattle.bson_laws.specs.Judged.{Reading}
use Rattle.bson_laws.specs.ReadsExtended.{uuid_in}
use Rattle.bson_laws.specs.Wrapped.{meaning}
use Rattle.bson_met.specs.Gives.{Reaches}
use Rattle.bson_met.specs.PieceView.{str_piece}
use Rattle.bson_met.proofs.Refusals.{StopsAs, stops_bind}
use Rattle.bson_wrapped.specs.Bodies.{body_of, valid_tree}
use Rattle.bson_trees.specs.Leaves.{uuid_wrapped}
use Rattle.bson_trees.proofs.unique_id.wrapped_id.Goals as goal

pub returns-in_err-subtype-in-Binary : goal.returns-in_err-subtype-in-Binary
returns-in_err-subtype-in-Binary c =
    let s = c.args.step.now in
    let key = (str_piece s.key).bytes in
    let stop = c.in_err-subtype-in-Binary.field-0.0 in
    let here = subst (λ w. StopsAs stop (uuid_wrapped w key s.value c.args.rest)) (sym c.in-Binary.is)
    (stops_bind stop (under key (valid_tree Binary (body_of (meaning Binary)) s.value)) uuid_in c.in_err-subtype-in-Binary.ensures.exact) in
    record { exact = search (rules, here) }

pub returns-in_ok-subtype-in-Binary : goal.returns-in_ok-subtype-in-Binary
returns-in_ok-subtype-in-Binary c =
    let s = c.args.step.now in
    let key = (str_piece s.key).bytes in
    let same : c.deref.result.now ≡ c.in_ok-subtype-in-Binary.content.items = search rules in
    let whole = ap (λ (r : Reading Tree). r >>= uuid_in) c.in_ok-subtype-in-Binary.ensures.exact ∙ ap (λ b. uuid_in (tree.binary c.in_ok-subtype-in-Binary.subtype.0 b)) (sym same) in
    record {
      exact = subst (λ w. Reaches (λ id. id.0) c.id_of_binary.result (uuid_wrapped w key s.value c.args.rest)) (sym c.in-Binary.is)
          (subst (λ (r : Reading Bytes). Reaches (λ id. id.0) c.id_of_binary.result r) (sym whole) c.id_of_binary.ensures.exact);
    }

pub returns-in_err-id-in-Uuid : goal.returns-in_err-id-in-Uuid
returns-in_err-id-in-Uuid c =
    let s = c.args.step.now in
    let key = (str_piece s.key).bytes in
    let stop = c.in_err-id-in-Uuid.field-0.0 in
    let here = subst (λ w. StopsAs stop (uuid_wrapped w key s.value c.args.rest)) (sym c.in-Uuid.is)
    (stops_bind stop (under key (valid_tree Uuid (body_of (meaning Uuid)) s.value)) uuid_in c.in_err-id-in-Uuid.ensures.exact) in
    record { exact = search (rules, here) }

pub returns-in_ok-id-in-Uuid : goal.returns-in_ok-id-in-Uuid
returns-in_ok-id-in-Uuid c =
    let s = c.args.step.now in
    let key = (str_piece s.key).bytes in
    let whole = ap (λ (r : Reading Tree). r >>= uuid_in) c.in_ok-id-in-Uuid.ensures.exact in
    record {
      exact = subst (λ w. Reaches (λ id. id.0) c.id_of_binary-in-Uuid.result (uuid_wrapped w key s.value c.args.rest)) (sym c.in-Uuid.is)
          (subst (λ (r : Reading Bytes). Reaches (λ id. id.0) c.id_of_binary-in-Uuid.result r) (sym whole) c.id_of_binary-in-Uuid.ensures.exact);
    }
