use Rattle.std.proofs.Common.{◌≡◌, ◌-◌, suc, refl, ap, ◌∙◌, arith}
use Rattle.bson_shape.specs.Guarded.{count}
use Rattle.bson_shape.specs.ShapeView.{fields_of}
use Rattle.bson_shape.proofs.Chains.{count_of}
use Rattle.bson_laws.specs.Scopes.{table_meaning}
use Rattle.bson_laws.specs.Unrolled.{Meanings, unrolled, max_steps}
use Rattle.bson_laws.proofs.Scoped.{follow_step, follow_round, follow_end, same_meanings}
use Rattle.bson_laws.proofs.origin.Reader.followed.Goals as goal

pub returns-then-self-gt0 : goal.returns-then-self-gt0
returns-then-self-gt0 c name e =
    let r = c.args.self.now in
    let q = c.left.result in
    let h = fields_of r.table.now in
    let less = r.steps - 1 in
    let is : r.steps ≡ suc less = omega arith in (
      follow_step r.rounds r.steps less h name c.args.shape.now is e
          ∙ ap (λ (g : Meanings). unrolled max_steps c.args.shape.now g) (same_meanings r q r.rounds less c.left.ensures.table c.left.ensures.rounds c.left.ensures.steps),
      c.left.ensures.readable,
      c.left.ensures.origin,
    )

pub returns-then-self-gt0-2 : goal.returns-then-self-gt0-2
returns-then-self-gt0-2 c name e =
    let r = c.args.self.now in
    let q = c.left-then-self-gt0-2.result in
    let h = fields_of r.table.now in
    let less = r.rounds - 1 in
    let names = q.steps in
    let is : r.rounds ≡ suc less = omega arith in
    let none : r.steps ≡ 0 = omega arith in
    let counted : names ≡ count h = omega (arith, count_of r.table.now, c.left-then-self-gt0-2.ensures.steps) in (
      ap (λ n. table_meaning r.rounds n h name) none
          ∙ follow_round r.rounds less names h name c.args.shape.now is counted e
          ∙ ap (λ (g : Meanings). unrolled max_steps c.args.shape.now g) (same_meanings r q less names c.left-then-self-gt0-2.ensures.table c.left-then-self-gt0-2.ensures.rounds refl),
      c.left-then-self-gt0-2.ensures.readable,
      c.left-then-self-gt0-2.ensures.origin,
    )

pub returns : goal.returns
returns c name e =
    let r = c.args.self.now in
    follow_end r.rounds r.steps (fields_of r.table.now) name (omega arith) (omega arith)
