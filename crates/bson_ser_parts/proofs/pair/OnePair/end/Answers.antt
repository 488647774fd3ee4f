use Rattle.std.proofs.Common.{◌≤◌, [], ◌∷◌, Err, ap, subst, ◌∙◌}
use Rattle.std.proofs.lemmas.Result.{err_from_is_err_and}
use Rattle.bson_io.specs.Output.{Patched}
use Rattle.bson_ser_parts.specs.Pairs.{PairEndHalts}
use Rattle.bson_ser_parts.proofs.Answered.{if_err, on_err}
use Rattle.bson_ser_parts.proofs.Paired.{pair_ends, pair_halts, pair_kept, contents_halt, contents_kept, kind_within}
use Rattle.bson_ser_parts.proofs.pair.OnePair.end.Goals as goal

-- what is under the key is not ended

pub returns-in_err-end_begun-clause-err : goal.returns-in_err-end_begun-clause-err
returns-in_err-end_begun-clause-err g c =
    let p = err_from_is_err_and c.from_residual.result c.from_residual.ensures.1 in
    λ here_is. if_err (PairEndHalts c.args.self c.args.out.now) _ _ (p.1 ∙ ap Err p.2) (contents_halt c.args.self c.args.out.now c.in_err-end_begun.field-0.0 c.in_err-end_begun.ensures.err here_is)

pub returns-in_err-end_begun-clause-kept : goal.returns-in_err-end_begun-clause-kept
returns-in_err-end_begun-clause-kept g c =
    let p = err_from_is_err_and c.from_residual.result c.from_residual.ensures.1 in
    λ here_is. on_err _ _ _ p.1 (contents_kept c.args.self c.args.out.now c.end_begun.new.out c.args.steps.now c.end_begun.new.steps c.in_err-end_begun.ensures.grows here_is)

-- the test of the place of the kind never fails

pub returns-then-kind_place-len-clause-err : goal.returns-then-kind_place-len-clause-err
returns-then-kind_place-len-clause-err g c = λ here_is. absurd (kind_within c.args.self c.args.out.now c.end_begun.new.out c.args.steps.now c.end_begun.new.steps c.in_ok-end_begun.ensures.ok here_is (subst (λ n. n ≤ c.args.self.kind_place) c.len-len.ensures c.if-kind_place-len.true))

pub returns-then-kind_place-len-clause-kept : goal.returns-then-kind_place-len-clause-kept
returns-then-kind_place-len-clause-kept g c = λ here_is. absurd (kind_within c.args.self c.args.out.now c.end_begun.new.out c.args.steps.now c.end_begun.new.steps c.in_ok-end_begun.ensures.ok here_is (subst (λ n. n ≤ c.args.self.kind_place) c.len-len.ensures c.if-kind_place-len.true))

-- the document is ended, or not

pub returns-clause-ok : goal.returns-clause-ok
returns-clause-ok g c =
    pair_ends c.args.self c.args.kind c.args.out.now c.end_begun.new.out c.patch_byte.new.self c.args.steps.now c.end_begun.new.steps c.patch_byte.new.steps c.in_ok-end_begun.ensures.ok
    (subst (λ b. Patched c.end_begun.new.out c.patch_byte.new.self c.args.self.kind_place (b ∷ []) c.end_begun.new.steps c.patch_byte.new.steps) c.byte.ensures.byte c.patch_byte.ensures)
    c.end_begun-2.result c.end_begun-2.new.out c.end_begun-2.new.steps c.end_begun-2.ensures.within c.end_begun-2.ensures.ok

pub returns-clause-err : goal.returns-clause-err
returns-clause-err g c =
    pair_halts c.args.self c.args.kind c.args.out.now c.end_begun.new.out c.patch_byte.new.self c.args.steps.now c.end_begun.new.steps c.patch_byte.new.steps c.in_ok-end_begun.ensures.ok
    (subst (λ b. Patched c.end_begun.new.out c.patch_byte.new.self c.args.self.kind_place (b ∷ []) c.end_begun.new.steps c.patch_byte.new.steps) c.byte.ensures.byte c.patch_byte.ensures)
    c.end_begun-2.result c.end_begun-2.ensures.err

pub returns-clause-kept : goal.returns-clause-kept
returns-clause-kept g c =
    pair_kept c.args.self c.args.kind c.args.out.now c.end_begun.new.out c.patch_byte.new.self c.args.steps.now c.end_begun.new.steps c.patch_byte.new.steps c.in_ok-end_begun.ensures.ok
    (subst (λ b. Patched c.end_begun.new.out c.patch_byte.new.self c.args.self.kind_place (b ∷ []) c.end_begun.new.steps c.patch_byte.new.steps) c.byte.ensures.byte c.patch_byte.ensures)
    c.end_begun-2.result c.end_begun-2.new.out c.end_begun-2.new.steps c.end_begun-2.ensures.grows
