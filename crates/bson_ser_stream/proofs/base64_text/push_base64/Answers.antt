use Rattle.std.proofs.Common.{ℕ}
use Rattle.std.proofs.lemmas.List.{take_rest}
use Rattle.std.proofs.lemmas.Result.{err_from_is_err_and}
use Rattle.bson_ser_stream.proofs.Base64Groups.{read_step, read_short, read_fault, read_grows}
use Rattle.bson_ser_stream.proofs.Growth.{Grows-trans}
use Rattle.bson_ser_stream.proofs.base64_text.push_base64.Goals as goal

pub returns-in_err-push_group-clause-decoded : goal.returns-in_err-push_group-clause-decoded
returns-in_err-push_group-clause-decoded g c =
    let p = err_from_is_err_and c.from_residual.result c.from_residual.ensures.1 in
    let fault = read_fault _ _ _ _ _ _ _ _ c.groups.invariant ℕ (Unit {0}) c.in_err-push_group.field-0.0 c.groups-test.true c.in_err-push_group.ensures.decoded in
    rw (p.1, p.2) (rw c.as_bytes-rest.ensures.value at fault)

pub returns-in_err-push_group-clause-grows : goal.returns-in_err-push_group-clause-grows
returns-in_err-push_group-clause-grows g c = Grows-trans _ _ _ _ _ _ (read_grows _ _ _ _ _ _ c.groups.invariant) c.in_err-push_group.ensures.grows

pub returns-then-branch-ne3-clause-decoded : goal.returns-then-branch-ne3-clause-decoded
returns-then-branch-ne3-clause-decoded g c =
    rw c.as_bytes-rest.ensures.value at
    (read_short _ _ _ _ _ _ _ _ c.groups.invariant c.in_ok-push_group.field-0 c.groups-test.true c.in_ok-push_group.ensures.decoded c.in_ok-push_group.ensures.count c.if-branch-ne3.true)

pub groups-preserved : goal.groups-preserved
groups-preserved g c =
    rw take_rest (read_step _ _ _ _ _ _ _ _ c.groups.invariant c.groups-test.true c.in_ok-push_group.ensures.decoded (rw c.if-branch-ne3.false at c.in_ok-push_group.ensures.count))

pub returns-in_err-push_group-2-clause-grows : goal.returns-in_err-push_group-2-clause-grows
returns-in_err-push_group-2-clause-grows g c = Grows-trans _ _ _ _ _ _ (read_grows _ _ _ _ _ _ c.groups.invariant) c.in_err-push_group-2.ensures.grows
