use Rattle.std.proofs.Common.{sym, subst, ◌+◌, ◌≤◌, string_bytes}
use Rattle.std.specs.Prelude.{SomeIff}
use Rattle.bson_base.specs.Sound.{max_bytes}
use Rattle.bson_infer_run.proofs.Fitting.{pointer_answers}
use Rattle.bson_infer_run.proofs.sound.size_of_pointer.Goals as goal

pub returns : goal.returns
returns c =
    let v = c.as_str.ensures.value in
    let e = c.in_ok-namespace.ensures in
    let n = c.in_ok-namespace.namespace in
    let size = subst (λ m. SomeIff c.within.result (n + m ≤ max_bytes) (n + m)) c.size_of_id.ensures.size c.within.ensures in
    pointer_answers c.within.result 0 n (string_bytes c.args.pointer.now.namespace) c.args.pointer.now.id.0 (rw (sym v) e.text) c.size_of_id.ensures.bytes (rw (sym v) e.size.1) size
