use Rattle.std.proofs.Common.{◌≤◌, ◌++◌, ◌∙◌, length, ap, refl, arith, append_assoc}
use Rattle.bson_ser_stream.specs.Binary.{behind_length, binary_front}
use Rattle.bson_ser_stream.proofs.Binaries.{front_and_bytes, length-written, spells, spells_too_long, binary_fits}
use Rattle.bson_ser_stream.proofs.Growth.{Grows-trans, Grows-appended}
use Rattle.bson_ser_stream.proofs.Puts.{Grows-none, Grows-refused, puts_value, out_of_memory, puts_refusal, size_expected, no_room}
use Rattle.bson_ser_stream.proofs.binary.put_binary.Goals as goal

pub returns-then-behind-gt-MAX_BINARY : goal.returns-then-behind-gt-MAX_BINARY
returns-then-behind-gt-MAX_BINARY g c =
    puts_refusal _ _ _ _ _ _ _ (Grows-none _ _) _ _ (spells_too_long c.args.subtype.0 c.args.bytes.now _ c.behind_length-behind.ensures c.if-behind-gt-MAX_BINARY.true) c.caused.ensures.here

pub returns-in_err-push_front : goal.returns-in_err-push_front
returns-in_err-push_front g c =
    let small : behind_length c.args.subtype.0 (length c.args.bytes.now) ≤ 16777216 = omega (arith, c.behind_length-behind.ensures, c.if-behind-gt-MAX_BINARY.false) in
    let expected = spells c.args.subtype.0 c.args.bytes.now small in
    out_of_memory _ _ _ _ _ _ _ c.in_err-push_front.ensures.grows _ c.from_residual.ensures.1
    (λ ok. omega (arith, size_expected _ _ expected, length-written c.args.subtype.0 c.args.bytes.now, no_room _ _ c.in_err-push_front.ensures.free))

pub returns-in_err-push_all : goal.returns-in_err-push_all
returns-in_err-push_all g c =
    let small : behind_length c.args.subtype.0 (length c.args.bytes.now) ≤ 16777216 = omega (arith, c.behind_length-behind.ensures, c.if-behind-gt-MAX_BINARY.false) in
    let expected = spells c.args.subtype.0 c.args.bytes.now small in
    out_of_memory _ _ _ _ _ _ _ (Grows-trans _ _ _ _ _ _ c.in_ok-push_front.ensures.grows (Grows-refused _ _ _ _ c.in_err-push_all.ensures.err)) _ c.from_residual-in_err-push_all.ensures.1
    (λ ok. omega (arith, size_expected _ _ expected, length-written c.args.subtype.0 c.args.bytes.now, c.in_ok-push_front.ensures.ok.spare, no_room _ _ c.in_err-push_all.ensures.free))

pub returns : goal.returns
returns g c =
    let small : behind_length c.args.subtype.0 (length c.args.bytes.now) ≤ 16777216 = omega (arith, c.behind_length-behind.ensures, c.if-behind-gt-MAX_BINARY.false) in
    let expected = spells c.args.subtype.0 c.args.bytes.now small in
    puts_value _ _ _ _ _ _ _ (Grows-trans _ _ _ _ _ _ c.in_ok-push_front.ensures.grows (Grows-appended _ _ _ _ _ c.in_ok-push_all.ensures.ok)) _ expected
    (c.in_ok-push_all.ensures.ok.bytes ∙ ap (λ x. x ++ c.args.bytes.now) c.in_ok-push_front.ensures.ok.bytes ∙ append_assoc c.args.out.now.bytes (binary_front c.args.subtype.0 (length c.args.bytes.now)) c.args.bytes.now
    ∙ ap (λ x. c.args.out.now.bytes ++ x) (front_and_bytes c.args.subtype.0 c.args.bytes.now))
    (omega (arith, size_expected _ _ expected, binary_fits c.args.subtype.0 c.args.bytes.now small)) refl
