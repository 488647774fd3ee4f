use Rattle.std.proofs.Common.{◌≡◌, ◌≤◌, ◌-◌, ◌++◌, ◌∙◌, length, ap, refl, arith, append_assoc}
use Rattle.std.proofs.lemmas.List.{length-append}
use Rattle.bson_ser_stream.specs.Binary.{behind_length, binary_front}
use Rattle.bson_ser_stream.proofs.Base64Binaries.{spell_decoded, decoded_shorter, decoded_short, decoded_fault}
use Rattle.bson_ser_stream.proofs.Binaries.{front_and_bytes, spells, spells_too_long, binary_fits}
use Rattle.bson_ser_stream.proofs.Filled.{filled, Grows-filled}
use Rattle.bson_ser_stream.proofs.Growth.{Grows-trans}
use Rattle.bson_ser_stream.proofs.Puts.{puts_value, puts_refusal, size_expected, no_room}
use Rattle.bson_ser_stream.proofs.binary.put_base64.Goals as goal

pub returns-in_err-push_front : goal.returns-in_err-push_front
returns-in_err-push_front g c =
    decoded_short _ _ _ c.args.out.now c.args.out.now _ _ c.args.steps.now _ _ c.in_err-push_front.ensures.grows c.from_residual.ensures.1 (no_room _ _ c.in_err-push_front.ensures.free)

pub returns-in-Err : goal.returns-in-Err
returns-in-Err g c =
    decoded_fault _ _ _ _ _ _ _ _ _ (Unit {0}) _ _ (Grows-trans _ _ _ _ _ _ c.in_ok-push_front.ensures.grows c.in-Err.ensures.grows) c.in_ok-push_front.ensures.ok c.in-Err.ensures.decoded c.base64_halt.ensures

pub behind_length-behind-requires : goal.behind_length-behind-requires
behind_length-behind-requires g c =
    let d = c.in_default.ensures.decoded in
    omega (arith, c.len.ensures, c.len-bytes_start.ensures, ap length d.appended.bytes, length-append c.push_front.new.out.bytes d.bytes, decoded_shorter c.args.text.now d.bytes (λ i. (c.type_inv.text i).fits) d.is_expected)

pub returns-then-behind-gt-MAX_BINARY : goal.returns-then-behind-gt-MAX_BINARY
returns-then-behind-gt-MAX_BINARY g c =
    let d = c.in_default.ensures.decoded in
    let count : c.len.result - c.len-bytes_start.result ≡ length d.bytes = omega (arith, c.len.ensures, c.len-bytes_start.ensures, ap length d.appended.bytes, length-append c.push_front.new.out.bytes d.bytes) in
    puts_refusal _ _ _ _ _ _ _ (Grows-trans _ _ _ _ _ _ c.in_ok-push_front.ensures.grows c.in_default.ensures.grows) _ _
    (ap (spell_decoded c.args.subtype.0) d.is_expected ∙ spells_too_long c.args.subtype.0 d.bytes _ (c.behind_length-behind.ensures ∙ ap (behind_length c.args.subtype.0) count) c.if-behind-gt-MAX_BINARY.true) c.caused.ensures.here

pub returns : goal.returns
returns g c =
    let d = c.in_default.ensures.decoded in
    let count : c.len.result - c.len-bytes_start.result ≡ length d.bytes = omega (arith, c.len.ensures, c.len-bytes_start.ensures, ap length d.appended.bytes, length-append c.push_front.new.out.bytes d.bytes) in
    let small : behind_length c.args.subtype.0 (length d.bytes) ≤ 16777216 = omega (arith, ap (behind_length c.args.subtype.0) count, c.behind_length-behind.ensures, c.if-behind-gt-MAX_BINARY.false) in
    let expected = ap (spell_decoded c.args.subtype.0) d.is_expected ∙ spells c.args.subtype.0 d.bytes small in
    let fills = rw count at c.fill_front.ensures in
    let whole = filled c.args.out.now c.push_front.new.out c.push_base64.new.out c.fill_front.new.out c.len-start.result c.args.subtype.0 d.bytes _ _ _ _ c.len-start.ensures c.in_ok-push_front.ensures.ok d.appended fills in
    puts_value _ _ _ _ _ _ _ (Grows-filled c.args.out.now c.push_front.new.out c.push_base64.new.out c.fill_front.new.out c.len-start.result c.args.subtype.0 d.bytes _ _ _ _ c.len-start.ensures c.in_ok-push_front.ensures.ok d.appended fills) _ expected
    (whole ∙ append_assoc c.args.out.now.bytes (binary_front c.args.subtype.0 (length d.bytes)) d.bytes ∙ ap (λ x. c.args.out.now.bytes ++ x) (front_and_bytes c.args.subtype.0 d.bytes))
    (omega (arith, size_expected _ _ expected, binary_fits c.args.subtype.0 d.bytes small)) refl
