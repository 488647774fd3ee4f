use Rattle.std.proofs.Common.{◌+◌, ◌-◌, take, drop, length, ap, sym, ◌∙◌, arith}
use Rattle.std.proofs.lemmas.List.{take_all, length-drop}
use Rattle.bson_kinds.specs.Kind.{of_byte}
use Rattle.bson_rawdoc.specs.Walk.{of_kind}
use Rattle.bson_rawdoc.proofs.Keys.{key_good}
use Rattle.bson_rawdoc.proofs.element.element_at.Goals as goal

pub returns : goal.returns
returns c =
    let b = c.args.byte in
    let bytes = c.args.bytes.now in
    let n = c.in_ok-len.len in
    let rest = take (length bytes - (n + 1)) (drop (n + 1) bytes) in
    c.of_kind.ensures
    ∙ ap (λ key. of_kind b key (of_byte b) rest) c.from_utf8_unchecked-key.ensures
    ∙ ap (of_kind b (take n bytes) (of_byte b)) (take_all (length bytes - (n + 1)) (drop (n + 1) bytes) (omega (arith, length-drop (n + 1) bytes)))
    ∙ key_good b bytes (take n bytes) (drop (n + 1) bytes) (sym c.in_ok-len.ensures.cut) c.in_ok-len.ensures.utf8
