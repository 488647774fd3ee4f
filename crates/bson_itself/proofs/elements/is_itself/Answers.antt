use Rattle.std.proofs.Common.{◌≡◌, take, subst, arith}
use Rattle.std.proofs.lemmas.List.{take_all}
use Rattle.bson_kinds.specs.Text.{Bytes}
use Rattle.bson_itself.specs.Encoded.{EncodesItself}
use Rattle.bson_itself.proofs.Kept.{itself_kept}
use Rattle.bson_itself.proofs.elements.is_itself.Goals as goal

pub returns : goal.returns
returns c =
    let b = c.args.bytes.now in
    let whole : take c.in-Some.len b ≡ b = take_all c.in-Some.len b (omega arith) in
    let one : EncodesItself c.args.leaf c.args.kind c.args.levels b = subst (λ (x : Bytes). EncodesItself c.args.leaf c.args.kind c.args.levels x) whole c.in-Some.ensures.itself in
    record { kept = λ _. itself_kept c.args.leaf c.args.levels c.args.kind b (omega arith) one; itself = λ _. one; few = λ _. omega arith }
