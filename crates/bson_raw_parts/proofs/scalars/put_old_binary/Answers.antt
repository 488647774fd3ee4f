use Rattle.std.proofs.Common.{Ok, ap, subst, sym}
use Rattle.bson_base.specs.Tree.{binary}
use Rattle.bson_base.proofs.Encodings.{old_fault}
use Rattle.bson_laws.specs.Assembled.{unless, plain}
use Rattle.bson_raw_parts.specs.Putting.{RefusesFor, with_value}
use Rattle.bson_raw_parts.proofs.scalars.put_old_binary.Goals as goal

pub returns-then-behind-gt-MAX_BINARY : goal.returns-then-behind-gt-MAX_BINARY
returns-then-behind-gt-MAX_BINARY c =
    let long = old_fault c.args.bytes.now c.if-behind-gt-MAX_BINARY.true in
    let expected = ap (λ o. with_value c.args.out.now.items (unless o (Ok (binary 2 c.args.bytes.now)))) long in
    subst (λ f. RefusesFor f (with_value c.args.out.now.items (plain (binary 2 c.args.bytes.now)))) (sym c.refused.ensures) expected
