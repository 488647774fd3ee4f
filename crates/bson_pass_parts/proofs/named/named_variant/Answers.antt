use Rattle.std.proofs.Common.{subst}
use Rattle.bson_pass_parts.specs.Run.{IsHead, element_of}
use Rattle.bson_pass_parts.proofs.named.named_variant.Goals as goal

pub returns-in-Some : goal.returns-in-Some
returns-in-Some c =
    record {
      place = c.loop-variant.variant-index;
      within = c.loop-variant-test.true;
      there = c.variant-item.is;
      head = subst (λ n. IsHead c.args.bytes.now (element_of c.in-Some.kind n c.in-Some.value.now)) c.as_str.ensures.value c.in-Some.ensures;
    }
