use Rattle.std.proofs.Common.{ap}
use Rattle.bson_values.specs.Refusal.{at_key, under}
use Rattle.bson_values.specs.declared.wrapper.Wrapper.TheVariants.{Uuid}
use Rattle.bson_laws.specs.Wrapped.{meaning}
use Rattle.bson_met.specs.PieceView.{str_piece}
use Rattle.bson_met.proofs.Refusals.{stops_inside}
use Rattle.bson_wrapped.specs.Bodies.{body_of, valid_tree}
use Rattle.bson_wrapped.proofs.binaries.read_uuid.Goals as goal

pub returns-in-Ok : goal.returns-in-Ok
returns-in-Ok c = let key = (str_piece c.args.step.now.key).bytes in record { exact = ap (under key) c.in-Ok.ensures.exact }

pub returns-in-Err : goal.returns-in-Err
returns-in-Err c =
    let s = c.args.step.now in
    record {
      exact = stops_inside (at_key (str_piece s.key).bytes) c.in-Err.stop c.under_key.result (valid_tree Uuid (body_of (meaning Uuid)) s.value) c.under_key.ensures.under c.in-Err.ensures.exact;
    }
