-- From what must be written for a shape and what was delivered to the table of statuses.
use Rattle.std.proofs.Common.{◌≡◌, ◌≤◌, ℕ, [], length, ap, subst, arith}
use Rattle.bson_kinds.specs.Text.{Bytes, Utf8}
use Rattle.bson_buffers.specs.Asked.{DenotesNone}
use Rattle.bson_buffers.specs.Checks.{NoShapeRow}
use Rattle.bson_buffers.specs.Expected.{IsDelivered}
use Rattle.bson_buffers.specs.Buffers.{Call, Writes}
use Rattle.bson_buffers.specs.declared.status.Status.{Status}
use Rattle.bson_buffers.specs.declared.status.Status.TheVariants as statuses

-- a delivery without output leaves its buffer as it was
pub nothing_written : (expected : Status) (place : ℕ) (output : Bytes) (said : Utf8) (status : Status) (c : Call) → output ≡ [] → IsDelivered expected place output said status c → (status ≡ expected) × Writes c []
nothing_written expected place output said status c none d =
    let small : length output ≤ length c.buffer.before = omega (arith, ap length none) in
    let w = d.written small in (w.0, subst (Writes c) none w.1)

-- the row of a refused shape
pub no_shape_row : (shape : Bytes) (expected : Status) (place : ℕ) (output : Bytes) (said : Utf8) (status : Status) (c : Call)
    → DenotesNone shape (record { place = place; said = said }) → output ≡ [] → IsDelivered expected place output said status c → NoShapeRow shape c
no_shape_row shape expected place output said status c refused none d = record {
  why = record { place = place; said = said };
  refused = refused;
  place = d.at;
  says = d.told;
  no_output = (nothing_written expected place output said status c none d).1;
}
