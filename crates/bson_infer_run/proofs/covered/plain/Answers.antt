use Rattle.std.proofs.Common.{refl, Some}
use Rattle.bson_base.specs.Instant.{millis}
use Rattle.bson_rawdoc.specs.declared.value.RawBsonRef.TheVariants as values
use Rattle.bson_shape.specs.declared.leaf.Leaf.TheVariants as leaves
use Rattle.bson_infer_run.proofs.Covering.{plain_at}
use Rattle.bson_infer_run.proofs.Fitting.{string_answers, int32_answers, int64_answers, date_time_answers, timestamp_answers}
use Rattle.bson_infer_run.proofs.covered.plain.Goals as goal

pub returns-in_ok-size_of_text-in-String : goal.returns-in_ok-size_of_text-in-String
returns-in_ok-size_of_text-in-String c =
    let n = c.in_ok-size_of_text-in-String.field-0 in
    let e = c.in_ok-size_of_text-in-String.ensures in
    let a = string_answers (Some n) 0 c.in-String.text.now e.text e.size in
    plain_at (leaves.String, n) c.args.value.now (values.String c.in-String.text) c.in-String.is (a.0, a.1, refl)

pub returns-in-Int32 : goal.returns-in-Int32
returns-in-Int32 c =
    let n = c.size_of_int32.result in
    let a = int32_answers 0 n c.in-Int32.number c.size_of_int32.ensures.range c.size_of_int32.ensures.size in
    plain_at (leaves.I32, n) c.args.value.now (values.Int32 c.in-Int32.number) c.in-Int32.is (a.0, a.1, refl)

pub returns-in-Int64 : goal.returns-in-Int64
returns-in-Int64 c =
    let n = c.size_of_int64.result in
    let a = int64_answers 0 n c.in-Int64.number c.size_of_int64.ensures.range c.size_of_int64.ensures.size in
    plain_at (leaves.I64, n) c.args.value.now (values.Int64 c.in-Int64.number) c.in-Int64.is (a.0, a.1, refl)

pub returns-in-DateTime : goal.returns-in-DateTime
returns-in-DateTime c =
    let n = c.size_of_time.result in
    let a = date_time_answers 0 n (millis c.in-DateTime.time) c.size_of_time.ensures.range c.size_of_time.ensures.size in
    plain_at (leaves.DateTime, n) c.args.value.now (values.DateTime c.in-DateTime.time) c.in-DateTime.is (a.0, a.1, refl)

pub returns-in-Timestamp : goal.returns-in-Timestamp
returns-in-Timestamp c =
    let n = c.size_of_timestamp.result in
    let time = c.in-Timestamp.time in
    let e = c.size_of_timestamp.ensures in
    let a = timestamp_answers 0 n time.time time.increment e.time e.increment e.size in
    plain_at (leaves.Timestamp, n) c.args.value.now (values.Timestamp time) c.in-Timestamp.is (a.0, a.1, refl)
