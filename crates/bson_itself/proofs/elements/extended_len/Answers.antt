use Rattle.bson_kinds.specs.declared.element_type.ElementType.TheVariants as kinds
use Rattle.bson_itself.specs.Encoded.{IsTextValue, IsExpression, IsPointer}
use Rattle.bson_itself.specs.declared.untyped.UntypedLeaf.TheVariants.{Bson}
use Rattle.bson_itself.proofs.Parts.{fixed_one, made_one, id_one, date_one, timestamp_one, decimal_one, code_one, symbol_one, expression_one, pointer_one, undefined_one, min_key_one, max_key_one}
use Rattle.bson_itself.proofs.elements.extended_len.Goals as goal

pub returns-in-ObjectId-clause-itself : goal.returns-in-ObjectId-clause-itself
returns-in-ObjectId-clause-itself c =
    let f = c.fixed_len in
    rw c.in-ObjectId.is (fixed_one Bson kinds.ObjectId c.args.levels c.args.bytes.now 12 f.result f.ensures.are_bytes f.ensures.within f.ensures.fixed (id_one c.args.levels))

pub returns-in-DateTime-clause-itself : goal.returns-in-DateTime-clause-itself
returns-in-DateTime-clause-itself c =
    let f = c.fixed_len-in-DateTime in
    rw c.in-DateTime.is (fixed_one Bson kinds.DateTime c.args.levels c.args.bytes.now 8 f.result f.ensures.are_bytes f.ensures.within f.ensures.fixed (date_one c.args.levels))

pub returns-in-Timestamp-clause-itself : goal.returns-in-Timestamp-clause-itself
returns-in-Timestamp-clause-itself c =
    let f = c.fixed_len-in-Timestamp in
    rw c.in-Timestamp.is (fixed_one Bson kinds.Timestamp c.args.levels c.args.bytes.now 8 f.result f.ensures.are_bytes f.ensures.within f.ensures.fixed (timestamp_one c.args.levels))

pub returns-in-Decimal128-clause-itself : goal.returns-in-Decimal128-clause-itself
returns-in-Decimal128-clause-itself c =
    let f = c.fixed_len-in-Decimal128 in
    rw c.in-Decimal128.is (fixed_one Bson kinds.Decimal128 c.args.levels c.args.bytes.now 16 f.result f.ensures.are_bytes f.ensures.within f.ensures.fixed (decimal_one c.args.levels))

pub returns-in-JavaScriptCode-clause-itself : goal.returns-in-JavaScriptCode-clause-itself
returns-in-JavaScriptCode-clause-itself c = rw c.in-JavaScriptCode.is (made_one Bson kinds.JavaScriptCode c.args.levels c.args.bytes.now c.text_len.result IsTextValue c.text_len.ensures.text (code_one c.args.levels))

pub returns-in-Symbol-clause-itself : goal.returns-in-Symbol-clause-itself
returns-in-Symbol-clause-itself c = rw c.in-Symbol.is (made_one Bson kinds.Symbol c.args.levels c.args.bytes.now c.text_len-in-Symbol.result IsTextValue c.text_len-in-Symbol.ensures.text (symbol_one c.args.levels))

pub returns-in-RegularExpression-clause-itself : goal.returns-in-RegularExpression-clause-itself
returns-in-RegularExpression-clause-itself c =
    rw c.in-RegularExpression.is (made_one Bson kinds.RegularExpression c.args.levels c.args.bytes.now c.expression_len.result IsExpression c.expression_len.ensures.expression (expression_one c.args.levels))

pub returns-in-DbPointer-clause-itself : goal.returns-in-DbPointer-clause-itself
returns-in-DbPointer-clause-itself c = rw c.in-DbPointer.is (made_one Bson kinds.DbPointer c.args.levels c.args.bytes.now c.pointer_len.result IsPointer c.pointer_len.ensures.pointer (pointer_one c.args.levels))

pub returns-in-Undefined-clause-itself : goal.returns-in-Undefined-clause-itself
returns-in-Undefined-clause-itself c = rw c.in-Undefined.is (undefined_one c.args.levels)

pub returns-in-MinKey-clause-itself : goal.returns-in-MinKey-clause-itself
returns-in-MinKey-clause-itself c = rw c.in-MinKey.is (min_key_one c.args.levels)

pub returns-in-MaxKey-clause-itself : goal.returns-in-MaxKey-clause-itself
returns-in-MaxKey-clause-itself c = rw c.in-MaxKey.is (max_key_one c.args.levels)
