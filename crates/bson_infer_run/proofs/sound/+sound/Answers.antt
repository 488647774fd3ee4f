use Rattle.std.proofs.Common.{sym, ap, string_bytes, Some}
use Rattle.bson_base.specs.Instant.{millis}
use Rattle.bson_base.specs.Tree.{string, javascript_code, symbol, int32, int64, date_time, timestamp}
use Rattle.bson_base.specs.BsonView.{tree_of, trees_of, pairs_of}
use Rattle.bson_infer_run.proofs.Fitting.{answers_at, string_answers, code_answers, symbol_answers, int32_answers, int64_answers, date_time_answers, timestamp_answers, document_answers, array_answers, scoped_refused, scoped_answers}
use Rattle.bson_infer_run.proofs.sound.+sound.Goals as goal

pub size_of-returns-in-String : goal.size_of-returns-in-String
size_of-returns-in-String t c =
    let text = string_bytes c.in-String.text in
    let v = c.as_str.ensures.value in
    answers_at c.size_of_text.result c.args.levels (tree_of c.args.value.now) (string text) (ap tree_of c.in-String.is)
    (string_answers c.size_of_text.result c.args.levels text (rw (sym v) c.size_of_text.ensures.text) (rw (sym v) c.size_of_text.ensures.size))

pub size_of-returns-in-JavaScriptCode : goal.size_of-returns-in-JavaScriptCode
size_of-returns-in-JavaScriptCode t c =
    let text = string_bytes c.in-JavaScriptCode.code in
    let v = c.as_str-in-JavaScriptCode.ensures.value in
    let r = c.size_of_text-in-JavaScriptCode.result in
    let e = c.size_of_text-in-JavaScriptCode.ensures in
    answers_at r c.args.levels (tree_of c.args.value.now) (javascript_code text) (ap tree_of c.in-JavaScriptCode.is) (code_answers r c.args.levels text (rw (sym v) e.text) (rw (sym v) e.size))

pub size_of-returns-in-Symbol : goal.size_of-returns-in-Symbol
size_of-returns-in-Symbol t c =
    let text = string_bytes c.in-Symbol.text in
    let v = c.as_str-in-Symbol.ensures.value in
    let r = c.size_of_text-in-Symbol.result in
    let e = c.size_of_text-in-Symbol.ensures in
    answers_at r c.args.levels (tree_of c.args.value.now) (symbol text) (ap tree_of c.in-Symbol.is) (symbol_answers r c.args.levels text (rw (sym v) e.text) (rw (sym v) e.size))

pub size_of-returns-in-Int32 : goal.size_of-returns-in-Int32
size_of-returns-in-Int32 t c =
    answers_at (Some c.size_of_int32.result) c.args.levels (tree_of c.args.value.now) (int32 c.in-Int32.number) (ap tree_of c.in-Int32.is) (int32_answers c.args.levels c.size_of_int32.result c.in-Int32.number c.size_of_int32.ensures.range c.size_of_int32.ensures.size)

pub size_of-returns-in-Int64 : goal.size_of-returns-in-Int64
size_of-returns-in-Int64 t c =
    answers_at (Some c.size_of_int64.result) c.args.levels (tree_of c.args.value.now) (int64 c.in-Int64.number) (ap tree_of c.in-Int64.is) (int64_answers c.args.levels c.size_of_int64.result c.in-Int64.number c.size_of_int64.ensures.range c.size_of_int64.ensures.size)

pub size_of-returns-in-DateTime : goal.size_of-returns-in-DateTime
size_of-returns-in-DateTime t c =
    answers_at (Some c.size_of_time.result) c.args.levels (tree_of c.args.value.now) (date_time (millis c.in-DateTime.time)) (ap tree_of c.in-DateTime.is) (date_time_answers c.args.levels c.size_of_time.result (millis c.in-DateTime.time) c.size_of_time.ensures.range c.size_of_time.ensures.size)

pub size_of-returns-in-Timestamp : goal.size_of-returns-in-Timestamp
size_of-returns-in-Timestamp t c =
    let time = c.in-Timestamp.time in
    let e = c.size_of_timestamp.ensures in
    answers_at (Some c.size_of_timestamp.result) c.args.levels (tree_of c.args.value.now) (timestamp time.time time.increment) (ap tree_of c.in-Timestamp.is) (timestamp_answers c.args.levels c.size_of_timestamp.result time.time time.increment e.time e.increment e.size)

pub size_of_array-returns : goal.size_of_array-returns
size_of_array-returns t c = array_answers c.within.result c.args.levels c.in_ok-checked_sub.field-0 c.in_ok-elements.elements (trees_of c.args.values.now) c.in_ok-checked_sub.ensures c.in_ok-elements.ensures c.within.ensures

pub size_of_document-returns : goal.size_of_document-returns
size_of_document-returns t c = document_answers c.within.result c.args.levels c.in_ok-checked_sub.field-0 c.in_ok-elements.elements (pairs_of c.args.document.now) c.in_ok-checked_sub.ensures c.in_ok-elements.ensures c.within.ensures

pub size_of_scoped-returns-in_err-code : goal.size_of_scoped-returns-in_err-code
size_of_scoped-returns-in_err-code t c =
    let v = c.as_str.ensures.value in
    rw c.from_residual.ensures (scoped_refused c.args.levels (string_bytes c.args.scoped.now.code) (pairs_of c.args.scoped.now.scope) (rw (sym v) c.in_err-code.ensures.size))

pub size_of_scoped-returns : goal.size_of_scoped-returns
size_of_scoped-returns t c =
    let v = c.as_str.ensures.value in
    let e = c.in_ok-code.ensures in
    scoped_answers c.within.result c.args.levels c.in_ok-code.code c.in_ok-scope.scope (string_bytes c.args.scoped.now.code) (pairs_of c.args.scoped.now.scope) (rw (sym v) e.text) (rw (sym v) e.size.1) c.in_ok-scope.ensures c.within.ensures
