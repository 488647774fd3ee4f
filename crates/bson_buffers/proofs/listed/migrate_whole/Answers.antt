use Rattle.std.proofs.Common.{◌++◌, length, take, drop, ap, ◌∙◌, string_bytes, rules}
use Rattle.std.specs.Prelude.{min}
use Rattle.bson_buffers.specs.Lists.{Records, ListsRecords}
use Rattle.bson_buffers.proofs.ListedRows.{is_listed}
use Rattle.bson_buffers.proofs.listed.migrate_whole.Goals as goal

pub returns-in-Ok : goal.returns-in-Ok
returns-in-Ok c =
    let expected = c.in-Ok.listed.expected in
    let records = c.in-Ok.listed.refusals.items in
    let before = c.args.refusals.now in
    let array : Records = record { before = before; after = c.put_front.new.buffer; written = c.put_front.result; needed = c.len.result } in
    let listed : ListsRecords array records = record {
      put = c.put_front.ensures.put ∙ ap (λ rs. take (length before) rs ++ drop (length rs) before) c.deref.ensures.value;
      written = c.put_front.ensures.count ∙ ap (λ rs. min (length rs) (length before)) c.deref.ensures.value;
      needed = search rules;
    } in
    is_listed c.args.shape.now c.args.file.now expected.status expected.place expected.output.items (string_bytes expected.text) records c.deliver.result.status _ array c.in-Ok.ensures c.deliver.ensures listed
