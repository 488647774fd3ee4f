use Rattle.std.proofs.Common.{Ok, ap, sym, ◌∙◌, rules}
use Rattle.bson_texts.specs.ListsMarked.{entries_marked}
use Rattle.bson_texts.proofs.MarkedLists.{marked-Map}
use Rattle.bson_trees.proofs.ExtendedLeaves.{document_read, document_stops}
use Rattle.bson_trees.proofs.extended.document.Goals as goal

pub returns-in_err-read_entries : goal.returns-in_err-read_entries
returns-in_err-read_entries c = let here = document_stops c.args.value.now c.in_err-read_entries.field-0.0 c.in_err-read_entries.ensures.exact in record { exact = search (rules, here) }

pub returns : goal.returns
returns c =
    let es = c.in_ok-read_entries.field-0 in
    record { exact = document_read c.args.value.now (entries_marked es.items) c.in_ok-read_entries.ensures.exact ∙ ap Ok (sym (marked-Map es)) }
