use Rattle.std.proofs.Common.{ap, refl, sym, ◌∙◌, arith}
use Rattle.bson_datum.specs.MarkedView.{marked}
use Rattle.bson_datum.specs.declared.datum.Entry.{Entry}
use Rattle.bson_laws.specs.ReadsLeaf.{put_entry}
use Rattle.bson_texts.specs.ListsMarked.{entries_marked}
use Rattle.bson_leaves.proofs.KeyedEntries.{known_within, known_put, found_indexed, new_put, fresh_indexed}
use Rattle.bson_leaves.proofs.entries.Entries.put.Goals as goal

pub index_mut-requires : goal.index_mut-requires
index_mut-requires c =
    let within = known_within c.args.self.now c.requires.indexed c.args.text.now (marked c.args.key) c.utf8.text c.requires.key c.in-Ok-Some.place (sym c.in-Ok-Some.field-0-is ∙ c.in-Ok-Some.ensures.found) in
    omega (arith, within)

pub returns-in-Ok-Some-clause-indexed : goal.returns-in-Ok-Some-clause-indexed
returns-in-Ok-Some-clause-indexed c =
    found_indexed c.args.self.now _ c.place_or_push.new.self c.args.text.now _ c.in-Ok-Some.place c.len.result _ _ c.requires.indexed c.in-Ok-Some.field-0-is c.in-Ok-Some.ensures.found refl (ap marked c.renew.ensures.key ∙ ap (λ (x : Entry). marked x.key) c.index_mut.ensures.value)
    (omega arith) c.in-Ok-Some.ensures.next c.in-Ok-Some.ensures.places

pub returns-in-Ok-Some-clause-entries : goal.returns-in-Ok-Some-clause-entries
returns-in-Ok-Some-clause-entries c =
    known_put c.args.self.now c.requires.indexed c.args.text.now (marked c.args.key) c.utf8.text c.requires.key c.in-Ok-Some.place _ c.renew.new.old (sym c.in-Ok-Some.field-0-is ∙ c.in-Ok-Some.ensures.found) (ap marked c.renew.ensures.key ∙ ap (λ (x : Entry). marked x.key) c.index_mut.ensures.value)
    ∙ ap (λ d. put_entry (marked c.args.key) (marked d) (entries_marked c.args.self.now.entries.items)) c.renew.ensures.value

pub returns-in_ok-push-in-Ok-None-clause-indexed : goal.returns-in_ok-push-in-Ok-None-clause-indexed
returns-in_ok-push-in-Ok-None-clause-indexed c =
    fresh_indexed c.args.self.now c.requires.indexed c.args.text.now (marked c.args.key) c.utf8.text c.requires.key _ c.push.new.self c.place_or_push.new.self _ c.len.result refl c.in-Ok-None.field-0-is c.in-Ok-None.ensures.found
    c.in_ok-push-in-Ok-None.ensures.items (omega arith) c.in-Ok-None.ensures.next c.in-Ok-None.ensures.places

pub returns-in_ok-push-in-Ok-None-clause-entries : goal.returns-in_ok-push-in-Ok-None-clause-entries
returns-in_ok-push-in-Ok-None-clause-entries c =
    new_put c.args.self.now c.requires.indexed c.args.text.now (marked c.args.key) c.utf8.text c.requires.key _ c.push.new.self.items refl (sym c.in-Ok-None.field-0-is ∙ c.in-Ok-None.ensures.found) c.in_ok-push-in-Ok-None.ensures.items
