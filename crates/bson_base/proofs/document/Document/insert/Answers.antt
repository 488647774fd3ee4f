use Rattle.std.proofs.Common.{◌≡◌, Some, false, ap, sym, ◌∙◌, string_bytes}
use Rattle.std.specs.List.{position, list_any}
use Rattle.std.specs.Option.{option_map}
use Rattle.std.specs.Str.{bytes_eq}
use Rattle.bson_key_map.specs.Keys.{key_texts}
use Rattle.bson_key_map.specs.declared.pair.Pair.{Pair}
use Rattle.bson_key_map.proofs.Places.{absent}
use Rattle.bson_base.specs.BsonView.{tree_of, listed_pairs}
use Rattle.bson_base.specs.declared.bson.Bson.{Bson}
use Rattle.bson_base.proofs.Documents.{lookup_position, lookup_new, put_position, put_new, there}
use Rattle.bson_base.proofs.document.Document.insert.Goals as goal

pub push-requires : goal.push-requires
push-requires c =
    let ps = c.args.self.now.0 in
    let key = string_bytes c.args.key in
    record { new = sym (absent key (key_texts ps) (c.in-None.ensures.index ∙ ap (λ text. position (bytes_eq text) (key_texts ps)) c.deref.ensures)) }

pub returns-in-Some-clause-new : goal.returns-in-Some-clause-new
returns-in-Some-clause-new c =
    let ps = c.args.self.now.0 in
    let key = string_bytes c.args.key in
    let i = c.in-Some.index in
    let at : Some i ≡ position (bytes_eq key) (key_texts ps) = c.in-Some.ensures.index ∙ ap (λ text. position (bytes_eq text) (key_texts ps)) c.deref.ensures in
    let p = there ps i c.in-Some.ensures.within in
    ap listed_pairs (c.replace.ensures.after p.0 p.1) ∙ put_position key ps p.0 c.args.value i p.1 at

pub returns-in-Some-clause-old : goal.returns-in-Some-clause-old
returns-in-Some-clause-old c =
    let ps = c.args.self.now.0 in
    let key = string_bytes c.args.key in
    let i = c.in-Some.index in
    let at : Some i ≡ position (bytes_eq key) (key_texts ps) = c.in-Some.ensures.index ∙ ap (λ text. position (bytes_eq text) (key_texts ps)) c.deref.ensures in
    let p = there ps i c.in-Some.ensures.within in
    ap (λ b. Some (tree_of b)) (c.replace.ensures.before p.0 p.1) ∙ ap (option_map (λ (q : Pair Bson). tree_of q.value)) (sym p.1) ∙ lookup_position key ps i at

pub returns-in_ok-push-in-None-clause-new : goal.returns-in_ok-push-in-None-clause-new
returns-in_ok-push-in-None-clause-new c =
    let ps = c.args.self.now.0 in
    let key = string_bytes c.args.key in
    let new : false ≡ list_any (bytes_eq key) (key_texts ps) = absent key (key_texts ps) (c.in-None.ensures.index ∙ ap (λ text. position (bytes_eq text) (key_texts ps)) c.deref.ensures) in
    ap listed_pairs c.in_ok-push-in-None.ensures.pairs ∙ put_new ps (record { key = c.args.key; value = c.args.value }) new

pub returns-in_ok-push-in-None-clause-old : goal.returns-in_ok-push-in-None-clause-old
returns-in_ok-push-in-None-clause-old c =
    let ps = c.args.self.now.0 in
    let key = string_bytes c.args.key in
    lookup_new key ps (absent key (key_texts ps) (c.in-None.ensures.index ∙ ap (λ text. position (bytes_eq text) (key_texts ps)) c.deref.ensures))
