use Rattle.std.proofs.Common.{ap, sym, ◌∙◌}
use Rattle.std.specs.Option.{option_map}
use Rattle.bson_key_map.specs.Keys.{Key, key_texts}
use Rattle.bson_key_map.specs.declared.pair.Pair.{Pair}
use Rattle.bson_key_map.proofs.Places.{absent}
use Rattle.bson_base.specs.BsonView.{tree_of, listed_pairs}
use Rattle.bson_base.specs.declared.bson.Bson.{Bson}
use Rattle.bson_base.proofs.Documents.{lookup_position, lookup_new, without_position, without_new, key_position}
use Rattle.bson_base.proofs.document.Document.remove_entry.Goals as goal

pub returns-in_err-index-clause-value : goal.returns-in_err-index-clause-value
returns-in_err-index-clause-value c =
    let ps = c.args.self.now.0 in
    ap (option_map (λ (p : Key × Bson). tree_of p.1)) c.from_residual.ensures ∙ lookup_new c.args.key.now ps (absent c.args.key.now (key_texts ps) c.in_err-index.ensures.index)

pub returns-in_err-index-clause-rest : goal.returns-in_err-index-clause-rest
returns-in_err-index-clause-rest c =
    let ps = c.args.self.now.0 in
    without_new c.args.key.now ps (absent c.args.key.now (key_texts ps) c.in_err-index.ensures.index)

pub returns-clause-key : goal.returns-clause-key
returns-clause-key c = key_position c.args.key.now c.args.self.now.0 c.in_ok-index.index c.remove-key.result c.in_ok-index.ensures.index c.remove-key.ensures.pair

pub returns-clause-value : goal.returns-clause-value
returns-clause-value c =
    ap (option_map (λ (p : Pair Bson). tree_of p.value)) (sym c.remove-key.ensures.pair) ∙ lookup_position c.args.key.now c.args.self.now.0 c.in_ok-index.index c.in_ok-index.ensures.index

pub returns-clause-rest : goal.returns-clause-rest
returns-clause-rest c = ap listed_pairs c.remove-key.ensures.pairs ∙ without_position c.args.key.now c.args.self.now.0 c.in_ok-index.index c.in_ok-index.ensures.index
