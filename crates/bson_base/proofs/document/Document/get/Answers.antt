use Rattle.std.proofs.Common.{Some, ap, sym, ◌∙◌}
use Rattle.std.specs.Prelude.{slice_index_or}
use Rattle.std.specs.Option.{option_map}
use Rattle.std.proofs.lemmas.Option.{slice_get-get_or}
use Rattle.bson_key_map.specs.Keys.{key_texts}
use Rattle.bson_key_map.specs.declared.pair.Pair.{Pair}
use Rattle.bson_key_map.proofs.Places.{absent}
use Rattle.bson_base.specs.BsonView.{tree_of}
use Rattle.bson_base.specs.declared.bson.Bson.{Bson}
use Rattle.bson_base.proofs.Documents.{lookup_position, lookup_new}
use Rattle.bson_base.proofs.document.Document.get.Goals as goal

pub returns-in_err-index : goal.returns-in_err-index
returns-in_err-index c =
    let ps = c.args.self.now.0 in
    record { value = ap (option_map (λ b. tree_of b.now)) c.from_residual.ensures ∙ lookup_new c.args.key.now ps (absent c.args.key.now (key_texts ps) c.in_err-index.ensures.index) }

pub returns : goal.returns
returns c =
    let ps = c.args.self.now.0 in
    let i = c.in_ok-index.index in
    let p = c.index-as_slice-index.result in
    record {
      value =
          ap (λ qs. Some (tree_of (slice_index_or qs i p).value)) c.as_slice.ensures.pairs
          ∙ sym (ap (option_map (λ (q : Pair Bson). tree_of q.value)) (slice_get-get_or ps i p c.in_ok-index.ensures.within))
          ∙ lookup_position c.args.key.now ps i c.in_ok-index.ensures.index;
    }
