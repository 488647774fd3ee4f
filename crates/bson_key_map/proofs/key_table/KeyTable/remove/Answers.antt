use Rattle.std.proofs.Common.{◌≡◌, ◌∙◌, ap, sym}
use Rattle.std.specs.Prelude.{map, remove, string_bytes}
use Rattle.bson_key_map.proofs.Texts.{remove-map}
use Rattle.bson_key_map.proofs.key_table.KeyTable.remove.Goals as goal

pub returns : goal.returns
returns c =
    let before : map string_bytes c.deref_mut.result.now.keys ≡ c.args.self.now = ap (λ s. map string_bytes s.keys) c.deref_mut.ensures.value ∙ c.self.view_is in
    record { texts = ap (map string_bytes) c.shift_remove_index.ensures.keys ∙ sym (remove-map string_bytes c.deref_mut.result.now.keys c.args.index) ∙ ap (λ ts. remove ts c.args.index) before }
