use Rattle.std.proofs.Common.{◌≡◌, ◌∙◌, ◌∷◌, ◌++◌, [], false, ap}
use Rattle.std.specs.Prelude.{map, string_bytes}
use Rattle.std.specs.List.{list_any}
use Rattle.std.specs.Str.{bytes_eq}
use Rattle.bson_key_map.proofs.Texts.{inserted}
use Rattle.bson_key_map.proofs.key_table.KeyTable.push.Goals as goal

pub returns-clause-texts : goal.returns-clause-texts
returns-clause-texts c =
    let before : map string_bytes c.deref_mut.result.now.keys ≡ c.args.self.now = ap (λ s. map string_bytes s.keys) c.deref_mut.ensures.value ∙ c.self.view_is in
    let new : list_any (bytes_eq (string_bytes c.in_ok-copy.copy)) (map string_bytes c.deref_mut.result.now.keys) ≡ false = (λ i. list_any (bytes_eq (c.in_ok-copy.ensures.ok i)) (before i)) ∙ c.requires.new in
    ap (map string_bytes) c.in_ok-insert.ensures.keys ∙ inserted c.in_ok-copy.copy c.deref_mut.result.now.keys new ∙ (λ i. before i ++ c.in_ok-copy.ensures.ok i ∷ [])
