use Rattle.std.proofs.Common.{◌∙◌, ap}
use Rattle.std.specs.Prelude.{map, string_bytes}
use Rattle.std.specs.List.{position}
use Rattle.std.specs.Str.{bytes_eq}
use Rattle.bson_key_map.proofs.Texts.{place_of_text}
use Rattle.bson_key_map.proofs.key_table.KeyTable.get_index_of.Goals as goal

pub returns-clause-index : goal.returns-clause-index
returns-clause-index c =
    c.get_index_of.ensures.index
    ∙ place_of_text c.args.key.now c.deref.result.now.keys
    ∙ ap (position (bytes_eq c.args.key.now)) (ap (λ s. map string_bytes s.keys) c.deref.ensures ∙ c.self.view_is)
