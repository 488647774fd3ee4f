-- A field that is not alone.
use Rattle.std.proofs.Common.{◌≡◌, [], ◌∷◌, List, length, false, ◌==◌, refl, ◌∙◌}
use Rattle.bson_kinds.specs.Text.{Utf8}
use Rattle.bson_datum.specs.View.{fields_view}
use Rattle.bson_datum.specs.declared.datum.Field.{Field}
use Rattle.bson_ser_parts.specs.Fronts.{is_lone}

pub not_lone : (name : Utf8) (field : Field) (rest : List Field) → false ≡ (length rest == 0) → false ≡ is_lone name (fields_view (field ∷ rest))
not_lone name field [] e = e ∙ cc
not_lone name field (f ∷ rest) e = refl
