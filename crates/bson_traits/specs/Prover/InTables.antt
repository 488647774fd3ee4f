-- What a type that holds itself is proved by: its values fit a form in the table of its definitions, part by part.
pub use Rattle.bson_laws.proofs.Equations.{fits_reference, fits_definitions}
pub use Rattle.bson_laws.proofs.FitsUnrolled.{fits_whole, fits_more, ItemsFitIn, EntriesFitIn, FieldsFitIn, item_in, sequence_in, entry_in, map_in, field_in, structure_in, unit_variant_in, newtype_variant_in}
