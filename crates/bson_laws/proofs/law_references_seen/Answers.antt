use Rattle.bson_laws.proofs.Equations.{view_as, fits_as, view_reference, view_undefined, view_definitions, fits_reference, reference_fits, reference_fits_nothing, fits_definitions, definitions_fit}
use Rattle.bson_laws.proofs.law_references_seen.Goals as goal

pub returns : goal.returns
returns c = record {
  view = view_reference;
  unseen = view_undefined;
  view_definitions = view_definitions;
  fits = fits_reference;
  fit = reference_fits;
  unfit = reference_fits_nothing;
  fits_definitions = fits_definitions;
  definitions_fit = definitions_fit;
  unrolled = view_as;
  unrolled_fits = fits_as;
}
