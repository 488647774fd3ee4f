-- How the prover stores the fields and the variants of a shape.
use Rattle.std.specs.Coded.{Coded}
use Rattle.bson_shape.specs.Form.{Fields, Variants}
use Rattle.bson_shape.specs.Prover.StoredForm.{fields_code, fields_inj, variants_code, variants_inj}

abbrev pub coded_fields : Coded Fields
coded_fields = record { code = fields_code; inj = fields_inj }

abbrev pub coded_variants : Coded Variants
coded_variants = record { code = variants_code; inj = variants_inj }
