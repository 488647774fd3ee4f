-- What is recast in one pass.
use Rattle.std.proofs.Common.{◌≡◌, ◌≤◌, length, Ok, ap, ◌∙◌, arith}
use Rattle.std.specs.Prelude.{nat_lt}
use Rattle.std.proofs.lemmas.Bool.{le-ltb}
use Rattle.bson_kinds.specs.Outcome.{result_map}
use Rattle.bson_base.specs.Sound.{max_bytes}
use Rattle.bson_kinds.specs.Text.{Bytes}
use Rattle.bson_base.specs.Tree.{enc}
use Rattle.bson_shape.specs.Form.{Form}
use Rattle.bson_laws.specs.Spell.{spell_document, size}
use Rattle.bson_laws.proofs.ReadAgain.{document_size}
use Rattle.bson_pass_parts.specs.Recast.{IsRecastAs}
use Rattle.bson_tree_recast.specs.Recast.{writes, recast_read, recast_of}
use Rattle.bson_recasting.proofs.RecastErrors.{within}

pub at_once : (s : Form) (bytes made : Bytes) → IsRecastAs s bytes made → recast_of s bytes ≡ writes made
at_once s bytes made p =
    let small : size p.value ≤ max_bytes = omega (arith, document_size p.value p.tree p.spelled, ap length p.encoded, p.fits) in
    ap recast_read p.read ∙ within (nat_lt max_bytes (size p.value)) (spell_document p.value) made (le-ltb _ _ small) (ap (result_map enc) p.spelled ∙ ap Ok p.encoded)
