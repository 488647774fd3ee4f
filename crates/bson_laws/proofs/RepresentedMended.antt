-- The document that an extended value is opened to represents the value where texts are mended, too.
use Rattle.std.proofs.Common.{◌≡◌, [], ◌∷◌, refl, ap, ◌∙◌}
use Rattle.std.specs.Prelude.{codes}
use Rattle.std.specs.Result.{result_ok}
use Rattle.bson_base.specs.Made.{digits, number_text, base64_text}
use Rattle.bson_kinds.specs.Piece.{Piece}
use Rattle.bson_base.proofs.MadeTexts.{digits_are_text, base64_is_text, number_is_text}
use Rattle.bson_rawdoc.specs.Node.{made_document, string, Extended, binary, object_id, date_time, regular_expression, db_pointer, javascript_code, symbol, javascript_code_with_scope, decimal128, one, two, made_text, mended_text, opened, mended_value, mended_nodes}
use Rattle.bson_values.specs.Wrapper.{of_key}
use Rattle.bson_laws.specs.Represented.{HasRanges, RepresentsItselfMended}
use Rattle.bson_laws.specs.Trees.{read_tree}
use Rattle.bson_laws.proofs.MendedTexts.{whole_mended}
use Rattle.bson_laws.proofs.Represented.{represents_itself}

decimal_mended : (b : Piece) → read_tree (made_document (mended_nodes (opened (decimal128 b)))) ≡ read_tree (made_document (opened (decimal128 b)))
unfolding of_key
decimal_mended b = refl

-- The texts that are made are texts, and stay as they are.
opened_mended : (x : Extended) → HasRanges x → read_tree (made_document (mended_nodes (opened x))) ≡ read_tree (made_document (opened (mended_value x)))
opened_mended (binary subtype b) h =
    let first = whole_mended (digits (subtype ∷ [])) (digits_are_text (subtype ∷ [])) in
    let second = whole_mended (base64_text b.bytes) (base64_is_text b.bytes) in
    λ i. read_tree (made_document (one (codes "$binary") (made_document (two (codes "subType") (made_text (first i)) (codes "base64") (made_text (second i))))))
opened_mended (object_id id) h = ap (λ t. read_tree (made_document (one (codes "$oid") (made_text t)))) (whole_mended (digits id.bytes) (digits_are_text id.bytes))
opened_mended (date_time n) h = ap (λ t. read_tree (made_document (one (codes "$date") (made_document (one (codes "$numberLong") (made_text t)))))) (whole_mended (number_text n) (number_is_text n h))
opened_mended (db_pointer namespace id) h =
    ap (λ t. read_tree (made_document (one (codes "$dbPointer") (made_document (two (codes "$ref") (string (mended_text namespace)) (codes "$id") (made_document (one (codes "$oid") (made_text t))))))))
    (whole_mended (digits id) (digits_are_text id))
opened_mended (decimal128 b) h = decimal_mended b
opened_mended x h = refl

mended_ranges : (x : Extended) → HasRanges x → HasRanges (mended_value x)
mended_ranges (regular_expression p q) h = tt
mended_ranges (db_pointer namespace id) h = h
mended_ranges (javascript_code t) h = tt
mended_ranges (symbol t) h = tt
mended_ranges (javascript_code_with_scope code scope) h = tt
mended_ranges x h = h

pub represents_mended : RepresentsItselfMended
represents_mended x h = ap result_ok (opened_mended x h) ∙ represents_itself (mended_value x) (mended_ranges x h)
