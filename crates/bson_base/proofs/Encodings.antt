-- A binary of the old subtype 2 has four bytes more behind its subtype.
use Rattle.std.proofs.Common.{◌≡◌, ◌+◌, ◌<◌, ◌++◌, length, true, cond, Some, None, ap, ◌∙◌, arith}
use Rattle.std.specs.Prelude.{nat_lt}
use Rattle.std.proofs.lemmas.Bool.Decides.{nat_tests}
use Rattle.std.proofs.lemmas.List.{length-append}
use Rattle.bson_kinds.specs.Text.{Bytes}
use Rattle.bson_base.specs.Encoded.{binary_too_long, binary_fault}
use Rattle.bson_base.specs.Tree.{le32}
use Rattle.bson_base.proofs.Lengths.{length-le32}

pub old_fault : (bytes : Bytes) → 16777216 < length bytes + 4 → binary_fault 2 bytes ≡ Some (binary_too_long (length bytes + 4))
old_fault bytes long =
    let over : nat_lt 16777212 (length bytes) ≡ true = grind (arith, nat_tests) in
    let count : length (le32 (length bytes) ++ bytes) ≡ length bytes + 4 = omega (arith, length-append (le32 (length bytes)) bytes, length-le32 (length bytes)) in
    ap (λ b. cond b (Some (binary_too_long (length (le32 (length bytes) ++ bytes)))) None) over ∙ ap (λ n. Some (binary_too_long n)) count
