-- Values of two constructors are not the same. Where much is in scope, a row that cites one of these is checked many times faster than one that leaves it to `cc`.
use Rattle.std.proofs.Common.{◌≡◌, Bool, true, false, Option, Some, None, Ok, Err}

-- a failure is no result
pub no_ok : {E A : Type 0} {x : E} {y : A} → Err x ≡ Ok y → ⊥
no_ok e = cc

-- nothing is not something
pub no_some : {A : Type 0} {x : A} → None ≡ Some x → ⊥
no_some e = cc

-- something is not nothing
pub some_no : {A : Type 0} {x : A} → Some x ≡ None → ⊥
some_no e = cc

pub false_no : false ≡ true → ⊥
false_no e = cc

pub true_no : true ≡ false → ⊥
true_no e = cc
