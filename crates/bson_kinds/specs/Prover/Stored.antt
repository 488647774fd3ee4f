-- The parts of a stored value, for the codes of data that hold themselves.
use Rattle.std.specs.Prelude.{ℕ}
use base.Stored.{Gv, gnil, gnum, gcons}

abbrev pub head : Gv → Gv
head gnil = gnil
head (gnum n) = gnil
head (gcons a b) = a

abbrev pub tail : Gv → Gv
tail gnil = gnil
tail (gnum n) = gnil
tail (gcons a b) = b

abbrev pub num : Gv → ℕ
num gnil = 0
num (gnum n) = n
num (gcons a b) = 0
