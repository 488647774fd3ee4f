-- Values of equal contents are `==`, at each type that is written and read here.
use Rattle.std.specs.Prelude.{◌≡◌, ℕ, ℤ, pos, Bool, true, ◌&&◌, List, [], ◌∷◌, map, Option, Some, None, option_map, String, string_bytes, string_eq, nat_eq, refl}
use Rattle.std.specs.Global.{Global}
use Rattle.std.specs.Bool.{beq}
use Rattle.std.specs.BTreeMap.{BTreeMap}
use Rattle.std.specs.Cmp.{signed_Decides, unsigned_Decides, booleans_Decides}
use Rattle.std.specs.Cmp.Lexicographic.{pointwise}
use Rattle.std.specs.Option.{option_eq}
use Rattle.std.specs.Ordering.{int_eq}
use Rattle.std.specs.Str.{bytes_eq}
use Rattle.std.proofs.lemmas.Bool.{and_from}
use Rattle.std.proofs.lemmas.Slice.Eq.{bytes_eq-Decides}
use Rattle.bson_kinds.specs.Text.{Bytes, Utf8}
use Rattle.bson_base.specs.Tree.{Tree, binary, regular_expression, db_pointer, javascript_code_with_scope, Pairs}
use Rattle.bson_base.specs.Same.{same, same_pairs}
use Rattle.bson_base.specs.Prover.Decided.{same_decides, same_pairs_decides}
use Rattle.bson_traits.specs.Maps.{Key, pair_contents, map_contents}

-- ---- without parts

pub bool_equal : (x y : Bool) → x ≡ y → beq x y ≡ true
bool_equal x y e = (booleans_Decides x y).1 e

pub nat_equal : (x y : ℕ) → x ≡ y → nat_eq x y ≡ true
nat_equal x y e = (unsigned_Decides x y).1 e

pub int_equal : (x y : ℤ) → x ≡ y → int_eq x y ≡ true
int_equal x y e = (signed_Decides x y).1 e

pub bytes_equal : (x y : Bytes) → x ≡ y → bytes_eq x y ≡ true
bytes_equal x y e = (bytes_eq-Decides x y).1 e

pub string_equal : (x y : String Global) → string_bytes x ≡ string_bytes y → string_eq x y ≡ true
string_equal x y e = bytes_equal (string_bytes x) (string_bytes y) e

-- two natural numbers, as the numbers of a timestamp are
same_number : (x y : ℕ) → pos x ≡ pos y → x ≡ y
same_number x y e = cc

pub stamp_equal : (a b c d : ℕ) → ◌≡◌ {A = ℤ × ℤ} (pos a, pos b) (pos c, pos d) → (nat_eq a c && nat_eq b d) ≡ true
stamp_equal a b c d e = and_from _ _ (nat_equal a c (same_number a c (λ i. (e i).0))) (nat_equal b d (same_number b d (λ i. (e i).1)))

-- ---- trees

pub tree_equal : (x y : Tree) → x ≡ y → same x y ≡ true
tree_equal x y e = (same_decides x y).1 e

pub pairs_equal : (x y : Pairs) → x ≡ y → same_pairs x y ≡ true
pairs_equal x y e = (same_pairs_decides x y).1 e

pub binary_equal : (m : ℕ) (x : Bytes) (n : ℕ) (y : Bytes) → ◌≡◌ {A = ℕ × Bytes} (m, x) (n, y) → same (binary m x) (binary n y) ≡ true
binary_equal m x n y e = tree_equal (binary m x) (binary n y) (λ i. binary (e i).0 (e i).1)

pub regex_equal : (p o q r : Utf8) → ◌≡◌ {A = Utf8 × Utf8} (p, o) (q, r) → same (regular_expression p o) (regular_expression q r) ≡ true
regex_equal p o q r e = tree_equal (regular_expression p o) (regular_expression q r) (λ i. regular_expression (e i).0 (e i).1)

pub pointer_equal : (m : Utf8) (x : Bytes) (n : Utf8) (y : Bytes) → ◌≡◌ {A = Utf8 × Bytes} (m, x) (n, y) → same (db_pointer m x) (db_pointer n y) ≡ true
pointer_equal m x n y e = tree_equal (db_pointer m x) (db_pointer n y) (λ i. db_pointer (e i).0 (e i).1)

pub scoped_equal : (c : Utf8) (s : Pairs) (d : Utf8) (t : Pairs) → ◌≡◌ {A = Utf8 × Pairs} (c, s) (d, t) → same (javascript_code_with_scope c s) (javascript_code_with_scope d t) ≡ true
scoped_equal c s d t e = tree_equal (javascript_code_with_scope c s) (javascript_code_with_scope d t) (λ i. javascript_code_with_scope (e i).0 (e i).1)

-- ---- of parts, by those of the types of the parts

-- the parts of a struct, from the first on
pub and_equal : (first rest : Bool) → first ≡ true → rest ≡ true → (first && rest) ≡ true
and_equal first rest e f = and_from first rest e f

pub option_equal : {A C : Type 0} (c : A → C) (E : A → A → Bool) → ((x y : A) → c x ≡ c y → E x y ≡ true) → (x y : Option A) → option_map c x ≡ option_map c y → option_eq E x y ≡ true
option_equal c E law None None e = refl
option_equal c E law None (Some y) e = absurd cc
option_equal c E law (Some x) None e = absurd cc
option_equal c E law (Some x) (Some y) e = law x y cc

first_same : {C : Type 0} (x y : C) (xs ys : List C) → (x ∷ xs) ≡ (y ∷ ys) → x ≡ y
first_same x y xs ys e = cc

rest_same : {C : Type 0} (x y : C) (xs ys : List C) → (x ∷ xs) ≡ (y ∷ ys) → xs ≡ ys
rest_same x y xs ys e = cc

pub items_equal : {A C : Type 0} (c : A → C) (E : A → A → Bool) → ((x y : A) → c x ≡ c y → E x y ≡ true) → (xs ys : List A) → map c xs ≡ map c ys → pointwise E xs ys ≡ true
items_equal c E law [] [] e = refl
items_equal c E law [] (y ∷ ys) e = absurd cc
items_equal c E law (x ∷ xs) [] e = absurd cc
items_equal c E law (x ∷ xs) (y ∷ ys) e =
    and_from (E x y) (pointwise E xs ys) (law x y (first_same (c x) (c y) (map c xs) (map c ys) e)) (items_equal c E law xs ys (rest_same (c x) (c y) (map c xs) (map c ys) e))

pub map_equal : {A C : Type 0} (c : A → C) (E : A → A → Bool) → ((x y : A) → c x ≡ c y → E x y ≡ true) → (m n : BTreeMap Key A) → map_contents c m.entries ≡ map_contents c n.entries
    → pointwise (λ p q. string_eq p.0 q.0 && E p.1 q.1) m.entries n.entries ≡ true
map_equal c E law m n e =
    items_equal (pair_contents c) (λ p q. string_eq p.0 q.0 && E p.1 q.1) (λ p q f. and_from (string_eq p.0 q.0) (E p.1 q.1) (string_equal p.0 q.0 (λ i. (f i).0)) (law p.1 q.1 (λ i. (f i).1))) m.entries n.entries e
