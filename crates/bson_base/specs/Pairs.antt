-- The pairs of a document as an ordered map. Source: the usual map that keeps the order of insertion.
use Rattle.std.specs.Prelude.{ℕ, suc, List, [], ◌∷◌, if◌then◌else◌, Option, None, Some}
use Rattle.std.specs.Str.{bytes_eq}
use Rattle.bson_kinds.specs.Text.{Utf8}
use Rattle.bson_base.specs.Tree.{Tree, Pairs, no_pairs, pair}
use Rattle.bson_base.specs.Sound.{Lacks}

-- the value of a key
abbrev pub lookup : Utf8 → Pairs → Option Tree
lookup key no_pairs = None
lookup key (pair k t ps) = if bytes_eq key k then Some t else lookup key ps

-- a key that is there keeps its place and takes the value; another goes last
abbrev pub put : Utf8 → Tree → Pairs → Pairs
put key value no_pairs = pair key value no_pairs
put key value (pair k t ps) = if bytes_eq key k then pair k value ps else pair k t (put key value ps)

-- the pairs without a key; the others keep their order
abbrev pub without : Utf8 → Pairs → Pairs
without key no_pairs = no_pairs
without key (pair k t ps) = if bytes_eq key k then ps else pair k t (without key ps)

-- how many pairs there are
abbrev pub count : Pairs → ℕ
count no_pairs = 0
count (pair k t ps) = suc (count ps)

-- the keys, in order
abbrev pub keys_of : Pairs → List Utf8
keys_of no_pairs = []
keys_of (pair k t ps) = k ∷ keys_of ps

-- no key occurs twice
abbrev pub AreDistinct : Pairs → Type 0
AreDistinct no_pairs = Unit {0}
AreDistinct (pair k t ps) = Lacks k ps × AreDistinct ps
