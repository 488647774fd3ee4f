-- Pairs that lack keys.
use Rattle.std.proofs.Common.{◌≡◌, [], ◌∷◌, ◌++◌, List, true, ◌∙◌}
use Rattle.std.specs.Str.{bytes_eq}
use Rattle.bson_base.specs.Sound.{Lacks}
use Rattle.bson_kinds.specs.Text.{Utf8}
use Rattle.bson_base.specs.Tree.{Tree, Pairs, pair}
use Rattle.bson_kinds.proofs.Tests.{not_taken}
use Rattle.bson_keys.specs.New.{is_new}
use Rattle.bson_keys.proofs.Distinct.{bytes_eq-swap}

-- no pair has one of the keys
abbrev pub LacksAll : List Utf8 → Pairs → Type 0
LacksAll [] ps = Unit {0}
LacksAll (k ∷ ks) ps = Lacks k ps × LacksAll ks ps

pub lacked_last : (ks : List Utf8) (key : Utf8) (ps : Pairs) → LacksAll (ks ++ key ∷ []) ps → Lacks key ps
lacked_last [] key ps h = h.0
lacked_last (k ∷ ks) key ps h = lacked_last ks key ps h.1

-- one pair more, of a new key
pub lacked_pair : (ks : List Utf8) (key : Utf8) (t : Tree) (ps : Pairs) → is_new key ks ≡ true → LacksAll (ks ++ key ∷ []) ps → LacksAll ks (pair key t ps)
lacked_pair [] key t ps new h = tt
lacked_pair (k ∷ ks) key t ps new h =
    let parts = not_taken (bytes_eq key k) (is_new key ks) new in
    ((bytes_eq-swap k key ∙ parts.0, h.0), lacked_pair ks key t ps parts.1 h.1)

-- one pair less, whose key is among those that are lacked
pub lacked_rest : (ks : List Utf8) (key : Utf8) (t : Tree) (ps : Pairs) → LacksAll ks (pair key t ps) → Lacks key ps → LacksAll (ks ++ key ∷ []) ps
lacked_rest [] key t ps h last = (last, tt)
lacked_rest (k ∷ ks) key t ps h last = (h.0.1, lacked_rest ks key t ps h.1 last)
