-- A command line of one word.
use Rattle.std.proofs.Common.{◌≡◌, ◌≤◌, ◌<◌, List, [], ◌∷◌, length, map, get_or, string_bytes, ap, sym, arith}
use Rattle.std.specs.Prelude.{String}
use Rattle.std.specs.declared.alloc.Global.{Global}

pub one_word : (words : List (String Global)) (word d : String Global) → 1 ≤ length words → length words < 2 → word ≡ get_or words 0 d → map string_bytes words ≡ string_bytes word ∷ []
one_word [] word d some few is = absurd (omega arith)
one_word (x ∷ []) word d some few is = ap (λ w. string_bytes w ∷ []) (sym is)
one_word (x ∷ y ∷ words) word d some few is = absurd (omega arith)
