-- The answers to the documents of a stream. Source: this library's own programs.
use Rattle.std.specs.Prelude.{◌≡◌, ℕ, suc, Bool, true, false, ◌||◌, List, [], ◌∷◌, ◌++◌, codes, Result, Ok, Err, String, string_bytes}
use Rattle.std.specs.declared.alloc.Global.{Global}
use Rattle.std.specs.Fmt.{decimal}
use Rattle.bson_kinds.specs.Text.{Bytes, Utf8}
use Rattle.bson_program.specs.ShapeWord.{newline}

-- bytes, or a text that says why there are none
abbrev pub Answer : Type 0
Answer = Result Bytes Utf8

-- the line for a document that is answered with a text
abbrev pub line_of : (number : ℕ) → (text : Utf8) → Utf8
line_of number text = codes "document " ++ (decimal number ++ (codes ": " ++ (text ++ newline)))

-- what an answer writes to the output, and to the output for lines
abbrev pub bytes_of : Answer → Bytes
bytes_of (Ok bytes) = bytes
bytes_of (Err text) = []

abbrev pub lines_of : (number : ℕ) → Answer → Utf8
lines_of number (Ok bytes) = []
lines_of number (Err text) = line_of number text

abbrev pub is_refused : Answer → Bool
is_refused (Ok bytes) = false
is_refused (Err text) = true

-- the same of a list of answers, from this number on
abbrev pub outputs : List Answer → Bytes
outputs [] = []
outputs (a ∷ answers) = bytes_of a ++ outputs answers

abbrev pub lines : (number : ℕ) → List Answer → Utf8
lines number [] = []
lines number (a ∷ answers) = lines_of number a ++ lines (suc number) answers

abbrev pub has_refused : List Answer → Bool
has_refused [] = false
has_refused (a ∷ answers) = is_refused a || has_refused answers

-- Each document is answered so, from the first state to the last.
abbrev pub AreGiven : {S : Type 0} → (S → Bytes → Answer → S → Type 0) → (first : S) → List Bytes → List Answer → (last : S) → Type 0
AreGiven gives first [] [] last = last ≡ first
AreGiven gives first [] (a ∷ answers) last = ⊥
AreGiven gives first (p ∷ pieces) [] last = ⊥
AreGiven {S} gives first (p ∷ pieces) (a ∷ answers) last = (next : S) × gives first p a next × AreGiven gives next pieces answers last

-- The answer of a call that appends its bytes to what was due, or returns its text.
abbrev pub IsAnswer : (gives : Answer → Type 0) → (old new : Bytes) → Result (Unit {0}) (String Global) → Type 0
IsAnswer gives old new (Ok u) = (bytes : Bytes) × gives (Ok bytes) × (new ≡ old ++ bytes)
IsAnswer gives old new (Err text) = gives (Err (string_bytes text)) × (new ≡ old)
