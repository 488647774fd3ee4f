-- The bytes of one character are read.
use Rattle.std.proofs.Common.{◌≡◌, ℕ, ◌+◌, ◌/◌, ◌%◌, ◌≤◌, ◌<◌, Bool, true, false, cond, eqb, List, [], ◌∷◌, ◌++◌, length, Result, Ok, Err, refl, sym, ap, subst, ◌∙◌, arith, append_assoc, append-nil}
use lib.Utf8.{encode}
use lib.Dec.{ltb}
use Rattle.std.proofs.lemmas.Str.{encode_ascii, length-encode, len_utf8_bounds}
use Rattle.bson_kinds.specs.Text.{Utf8}
use Rattle.bson_shape.specs.Notation.{begins_bare, in_bare, names_form, is_escaped}
use Rattle.bson_kinds.specs.Outcome.{◌>>=◌}
use Rattle.bson_shape.specs.Machine.{Refusal, Not_notation, Group, Braces, Closed_braces, Parens, Angles, Table, Level, In_prefix, In_brackets, In_pair, In_compact, In_map, In_item, Owner, Form_at, Item_of, Reference_at, Mode, Form_due, Percent, Ampersand, At, Behind_sign, Item_due, Bare, Quoted, Escape, Named, Item_done, Done, State, grown, closing, item_ended, wrapped, enclosed, form_ended, begins_name, begins_form, form_due, name_due, field_due, item_begun, item_due, named, word_ended, leaf_ended, bare_name, quoted_name, escape, step, no_more, no_more_behind, other_character, run}
use Rattle.bson_shape.proofs.NameRuns.{run_step, run_refused}
use Rattle.std.proofs.lemmas.Bool.Decides.{nat_tests}
use Rattle.bson_shape.specs.Answers.{Gives}
use Rattle.bson_shape.specs.declared.error.ParseError.{ParseError}
use Rattle.bson_shape.specs.Form.{Form, leaf, reference}
use Rattle.bson_shape.specs.Leaf.{of_word}
use Rattle.bson_shape.specs.declared.leaf.Leaf.{Leaf}
use Rattle.std.proofs.Common.{Option, Some, None}

-- no ASCII
abbrev pub AreHigh : Utf8 → Type 0
AreHigh [] = Unit {0}
AreHigh (b ∷ bs) = (128 ≤ b) × AreHigh bs

high_cases : (x y z : Bool) (c : ℕ) → ltb c 128 ≡ x → 128 ≤ c → AreHigh (cond x (c ∷ []) (cond y ((192 + c / 64) ∷ (128 + c % 64) ∷ []) (cond z ((224 + c / 4096) ∷ (128 + c / 64 % 64) ∷ (128 + c % 64) ∷ []) ((240 + c / 262144) ∷ (128 + c / 4096 % 64) ∷ (128 + c / 64 % 64) ∷ (128 + c % 64) ∷ []))))
high_cases true y z c e h = (h, tt)
high_cases false true z c e h = (omega arith, (omega arith, tt))
high_cases false false true c e h = (omega arith, (omega arith, (omega arith, tt)))
high_cases false false false c e h = (omega arith, (omega arith, (omega arith, (omega arith, tt))))

pub high_encode : (c : ℕ) → 128 ≤ c → AreHigh (encode c)
unfolding encode
high_encode c h = high_cases (ltb c 128) (ltb c 2048) (ltb c 65536) c refl h

-- a byte that is not ASCII
not_byte : (b k : ℕ) → 128 ≤ b → k < 128 → eqb b k ≡ false
not_byte b k h l = grind (arith, nat_tests)

not_in_bare : (b : ℕ) → 128 ≤ b → in_bare b ≡ false
not_in_bare b h = grind (arith, nat_tests)

not_begins_bare : (b : ℕ) → 128 ≤ b → begins_bare b ≡ false
not_begins_bare b h = grind (arith, nat_tests)

not_quote : (b : ℕ) → 128 ≤ b → begins_name b ≡ false
not_quote b h = grind (arith, nat_tests)

not_form : (b : ℕ) → 128 ≤ b → begins_form b ≡ false
not_form b h = grind (arith, nat_tests)

pub not_escaped : (b : ℕ) → 128 ≤ b → is_escaped b ≡ false
not_escaped b h = grind (arith, nat_tests)

not_naming : (b : ℕ) → 128 ≤ b → names_form b ≡ false
not_naming b h = grind (arith, nat_tests)

not_closing : (g : Group) (b : ℕ) → 128 ≤ b → eqb b (closing g) ≡ false
not_closing (Braces h fs) b l = not_byte b 125 l (omega arith)
not_closing (Closed_braces place n fs) b l = not_byte b 125 l (omega arith)
not_closing (Parens h ps) b l = not_byte b 41 l (omega arith)
not_closing (Angles e) b l = not_byte b 62 l (omega arith)
not_closing (Table place h) b l = not_byte b 41 l (omega arith)

-- behind an item, a form or a name there is no such byte
item_refused : (at : ℕ) (g : Group) (st : List Level) (b : ℕ) → 128 ≤ b → item_ended at g st b ≡ Err (Not_notation at)
item_refused at g st b h = rw (not_byte b 44 h (omega arith), not_closing g b h) refl

enclosed_refused : (at : ℕ) (f : Form) (st : List Level) (b : ℕ) → 128 ≤ b → enclosed at f st b ≡ Err (Not_notation at)
enclosed_refused at f [] b h = refl
enclosed_refused at f (In_prefix place p ∷ st) b h = refl
enclosed_refused at f (In_brackets place ∷ st) b h = rw (not_byte b 93 h (omega arith), not_byte b 58 h (omega arith)) refl
enclosed_refused at f (In_pair place ∷ st) b h = rw (not_byte b 44 h (omega arith)) refl
enclosed_refused at f (In_compact place r ∷ st) b h = rw (not_byte b 41 h (omega arith)) refl
enclosed_refused at f (In_map place k ∷ st) b h = rw (not_byte b 93 h (omega arith)) refl
enclosed_refused at f (In_item g n ∷ st) b h = item_refused at (grown g n f) st b h

ended_refused : (at : ℕ) (f : Form) (st : List Level) (b : ℕ) → 128 ≤ b → form_ended at f st b ≡ no_more at f st
unfolding form_ended
ended_refused at f st b h = ap (λ k. wrapped at f st >>= k) (λ i e. enclosed_refused at e.0 e.1 b h i)

-- behind a name no such byte is taken; that of a reference ends there
abbrev taken_behind : ℕ → Owner → Utf8 → List Level → Result State Refusal
taken_behind at (Form_at p) n st = Err (Not_notation at)
taken_behind at (Item_of g) n st = Err (Not_notation at)
taken_behind at (Reference_at p) n st = no_more at (reference n) st

named_refused : (at : ℕ) (owner : Owner) (n : Utf8) (st : List Level) (b : ℕ) → 128 ≤ b → named at owner n st b ≡ taken_behind at owner n st
unfolding named
named_refused at (Form_at p) n st b h = rw (not_byte b 61 h (omega arith), not_byte b 33 h (omega arith), not_byte b 40 h (omega arith), not_byte b 123 h (omega arith)) refl
named_refused at (Item_of (Braces k fs)) n st b h = rw (not_byte b 58 h (omega arith)) refl
named_refused at (Item_of (Closed_braces p m fs)) n st b h = rw (not_byte b 58 h (omega arith)) refl
named_refused at (Item_of (Parens k ps)) n st b h = refl
named_refused at (Item_of (Table p k)) n st b h = rw (not_byte b 61 h (omega arith)) refl
named_refused at (Reference_at p) n st b h = ended_refused at (reference n) st b h
named_refused at (Item_of (Angles e)) n st b h = rw (not_byte b 61 h (omega arith), not_byte b 40 h (omega arith), not_byte b 123 h (omega arith), not_byte b 44 h (omega arith), not_byte b 62 h (omega arith)) refl

leaf_refused : (o : Option Leaf) (at : ℕ) (st : List Level) (b : ℕ) → 128 ≤ b → leaf_ended at o st b ≡ no_more_behind at o st
leaf_refused None at st b h = refl
leaf_refused (Some l) at st b h = ended_refused at (leaf l) st b h

word_refused : (at place : ℕ) (n : Utf8) (st : List Level) (b : ℕ) → 128 ≤ b → word_ended at (Form_at place) n st b ≡ no_more_behind at (of_word n) st
unfolding word_ended
word_refused at place n st b h = rw (not_naming b h) (leaf_refused (of_word n) at st b h)

item_word_refused : (at : ℕ) (g : Group) (n : Utf8) (st : List Level) (b : ℕ) → 128 ≤ b → word_ended at (Item_of g) n st b ≡ Err (Not_notation at)
unfolding word_ended
item_word_refused at g n st b h = named_refused at (Item_of g) n st b h

reference_refused : (at place : ℕ) (n : Utf8) (st : List Level) (b : ℕ) → 128 ≤ b → word_ended at (Reference_at place) n st b ≡ no_more at (reference n) st
unfolding word_ended
reference_refused at place n st b h = named_refused at (Reference_at place) n st b h

due_refused : (at : ℕ) (g : Group) (st : List Level) (b : ℕ) → 128 ≤ b → item_due at g st b ≡ Err (Not_notation at)
unfolding item_due item_begun field_due name_due form_due
due_refused at g st b h = rw (not_closing g b h) (begun g)
  where
    begun : (g : Group) → item_begun at g st b ≡ Err (Not_notation at)
    begun (Braces k fs) = rw (not_byte b 33 h (omega arith), not_quote b h) refl
    begun (Closed_braces p m fs) = rw (not_quote b h) refl
    begun (Parens k ps) = rw (not_form b h) refl
    begun (Angles e) = rw (not_quote b h) refl
    begun (Table p k) = rw (not_quote b h) refl

-- such a byte is read between quotes alone
pub high_step : (at : ℕ) (m : Mode) (st : List Level) (b : ℕ) → 128 ≤ b → step at m st b ≡ other_character at m st (b ∷ [])
unfolding step form_due bare_name quoted_name escape other_character
high_step at Form_due st b h = rw (not_form b h) refl
high_step at (Behind_sign Percent place) st b h = rw (not_byte b 40 h (omega arith)) refl
high_step at (Behind_sign Ampersand place) st b h = rw (not_byte b 40 h (omega arith)) refl
high_step at (Behind_sign At place) st b h = rw (not_quote b h) refl
high_step at (Item_due g) st b h = due_refused at g st b h
high_step at (Item_done g) st b h = item_refused at g st b h
high_step at (Bare (Form_at p) n) st b h = rw (not_in_bare b h) (word_refused at p n st b h)
high_step at (Bare (Item_of g) n) st b h = rw (not_in_bare b h) (item_word_refused at g n st b h)
high_step at (Bare (Reference_at p) n) st b h = rw (not_in_bare b h) (reference_refused at p n st b h)
high_step at (Quoted owner n) st b h = rw (not_byte b 34 h (omega arith), not_byte b 92 h (omega arith)) refl
high_step at (Escape owner n) st b h = rw (not_escaped b h) refl
high_step at (Named (Form_at p) n) st b h = named_refused at (Form_at p) n st b h
high_step at (Named (Item_of g) n) st b h = named_refused at (Item_of g) n st b h
high_step at (Named (Reference_at p) n) st b h = named_refused at (Reference_at p) n st b h
high_step at (Done f) st b h = ended_refused at f st b h

quoted_other : (at : ℕ) (owner : Owner) (n : Utf8) (st : List Level) (bs : Utf8) → other_character at (Quoted owner n) st bs ≡ Ok (Quoted owner (n ++ bs), st)
unfolding other_character
quoted_other at owner n st bs = refl

quoted_high : (bs : Utf8) (at : ℕ) (owner : Owner) (n : Utf8) (st : List Level) → AreHigh bs → run at (Quoted owner n, st) bs ≡ Ok (Quoted owner (n ++ bs), st)
unfolding run
quoted_high [] at owner n st h = ap (λ xs. Ok (Quoted owner xs, st)) (sym (append-nil n))
quoted_high (b ∷ bs) at owner n st h =
    let first : step at (Quoted owner n) st b ≡ Ok (Quoted owner (n ++ b ∷ []), st) = high_step at (Quoted owner n) st b h.0 ∙ quoted_other at owner n st (b ∷ []) in
    run_step at (Quoted owner n) st b bs _ first ∙ quoted_high bs (at + 1) owner (n ++ b ∷ []) st h.1 ∙ ap (λ xs. Ok (Quoted owner xs, st)) (append_assoc n (b ∷ []) bs)

-- outside quotes it is refused at its first byte, whichever it is
refused_high : (bs : Utf8) (b at : ℕ) (m : Mode) (st : List Level) → 128 ≤ b → other_character at m st (b ∷ []) ≡ Err (Not_notation at) → run at (m, st) (b ∷ bs) ≡ Err (Not_notation at)
refused_high bs b at m st h e = run_refused at m st b bs (Not_notation at) (high_step at m st b h ∙ e)

-- nothing is taken, whatever comes next
none_taken : {A B C : Type 0} (r : Result A Refusal) (e : Refusal) (next : B → Result C Refusal) → ((r >>= λ x. Err e) >>= next) ≡ (r >>= λ x. Err e)
none_taken (Ok x) e next = refl
none_taken (Err d) e next = refl

ended_high : (f : Form) (bs : Utf8) (b at : ℕ) (m : Mode) (st : List Level) → 128 ≤ b → other_character at m st (b ∷ []) ≡ no_more at f st → run at (m, st) (b ∷ bs) ≡ no_more at f st
unfolding run
ended_high f bs b at m st h e = ap (λ r. r >>= λ u. run (at + 1) u bs) (high_step at m st b h ∙ e) ∙ none_taken (wrapped at f st) (Not_notation at) (λ u. run (at + 1) u bs)

word_high : (o : Option Leaf) (bs : Utf8) (b at : ℕ) (m : Mode) (st : List Level) → 128 ≤ b → other_character at m st (b ∷ []) ≡ no_more_behind at o st → run at (m, st) (b ∷ bs) ≡ no_more_behind at o st
word_high None bs b at m st h e = refused_high bs b at m st h e
word_high (Some l) bs b at m st h e = ended_high (leaf l) bs b at m st h e

high_run : (bs : Utf8) (b at : ℕ) (m : Mode) (st : List Level) → AreHigh (b ∷ bs) → run at (m, st) (b ∷ bs) ≡ other_character at m st (b ∷ bs)
unfolding other_character
high_run bs b at (Quoted owner n) st h = quoted_high (b ∷ bs) at owner n st h
high_run bs b at (Bare (Form_at p) n) st h = word_high (of_word n) bs b at (Bare (Form_at p) n) st h.0 refl
high_run bs b at (Bare (Reference_at p) n) st h = ended_high (reference n) bs b at (Bare (Reference_at p) n) st h.0 refl
high_run bs b at (Named (Reference_at p) n) st h = ended_high (reference n) bs b at (Named (Reference_at p) n) st h.0 refl
high_run bs b at (Done f) st h = ended_high f bs b at (Done f) st h.0 refl
high_run bs b at m st h = refused_high bs b at m st h.0 refl

all_high : (bs : Utf8) (at : ℕ) (m : Mode) (st : List Level) → 0 < length bs → AreHigh bs → run at (m, st) bs ≡ other_character at m st bs
all_high [] at m st l h = absurd (omega arith)
all_high (b ∷ bs) at m st l h = high_run bs b at m st h

pub other_read : (c at : ℕ) (m : Mode) (st : List Level) → 128 ≤ c → run at (m, st) (encode c) ≡ other_character at m st (encode c)
other_read c at m st h = all_high (encode c) at m st (omega (arith, length-encode c, (len_utf8_bounds c).0)) (high_encode c h)

unit : (r : Result State Refusal) → (r >>= λ t. Ok t) ≡ r
unit (Ok t) = refl
unit (Err e) = refl

pub ascii_read : (c at : ℕ) (m : Mode) (st : List Level) → c < 128 → run at (m, st) (encode c) ≡ step at m st c
unfolding run
ascii_read c at m st h = ap (run at (m, st)) (encode_ascii c h) ∙ unit (step at m st c)

pub gives_same : {X Y : Type 0} (view : X → Y) (r : Result X ParseError) (x y : Result Y Refusal) → x ≡ y → Gives view r y → Gives view r x
gives_same view r x y e h = subst (Gives view r) (sym e) h
