-- A name is read to its end.
use Rattle.std.proofs.Common.{◌≡◌, ℕ, ◌+◌, Bool, true, false, cond, eqb, ◌||◌, List, [], ◌∷◌, ◌++◌, length, Result, Ok, Err, refl, sym, ap, ◌∙◌, arith, append_assoc, append-nil, length-append}
use Rattle.std.specs.List.{list_all}
use Rattle.bson_kinds.specs.Text.{Utf8}
use Rattle.bson_shape.specs.Form.{reference}
use Rattle.bson_shape.specs.Notation.{begins_bare, in_bare, bare, names_form, is_escaped, escaped, quoted, name_text}
use Rattle.bson_kinds.specs.Outcome.{◌>>=◌}
use Rattle.bson_shape.specs.Machine.{Refusal, Level, Owner, Form_at, Item_of, Reference_at, Mode, Bare, Quoted, Escape, Named, State, begins_name, name_begun, form_ended, form_named, item_named, named, word_ended, bare_name, name_closed, quoted_name, escape, step, run}
use Rattle.bson_shape.proofs.Words.{and_true, or_false, differs}

-- a byte that is taken
pub run_step : (at : ℕ) (m : Mode) (st : List Level) (b : ℕ) (bs : Utf8) (t : State) → step at m st b ≡ Ok t → run at (m, st) (b ∷ bs) ≡ run (at + 1) t bs
unfolding run
run_step at m st b bs t h = ap (λ r. r >>= λ u. run (at + 1) u bs) h

-- a byte that is refused
pub run_refused : (at : ℕ) (m : Mode) (st : List Level) (b : ℕ) (bs : Utf8) (e : Refusal) → step at m st b ≡ Err e → run at (m, st) (b ∷ bs) ≡ Err e
unfolding run
run_refused at m st b bs e h = ap (λ r. r >>= λ u. run (at + 1) u bs) h

-- the same place and mode
pub same_run : (i j : ℕ) (m n : Mode) (st : List Level) (rest : Utf8) → i ≡ j → m ≡ n → run i (m, st) rest ≡ run j (n, st) rest
same_run i j m n st rest e f = cc

bare_step : (at : ℕ) (owner : Owner) (pre : Utf8) (st : List Level) (x : ℕ) → in_bare x ≡ true → step at (Bare owner pre) st x ≡ Ok (Bare owner (pre ++ x ∷ []), st)
unfolding step bare_name
bare_step at owner pre st x h = rw h refl

bare_run : (xs pre rest : Utf8) (at : ℕ) (owner : Owner) (st : List Level) → list_all in_bare xs ≡ true → run at (Bare owner pre, st) (xs ++ rest) ≡ run (at + length xs) (Bare owner (pre ++ xs), st) rest
bare_run [] pre rest at owner st h = same_run at (at + 0) (Bare owner pre) (Bare owner (pre ++ [])) st rest (omega arith) (ap (Bare owner) (sym (append-nil pre)))
bare_run (x ∷ xs) pre rest at owner st h =
    let both = and_true (in_bare x) (list_all in_bare xs) h in
    run_step at (Bare owner pre) st x (xs ++ rest) _ (bare_step at owner pre st x both.0) ∙ bare_run xs (pre ++ x ∷ []) rest (at + 1) owner st both.1
    ∙ same_run (at + 1 + length xs) (at + length (x ∷ xs)) (Bare owner ((pre ++ x ∷ []) ++ xs)) (Bare owner (pre ++ x ∷ xs)) st rest (omega arith) (ap (Bare owner) (append_assoc pre (x ∷ []) xs))

escape_step : (at : ℕ) (owner : Owner) (pre : Utf8) (st : List Level) (x : ℕ) → is_escaped x ≡ true → step at (Escape owner pre) st x ≡ Ok (Quoted owner (pre ++ x ∷ []), st)
unfolding step escape
escape_step at owner pre st x h = rw h refl

begin_escape : (at : ℕ) (owner : Owner) (pre : Utf8) (st : List Level) → step at (Quoted owner pre) st 92 ≡ Ok (Escape owner pre, st)
unfolding step quoted_name
begin_escape at owner pre st = refl

quoted_step : (at : ℕ) (owner : Owner) (pre : Utf8) (st : List Level) (x : ℕ) → is_escaped x ≡ false → step at (Quoted owner pre) st x ≡ Ok (Quoted owner (pre ++ x ∷ []), st)
unfolding step quoted_name
quoted_step at owner pre st x h = let both = or_false (eqb x 34) (eqb x 92) h in rw (both.0, both.1) refl

-- one character between quotes, and those after it
quoted_more : (t : Bool) (x : ℕ) (xs pre rest : Utf8) (at : ℕ) (owner : Owner) (st : List Level) → is_escaped x ≡ t
    → ((i : ℕ) → run i (Quoted owner (pre ++ x ∷ []), st) (escaped xs ++ rest) ≡ run (i + length (escaped xs)) (Quoted owner ((pre ++ x ∷ []) ++ xs), st) rest)
    → run at (Quoted owner pre, st) (cond t (92 ∷ x ∷ escaped xs) (x ∷ escaped xs) ++ rest) ≡ run (at + length (cond t (92 ∷ x ∷ escaped xs) (x ∷ escaped xs))) (Quoted owner (pre ++ x ∷ xs), st) rest
quoted_more true x xs pre rest at owner st h more =
    run_step at (Quoted owner pre) st 92 (x ∷ (escaped xs ++ rest)) _ (begin_escape at owner pre st) ∙ run_step (at + 1) (Escape owner pre) st x (escaped xs ++ rest) _ (escape_step (at + 1) owner pre st x h)
    ∙ more (at + 1 + 1)
    ∙ same_run (at + 1 + 1 + length (escaped xs)) (at + length (92 ∷ x ∷ escaped xs)) (Quoted owner ((pre ++ x ∷ []) ++ xs)) (Quoted owner (pre ++ x ∷ xs)) st rest (omega arith) (ap (Quoted owner) (append_assoc pre (x ∷ []) xs))
quoted_more false x xs pre rest at owner st h more =
    run_step at (Quoted owner pre) st x (escaped xs ++ rest) _ (quoted_step at owner pre st x h) ∙ more (at + 1)
    ∙ same_run (at + 1 + length (escaped xs)) (at + length (x ∷ escaped xs)) (Quoted owner ((pre ++ x ∷ []) ++ xs)) (Quoted owner (pre ++ x ∷ xs)) st rest (omega arith) (ap (Quoted owner) (append_assoc pre (x ∷ []) xs))

quoted_run : (xs pre rest : Utf8) (at : ℕ) (owner : Owner) (st : List Level) → run at (Quoted owner pre, st) (escaped xs ++ rest) ≡ run (at + length (escaped xs)) (Quoted owner (pre ++ xs), st) rest
quoted_run [] pre rest at owner st = same_run at (at + 0) (Quoted owner pre) (Quoted owner (pre ++ [])) st rest (omega arith) (ap (Quoted owner) (sym (append-nil pre)))
quoted_run (x ∷ xs) pre rest at owner st = quoted_more (is_escaped x) x xs pre rest at owner st refl (λ i. quoted_run xs (pre ++ x ∷ []) rest i owner st)

-- behind a name
abbrev pub name_mode : Owner → Utf8 → Mode
name_mode owner n = cond (bare n) (Bare owner n) (Named owner n)

-- where a name may begin
abbrev pub BeginsName : ℕ → Mode → Owner → List Level → Type 0
BeginsName at m owner st = (b : ℕ) → begins_name b ≡ true → step at m st b ≡ Ok (name_begun owner b, st)

bare_read : (n rest : Utf8) (at : ℕ) (m : Mode) (owner : Owner) (st : List Level) → BeginsName at m owner st → bare n ≡ true → run at (m, st) (n ++ rest) ≡ run (at + length n) (Bare owner n, st) rest
bare_read [] rest at m owner st begins h = absurd cc
bare_read (b ∷ bs) rest at m owner st begins h =
    let both = and_true (begins_bare b) (list_all in_bare bs) h in
    let not_quote : eqb b 34 ≡ false = differs begins_bare b 34 both.0 refl in
    let may : begins_name b ≡ true = ap (λ t. t || eqb b 34) both.0 in
    let first : step at m st b ≡ Ok (Bare owner (b ∷ []), st) = begins b may ∙ ap (λ t. Ok (cond t (Quoted owner []) (Bare owner (b ∷ [])), st)) not_quote in
    run_step at m st b (bs ++ rest) _ first ∙ bare_run bs (b ∷ []) rest (at + 1) owner st both.1
    ∙ same_run (at + 1 + length bs) (at + length (b ∷ bs)) (Bare owner (b ∷ bs)) (Bare owner (b ∷ bs)) st rest (omega arith) refl

close_quote : (at : ℕ) (owner : Owner) (n : Utf8) (st : List Level) → bare n ≡ false → step at (Quoted owner n) st 34 ≡ Ok (Named owner n, st)
unfolding step quoted_name name_closed
close_quote at owner n st h = rw h refl

quoted_read : (n rest : Utf8) (at : ℕ) (m : Mode) (owner : Owner) (st : List Level) → BeginsName at m owner st → bare n ≡ false → run at (m, st) (quoted n ++ rest) ≡ run (at + length (quoted n)) (Named owner n, st) rest
quoted_read n rest at m owner st begins h =
    run_step at m st 34 ((escaped n ++ 34 ∷ []) ++ rest) _ (begins 34 refl)
    ∙ ap (run (at + 1) (Quoted owner [], st)) (append_assoc (escaped n) (34 ∷ []) rest)
    ∙ quoted_run n [] (34 ∷ rest) (at + 1) owner st
    ∙ run_step (at + 1 + length (escaped n)) (Quoted owner n) st 34 rest _ (close_quote (at + 1 + length (escaped n)) owner n st h)
    ∙ same_run (at + 1 + length (escaped n) + 1) (at + length (quoted n)) (Named owner n) (Named owner n) st rest (omega (arith, length-append (escaped n) (34 ∷ []))) refl

read_as : (t : Bool) (n rest : Utf8) (at : ℕ) (m : Mode) (owner : Owner) (st : List Level) → BeginsName at m owner st → bare n ≡ t
    → run at (m, st) (cond t n (quoted n) ++ rest) ≡ run (at + length (cond t n (quoted n))) (cond t (Bare owner n) (Named owner n), st) rest
read_as true n rest at m owner st begins h = bare_read n rest at m owner st begins h
read_as false n rest at m owner st begins h = quoted_read n rest at m owner st begins h

pub name_read : (n rest : Utf8) (at : ℕ) (m : Mode) (owner : Owner) (st : List Level) → BeginsName at m owner st → run at (m, st) (name_text n ++ rest) ≡ run (at + length (name_text n)) (name_mode owner n, st) rest
name_read n rest at m owner st begins = read_as (bare n) n rest at m owner st begins refl

-- the bytes that name a form behind a bare name; behind the name of an item or a reference each byte is read as behind a name
abbrev pub EndsName : Owner → ℕ → Type 0
EndsName (Form_at place) b = names_form b ≡ true
EndsName (Item_of g) b = Unit {0}
EndsName (Reference_at place) b = Unit {0}

-- behind a name
abbrev pub behind_name : ℕ → Owner → Utf8 → List Level → ℕ → Result State Refusal
behind_name at (Form_at place) n st b = form_named at place n st b
behind_name at (Item_of g) n st b = item_named at g n st b
behind_name at (Reference_at place) n st b = form_ended at (reference n) st b

named_is : (at : ℕ) (owner : Owner) (n : Utf8) (st : List Level) (b : ℕ) → named at owner n st b ≡ behind_name at owner n st b
unfolding named
named_is at (Form_at place) n st b = refl
named_is at (Item_of g) n st b = refl
named_is at (Reference_at place) n st b = refl

word_named : (at : ℕ) (owner : Owner) (n : Utf8) (st : List Level) (b : ℕ) → EndsName owner b → word_ended at owner n st b ≡ named at owner n st b
unfolding word_ended
word_named at (Form_at place) n st b e = rw e refl
word_named at (Item_of g) n st b e = refl
word_named at (Reference_at place) n st b e = refl

pub name_step : (at : ℕ) (owner : Owner) (n : Utf8) (st : List Level) (b : ℕ) → in_bare b ≡ false → EndsName owner b → step at (name_mode owner n) st b ≡ behind_name at owner n st b
unfolding step bare_name
name_step at owner n st b out e = by_mode (bare n) ∙ named_is at owner n st b
  where
    by_mode : (t : Bool) → step at (cond t (Bare owner n) (Named owner n)) st b ≡ named at owner n st b
    by_mode true = rw out (word_named at owner n st b e)
    by_mode false = refl
