-- Where reading stops.
use Rattle.std.proofs.Common.{◌≡◌, ℕ, ◌+◌, ◌≤◌, ◌<◌, Bool, true, false, List, [], ◌∷◌, ◌++◌, length, Option, Some, None, Result, Ok, Err, refl, sym, ap, subst, ◌∙◌, append_assoc, append-nil, length-append, arith, inl, inr}
use Rattle.std.specs.Prelude.{◌⊎◌, nat_lt}
use Rattle.std.specs.Char.{IsScalar}
use lib.Utf8.{scalar, scalars, encode, encodes}
use Rattle.std.proofs.lemmas.Bool.Decides.{nat_tests}
use Rattle.std.proofs.lemmas.Str.{encode_ascii, length-encode, len_utf8_bounds}
use Rattle.bson_kinds.specs.Text.{Utf8}
use Rattle.bson_shape.specs.Form.{leaf, reference}
use Rattle.bson_shape.specs.Leaf.{of_word}
use Rattle.bson_shape.specs.declared.leaf.Leaf.{Leaf}
use Rattle.bson_kinds.specs.Outcome.{◌>>=◌}
use Rattle.bson_shape.specs.Machine.{Refusal, Not_notation, Level, Form_at, Reference_at, Mode, Bare, Quoted, Named, Done, State, wrapped, step, no_more_behind, other_character, run}
use Rattle.bson_shape.proofs.Words.{and_true}
use Rattle.bson_shape.proofs.TextStates.{TextState, text-append, text-encode}
use Rattle.bson_shape.proofs.States.{written, ValidMode}
use Rattle.bson_shape.proofs.Steps.{Takes, Leaves, step_leaves}
use Rattle.bson_shape.proofs.CharRuns.{AreHigh, high_encode, high_step, ascii_read, other_read}
use Rattle.bson_shape.proofs.Loop.{run-append}

pub bound : {A B : Type 0} (r : Result A Refusal) (f : A → Result B Refusal) (y : B) → (r >>= f) ≡ Ok y → (x : A) × (r ≡ Ok x) × (f x ≡ Ok y)
bound (Ok x) f y e = (x, refl, e)
bound (Err d) f y e = absurd cc

pub bound_err : {A B : Type 0} (r : Result A Refusal) (f : A → Result B Refusal) (e : Refusal) → (r >>= f) ≡ Err e → (r ≡ Err e) ⊎ ((x : A) × (r ≡ Ok x) × (f x ≡ Err e))
bound_err (Ok x) f e h = inr (x, refl, h)
bound_err (Err d) f e h = inl (let same : d ≡ e = cc in ap (λ (y : Refusal). Err y) same)

-- ---- what is taken

one_taken : (at : ℕ) (s : State) (b : ℕ) (t : State) → ValidMode s.0 → step at s.0 s.1 b ≡ Ok t → Takes s b t
one_taken at s b t v e = subst (Leaves at s b) e (step_leaves at s.0 s.1 b v)

pub run_takes : (bs : Utf8) (at : ℕ) (s t : State) → ValidMode s.0 → run at s bs ≡ Ok t → ValidMode t.0 × (written t ≡ written s ++ bs)
unfolding run
run_takes [] at s t v e = let same : s ≡ t = cc in (subst (λ u. ValidMode u.0) same v, ap written (sym same) ∙ sym (append-nil (written s)))
run_takes (b ∷ bs) at s t v e =
    let first = bound (step at s.0 s.1 b) (λ u. run (at + 1) u bs) t e in
    let one = one_taken at s b first.0 v first.1 in
    let more = run_takes bs (at + 1) first.0 t one.valid first.2 in
    (more.0, more.1 ∙ ap (λ xs. xs ++ bs) one.grew ∙ append_assoc (written s) (b ∷ []) bs)

-- a text that stops does so with more behind it
pub run_refuses : (xs ys : Utf8) (at : ℕ) (s : State) (e : Refusal) → run at s xs ≡ Err e → run at s (xs ++ ys) ≡ Err e
run_refuses xs ys at s e h = run-append xs ys at s ∙ ap (λ r. r >>= λ t. run (at + length xs) t ys) h

-- the bytes before were taken, and this one is refused
pub record Stops (at : ℕ) (s : State) (bs : Utf8) (e : Refusal) : Type 0 where
  pub front : Utf8
  pub byte : ℕ
  pub tail : Utf8
  pub whole : bs ≡ front ++ byte ∷ tail
  pub state : State
  pub before : run at s front ≡ Ok state
  pub refused : step (at + length front) state.0 state.1 byte ≡ Err e

step_at : (i j : ℕ) (s : State) (b : ℕ) (r : Result State Refusal) → i ≡ j → step i s.0 s.1 b ≡ r → step j s.0 s.1 b ≡ r
step_at i j s b r e h = subst (λ k. step k s.0 s.1 b ≡ r) e h

-- one byte that is refused, after a front
pub stopped : (front : Utf8) (b at : ℕ) (s t : State) (e : Refusal) → run at s front ≡ Ok t → step (at + length front) t.0 t.1 b ≡ Err e → run at s (front ++ b ∷ []) ≡ Err e
unfolding run
stopped front b at s t e before refused =
    run-append front (b ∷ []) at s ∙ ap (λ r. r >>= λ u. run (at + length front) u (b ∷ [])) before ∙ ap (λ r. r >>= λ u. run (at + length front + 1) u []) refused

pub run_stops : (bs : Utf8) (at : ℕ) (s : State) (e : Refusal) → run at s bs ≡ Err e → Stops at s bs e
unfolding run
run_stops [] at s e h = absurd (let g : (let r : Result State Refusal = Ok s in r) ≡ Err e = h in cc)
run_stops (b ∷ bs) at s e h =
    elim (bound_err (step at s.0 s.1 b) (λ u. run (at + 1) u bs) e h) [
      | inl g ↦ record { front = []; byte = b; tail = bs; whole = refl; state = s; before = refl; refused = step_at at (at + 0) s b (Err e) (omega arith) g }
      | inr g ↦ let rest = run_stops bs (at + 1) g.0 e g.2 in
          record {
            front = b ∷ rest.front;
            byte = rest.byte;
            tail = rest.tail;
            whole = ap (λ xs. b ∷ xs) rest.whole;
            state = rest.state;
            before = ap (λ r. r >>= λ u. run (at + 1) u rest.front) g.1 ∙ rest.before;
            refused = step_at (at + 1 + length rest.front) (at + length (b ∷ rest.front)) rest.state rest.byte (Err e) (omega arith) rest.refused;
          }
    ]

-- ---- a text, character by character

-- where a text stops, the names so far are texts
pub record TextStops (at : ℕ) (s : State) (bs : Utf8) (e : Refusal) : Type 0 where
  pub stops : Stops at s bs e
  pub texts : TextState stops.state

-- the same is refused of other bytes
other_refused : (at : ℕ) (m : Mode) (st : List Level) (xs ys : Utf8) (e : Refusal) → other_character at m st xs ≡ Err e → other_character at m st ys ≡ Err e
unfolding other_character
other_refused at (Quoted owner n) st xs ys e h = absurd (let g : (let r : Result State Refusal = Ok (Quoted owner (n ++ xs), st) in r) ≡ Err e = h in cc)
other_refused at (Bare (Form_at place) n) st xs ys e h = h
other_refused at (Bare (Reference_at place) n) st xs ys e h = h
other_refused at (Named (Reference_at place) n) st xs ys e h = h
other_refused at m st xs ys e h = h

not_taken : {A : Type 0} (r : Result A Refusal) (e : Refusal) (t : State) → (r >>= λ x. Err e) ≡ Ok t → ⊥
not_taken (Ok x) e t h = let g : (let r : Result State Refusal = Err e in r) ≡ Ok t = h in cc
not_taken (Err d) e t h = let g : (let r : Result State Refusal = Err d in r) ≡ Ok t = h in cc

word_not_taken : (o : Option Leaf) (at : ℕ) (st : List Level) (t : State) → no_more_behind at o st ≡ Ok t → ⊥
word_not_taken None at st t h = let g : (let r : Result State Refusal = Err (Not_notation at) in r) ≡ Ok t = h in cc
word_not_taken (Some l) at st t h = not_taken (wrapped at (leaf l) st) (Not_notation at) t h

other_taken : (at : ℕ) (m : Mode) (st : List Level) (c : ℕ) (t : State) → IsScalar c → TextState (m, st) → other_character at m st (encode c) ≡ Ok t → TextState t
unfolding other_character
other_taken at (Quoted owner n) st c t k h e =
    let same : (let u : State = (Quoted owner (n ++ encode c), st) in u) ≡ t = cc in
    subst TextState same (record { mode = (h.mode.0, text-append n (encode c) h.mode.1 (text-encode c k)); levels = h.levels })
other_taken at (Bare (Form_at place) n) st c t k h e = absurd (word_not_taken (of_word n) at st t e)
other_taken at (Bare (Reference_at place) n) st c t k h e = absurd (not_taken (wrapped at (reference n) st) (Not_notation at) t e)
other_taken at (Named (Reference_at place) n) st c t k h e = absurd (not_taken (wrapped at (reference n) st) (Not_notation at) t e)
other_taken at (Done f) st c t k h e = absurd (not_taken (wrapped at f st) (Not_notation at) t e)
other_taken at m st c t k h e = absurd (let g : (let r : Result State Refusal = Err (Not_notation at) in r) ≡ Ok t = e in cc)

below : (c : ℕ) → nat_lt c 128 ≡ true → c < 128
below c h = grind (arith, nat_tests)

above : (c : ℕ) → nat_lt c 128 ≡ false → 128 ≤ c
above c h = grind (arith, nat_tests)

character_taken : (low : Bool) (at : ℕ) (s t : State) (c : ℕ) → nat_lt c 128 ≡ low → IsScalar c → ValidMode s.0 → TextState s → run at s (encode c) ≡ Ok t → TextState t
character_taken true at s t c is k v h e = (one_taken at s c t v (sym (ascii_read c at s.0 s.1 (below c is)) ∙ e)).texts h (below c is)
character_taken false at s t c is k v h e = other_taken at s.0 s.1 c t k h (sym (other_read c at s.0 s.1 (above c is)) ∙ e)

some_bytes : (c : ℕ) → 0 < length (encode c)
some_bytes c = omega (arith, length-encode c, (len_utf8_bounds c).0)

high_stops : (bs : Utf8) (at : ℕ) (s : State) (rest : Utf8) (e : Refusal) → AreHigh bs → 0 < length bs → TextState s → other_character at s.0 s.1 bs ≡ Err e → TextStops at s (bs ++ rest) e
unfolding run
high_stops [] at s rest e high l h g = absurd (omega arith)
high_stops (b ∷ bs) at s rest e high l h g =
    record {
      stops = record { front = []; byte = b; tail = bs ++ rest; whole = refl; state = s; before = refl; refused = step_at at (at + 0) s b (Err e) (omega arith) (high_step at s.0 s.1 b high.0 ∙ other_refused at s.0 s.1 (b ∷ bs) (b ∷ []) e g) };
      texts = h;
    }

character_stops : (low : Bool) (at : ℕ) (s : State) (c : ℕ) (rest : Utf8) (e : Refusal) → nat_lt c 128 ≡ low → TextState s → run at s (encode c) ≡ Err e → TextStops at s (encode c ++ rest) e
unfolding run
character_stops true at s c rest e is h g =
    let l = below c is in
    let bytes : encode c ≡ c ∷ [] = encode_ascii c l in
    record {
      stops = record { front = []; byte = c; tail = rest; whole = ap (λ xs. xs ++ rest) bytes; state = s; before = refl; refused = step_at at (at + 0) s c (Err e) (omega arith) (sym (ascii_read c at s.0 s.1 l) ∙ g) };
      texts = h;
    }
character_stops false at s c rest e is h g =
    let l = above c is in
    high_stops (encode c) at s rest e (high_encode c l) (some_bytes c) h (sym (other_read c at s.0 s.1 l) ∙ g)

-- the same after more was taken
later : (front bs : Utf8) (at : ℕ) (s t : State) (e : Refusal) → run at s front ≡ Ok t → TextStops (at + length front) t bs e → TextStops at s (front ++ bs) e
later front bs at s t e before x =
    let k = x.stops in
    let place : at + length front + length k.front ≡ at + length (front ++ k.front) = omega (arith, length-append front k.front) in
    record {
      stops = record {
        front = front ++ k.front;
        byte = k.byte;
        tail = k.tail;
        whole = ap (λ xs. front ++ xs) k.whole ∙ sym (append_assoc front k.front (k.byte ∷ k.tail));
        state = k.state;
        before = run-append front k.front at s ∙ ap (λ r. r >>= λ u. run (at + length front) u k.front) before ∙ k.before;
        refused = step_at (at + length front + length k.front) (at + length (front ++ k.front)) k.state k.byte (Err e) place k.refused;
      };
      texts = x.texts;
    }

pub text_stops : (cs : List ℕ) (at : ℕ) (s : State) (e : Refusal) → scalars cs ≡ true → ValidMode s.0 → TextState s → run at s (encodes cs) ≡ Err e → TextStops at s (encodes cs) e
unfolding run
text_stops [] at s e k v h g = absurd (let f : (let r : Result State Refusal = Ok s in r) ≡ Err e = g in cc)
text_stops (c ∷ cs) at s e k v h g =
    let both = and_true (scalar c) (scalars cs) k in
    elim (bound_err (run at s (encode c)) (λ t. run (at + length (encode c)) t (encodes cs)) e (sym (run-append (encode c) (encodes cs) at s) ∙ g)) [
      | inl f ↦ character_stops (nat_lt c 128) at s c (encodes cs) e refl h f
      | inr f ↦
          let next = character_taken (nat_lt c 128) at s f.0 c refl both.0 v h f.1 in
          let valid = (run_takes (encode c) at s f.0 v f.1).0 in
          later (encode c) (encodes cs) at s f.0 e f.1 (text_stops cs (at + length (encode c)) f.0 e both.1 valid next f.2)
    ]

-- the names are texts at the end, too
pub text_taken : (cs : List ℕ) (at : ℕ) (s t : State) → scalars cs ≡ true → ValidMode s.0 → TextState s → run at s (encodes cs) ≡ Ok t → TextState t
unfolding run
text_taken [] at s t k v h g = let same : s ≡ t = cc in subst TextState same h
text_taken (c ∷ cs) at s t k v h g =
    let both = and_true (scalar c) (scalars cs) k in
    let f = bound (run at s (encode c)) (λ u. run (at + length (encode c)) u (encodes cs)) t (sym (run-append (encode c) (encodes cs) at s) ∙ g) in
    text_taken cs (at + length (encode c)) f.0 t both.1 (run_takes (encode c) at s f.0 v f.1).0 (character_taken (nat_lt c 128) at s f.0 c refl both.0 v h f.1) f.2
