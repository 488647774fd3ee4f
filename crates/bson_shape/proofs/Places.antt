-- What the answer of the machine says of the text.
use Rattle.std.proofs.Common.{◌≡◌, ℕ, ◌+◌, ◌<◌, Bool, true, false, List, [], ◌∷◌, ◌++◌, length, take, drop, Option, Some, None, Result, Ok, Err, refl, sym, ap, subst, ◌∙◌, append_assoc, append-nil, length-append, length-take, take_all, arith, inl, inr}
use Rattle.std.specs.Str.{IsUtf8}
use Rattle.std.proofs.lemmas.List.{take-append-drop}
use Rattle.bson_kinds.specs.Text.{Utf8}
use Rattle.bson_shape.specs.Form.{Form, leaf, reference}
use Rattle.bson_shape.specs.Leaf.{of_word}
use Rattle.bson_shape.specs.declared.leaf.Leaf.{Leaf}
use Rattle.bson_shape.specs.Notation.{in_bare, names_form, text}
use Rattle.bson_shape.specs.FirstRefusal.{MakerRefusal, first_refusal}
use Rattle.bson_kinds.specs.Outcome.{◌>>=◌}
use Rattle.bson_shape.specs.Machine.{Refusal, Not_notation, Refused, Level, Form_at, Reference_at, Mode, Form_due, Bare, Named, Done, State, wrapped, enclosed, form_ended, named, word_ended, bare_name, alone, last, last_leaf, step, run, finish, parsed}
use Rattle.bson_shape.specs.Fronts.{ends_in_word, goes_on, word_goes_on, BeginsNotation, IsLongestFront, IsMet, IsNotNotationAt}
use Rattle.bson_shape.proofs.Words.{or_false}
use Rattle.bson_shape.proofs.Texts.{judged, parsed-text}
use Rattle.bson_shape.proofs.TextStates.{TextState}
use Rattle.bson_shape.proofs.States.{levels_text, written, ValidMode}
use Rattle.bson_shape.proofs.Wraps.{Keeps, wrapped_keeps, word_on, IsWord, Behind, behind_text, behind_names, EndsForm, ends_met}
use Rattle.bson_shape.proofs.Steps.{Leaves, Refuses, StopsAt, step_leaves}
use Rattle.bson_shape.proofs.Endings.{ends-snoc, no_word, bare_goes_on, behind_goes_on}
use Rattle.bson_shape.proofs.Completions.{close_levels, begins_written, begins_word}
use Rattle.bson_shape.proofs.Stops.{bound, bound_err, run_takes, run_refuses, Stops, stopped, run_stops, TextStops, text_stops, text_taken}

abbrev start : State
start = (Form_due, [])

start_text : TextState start
start_text = record { mode = tt; levels = tt }

-- ---- the end of the text

-- no notation goes on at the end, or a maker refuses the form that ends there
abbrev EndStops : ℕ → State → Refusal → Type 0
EndStops at s (Not_notation q) = q ≡ at
EndStops at s (Refused r) = EndsForm at s r

this_place : (at : ℕ) (s : State) (e : Refusal) → (let r : Result Form Refusal = Err (Not_notation at) in r) ≡ Err e → EndStops at s e
this_place at s e h = let same : Not_notation at ≡ e = cc in subst (EndStops at s) same refl

alone_stops : (at : ℕ) (g : Form) (around : List Level) (s : State) (e : Refusal) → alone at g around ≡ Err e → EndStops at s e
alone_stops at g [] s e h = absurd (let k : (let r : Result Form Refusal = Ok g in r) ≡ Err e = h in cc)
alone_stops at g (l ∷ around) s e h = this_place at s e h

wrapped_stops : (at : ℕ) (f : Form) (m : Mode) (st : List Level) (e : Refusal) → Behind f m → wrapped at f st ≡ Err e → EndStops at (m, st) e
wrapped_stops at f m st (Not_notation q) behind h = absurd (subst (Keeps at f st) h (wrapped_keeps st at f))
wrapped_stops at f m st (Refused r) behind h = record { form = f; behind = behind; refused = h }

last_stops : (at : ℕ) (f : Form) (m : Mode) (st : List Level) (e : Refusal) → Behind f m → last at f st ≡ Err e → EndStops at (m, st) e
last_stops at f m st e behind h =
    elim (bound_err (wrapped at f st) (λ x. alone at x.0 x.1) e h) [
      | inl g ↦ wrapped_stops at f m st e behind g
      | inr g ↦ alone_stops at g.0.0 g.0.1 (m, st) e g.2
    ]

leaf_stops : (o : Option Leaf) (at place : ℕ) (n : Utf8) (st : List Level) (e : Refusal) → of_word n ≡ o → last_leaf at o st ≡ Err e → EndStops at (Bare (Form_at place) n, st) e
leaf_stops None at place n st e is h = this_place at (Bare (Form_at place) n, st) e h
leaf_stops (Some l) at place n st e is h = last_stops at (leaf l) (Bare (Form_at place) n) st e (l, is, refl) h

finish_stops : (at : ℕ) (m : Mode) (st : List Level) (e : Refusal) → ValidMode m → finish at m st ≡ Err e → EndStops at (m, st) e
unfolding finish
finish_stops at (Done f) st e v h = last_stops at f (Done f) st e refl h
finish_stops at (Bare (Form_at place) n) st e v h = leaf_stops (of_word n) at place n st e refl h
finish_stops at (Bare (Reference_at place) n) st e v h = last_stops at (reference n) (Bare (Reference_at place) n) st e (v, refl) h
finish_stops at (Named (Reference_at place) n) st e v h = last_stops at (reference n) (Named (Reference_at place) n) st e (v, refl) h
finish_stops at m st e v h = this_place at (m, st) e h

not_read : (at : ℕ) (f : Form) {A : Type 0} → (let r : Result Form Refusal = Err (Not_notation at) in r) ≡ Ok f → A
not_read at f h = absurd cc

alone_takes : (at : ℕ) (g : Form) (around : List Level) (f : Form) → alone at g around ≡ Ok f → text f ≡ levels_text around ++ text g
alone_takes at g [] f h = let same : g ≡ f = cc in sym (ap text same)
alone_takes at g (l ∷ around) f h = not_read at f h

last_takes : (at : ℕ) (g f : Form) (m : Mode) (st : List Level) → Behind g m → last at g st ≡ Ok f → text f ≡ written (m, st)
last_takes at g f m st behind h =
    let b = bound (wrapped at g st) (λ x. alone at x.0 x.1) f h in
    let k = subst (Keeps at g st) b.1 (wrapped_keeps st at g) in
    alone_takes at b.0.0 b.0.1 f b.2 ∙ k.0 ∙ sym (ap (λ xs. levels_text st ++ xs) (behind_text g m behind))

leaf_takes : (o : Option Leaf) (at place : ℕ) (n : Utf8) (st : List Level) (f : Form) → of_word n ≡ o → last_leaf at o st ≡ Ok f → text f ≡ written (Bare (Form_at place) n, st)
leaf_takes None at place n st f is h = not_read at f h
leaf_takes (Some l) at place n st f is h = last_takes at (leaf l) f (Bare (Form_at place) n) st (l, is, refl) h

finish_takes : (at : ℕ) (m : Mode) (st : List Level) (f : Form) → ValidMode m → finish at m st ≡ Ok f → text f ≡ written (m, st)
unfolding finish
finish_takes at (Done g) st f v h = last_takes at g f (Done g) st refl h
finish_takes at (Bare (Form_at place) n) st f v h = leaf_takes (of_word n) at place n st f refl h
finish_takes at (Bare (Reference_at place) n) st f v h = last_takes at (reference n) f (Bare (Reference_at place) n) st (v, refl) h
finish_takes at (Named (Reference_at place) n) st f v h = last_takes at (reference n) f (Named (Reference_at place) n) st (v, refl) h
finish_takes at m st f v h = not_read at f h

-- what is read is the text of the form
pub parsed_text : (bytes : Utf8) (f : Form) → parsed bytes ≡ Ok f → text f ≡ bytes
unfolding parsed
parsed_text bytes f e =
    let r = bound (run 0 start bytes) (λ s. finish (length bytes) s.0 s.1) f e in
    let all = run_takes bytes 0 start r.0 tt r.1 in
    finish_takes (length bytes) r.0.0 r.0.1 f all.0 r.2 ∙ all.1

-- ---- fronts

same_front : (xs ys zs ws : Utf8) → xs ++ ys ≡ zs ++ ws → length xs ≡ length zs → xs ≡ zs
same_front [] ys [] ws e l = refl
same_front [] ys (z ∷ zs) ws e l = absurd (omega (arith, l))
same_front (x ∷ xs) ys [] ws e l = absurd (omega (arith, l))
same_front (x ∷ xs) ys (z ∷ zs) ws e l =
    let head : x ≡ z = cc in
    let tail : xs ++ ys ≡ zs ++ ws = cc in
    let more : xs ≡ zs = same_front xs ys zs ws tail (omega (arith, l)) in
    cc

take-front : (xs ys : Utf8) (n : ℕ) → length xs ≡ n → take n (xs ++ ys) ≡ xs
take-front xs ys n l =
    same_front (take n (xs ++ ys)) (drop n (xs ++ ys)) xs ys (take-append-drop n (xs ++ ys)) (omega (arith, length-take n (xs ++ ys), length-append xs ys, l))

same_back : (xs ys zs ws : Utf8) → xs ++ ys ≡ zs ++ ws → length xs ≡ length zs → ys ≡ ws
same_back [] ys [] ws e l = e
same_back [] ys (z ∷ zs) ws e l = absurd (omega (arith, l))
same_back (x ∷ xs) ys [] ws e l = absurd (omega (arith, l))
same_back (x ∷ xs) ys (z ∷ zs) ws e l = let tail : xs ++ ys ≡ zs ++ ws = cc in same_back xs ys zs ws tail (omega (arith, l))

-- the bytes up to where a text stops
stop_front : (bytes : Utf8) (e : Refusal) (k : Stops 0 start bytes e) → take (length k.front) bytes ≡ k.front
stop_front bytes e k = ap (take (length k.front)) k.whole ∙ take-front k.front (k.byte ∷ k.tail) (length k.front) refl

stop_longer : (bytes : Utf8) (e : Refusal) (k : Stops 0 start bytes e) → take (length k.front + 1) bytes ≡ k.front ++ k.byte ∷ []
stop_longer bytes e k =
    ap (take (length k.front + 1)) (k.whole ∙ sym (append_assoc k.front (k.byte ∷ []) k.tail)) ∙ take-front (k.front ++ k.byte ∷ []) k.tail (length k.front + 1) (omega (arith, length-append k.front (k.byte ∷ [])))

stop_within : (bytes : Utf8) (e : Refusal) (k : Stops 0 start bytes e) → length k.front < length bytes
stop_within bytes e k = omega (arith, ap length k.whole, length-append k.front (k.byte ∷ k.tail))

-- what stops a front of a text stops the text
stops_all : (bytes : Utf8) (e : Refusal) (k : Stops 0 start bytes e) (more : Utf8) → run 0 start ((k.front ++ k.byte ∷ []) ++ more) ≡ Err e
stops_all bytes e k more = run_refuses (k.front ++ k.byte ∷ []) more 0 start e (stopped k.front k.byte 0 start k.state e k.before k.refused)

parsed_err : (bytes : Utf8) (e : Refusal) → run 0 start bytes ≡ Err e → parsed bytes ≡ Err e
unfolding parsed
parsed_err bytes e h = ap (λ r. r >>= λ s. finish (length bytes) s.0 s.1) h

-- a refusal at a byte, by what the machine says of the byte
stop_at : (bytes : Utf8) (e : Refusal) (k : Stops 0 start bytes e) → StopsAt (0 + length k.front) k.state k.byte e
stop_at bytes e k = subst (Leaves (0 + length k.front) k.state k.byte) k.refused (step_leaves (0 + length k.front) k.state.0 k.state.1 k.byte (run_takes k.front 0 start k.state tt k.before).0)

judged_refused : (o : Option MakerRefusal) (f : Form) (r : MakerRefusal) → judged o f ≡ Err (Refused r) → o ≡ Some r
judged_refused None f r h = absurd (let g : (let x : Result Form Refusal = Ok f in x) ≡ Err (Refused r) = h in cc)
judged_refused (Some x) f r h = let g : (let y : Result Form Refusal = Err (Refused x) in y) ≡ Err (Refused r) = h in cc

judged_otherwise : (o : Option MakerRefusal) (f : Form) (q : ℕ) → judged o f ≡ Err (Not_notation q) → ⊥
judged_otherwise None f q h = let g : (let x : Result Form Refusal = Ok f in x) ≡ Err (Not_notation q) = h in cc
judged_otherwise (Some x) f q h = let g : (let y : Result Form Refusal = Err (Refused x) in y) ≡ Err (Not_notation q) = h in cc

-- ---- words

-- the first byte tells
first_on : (m : Mode) (c : ℕ) (xs ys : Utf8) → word_on m (c ∷ xs) ≡ word_on m (c ∷ ys)
first_on (Bare (Form_at place) n) c xs ys = refl
first_on (Bare (Reference_at place) n) c xs ys = refl
first_on m c xs ys = refl

-- where no word goes on, none of any kind does
never_on : (m : Mode) (bytes : Utf8) → goes_on bytes ≡ false → word_on m bytes ≡ false
never_on (Bare (Form_at place) n) bytes h = h
never_on (Bare (Reference_at place) n) [] h = refl
never_on (Bare (Reference_at place) n) (b ∷ bs) h = (or_false (in_bare b) (names_form b) h).0
never_on m bytes h = refl

clash : {A : Type 0} (t : Bool) → t ≡ true → t ≡ false → A
clash t h k = absurd (let e : true ≡ false = sym h ∙ k in cc)

-- ---- a form that has ended, which a maker refuses

last_refused : (at : ℕ) (f : Form) (st : List Level) (r : MakerRefusal) → wrapped at f st ≡ Err (Refused r) → last at f st ≡ Err (Refused r)
last_refused at f st r h = ap (λ x. x >>= λ e. alone at e.0 e.1) h

finish_refused : (at : ℕ) (f : Form) (m : Mode) (st : List Level) (r : MakerRefusal) → Behind f m → wrapped at f st ≡ Err (Refused r) → finish at m st ≡ Err (Refused r)
unfolding finish
finish_refused at f (Done g) st r b h = ap (λ x. last at x st) b ∙ last_refused at f st r h
finish_refused at f (Bare (Form_at place) n) st r b h = ap (λ o. last_leaf at o st) b.1 ∙ ap (λ x. last at x st) b.2 ∙ last_refused at f st r h
finish_refused at f (Bare (Reference_at place) n) st r b h = ap (λ x. last at x st) b.1 ∙ last_refused at f st r h
finish_refused at f (Named (Reference_at place) n) st r b h = ap (λ x. last at x st) b.1 ∙ last_refused at f st r h
finish_refused at f m st r b h = absurd b

ended_refused : (at : ℕ) (f : Form) (st : List Level) (c : ℕ) (r : MakerRefusal) → wrapped at f st ≡ Err (Refused r) → form_ended at f st c ≡ Err (Refused r)
unfolding form_ended
ended_refused at f st c r h = ap (λ x. x >>= λ e. enclosed at e.0 e.1 c) h

leaf_step : (at place : ℕ) (n : Utf8) (l : Leaf) (st : List Level) (c : ℕ) → of_word n ≡ Some l → goes_on (c ∷ []) ≡ false → step at (Bare (Form_at place) n) st c ≡ form_ended at (leaf l) st c
unfolding step bare_name word_ended
leaf_step at place n l st c is ends = let both = or_false (in_bare c) (names_form c) ends in rw (both.0, both.1, is) refl

reference_step : (at place : ℕ) (n : Utf8) (st : List Level) (c : ℕ) → in_bare c ≡ false → step at (Bare (Reference_at place) n) st c ≡ form_ended at (reference n) st c
unfolding step bare_name word_ended named
reference_step at place n st c ends = rw ends refl

quoted_step : (at place : ℕ) (n : Utf8) (st : List Level) (c : ℕ) → step at (Named (Reference_at place) n) st c ≡ form_ended at (reference n) st c
unfolding step named
quoted_step at place n st c = refl

step_refused : (at : ℕ) (f : Form) (m : Mode) (st : List Level) (c : ℕ) (r : MakerRefusal) → Behind f m → word_on m (c ∷ []) ≡ false → wrapped at f st ≡ Err (Refused r) → step at m st c ≡ Err (Refused r)
unfolding step
step_refused at f (Done g) st c r b ends h = ap (λ x. form_ended at x st c) b ∙ ended_refused at f st c r h
step_refused at f (Bare (Reference_at place) n) st c r b ends h = reference_step at place n st c ends ∙ ap (λ x. form_ended at x st c) b.1 ∙ ended_refused at f st c r h
step_refused at f (Named (Reference_at place) n) st c r b ends h = quoted_step at place n st c ∙ ap (λ x. form_ended at x st c) b.1 ∙ ended_refused at f st c r h
step_refused at f (Bare (Form_at place) n) st c r b ends h = leaf_step at place n b.0 st c b.1 ends ∙ ap (λ x. form_ended at x st c) b.2 ∙ ended_refused at f st c r h
step_refused at f m st c r b ends h = absurd b

-- the refusal is answered, whatever comes next, where no word goes on
ended_parsed : (more front : Utf8) (s : State) (r : MakerRefusal) → run 0 start front ≡ Ok s → EndsForm (0 + length front) s r → word_on s.0 more ≡ false → parsed (front ++ more) ≡ Err (Refused r)
unfolding parsed
ended_parsed [] front s r before e ends =
    ap parsed (append-nil front) ∙ ap (λ x. x >>= λ t. finish (length front) t.0 t.1) before
    ∙ finish_refused (length front) e.form s.0 s.1 r e.behind (subst (λ i. wrapped i e.form s.1 ≡ Err (Refused r)) (let i : 0 + length front ≡ length front = omega arith in i) e.refused)
ended_parsed (c ∷ more) front s r before e ends =
    parsed_err (front ++ c ∷ more) (Refused r)
    (ap (run 0 start) (sym (append_assoc front (c ∷ []) more))
    ∙ run_refuses (front ++ c ∷ []) more 0 start (Refused r) (stopped front c 0 start s (Refused r) before (step_refused (0 + length front) e.form s.0 s.1 c r e.behind (first_on s.0 c [] more ∙ ends) e.refused)))

-- and it is met there
ended_met : (front more : Utf8) (s : State) (r : MakerRefusal) → run 0 start front ≡ Ok s → TextState s → EndsForm (0 + length front) s r → word_on s.0 more ≡ false → IsMet (front ++ more) r
ended_met front more s r before texts e ends =
    let all = run_takes front 0 start s tt before in
    let met : r.met ≡ length front = omega (arith, ends_met (0 + length front) s r e) in
    let front_is : take r.met (front ++ more) ≡ front = ap (λ i. take i (front ++ more)) met ∙ take-front front more (length front) refl in
    let more_is : drop r.met (front ++ more) ≡ more = same_back (take r.met (front ++ more)) (drop r.met (front ++ more)) front more (take-append-drop r.met (front ++ more)) (ap length front_is) in
    let form = e.form in
    let c = close_levels s.1 form texts.levels (behind_names form s.0 e.behind texts.mode) in
    let whole : levels_text s.1 ++ text form ≡ front = sym (ap (λ xs. levels_text s.1 ++ xs) (behind_text form s.0 e.behind)) ∙ all.1 in
    let begins : text c.whole.form ≡ front ++ c.whole.rest = c.whole.begins ∙ ap (λ xs. xs ++ c.whole.rest) whole in
    record {
      within = omega (arith, met, length-append front more);
      form = c.whole.form;
      names = c.whole.names;
      rest = c.whole.rest;
      begins = begins ∙ ap (λ xs. xs ++ c.whole.rest) (sym front_is);
      first = judged_refused (first_refusal 0 0 c.whole.form) c.whole.form r (sym (parsed-text c.whole.form) ∙ ap parsed begins ∙ ended_parsed c.whole.rest front s r before e (never_on s.0 c.whole.rest c.ended));
      ended = λ _. (λ i. word_goes_on (front_is i) (more_is i)) ∙ ap (λ xs. word_goes_on xs more) (sym all.1) ∙ behind_goes_on form s.0 s.1 more e.behind all.0 ∙ ends;
    }

-- ---- refusals of makers

-- where the text of the form ends or stops, the other text does so with the same refusal
met_ended : (bytes : Utf8) (r : MakerRefusal) (m : IsMet bytes r) (front more : Utf8) (s : State) → text m.form ≡ front ++ more → run 0 start front ≡ Ok s → EndsForm (0 + length front) s r → word_on s.0 more ≡ false → parsed bytes ≡ Err (Refused r)
met_ended bytes r m front more s whole before e ends =
    let met : r.met ≡ length front = omega (arith, ends_met (0 + length front) s r e) in
    let counted : length front ≡ length (take r.met bytes) = omega (arith, length-take r.met bytes, m.within, met) in
    let both : front ++ more ≡ take r.met bytes ++ m.rest = sym whole ∙ m.begins in
    let front_is : front ≡ take r.met bytes = same_front front more (take r.met bytes) m.rest both counted in
    let more_is : more ≡ m.rest = same_back front more (take r.met bytes) m.rest both counted in
    let all = run_takes front 0 start s tt before in
    let before_is : written s ≡ take r.met bytes = all.1 ∙ front_is in
    let in_form : word_goes_on (take r.met bytes) m.rest ≡ false = (λ i. word_goes_on (sym before_is i) (sym more_is i)) ∙ behind_goes_on e.form s.0 s.1 more e.behind all.0 ∙ ends in
    let word : word_on s.0 (drop r.met bytes) ≡ false = sym (behind_goes_on e.form s.0 s.1 (drop r.met bytes) e.behind all.0) ∙ ap (λ xs. word_goes_on xs (drop r.met bytes)) before_is ∙ m.ended in_form in
    sym (ap parsed (ap (λ xs. xs ++ drop r.met bytes) front_is ∙ take-append-drop r.met bytes)) ∙ ended_parsed (drop r.met bytes) front s r before e word

-- where a byte of the form's text is refused, so is that of the other one
met_stopped : (bytes : Utf8) (r : MakerRefusal) (m : IsMet bytes r) (k : Stops 0 start (text m.form) (Refused r)) → Refuses (0 + length k.front) k.state k.byte r → parsed bytes ≡ Err (Refused r)
met_stopped bytes r m k at =
    let counted : length (take r.met bytes) ≡ r.met = omega (arith, length-take r.met bytes, m.within) in
    let lengths : length (k.front ++ k.byte ∷ []) ≡ length (take r.met bytes) = omega (arith, counted, at.met, length-append k.front (k.byte ∷ [])) in
    let whole : (k.front ++ k.byte ∷ []) ++ k.tail ≡ take r.met bytes ++ m.rest = append_assoc k.front (k.byte ∷ []) k.tail ∙ sym k.whole ∙ m.begins in
    let front : k.front ++ k.byte ∷ [] ≡ take r.met bytes = same_front (k.front ++ k.byte ∷ []) k.tail (take r.met bytes) m.rest whole lengths in
    let all : (k.front ++ k.byte ∷ []) ++ drop r.met bytes ≡ bytes = ap (λ xs. xs ++ drop r.met bytes) front ∙ take-append-drop r.met bytes in
    parsed_err bytes (Refused r) (sym (ap (run 0 start) all) ∙ stops_all (text m.form) (Refused r) k (drop r.met bytes))

at_end : (bytes : Utf8) (s : State) (r : MakerRefusal) → EndsForm (length bytes) s r → EndsForm (0 + length bytes) s r
at_end bytes s r e = subst (λ i. EndsForm i s r) (let i : length bytes ≡ 0 + length bytes = omega arith in i) e

-- a refusal that is met is answered
pub met_parsed : (bytes : Utf8) (r : MakerRefusal) → IsMet bytes r → parsed bytes ≡ Err (Refused r)
unfolding parsed
met_parsed bytes r m =
    let refused : parsed (text m.form) ≡ Err (Refused r) = parsed-text m.form ∙ ap (λ o. judged o m.form) m.first in
    elim (bound_err (run 0 start (text m.form)) (λ s. finish (length (text m.form)) s.0 s.1) (Refused r) refused) [
      | inl h ↦
          let k = run_stops (text m.form) 0 start (Refused r) h in
          elim (stop_at (text m.form) (Refused r) k) [
            | inl at ↦ met_stopped bytes r m k at
            | inr at ↦ met_ended bytes r m k.front (k.byte ∷ k.tail) k.state k.whole k.before at.0 (first_on k.state.0 k.byte k.tail [] ∙ at.1)
          ]
      | inr h ↦ met_ended bytes r m (text m.form) [] h.0 (sym (append-nil (text m.form))) h.1 (at_end (text m.form) h.0 r (finish_stops (length (text m.form)) h.0.0 h.0.1 (Refused r) (run_takes (text m.form) 0 start h.0 tt h.1).0 h.2)) (never_on h.0.0 [] refl)
    ]

at_bytes : (xs ys : Utf8) → xs ≡ ys → BeginsNotation xs → BeginsNotation ys
at_bytes xs ys e h = subst BeginsNotation e h

-- a notation that begins with the bytes, in which a word at their end goes on
record Onward (bytes : Utf8) : Type 0 where
  begins : BeginsNotation bytes
  word : ends_in_word bytes ≡ true → word_goes_on bytes begins.rest ≡ true

onward_word : (m : Mode) (st : List Level) → IsWord m → ValidMode m → TextState (m, st) → Onward (written (m, st))
onward_word (Bare (Form_at place) n) st w v t = let b = begins_word place n st v t in record { begins = b.0; word = λ _. bare_goes_on place n st b.0.rest v ∙ b.1 }
onward_word m st w v t = absurd w

-- the state behind a byte
onward : (t : Bool) (xs : Utf8) (b : ℕ) (s : State) → in_bare b ≡ t → (in_bare b ≡ true → IsWord s.0) → ValidMode s.0 → TextState s → written s ≡ xs ++ b ∷ [] → Onward (written s)
onward true xs b s is word v t grew = onward_word s.0 s.1 (word is) v t
onward false xs b s is word v t grew = record { begins = begins_written s v t; word = λ h. clash (ends_in_word (written s)) h (ap ends_in_word grew ∙ ends-snoc xs b ∙ is) }

-- a front at whose last byte a maker refuses begins a notation
refused_front : (bytes : Utf8) (r : MakerRefusal) (k : TextStops 0 start bytes (Refused r)) → Refuses (0 + length k.stops.front) k.stops.state k.stops.byte r → Onward (k.stops.front ++ k.stops.byte ∷ [])
refused_front bytes r k at =
    let all = run_takes k.stops.front 0 start k.stops.state tt k.stops.before in
    let grew : written at.state ≡ k.stops.front ++ k.stops.byte ∷ [] = at.takes.grew ∙ ap (λ xs. xs ++ k.stops.byte ∷ []) all.1 in
    subst Onward grew (onward (in_bare k.stops.byte) k.stops.front k.stops.byte at.state refl at.word at.takes.valid (at.takes.texts k.texts at.low) grew)

-- and in it the refusal is the first
refused_first : (bytes : Utf8) (r : MakerRefusal) (k : Stops 0 start bytes (Refused r)) (f : Form) (rest : Utf8) → text f ≡ (k.front ++ k.byte ∷ []) ++ rest → first_refusal 0 0 f ≡ Some r
refused_first bytes r k f rest e =
    judged_refused (first_refusal 0 0 f) f r (sym (parsed-text f) ∙ parsed_err (text f) (Refused r) (ap (run 0 start) e ∙ stops_all bytes (Refused r) k rest))

met_byte : (bytes : Utf8) (r : MakerRefusal) (k : TextStops 0 start bytes (Refused r)) → Refuses (0 + length k.stops.front) k.stops.state k.stops.byte r → IsMet bytes r
met_byte bytes r k at =
    let s = k.stops in
    let o = refused_front bytes r k at in
    let b = o.begins in
    let front : s.front ++ s.byte ∷ [] ≡ take r.met bytes = sym (stop_longer bytes (Refused r) s) ∙ ap (λ i. take i bytes) (let i : length s.front + 1 ≡ r.met = omega (arith, at.met) in i) in
    record {
      within = omega (arith, at.met, stop_within bytes (Refused r) s);
      form = b.form;
      names = b.names;
      rest = b.rest;
      begins = b.begins ∙ ap (λ xs. xs ++ b.rest) front;
      first = refused_first bytes r s b.form b.rest b.begins;
      ended = λ g. by_word (ends_in_word (take r.met bytes)) refl (λ w. ap (λ xs. word_goes_on xs b.rest) (sym front) ∙ o.word (ap ends_in_word front ∙ w)) g;
    }
  where
    by_word : (t : Bool) → ends_in_word (take r.met bytes) ≡ t → (ends_in_word (take r.met bytes) ≡ true → word_goes_on (take r.met bytes) (refused_front bytes r k at).begins.rest ≡ true) → word_goes_on (take r.met bytes) (refused_front bytes r k at).begins.rest ≡ false → word_goes_on (take r.met bytes) (drop r.met bytes) ≡ false
    by_word true is on g = clash (word_goes_on (take r.met bytes) (refused_front bytes r k at).begins.rest) (on is) g
    by_word false is on g = no_word (take r.met bytes) (drop r.met bytes) is

met_here : (bytes : Utf8) (r : MakerRefusal) (k : TextStops 0 start bytes (Refused r)) → IsMet bytes r
met_here bytes r k =
    elim (stop_at bytes (Refused r) k.stops) [
      | inl at ↦ met_byte bytes r k at
      | inr at ↦ subst (λ xs. IsMet xs r) (sym k.stops.whole) (ended_met k.stops.front (k.stops.byte ∷ k.stops.tail) k.stops.state r k.stops.before k.texts at.0 (first_on k.stops.state.0 k.stops.byte k.stops.tail [] ∙ at.1))
    ]

on_text : (bytes : Utf8) → IsUtf8 bytes → (e : Refusal) → run 0 start bytes ≡ Err e → TextStops 0 start bytes e
on_text bytes u e h = subst (λ xs. TextStops 0 start xs e) u.1.1 (text_stops u.0 0 start e u.1.0 tt start_text (ap (run 0 start) u.1.1 ∙ h))

text_at_end : (bytes : Utf8) (s : State) → IsUtf8 bytes → run 0 start bytes ≡ Ok s → TextState s
text_at_end bytes s u e = text_taken u.0 0 start s u.1.0 tt start_text (ap (run 0 start) u.1.1 ∙ e)

pub parsed_met : (bytes : Utf8) → IsUtf8 bytes → (r : MakerRefusal) → parsed bytes ≡ Err (Refused r) → IsMet bytes r
unfolding parsed
parsed_met bytes u r e =
    elim (bound_err (run 0 start bytes) (λ s. finish (length bytes) s.0 s.1) (Refused r) e) [
      | inl h ↦ met_here bytes r (on_text bytes u (Refused r) h)
      | inr h ↦
          let ends = at_end bytes h.0 r (finish_stops (length bytes) h.0.0 h.0.1 (Refused r) (run_takes bytes 0 start h.0 tt h.1).0 h.2) in
          subst (λ xs. IsMet xs r) (append-nil bytes) (ended_met bytes [] h.0 r h.1 (text_at_end bytes h.0 u h.1) ends (never_on h.0.0 [] refl))
    ]

-- ---- no notation

longest_stop : (bytes : Utf8) (q : ℕ) (k : TextStops 0 start bytes (Not_notation q)) → IsLongestFront bytes q
longest_stop bytes q k =
    let s = k.stops in
    let here : q ≡ 0 + length s.front = stop_at bytes (Not_notation q) s in
    let all = run_takes s.front 0 start s.state tt s.before in
    let place : length s.front ≡ q = omega (arith, here) in
    record {
      within = omega (arith, here, stop_within bytes (Not_notation q) s);
      front = at_bytes (written s.state) (take q bytes) (all.1 ∙ sym (stop_front bytes (Not_notation q) s) ∙ ap (λ i. take i bytes) place) (begins_written s.state all.0 k.texts);
      no_longer = λ _ b. no_more s b (stop_longer bytes (Not_notation q) s ∙ refl) place;
    }
  where
    no_more : (s : Stops 0 start bytes (Not_notation q)) → BeginsNotation (take (q + 1) bytes) → take (length s.front + 1) bytes ≡ s.front ++ s.byte ∷ [] → length s.front ≡ q → ⊥
    no_more s b longer place =
        let e : text b.form ≡ (s.front ++ s.byte ∷ []) ++ b.rest = b.begins ∙ ap (λ xs. xs ++ b.rest) (ap (λ i. take (i + 1) bytes) (sym place) ∙ longer) in
        judged_otherwise (first_refusal 0 0 b.form) b.form q (sym (parsed-text b.form) ∙ parsed_err (text b.form) (Not_notation q) (ap (run 0 start) e ∙ stops_all bytes (Not_notation q) s b.rest))

longest_end : (bytes : Utf8) (q : ℕ) (s : State) → q ≡ length bytes → IsUtf8 bytes → run 0 start bytes ≡ Ok s → IsLongestFront bytes q
longest_end bytes q s here u e =
    let all = run_takes bytes 0 start s tt e in
    let texts = text_at_end bytes s u e in
    record {
      within = omega (arith, here);
      front = at_bytes (written s) (take q bytes) (all.1 ∙ sym (take_all q bytes (omega (arith, here)))) (begins_written s all.0 texts);
      no_longer = λ lt _. absurd (omega (arith, here, lt));
    }

pub parsed_place : (bytes : Utf8) → IsUtf8 bytes → (q : ℕ) → parsed bytes ≡ Err (Not_notation q) → IsNotNotationAt bytes q
unfolding parsed
parsed_place bytes u q e =
    record {
      longest = elim (bound_err (run 0 start bytes) (λ s. finish (length bytes) s.0 s.1) (Not_notation q) e) [
        | inl h ↦ longest_stop bytes q (on_text bytes u (Not_notation q) h)
        | inr h ↦ longest_end bytes q h.0 (finish_stops (length bytes) h.0.0 h.0.1 (Not_notation q) (run_takes bytes 0 start h.0 tt h.1).0 h.2) u h.1
      ];
      unmet = λ r m. let g : (let y : Result Form Refusal = Err (Not_notation q) in y) ≡ Err (Refused r) = sym e ∙ met_parsed bytes r m in cc;
    }
