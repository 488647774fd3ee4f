-- Reading a character at a time, as a loop does.
use Rattle.std.proofs.Common.{◌≡◌, ℕ, suc, ◌+◌, ◌≤◌, ◌<◌, List, [], ◌∷◌, ◌++◌, length, drop, get_or, Some, Result, Ok, Err, refl, sym, ap, ◌∙◌, arith, drop-cons, add-one, drop_of_length-le, length-append}
use Rattle.std.specs.Char.{len_utf8}
use lib.Utf8.{encode, encodes}
use Rattle.std.proofs.lemmas.Str.{length-encode}
use Rattle.bson_kinds.specs.Text.{Utf8}
use Rattle.bson_shape.specs.declared.error.ParseError.{ParseError}
use Rattle.bson_shape.specs.declared.error.ParseError.TheVariants as errors
use Rattle.bson_kinds.specs.Outcome.{◌>>=◌}
use Rattle.bson_shape.specs.Machine.{State, Refusal, Not_notation, Refused, step, run}
use Rattle.bson_shape.specs.Answers.{error_of, Fails}

pub bound_assoc : {A B C : Type 0} (r : Result A Refusal) (f : A → Result B Refusal) (g : B → Result C Refusal) → ((r >>= f) >>= g) ≡ (r >>= λ x. f x >>= g)
bound_assoc (Ok x) f g = refl
bound_assoc (Err e) f g = refl

-- one text, and then another
pub run-append : (xs ys : Utf8) (at : ℕ) (s : State) → run at s (xs ++ ys) ≡ (run at s xs >>= λ t. run (at + length xs) t ys)
unfolding run
run-append [] ys at s = ap (λ i. run i s ys) (omega arith)
run-append (x ∷ xs) ys at s =
    bound_more (step at s.0 s.1 x) xs ys at (λ t. run-append xs ys (at + 1) t)
  where
    bound_more : (r : Result State Refusal) (xs ys : Utf8) (at : ℕ) → ((t : State) → run (at + 1) t (xs ++ ys) ≡ (run (at + 1) t xs >>= λ u. run (at + 1 + length xs) u ys))
        → (r >>= λ t. run (at + 1) t (xs ++ ys)) ≡ ((r >>= λ t. run (at + 1) t xs) >>= λ u. run (at + length (x ∷ xs)) u ys)
    bound_more (Ok t) xs ys at h = h t ∙ ap (λ i. run (at + 1) t xs >>= λ u. run i u ys) (omega arith)
    bound_more (Err e) xs ys at h = refl

-- the characters from here on
pub next_of : (cs : List ℕ) (k c : ℕ) → k < length cs → c ≡ get_or cs k c → encodes (drop k cs) ≡ encode c ++ encodes (drop (k + 1) cs)
next_of cs k c l e = ap encodes (drop-cons cs k c l) ∙ ap (λ x. encode x ++ encodes (drop (suc k) cs)) (sym e) ∙ ap (λ i. encode c ++ encodes (drop i cs)) (sym (add-one k))

-- one character, and then the rest
one_more : (cs : List ℕ) (k c at : ℕ) (s : State) (total : Result State Refusal) → k < length cs → c ≡ get_or cs k c → run at s (encodes (drop k cs)) ≡ total → (run at s (encode c) >>= λ t. run (at + len_utf8 c) t (encodes (drop (k + 1) cs))) ≡ total
one_more cs k c at s total l e so_far =
    ap (λ i. run at s (encode c) >>= λ t. run (at + i) t (encodes (drop (k + 1) cs))) (sym (length-encode c))
    ∙ sym (run-append (encode c) (encodes (drop (k + 1) cs)) at s) ∙ sym (ap (run at s) (next_of cs k c l e)) ∙ so_far

pub goes_on : (cs : List ℕ) (k c at : ℕ) (s t : State) (total : Result State Refusal) → k < length cs → c ≡ get_or cs k c → run at s (encode c) ≡ Ok t → run at s (encodes (drop k cs)) ≡ total → run (at + len_utf8 c) t (encodes (drop (k + 1) cs)) ≡ total
goes_on cs k c at s t total l e one so_far = sym (ap (λ r. r >>= λ t. run (at + len_utf8 c) t (encodes (drop (k + 1) cs))) one) ∙ one_more cs k c at s total l e so_far

error_kept : {A B : Type 0} (r : Result A Refusal) (f : A → Result B Refusal) (e : ParseError) → error_of r ≡ Some e → error_of (r >>= f) ≡ Some e
error_kept (Ok x) f e h = absurd cc
error_kept (Err (Not_notation p)) f e h = h
error_kept (Err (Refused r)) f e h = h

pub ends : (e : ParseError) (cs : List ℕ) (k c at : ℕ) (s : State) (total : Result State Refusal) → k < length cs → c ≡ get_or cs k c → Fails e (run at s (encode c)) → run at s (encodes (drop k cs)) ≡ total → Fails e total
ends errors.NoMemory cs k c at s total l e one so_far = tt
ends (errors.NotNotation p) cs k c at s total l e one so_far = sym (ap error_of (one_more cs k c at s total l e so_far)) ∙ error_kept (run at s (encode c)) _ _ one
ends (errors.Refused p q) cs k c at s total l e one so_far = sym (ap error_of (one_more cs k c at s total l e so_far)) ∙ error_kept (run at s (encode c)) _ _ one

pub is_done : (cs : List ℕ) (k at : ℕ) (s : State) (total : Result State Refusal) → length cs ≤ k → run at s (encodes (drop k cs)) ≡ total → total ≡ Ok s
unfolding run
is_done cs k at s total le so_far = sym so_far ∙ ap (λ ds. run at s (encodes ds)) (drop_of_length-le cs le)

pub place_more : (cs : List ℕ) (k c at n : ℕ) → k < length cs → c ≡ get_or cs k c → at + length (encodes (drop k cs)) ≡ n → at + len_utf8 c + length (encodes (drop (k + 1) cs)) ≡ n
place_more cs k c at n l e h = omega (arith, ap length (next_of cs k c l e), length-append (encode c) (encodes (drop (k + 1) cs)), length-encode c)
