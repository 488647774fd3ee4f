-- The exits of taking the first document of a source.
use Rattle.std.proofs.Common.{◌≡◌, ◌<◌, ◌≤◌, ◌-◌, ℕ, ℤ, pos, negsuc, Bool, true, false, [], ◌++◌, length, nat_lt, Option, Some, None, Result, Ok, Err, refl, ap, sym, subst, ◌∙◌, inl, inr, length-append, arith}
use Rattle.std.specs.Prelude.{◌⊎◌, cond, IfOk, IfErr}
use Rattle.std.specs.Global.{Vec}
use Rattle.std.specs.Io.KnownBytes.{IsAtEnd}
use Rattle.std.proofs.KnownBytes.{Consumes-trans}
use Rattle.std.proofs.lemmas.Bool.{le-ltb, lt-ltb, ltb-false}
use lib.Seq.{take_all, take_at}
use Rattle.bson_kinds.specs.Text.{Bytes}
use Rattle.bson_io.specs.Ends.{Rose}
use Rattle.bson_rawdoc.specs.Numbers.{int32_in}
use Rattle.bson_rawdoc.proofs.Extents.{number_within}
use Rattle.bson_values.specs.Cause.{too_small}
use Rattle.bson_values.specs.ErrorView.{read_failure}
use Rattle.bson_values.specs.Refusal.{ReadFault, Failure, no_memory, bare, placed, io, invalid_utf8_string, unrecognized_element_type, end_of_stream, unreadable}
use Rattle.bson_values.specs.declared.de.Error.{Error}
use Rattle.bson_source.specs.Taken.{TakesSome, TakesAll}
use Rattle.bson_source.specs.FirstDocument.{announced, document_length, bytes_needed, first_document, of_length, or_four}
use Rattle.bson_source.specs.FromSource.{IsAll, IsTakeError, ReadsOne, Stops}

-- ---- how many bytes are to be taken

needed_short : (b : Bytes) → length b < 4 → bytes_needed b ≡ 4
needed_short b h = ap (λ t. cond t 4 (or_four (announced b))) (lt-ltb _ _ h)

needed_long : (b : Bytes) → 4 ≤ length b → bytes_needed b ≡ or_four (announced b)
needed_long b h = ap (λ t. cond t 4 (or_four (announced b))) (le-ltb _ _ h)

-- the first four bytes announce the same, whatever follows them
same_announced : (b more : Bytes) → length b ≡ 4 → announced (b ++ more) ≡ announced b
same_announced b more h = ap document_length (sym (number_within 4 (b ++ more) (omega arith)) ∙ ap int32_in (take_at b more 4 h))

of_test : (n : ℕ) (t : Bool) → nat_lt n 5 ≡ t → 4 ≤ or_four (cond t None (Some n))
of_test n true e = omega arith
of_test n false e = omega (arith, ltb-false n 5 e)

at_least_four : (z : ℤ) → 4 ≤ or_four (document_length z)
at_least_four (pos n) = of_test n (nat_lt n 5) refl
at_least_four (negsuc n) = omega arith

needed_of : (b : Bytes) (t : Bool) → 4 ≤ cond t 4 (or_four (announced b))
needed_of b true = omega arith
needed_of b false = at_least_four (int32_in b)

within_four : (b : Bytes) → length b ≤ 4 → length b ≤ bytes_needed b
within_four b h = omega (arith, h, needed_of b (nat_lt (length b) 4))

-- ---- bytes were not taken

stops : {Y : Type 0} (all : Type 0) (before mid now : ℕ) (f : Failure ReadFault) (answer : Result Y (Failure ReadFault)) → before ≤ mid → IsTakeError (Rose mid now) f → Stops all (Rose before now) f answer
stops all before mid now no_memory answer le h = tt
stops all before mid now (bare io) answer le h = inl (omega (arith, le, h))
stops all before mid now (bare invalid_utf8_string) answer le h = absurd h
stops all before mid now (bare (unrecognized_element_type key byte)) answer le h = absurd h
stops all before mid now (bare end_of_stream) answer le h = absurd h
stops all before mid now (bare (unreadable c)) answer le h = absurd h
stops all before mid now (placed path f) answer le h = absurd h

-- the bytes of an empty start and what came are what came
pub from_start : (a b : Option Bytes) (start more bytes : Bytes) → start ≡ [] → bytes ≡ start ++ more → TakesAll (4 - length start) a b more → TakesAll 4 a b bytes
from_start a b start more bytes empty is t =
    subst (TakesAll 4 a b) (sym (is ∙ ap (λ s. s ++ more) empty)) (subst (λ s. TakesAll (4 - length s) a b more) empty t)

pub some_from_start : (a b : Option Bytes) (start more : Bytes) → start ≡ [] → TakesSome (4 - length start) a b more → TakesSome 4 a b more
some_from_start a b start more empty t = subst (λ s. TakesSome (4 - length s) a b more) empty t

pub first_failed : {X Y : Type 0} (see : X → Y) (answer : Bytes → Result Y (Failure ReadFault)) (a b : Option Bytes) (before now : ℕ) (more : Bytes) (e : Error)
    → TakesSome 4 a b more → IsTakeError (Rose before now) (read_failure e) → ReadsOne see answer a b before now (Err e)
first_failed see answer a b before now more e t h = record {
  came = more;
  taken = t.taken;
  within = within_four more t.within;
  exact = stops _ before before now (read_failure e) (answer more) (omega arith) h;
}

-- the first four bytes were not taken
pub none_taken : (a b : Option Bytes) (before now : ℕ) (more : Bytes) (e : Error) (r : Result (Vec ℕ) Error)
    → r ≡ Err e → TakesSome 4 a b more → IsTakeError (Rose before now) (read_failure e) → ReadsOne (λ x. x.items) first_document a b before now r
none_taken a b before now more e r is t h = subst (λ s. ReadsOne (λ (x : Vec ℕ). x.items) first_document a b before now s) (sym is) (first_failed (λ (x : Vec ℕ). x.items) first_document a b before now more e t h)

-- ---- fewer bytes than four, and a length that is none of a document

at_end : (b : Option Bytes) (more : Bytes) → length more < 4 → (length more ≡ 4) ⊎ IsAtEnd b → IsAll b more
at_end b more h (inl e) = absurd (omega (arith, h, e))
at_end b more h (inr e) = inr e

pub ended : {X : Type 0} (see : X → Bytes) (a b : Option Bytes) (before now : ℕ) (more : Bytes) (e : Error)
    → TakesAll 4 a b more → length more < 4 → read_failure e ≡ bare end_of_stream → ReadsOne see first_document a b before now (Err e)
ended see a b before now more e t h is = record {
  came = more;
  taken = t.taken;
  within = within_four more t.within;
  exact =
      subst (λ f. Stops (IsAll b more) (Rose before now) f (first_document more)) (sym is)
      (at_end b more h t.ended, ap (λ s. cond s (Err (bare end_of_stream)) (of_length more (announced more))) (lt-ltb _ _ h));
}

-- how many bytes are to be taken, and the first document, where the length is known
needed_is : (b : Bytes) (o : Option ℕ) → 4 ≤ length b → announced b ≡ o → bytes_needed b ≡ or_four o
needed_is b o h is = needed_long b h ∙ ap or_four is

document_is : (b : Bytes) (o : Option ℕ) → 4 ≤ length b → announced b ≡ o → first_document b ≡ of_length b o
document_is b o h is = ap (λ s. cond s (Err (bare end_of_stream)) (of_length b (announced b))) (le-ltb _ _ h) ∙ ap (of_length b) is

pub none_announced : {X : Type 0} (see : X → Bytes) (a b : Option Bytes) (before now : ℕ) (more : Bytes) (e : Error)
    → TakesAll 4 a b more → 4 ≤ length more → announced more ≡ None → read_failure e ≡ bare (unreadable too_small) → ReadsOne see first_document a b before now (Err e)
none_announced see a b before now more e t h none is = record {
  came = more;
  taken = t.taken;
  within = within_four more t.within;
  exact =
      subst (λ f. Stops (IsAll b more) (Rose before now) f (first_document more)) (sym is)
      (inl (omega (arith, h, t.within, needed_is more None h none)), document_is more None h none);
}

-- ---- the bytes behind the length

-- four bytes that announce n, and more
announces : (m more : Bytes) (n : ℕ) → length m ≤ 4 → 4 ≤ length m → announced m ≡ Some n → announced (m ++ more) ≡ Some n
announces m more n le ge is = same_announced m more (omega (arith, le, ge)) ∙ is

long : (m more : Bytes) → 4 ≤ length m → 4 ≤ length (m ++ more)
long m more h = omega (arith, h, length-append m more)

least : (b : Bytes) (n : ℕ) → announced b ≡ Some n → 4 ≤ n
least b n is = subst (λ o. 4 ≤ or_four o) is (at_least_four (int32_in b))

pub rest_failed : {X Y : Type 0} (see : X → Y) (answer : Bytes → Result Y (Failure ReadFault)) (a b c : Option Bytes) (before mid now n : ℕ) (m more : Bytes) (e : Error)
    → TakesAll 4 a b m → 4 ≤ length m → announced m ≡ Some n → TakesSome (n - length m) b c more → before ≤ mid → IsTakeError (Rose mid now) (read_failure e) → ReadsOne see answer a c before now (Err e)
rest_failed see answer a b c before mid now n m more e t ge is s le h = record {
  came = m ++ more;
  taken = Consumes-trans a b c m more t.taken s.taken;
  within = omega (arith, t.within, ge, s.within, least m n is, length-append m more, needed_is (m ++ more) (Some n) (long m more ge) (announces m more n t.within ge is));
  exact = stops _ before mid now (read_failure e) (answer (m ++ more)) le h;
}

all_came : (c : Option Bytes) (n : ℕ) (m more : Bytes) → length m ≡ 4 → 4 ≤ n → bytes_needed (m ++ more) ≡ n → (length more ≡ n - length m) ⊎ IsAtEnd c → IsAll c (m ++ more)
all_came c n m more four ge is (inl e) = inl (omega (arith, four, ge, is, e, length-append m more))
all_came c n m more four ge is (inr e) = inr e

pub all_taken : (a b c : Option Bytes) (before now n : ℕ) (m more : Bytes) (v : Vec ℕ)
    → TakesAll 4 a b m → 4 ≤ length m → announced m ≡ Some n → v.items ≡ m ++ more → TakesAll (n - length m) b c more → ReadsOne (λ x. x.items) first_document a c before now (Ok v)
all_taken a b c before now n m more v t ge is whole s =
    let at = announces m more n t.within ge is in
    let four : length m ≡ 4 = omega (arith, t.within, ge) in
    let fits : length (m ++ more) ≤ n = omega (arith, four, s.within, least m n is, length-append m more) in
    record {
      came = m ++ more;
      taken = Consumes-trans a b c m more t.taken s.taken;
      within = omega (arith, fits, needed_is (m ++ more) (Some n) (long m more ge) at);
      exact = (all_came c n m more four (least m n is) (needed_is (m ++ more) (Some n) (long m more ge) at) s.ended, document_is (m ++ more) (Some n) (long m more ge) at ∙ ap Ok (take_all n (m ++ more) fits ∙ sym whole));
    }

-- the rest was taken, or not
pub rest_taken : (a b c : Option Bytes) (before mid now n : ℕ) (m : Bytes) (r : Result (Vec ℕ) Error)
    → TakesAll 4 a b m → 4 ≤ length m → announced m ≡ Some n → before ≤ mid → IfOk r (λ v. (more : Bytes) × (v.items ≡ m ++ more) × TakesAll (n - length m) b c more) → ((more : Bytes) × TakesSome (n - length m) b c more)
    → IfErr r (λ e. IsTakeError (Rose mid now) (read_failure e)) → ReadsOne (λ x. x.items) first_document a c before now r
rest_taken a b c before mid now n m (Ok v) t ge is le all some failed = all_taken a b c before now n m all.0 v t ge is all.1 all.2
rest_taken a b c before mid now n m (Err e) t ge is le all some failed = rest_failed (λ x. x.items) first_document a b c before mid now n m some.0 e t ge is some.1 le failed
