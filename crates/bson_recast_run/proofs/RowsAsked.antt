-- What `--make` and a number ask for.
use Rattle.std.proofs.Common.{◌≡◌, ◌≤◌, ◌<◌, ℕ, List, [], ◌∷◌, Bool, true, false, Option, Some, None, Result, Ok, Err, refl, ap, sym, subst, ◌∙◌, arith}
use Rattle.std.specs.Prelude.{◌&&◌, nat_le, if◌then◌else◌, String}
use Rattle.std.specs.declared.alloc.Global.{Global}
use Rattle.std.specs.Fmt.{decimal}
use Rattle.std.specs.Str.{bytes_eq}
use Rattle.std.specs.Str.Parse.{digits_value, ParsesUnsigned}
use Rattle.std.proofs.lemmas.Bool.{leb-true, le-leb}
use Rattle.std.proofs.lemmas.Fmt.{decimal_is_IsNumeral, parse-decimal}
use Rattle.std.proofs.lemmas.Slice.Eq.{bytes_eq-Decides}
use Rattle.bson_kinds.proofs.Outcomes.{some_is, ok_is}
use Rattle.bson_kinds.specs.Outcome.{result_map}
use Rattle.bson_kinds.specs.Text.{Utf8}
use Rattle.bson_program.specs.Command.{IsAskedFor, Asked}
use Rattle.bson_recast_run.specs.declared.options.Job.{Job}
use Rattle.bson_recast_run.specs.declared.options.Request.TheVariants as requests
use Rattle.bson_recast_run.specs.Making.{make_option, max_rows, AskForRows, rows_in, rows_asked}
use Rattle.bson_recast_run.specs.Options.{job_command, job_request, request_of, recast_command}

-- ---- a word

tests_passed : (word : Utf8) (n rows : ℕ) (few same : Bool) → nat_le n max_rows ≡ few → bytes_eq word (decimal n) ≡ same → (if few && same then Some n else None) ≡ Some rows → (word ≡ decimal rows) × (rows ≤ max_rows)
tests_passed word n rows true true few same e =
    let is : n ≡ rows = some_is n rows e in
    ((bytes_eq-Decides word (decimal n)).0 same ∙ ap decimal is, subst (λ x. x ≤ max_rows) is (leb-true n max_rows few))
tests_passed word n rows true false few same e = absurd cc
tests_passed word n rows false same few is e = absurd cc

-- a word that is a number of rows is its digits
word_is : (word : Utf8) (rows : ℕ) → rows_in word ≡ Some rows → (word ≡ decimal rows) × (rows ≤ max_rows)
word_is word rows e = tests_passed word (digits_value 10 word) rows (nat_le (digits_value 10 word) max_rows) (bytes_eq word (decimal (digits_value 10 word))) refl refl e

-- the digits of a number of rows are that number
pub rows_are : (word : Utf8) (rows : ℕ) → word ≡ decimal rows → rows ≤ max_rows → rows_in word ≡ Some rows
rows_are word rows is few =
    let n = digits_value 10 word in
    let same : n ≡ rows = ap (digits_value 10) is ∙ (decimal_is_IsNumeral rows (omega (arith, few))).1 in
    let fits : nat_le n max_rows ≡ true = le-leb n max_rows (subst (λ x. x ≤ max_rows) (sym same) few) in
    let equal : bytes_eq word (decimal n) ≡ true = (bytes_eq-Decides word (decimal n)).1 (is ∙ ap decimal (sym same)) in
    (λ i. if fits i && equal i then Some n else None) ∙ ap Some same

no_rows_by : (word : Utf8) (o : Option ℕ) → rows_in word ≡ o → ((rows : ℕ) → word ≡ decimal rows → rows ≤ max_rows → ⊥) → o ≡ None
no_rows_by word (Some rows) is none = let w = word_is word rows is in absurd (none rows w.0 w.1)
no_rows_by word None is none = refl

-- a word that is the digits of no number of rows is none
pub no_rows : (word : Utf8) → ((rows : ℕ) → word ≡ decimal rows → rows ≤ max_rows → ⊥) → rows_in word ≡ None
no_rows word none = no_rows_by word (rows_in word) refl none

-- the same of a word that was parsed
pub no_rows_parsed : {E : Type 0} (word : Utf8) (r : Result ℕ E) → ParsesUnsigned 32 10 word r → ((rows : ℕ) → r ≡ Ok rows → word ≡ decimal rows → rows ≤ max_rows → ⊥) → rows_in word ≡ None
no_rows_parsed word r parsed none = no_rows word (λ rows is few. none rows (parse-decimal 32 rows word r (omega (arith, few)) (omega (arith, few)) is parsed) is few)

pub rows_unparsed : {E : Type 0} (word : Utf8) (r : Result ℕ E) (e : E) → ParsesUnsigned 32 10 word r → r ≡ Err e → rows_in word ≡ None
rows_unparsed word r e parsed failed = no_rows_parsed word r parsed (λ rows got is few. let both = sym failed ∙ got in cc)

pub rows_over : {E : Type 0} (word : Utf8) (r : Result ℕ E) (rows : ℕ) → ParsesUnsigned 32 10 word r → r ≡ Ok rows → max_rows < rows → rows_in word ≡ None
rows_over word r rows parsed read many = no_rows_parsed word r parsed (λ n got is few. let same : n ≡ rows = ok_is n rows (sym got ∙ read) in omega (arith, same, few, many))

-- digits that are not the word
pub rows_unlike : {E : Type 0} (word ds : Utf8) (r : Result ℕ E) (rows : ℕ) → ParsesUnsigned 32 10 word r → r ≡ Ok rows → ds ≡ decimal rows → bytes_eq ds word ≡ false → rows_in word ≡ None
rows_unlike word ds r rows parsed read are other = no_rows_parsed word r parsed (λ n got is few.
    let same : n ≡ rows = ok_is n rows (sym got ∙ read) in
    let equal : bytes_eq ds word ≡ true = (bytes_eq-Decides ds word).1 (are ∙ ap decimal (sym same) ∙ sym is) in
    let both = sym other ∙ equal in cc)

-- digits that are the word
pub rows_same : (word ds : Utf8) (rows : ℕ) → rows ≤ max_rows → ds ≡ decimal rows → bytes_eq ds word ≡ true → rows_in word ≡ Some rows
rows_same word ds rows few are equal = rows_are word rows (sym ((bytes_eq-Decides ds word).0 equal) ∙ are) few

-- ---- words

-- the option and a number ask for so many rows
taken : (words : List Utf8) (rows : ℕ) → AskForRows words rows → rows_asked words ≡ Some rows
taken words rows h = ap rows_asked h.are ∙ rows_are (decimal rows) rows refl h.fits

option_given : (option number : Utf8) (rows : ℕ) (b : Bool) → bytes_eq option make_option ≡ b → (if b then rows_in number else None) ≡ Some rows → AskForRows (option ∷ number ∷ []) rows
option_given option number rows true is e =
    let w = word_is number rows e in
    let given : option ≡ make_option = (bytes_eq-Decides option make_option).0 is in
    record { are = λ i. given i ∷ w.0 i ∷ []; fits = w.1 }
option_given option number rows false is e = absurd cc

given : (words : List Utf8) (rows : ℕ) → rows_asked words ≡ Some rows → AskForRows words rows
given [] rows e = absurd cc
given (option ∷ []) rows e = absurd cc
given (option ∷ number ∷ []) rows e = option_given option number rows (bytes_eq option make_option) refl e
given (option ∷ number ∷ word ∷ words) rows e = absurd cc

pub asked_rows : (words : List Utf8) (rows : ℕ) → rows_asked words ≡ Some rows → IsAskedFor recast_command words (requests.Make rows)
asked_rows words rows e = record { asks = given words rows e; is = ap (λ o. request_of o (job_request words)) e }

not_taken : (words : List Utf8) (rows : ℕ) → rows_asked words ≡ None → AskForRows words rows → ⊥
not_taken words rows none h = let e = sym (taken words rows h) ∙ none in cc

-- where words ask for no rows, they ask for a recast of an input, or for nothing
pub asked_no_rows : (words : List Utf8) (r : Result Job (String Global)) → rows_asked words ≡ None → Asked job_command words r → Asked recast_command words (result_map requests.Recast r)
asked_no_rows words (Ok job) none h = record { asks = h.asks; is = ap (λ o. request_of o (job_request words)) none ∙ ap (result_map requests.Recast) h.is }
asked_no_rows words (Err line) none h =
    record { refuses = (λ rows. not_taken words rows none, h.refuses); is = ap (λ o. request_of o (job_request words)) none ∙ ap (result_map requests.Recast) h.is }
