-- What the words ask for, by the options that they begin with and the words behind them.
use Rattle.std.proofs.Common.{◌≡◌, List, [], ◌∷◌, ◌++◌, Bool, true, false, Option, Some, None, Result, Ok, Err, refl, ap, sym, subst, ◌∙◌, inl, inr}
use Rattle.std.specs.Prelude.{ℕ, IsTrue, String, string_bytes}
use Rattle.std.specs.declared.alloc.Global.{Global}
use Rattle.bson_kinds.specs.Outcome.{result_map}
use Rattle.bson_kinds.specs.Text.{Utf8}
use Rattle.bson_shape.specs.Form.{Form}
use Rattle.bson_shape.specs.Makers.{IsShape}
use Rattle.bson_shape.specs.Notation.{text}
use Rattle.bson_program.proofs.OneShape.{requested}
use Rattle.bson_program.specs.Command.{Asked}
use Rattle.bson_program.specs.OneShape as one
use Rattle.bson_program.specs.OneShape.{one_shape}
use Rattle.bson_recast_run.specs.declared.options.Job.{Job}
use Rattle.bson_recast_run.specs.declared.options.Options.{Options}
use Rattle.bson_recast_run.specs.declared.options.Request.TheVariants as requests
use Rattle.bson_recast_run.specs.PrintedLines.{recast_usage}
use Rattle.bson_recast_run.specs.Making.{rows_asked}
use Rattle.bson_recast_run.specs.Options.{no_options, options_of, job_of, job_request, job_command, request_of, request, IsList, IsNoList, RefusesJob}
use Rattle.bson_recast_run.proofs.LeadingOptions.{led_by_options, no_option_taken, options_taken}

-- ---- what was asked for

-- words behind options that are one word
listed : (words : List Utf8) (word : Utf8) → (options_of no_options words).1 ≡ word ∷ [] → IsList words (options_of no_options words).0 word
listed words word behind = let led = led_by_options words in record { given = led.0; are = led.1; is = led.2 ∙ ap (λ rest. led.0 ++ rest) behind }

-- a legal list is led by its options
list_led : (words : List Utf8) (o : Options) (word : Utf8) → IsList words o word → recast_usage.is_option word ≡ false → options_of no_options words ≡ (o, word ∷ [])
list_led words o word h plain = ap (options_of no_options) h.is ∙ options_taken o h.given word h.are plain

-- where the words behind the options are no list of one word, the words are no legal list
no_list : (words : List Utf8) → one.IsNoList recast_usage (options_of no_options words).1 → IsNoList words
no_list words behind o word h = by_word (recast_usage.is_option word) refl where
  by_word : (b : Bool) → recast_usage.is_option word ≡ b → IsTrue (recast_usage.is_option word)
  by_word true is = is
  by_word false is = behind word (ap (λ led. led.1) (list_led words o word h is))

refused : (words : List Utf8) (line : Utf8) → one.RefusesWords recast_usage (options_of no_options words).1 line → RefusesJob words line
refused words line (inl h) = inl (no_list words h.0, h.1)
refused words line (inr h) = inr (record { options = (options_of no_options words).0; word = h.word; list = listed words h.word h.one; refused = h.refused })

-- what the words behind the options ask for is asked for with the options
asked_with : (words : List Utf8) (r : Result Form (String Global)) → Asked (one_shape recast_usage) (options_of no_options words).1 r → Asked job_command words (result_map (job_of (options_of no_options words).0) r)
asked_with words (Ok s) h = record { asks = record { list = listed words (text s) h.asks.notation; made = h.asks.made }; is = ap (result_map (job_of (options_of no_options words).0)) h.is }
asked_with words (Err line) h = record { refuses = refused words (string_bytes line) h.refuses; is = ap (result_map (job_of (options_of no_options words).0)) h.is }

-- the same, of what is equal to the options and to the words behind them
pub asked_behind : (words rest : List Utf8) (o : Options) (r : Result Form (String Global)) → o ≡ (options_of no_options words).0 → rest ≡ (options_of no_options words).1
    → Asked (one_shape recast_usage) rest r → Asked job_command words (result_map (job_of o) r)
asked_behind words rest o r is behind h =
    subst (λ x. Asked job_command words (result_map (job_of x) r)) (sym is) (asked_with words r (subst (λ ws. Asked (one_shape recast_usage) ws r) behind h))

-- ---- by what it is asked for

-- a shape alone asks for no option
pub asked_alone : (s : Form) (words : List Utf8) → recast_usage.is_option (text s) ≡ false → IsShape s → words ≡ text s ∷ [] → request words ≡ Ok (requests.Recast (job_of no_options s))
asked_alone s words plain shape e =
    ap request e
    ∙ ap (λ led. result_map requests.Recast (result_map (job_of led.0) (one.request recast_usage led.1))) (no_option_taken no_options (text s) plain)
    ∙ ap (λ r. result_map requests.Recast (result_map (job_of no_options) r)) (requested recast_usage s (text s ∷ []) plain shape (λ i. text s ∷ []))

with_options : (o : Options) (r : Result Form Utf8) (job : Job) → result_map (job_of o) r ≡ Ok job → o ≡ job.options
with_options o (Ok s) job e = let same : job_of o s ≡ job = cc in ap (λ j. j.options) same
with_options o (Err line) job e = absurd cc

job_is : (rows : Option ℕ) (r : Result Job Utf8) (job : Job) → request_of rows r ≡ Ok (requests.Recast job) → r ≡ Ok job
job_is (Some rows) r job e = absurd cc
job_is None (Ok j) job e = cc
job_is None (Err line) job e = absurd cc

-- a job has the options that the words begin with
pub options_asked : (words : List Utf8) (job : Job) → request words ≡ Ok (requests.Recast job) → (options_of no_options words).0 ≡ job.options
options_asked words job e = with_options (options_of no_options words).0 (one.request recast_usage (options_of no_options words).1) job (job_is (rows_asked words) (job_request words) job e)
