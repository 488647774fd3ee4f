-- What must be written for a file settles the status, and what must be written for the words.
use Rattle.std.proofs.Common.{◌≡◌, List, [], ◌∷◌, Result, Ok, Err, Bool, true, length, map, refl, sym, ◌∙◌, arith, string_bytes}
use Rattle.std.specs.Prelude.{◌==◌, String}
use Rattle.std.specs.declared.alloc.Global.{Global}
use Rattle.bson_kinds.specs.Text.{Utf8}
use Rattle.bson_program.proofs.Answered.{Settles}
use Rattle.bson_program.proofs.Inputs.{input_settles}
use Rattle.bson_program.specs.Command.{IsAskedFor, IsRefused}
use Rattle.bson_infer_run.specs.Files.{inferring_of}
use Rattle.bson_infer_run.specs.Lines.{usage_line}
use Rattle.bson_infer_run.specs.NoWords.{no_words}
use Rattle.bson_infer_run.specs.Rows.{Answers, inferring_status, infer_input, infer_program}

pub settled : Settles infer_program
settled = record {
  settles = λ job input file told quiet.
      input_settles infer_input (λ bytes. Answers (inferring_of bytes)) input file told quiet (λ bytes. inferring_status (inferring_of bytes)) (λ bytes status out lines h. h.ended);
}

pub asked_none : (words : List Utf8) → words ≡ [] → IsAskedFor (no_words usage_line) words tt
asked_none [] e = record { asks = refl; is = refl }
asked_none (w ∷ ws) e = absurd cc

pub refused_some : (words : List Utf8) → (words ≡ [] → ⊥) → IsRefused (no_words usage_line) words usage_line
refused_some [] h = absurd (h refl)
refused_some (w ∷ ws) h = record { refuses = record { some = h; says = refl }; is = refl }

pub no_words_left : (ws : List (String Global)) (b : Bool) → b ≡ (length ws == 0) → b ≡ true → map string_bytes ws ≡ []
no_words_left [] b e h = refl
no_words_left (w ∷ ws) b e h = let all : (length (w ∷ ws) == 0) ≡ true = sym e ∙ h in absurd (grind (arith, all))
