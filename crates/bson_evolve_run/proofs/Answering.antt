-- What must be written for the words settles the status, and what is written for two plain shapes.
use Rattle.std.proofs.Common.{◌≡◌, List, [], ◌∷◌, length, map, get_or, Result, Ok, Err, Bool, true, false, cond, refl, ap, sym, subst, ◌∙◌, inl, inr, arith, string_bytes}
use Rattle.std.specs.Prelude.{◌⊎◌, ◌≢◌, IfOk, String}
use Rattle.std.specs.declared.alloc.Global.{Global}
use Rattle.std.proofs.lemmas.List.{length-map}
use Rattle.std.specs.Io.KnownBytes.{Appends}
use Rattle.bson_kinds.specs.Text.{Bytes, Utf8}
use Rattle.bson_shape.specs.Form.{Form}
use Rattle.bson_shape.specs.Makers.{IsShape}
use Rattle.bson_shape.specs.Notation.{text}
use Rattle.bson_shape.proofs.Texts.{parsed-shape}
use Rattle.bson_laws.specs.Plain.{IsPlain}
use Rattle.bson_program.proofs.Answered.{quiet_told, Settles}
use Rattle.bson_program.specs.Command.{IsRefused}
use Rattle.bson_program.specs.Prepared.{Says}
use Rattle.bson_program.specs.Program.{IsAnswered, IsExpected}
use Rattle.bson_program.specs.declared.answer.Answer.{Answer}
use Rattle.bson_program.specs.Run.{Run, AllQuiet, AreKept, AreWritten, Told}
use Rattle.bson_program.specs.ShapeWord.{IsNotation}
use Rattle.bson_kinds.specs.Outcome.{◌>>=◌ as and_then}
use Rattle.bson_evolve_laws.specs.First.{first_fault}
use Rattle.bson_evolve_laws.specs.PlainTest.{is_plain}
use Rattle.bson_evolve_laws.proofs.Decided.{fault_found, none_found}
use Rattle.bson_evolve_laws.proofs.PlainTests.{plain_found, plain_passes}
use Rattle.bson_evolve_run.specs.Lines.{new_word, not_plain_line, old_word, usage_line}
use Rattle.bson_evolve_run.specs.Rows.{check_program, no_input, verdict_status, Answers, IsExpectedFor, IsNo, IsYes, WritesVerdict}
use Rattle.bson_evolve_run.specs.TwoShapes.{or_line, plain_shapes, request, shape_of, shapes_of, two_shapes, AreGood, RefusesWord, Shapes}
use Rattle.bson_evolve_run.specs.declared.status.CheckStatus.{CheckStatus}
use Rattle.bson_evolve_run.specs.declared.status.CheckStatus.TheVariants as statuses

pub ok_map : {A E : Type 0} (r : Result A E) (P Q : A → Type 0) → ((a : A) → P a → Q a) → IfOk r P → IfOk r Q
ok_map (Ok a) P Q f h = f a h
ok_map (Err e) P Q f h = tt

pub settled : Settles check_program
settled = record { settles = λ shapes input doc told quiet status out lines h. by_verdict shapes status out lines h.0 h.1 } where
  by_verdict : (shapes : Shapes) (status : CheckStatus) (out lines : Bytes) → AreGood shapes → IsYes shapes status out lines ⊎ IsNo shapes status out lines → status ≡ verdict_status (first_fault shapes.old shapes.new)
  by_verdict shapes status out lines good (inl y) = y.ended ∙ ap verdict_status (sym (none_found shapes.old shapes.new y.compatible))
  by_verdict shapes status out lines good (inr n) =
      n.ended ∙ ap verdict_status (sym (fault_found shapes.old shapes.new n.path good.old_made good.new_made good.old_plain good.new_plain n.first))

-- ---- the words

abbrev requested : Result Form Utf8 → Result Form Utf8 → Result Shapes Utf8
requested o p = and_then o (λ a. and_then p (λ b. plain_shapes a b))

no_plain : (s : Form) → (IsPlain s → ⊥) → is_plain s ≡ false
no_plain s n = by_test (is_plain s) refl where
  by_test : (b : Bool) → is_plain s ≡ b → is_plain s ≡ false
  by_test true e = absurd (n (plain_found s e))
  by_test false e = e

module _ (old new : Utf8) where
  -- the first word is refused
  pub old_refused : (line : Utf8) → RefusesWord old_word old line → shape_of old_word old ≡ Err line → IsRefused two_shapes (old ∷ new ∷ []) line
  old_refused line r e = record { refuses = inr (inl (record { old = old; new = new; two = refl; refused = r })); is = ap (λ o. requested o (shape_of new_word new)) e }

  module _ (a : Form) (first : IsNotation old a) (read : shape_of old_word old ≡ Ok a) where
    -- the second word is refused
    pub new_refused : (line : Utf8) → RefusesWord new_word new line → shape_of new_word new ≡ Err line → IsRefused two_shapes (old ∷ new ∷ []) line
    new_refused line r e =
        record {
          refuses = inr (inr (inl (record { old = a; new = new; two = ap (λ w. w ∷ new ∷ []) first.notation; made = first.made; refused = r })));
          is = (λ i. requested (read i) (e i));
        }

    module _ (b : Form) (second : IsNotation new b) (also : shape_of new_word new ≡ Ok b) where
      words_are : old ∷ new ∷ [] ≡ text a ∷ text b ∷ []
      words_are = λ i. first.notation i ∷ second.notation i ∷ []

      request_is : request (old ∷ new ∷ []) ≡ plain_shapes a b
      request_is = λ i. requested (read i) (also i)

      abbrev by_tests : Bool → Bool → Result Shapes Utf8
      by_tests t u = cond t (cond u (Ok (shapes_of a b)) (Err (not_plain_line new_word))) (Err (not_plain_line old_word))

      -- both shapes are read
      pub expected_is : (status : CheckStatus) (out lines : Bytes) → IsExpectedFor a b status out lines → IsExpected check_program (old ∷ new ∷ []) no_input status out lines
      expected_is status out lines (inl h) =
          inl (record {
            job = shapes_of a b;
            asked = record { asks = record { notations = words_are; good = h.0 }; is = request_is ∙ (λ i. by_tests (plain_passes a h.0.old_plain i) (plain_passes b h.0.new_plain i)) };
            answer = h;
          })
      expected_is status out lines (inr (inl h)) =
          inr (record {
            ended = h.1.0;
            refused = record {
              refuses = inr (inr (inr (inl (record { old = a; new = b; two = words_are; old_made = first.made; new_made = second.made; other = h.0; says = h.1.2 }))));
              is = request_is ∙ ap (λ t. by_tests t (is_plain b)) (no_plain a h.0) ∙ ap Err (sym h.1.2);
            };
            unread = refl;
            nothing = h.1.1;
          })
      expected_is status out lines (inr (inr h)) =
          inr (record {
            ended = h.2.0;
            refused = record {
              refuses = inr (inr (inr (inr (record { old = a; new = b; two = words_are; old_made = first.made; new_made = second.made; plain = h.0; other = h.1; says = h.2.2 }))));
              is = request_is ∙ (λ i. by_tests (plain_passes a h.0 i) (no_plain b h.1 i)) ∙ ap Err (sym h.2.2);
            };
            unread = refl;
            nothing = h.2.1;
          })

-- the words are not two
pub not_two : (words : List Utf8) → ((old new : Utf8) → words ≢ old ∷ new ∷ []) → IsRefused two_shapes words usage_line
not_two words n = record { refuses = inl (record { other = n; says = refl }); is = by_words words n } where
  by_words : (ws : List Utf8) → ((old new : Utf8) → ws ≢ old ∷ new ∷ []) → request ws ≡ Err usage_line
  by_words [] n = refl
  by_words (a ∷ []) n = refl
  by_words (a ∷ b ∷ []) n = absurd (n a b refl)
  by_words (a ∷ b ∷ c ∷ ws) n = refl

-- an answer that is the line for words that ask for nothing
usage_is : (words : List Utf8) (says line : Utf8) (a : Answer CheckStatus) → IsRefused two_shapes words says → line ≡ says → a.status ≡ statuses.Usage → a.bytes.items ≡ [] → string_bytes a.lines ≡ line → Says (IsExpected check_program words no_input) a
usage_is words says line a r e status bytes lines = inr (record { ended = status; refused = subst (IsRefused two_shapes words) (sym (lines ∙ e)) r; unread = refl; nothing = bytes })

pub old_expected : (old new line : Utf8) → RefusesWord old_word old line → shape_of old_word old ≡ Err line → (a : Answer CheckStatus) → a.status ≡ statuses.Usage → a.bytes.items ≡ [] → string_bytes a.lines ≡ line
    → Says (IsExpected check_program (old ∷ new ∷ []) no_input) a
old_expected old new line r e a status bytes lines = usage_is (old ∷ new ∷ []) line line a (old_refused old new line r e) refl status bytes lines

pub new_expected : (old new : Utf8) (s : Form) → IsNotation old s → shape_of old_word old ≡ Ok s → (line : Utf8) → RefusesWord new_word new line → shape_of new_word new ≡ Err line → (a : Answer CheckStatus) → a.status ≡ statuses.Usage → a.bytes.items ≡ []
    → string_bytes a.lines ≡ line → Says (IsExpected check_program (old ∷ new ∷ []) no_input) a
new_expected old new s first read line r e a status bytes lines = usage_is (old ∷ new ∷ []) line line a (new_refused old new s first read line r e) refl status bytes lines

two_long : (ws : List (String Global)) → (length ws ≡ 2 → ⊥) → (old new : Utf8) → map string_bytes ws ≢ old ∷ new ∷ []
two_long ws n old new e = let many : length ws ≡ 2 = sym (length-map ws string_bytes) ∙ ap length e in n many

pub usage_expected : (ws : List (String Global)) → (length ws ≡ 2 → ⊥) → (a : Answer CheckStatus) → a.status ≡ statuses.Usage → a.bytes.items ≡ [] → string_bytes a.lines ≡ usage_line → Says (IsExpected check_program (map string_bytes ws) no_input) a
usage_expected ws n a status bytes lines = usage_is (map string_bytes ws) usage_line usage_line a (not_two (map string_bytes ws) (two_long ws n)) refl status bytes lines

pub two_words : (ws : List (String Global)) (v w : String Global) → length ws ≡ 2 → v ≡ get_or ws 0 v → w ≡ get_or ws 1 w → map string_bytes ws ≡ string_bytes v ∷ string_bytes w ∷ []
two_words [] v w e a b = absurd (omega (arith, e))
two_words (x ∷ []) v w e a b = absurd (omega (arith, e))
two_words (x ∷ y ∷ []) v w e a b = λ i. string_bytes (sym a i) ∷ string_bytes (sym b i) ∷ []
two_words (x ∷ y ∷ z ∷ ws) v w e a b = absurd (omega (arith, e))

-- ---- the whole run

pub writes_verdict : (old new : Form) (r : Run CheckStatus) → IsAnswered check_program r → IsShape old → IsShape new → IsPlain old → IsPlain new → r.words ≡ text old ∷ text new ∷ [] → AllQuiet r
    → WritesVerdict r old new ⊎ ((r.status ≡ statuses.NoMemory) × AreKept r.out r.err)
writes_verdict old new r answers p q a b words quiet = by_end (quiet_told check_program r (shapes_of old new) quiet asked answers) where
  asked : request r.words ≡ Ok (shapes_of old new)
  asked =
      ap request words
      ∙ (λ i. requested (or_line old_word (parsed-shape old p i)) (or_line new_word (parsed-shape new q i)))
      ∙ (λ i. cond (plain_passes old a i) (cond (plain_passes new b i) (Ok (shapes_of old new)) (Err (not_plain_line new_word))) (Err (not_plain_line old_word)))

  by_end : Told (Answers (shapes_of old new)) r ⊎ ((r.status ≡ statuses.NoMemory) × AreKept r.out r.err) → WritesVerdict r old new ⊎ ((r.status ≡ statuses.NoMemory) × AreKept r.out r.err)
  by_end (inl h) = by_verdict h.bytes h.lines h.expected.1 h.written where
    by_verdict : (bytes lines : Bytes) → IsYes (shapes_of old new) r.status bytes lines ⊎ IsNo (shapes_of old new) r.status bytes lines → AreWritten bytes lines r.out r.err
        → WritesVerdict r old new ⊎ ((r.status ≡ statuses.NoMemory) × AreKept r.out r.err)
    by_verdict bytes lines (inl y) w =
        inl (inl (record { compatible = y.compatible; status = y.ended; out_grew = subst (Appends r.out.before r.out.after) y.writes w.out_grew; err_grew = subst (Appends r.err.before r.err.after) y.nothing w.err_grew }))
    by_verdict bytes lines (inr n) w =
        inl (inr (record { path = n.path; first = n.first; status = n.ended; out_grew = subst (Appends r.out.before r.out.after) n.writes w.out_grew; err_grew = subst (Appends r.err.before r.err.after) n.nothing w.err_grew }))
  by_end (inr h) = inr h
