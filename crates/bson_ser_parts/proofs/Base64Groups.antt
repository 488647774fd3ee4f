-- Whether a text is base64, group by group.
use Rattle.std.proofs.Common.{◌≡◌, ℕ, ◌<◌, length, take, drop, Option, Some, None, true, false, eqb, refl, ap, ◌∙◌, inl, inr}
use Rattle.std.specs.Prelude.{is_some, option_map, not}
use Rattle.std.specs.Option.{option_eq}
use Rattle.std.proofs.lemmas.Bool.Decides.{eqb_tells}
use Rattle.base64.specs.GeneralPurpose.{IsBytes}
use Rattle.bson_base.specs.Parsed.{bytes_of_base64}
use Rattle.bson_kinds.specs.Text.{Bytes}
use Rattle.bson_base.proofs.Base64Texts.{after_group, base64_cut, bytes_back}

-- whether a text is base64 is whether what is left of it is
pub record IsJudged (text rest : Bytes) : Type 0 where
  pub bytes : IsBytes rest
  pub same : is_some (bytes_of_base64 text) ≡ is_some (bytes_of_base64 rest)

three_before : (group rest : Option Bytes) → option_map length group ≡ Some 3 → is_some (after_group group rest) ≡ is_some rest
three_before None rest e = absurd cc
three_before (Some a) None e = refl
three_before (Some a) (Some b) e = let three : length a ≡ 3 = cc in rw three refl

not_three_before : (group rest : Option Bytes) → (option_map length group ≡ Some 3 → ⊥) → is_some (after_group group rest) ≡ false
not_three_before None rest n = refl
not_three_before (Some a) None n = refl
not_three_before (Some a) (Some b) n = elim (eqb_tells (length a) 3) [
  | inl same ↦ absurd (n (ap Some same.1))
  | inr differs ↦ rw differs.0 refl
]

module _ (text rest : Bytes) (judged : IsJudged text rest) (long : 4 < length rest) where
  -- a group of three bytes
  pub judged_step : option_map length (bytes_of_base64 (take 4 rest)) ≡ Some 3 → IsJudged text (drop 4 rest)
  judged_step three = record {
    bytes = bytes_back 4 rest judged.bytes;
    same = judged.same ∙ ap is_some (base64_cut rest long judged.bytes) ∙ three_before (bytes_of_base64 (take 4 rest)) (bytes_of_base64 (drop 4 rest)) three;
  }

  -- another group, with more behind it
  pub judged_short : (option_map length (bytes_of_base64 (take 4 rest)) ≡ Some 3 → ⊥) → is_some (bytes_of_base64 text) ≡ false
  judged_short short = judged.same ∙ ap is_some (base64_cut rest long judged.bytes) ∙ not_three_before (bytes_of_base64 (take 4 rest)) (bytes_of_base64 (drop 4 rest)) short

-- what a comparison with three bytes tells

pub is_three : (n : Option ℕ) → false ≡ not (option_eq eqb n (Some 3)) → n ≡ Some 3
is_three None e = absurd cc
is_three (Some n) e = elim (eqb_tells n 3) [
  | inl same ↦ ap Some same.1
  | inr differs ↦ cc (rw differs.0 at e)
]

pub not_three : (n : Option ℕ) → true ≡ not (option_eq eqb n (Some 3)) → n ≡ Some 3 → ⊥
not_three n e is = cc (rw is at e)
