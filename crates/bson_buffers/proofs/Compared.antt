-- From what must be written for two shapes and what was delivered to the table of statuses.
use Rattle.std.proofs.Common.{◌≡◌, ℕ, List, [], ◌∷◌, Bool, true, false, cond, string_bytes, refl, ap, subst, sym, ◌∙◌, inl, inr}
use Rattle.std.specs.Prelude.{◌⊎◌}
use Rattle.bson_kinds.specs.Text.{Bytes, Utf8}
use Rattle.bson_shape.specs.Form.{Form}
use Rattle.bson_laws.specs.Plain.{IsPlain}
use Rattle.bson_evolve_laws.specs.First.{first_fault}
use Rattle.bson_evolve_laws.specs.PlainTest.{is_plain}
use Rattle.bson_evolve_laws.proofs.Decided.{fault_found, none_found}
use Rattle.bson_evolve_laws.proofs.PlainTests.{plain_found, plain_passes}
use Rattle.bson_evolve_check.specs.Checks.{ArePlain}
use Rattle.bson_evolve_differences.specs.Differences.{AreDifferences, Difference}
use Rattle.bson_evolve_differences.proofs.Walks.{begins_with_fault}
use Rattle.bson_buffers.specs.Asked.{shape_of_bytes}
use Rattle.bson_buffers.specs.Buffers.{Call, Tells}
use Rattle.bson_buffers.specs.Compares.{compared, fault_status, shapes_status, DenoteShapes, IsCompared}
use Rattle.bson_buffers.specs.Expected.{IsComparisonRow, IsDelivered, IsForComparison, IsForShapes, IsOfDifferences}
use Rattle.bson_buffers.specs.declared.expected.Expected.{Expected}
use Rattle.bson_buffers.specs.declared.status.Status.{Status}
use Rattle.bson_buffers.specs.declared.status.Status.TheVariants as statuses
use Rattle.bson_buffers.proofs.Checked.{nothing_written, no_shape_row}

no_plain : (s : Form) → (IsPlain s → ⊥) → is_plain s ≡ false
no_plain s n = by_test (is_plain s) refl where
  by_test : (b : Bool) → is_plain s ≡ b → is_plain s ≡ false
  by_test true e = absurd (n (plain_found s e))
  by_test false e = e

-- what must be written for these differences
pub for_differences : (a b : Form) (ds : List Difference) (d : Expected) → ArePlain a b → AreDifferences a b ds → IsOfDifferences ds d → IsForShapes a b d.status d.place d.output.items (string_bytes d.text)
for_differences a b [] d p are h = subst (λ s. IsForShapes a b s d.place d.output.items (string_bytes d.text)) (sym h.status) (p, are, h.place, h.output, h.texts)
for_differences a b (x ∷ xs) d p are h = subst (λ s. IsForShapes a b s d.place d.output.items (string_bytes d.text)) (sym h.status) (x, xs, p, are, h.place, h.output, h.texts)

-- ---- the status that must be returned

module _ (a b : Form) where
  abbrev by_tests : Bool → Bool → Status
  by_tests t u = cond t (cond u (fault_status (first_fault a b)) statuses.NewRefused) statuses.OldRefused

  plain_status : ArePlain a b → shapes_status a b ≡ fault_status (first_fault a b)
  plain_status p = λ i. by_tests (plain_passes a p.old_plain i) (plain_passes b p.new_plain i)

  old_status : (IsPlain a → ⊥) → shapes_status a b ≡ statuses.OldRefused
  old_status n = ap (λ t. by_tests t (is_plain b)) (no_plain a n)

  new_status : IsPlain a → (IsPlain b → ⊥) → shapes_status a b ≡ statuses.NewRefused
  new_status p n = λ i. by_tests (plain_passes a p i) (no_plain b n i)

abbrev IsInTable : (old new : Bytes) → Status → Call → Type 0
IsInTable old new status c = IsComparisonRow old new status c × (status ≡ compared (shape_of_bytes old) (shape_of_bytes new))

module _ (old new : Bytes) (place : ℕ) (output : Bytes) (said : Utf8) (status : Status) (c : Call) where
  in_table : (s : Status) → status ≡ s → IsComparisonRow old new s c → s ≡ compared (shape_of_bytes old) (shape_of_bytes new) → IsInTable old new status c
  in_table s is row must = (subst (λ t. IsComparisonRow old new t c) (sym is) row, is ∙ must)

  -- ---- two shapes

  module _ (a b : Form) (n : DenoteShapes old new a b) where
    named : shapes_status a b ≡ compared (shape_of_bytes old) (shape_of_bytes new)
    named = sym (λ i. compared (n.old_notation.asked i) (n.new_notation.asked i))

    shapes_row : (expected : Status) → IsForShapes a b expected place output said → IsDelivered expected place output said status c → IsInTable old new status c
    shapes_row statuses.Done h d =
        let w = nothing_written statuses.Done place output said status c h.3 d in
        let compatible = begins_with_fault a b [] h.1 in
        in_table statuses.Done w.0
        (record {
          old_form = a;
          new_form = b;
          notations = n;
          plain = h.0;
          compatible = compatible;
          silent = record { no_place = d.at ∙ h.2; no_output = w.1; no_text = subst (Tells c) h.4 d.told };
        })
        (sym (plain_status a b h.0 ∙ ap fault_status (none_found a b compatible)) ∙ named)
    shapes_row statuses.Different h d =
        let w = nothing_written statuses.Different place output said status c h.5 d in
        in_table statuses.Different w.0
        (record {
          old_form = a;
          new_form = b;
          notations = n;
          plain = h.2;
          first = h.0;
          others = h.1;
          differences = h.3;
          says = subst (Tells c) h.6 d.told;
          no_output = w.1;
          no_place = d.at ∙ h.4;
        })
        (sym (plain_status a b h.2 ∙ ap fault_status (fault_found a b h.0.path n.old_notation.made n.new_notation.made h.2.old_plain h.2.new_plain (begins_with_fault a b (h.0 ∷ h.1) h.3))) ∙ named)
    shapes_row statuses.OldRefused h d =
        let w = nothing_written statuses.OldRefused place output said status c h.2 d in
        in_table statuses.OldRefused w.0
        (inr (record {
          old_form = a;
          new_form = b;
          notations = n;
          faulty = h.0;
          says = subst (Tells c) h.3 d.told;
          no_output = w.1;
          no_place = d.at ∙ h.1;
        }))
        (sym (old_status a b h.0) ∙ named)
    shapes_row statuses.NewRefused h d =
        let w = nothing_written statuses.NewRefused place output said status c h.3 d in
        in_table statuses.NewRefused w.0
        (inr (record {
          old_form = a;
          new_form = b;
          notations = n;
          faulty = (h.0, h.1);
          says = subst (Tells c) h.4 d.told;
          no_output = w.1;
          no_place = d.at ∙ h.2;
        }))
        (sym (new_status a b h.0 h.1) ∙ named)
    shapes_row expected h d = absurd h

  -- ---- what may be two shapes

  comparison_row : (expected : Status) → IsForComparison old new expected place output said → IsDelivered expected place output said status c → IsInTable old new status c
  comparison_row expected (inl h) d =
      in_table statuses.OldRefused ((nothing_written expected place output said status c h.2 d).0 ∙ h.0) (inl (no_shape_row old expected place output said status c h.1 h.2 d))
      (sym (ap (λ o. compared o (shape_of_bytes new)) h.1.asked))
  comparison_row expected (inr (inl h)) d =
      in_table statuses.NewRefused ((nothing_written expected place output said status c h.4 d).0 ∙ h.2) (inl (h.0, h.1, no_shape_row new expected place output said status c h.3 h.4 d))
      (sym (λ i. compared (h.1.asked i) (h.3.asked i)))
  comparison_row expected (inr (inr h)) d = shapes_row h.0 h.1 h.2 expected h.3 d

  by_row : IsInTable old new status c → IsCompared old new status c
  by_row r = record {
    done = λ is. subst (λ s. IsComparisonRow old new s c) is r.0;
    different = λ is. subst (λ s. IsComparisonRow old new s c) is r.0;
    old_refused = λ is. subst (λ s. IsComparisonRow old new s c) is r.0;
    new_refused = λ is. subst (λ s. IsComparisonRow old new s c) is r.0;
    no_memory = λ is. subst (λ s. IsComparisonRow old new s c) is r.0;
    complete = inl r.1;
  }

  pub comparison : (expected : Status) → IsForComparison old new expected place output said → IsDelivered expected place output said status c → IsCompared old new status c
  comparison expected h d = by_row (comparison_row expected h d)
