-- Dates in the relaxed form.
use Rattle.std.proofs.Common.{ℕ, pos, negsuc, Result, OnOk, refl, inl, inr}
use Rattle.std.specs.Prelude.{codes}
use Rattle.std.proofs.lemmas.Result.{on_ok_weaker}
use Rattle.json.specs.Written.{Written}
use Rattle.bson_dates.specs.DatePrinted.{IsDateText, HasYear}
use Rattle.bson_kinds.specs.Text.{Utf8}
use Rattle.bson_base.specs.Tree.{date_time}
use Rattle.bson_json_laws.specs.JsonOf.{text_at, millis_json}
use Rattle.bson_json_text.specs.Puts.{Appends, Puts}
use Rattle.bson_json_laws.specs.declared.form.JsonForm.TheVariants.{Relaxed}

pub early_date : {T E : Type 0} (r : Result T E) (n : ℕ) (old new : Written) → OnOk r (Appends (millis_json (negsuc n)) old new) → OnOk r (Puts Relaxed (date_time (negsuc n)) old new)
early_date r n old new h = on_ok_weaker r (λ a. record { json = millis_json (negsuc n); is_json = refl; appended = a }) h

pub late_date : {T E : Type 0} (r : Result T E) (n : ℕ) (old new : Written) → OnOk r (Appends (millis_json (pos n)) old new) → (HasYear (pos n) → ⊥) → OnOk r (Puts Relaxed (date_time (pos n)) old new)
late_date r n old new h y = on_ok_weaker r (λ a. record { json = millis_json (pos n); is_json = inr (y, refl); appended = a }) h

pub date_string : {T E : Type 0} (r : Result T E) (n : ℕ) (s : Utf8) (old new : Written) → OnOk r (Appends (text_at (codes "$date") s) old new) → IsDateText (pos n) s → OnOk r (Puts Relaxed (date_time (pos n)) old new)
date_string r n s old new h t = on_ok_weaker r (λ a. record { json = text_at (codes "$date") s; is_json = inl (s, refl, t); appended = a }) h
