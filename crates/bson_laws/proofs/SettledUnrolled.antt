-- A form that does not depend on whether the reader is human is unrolled to such a form.
use Rattle.std.proofs.Common.{ℕ}
use Rattle.bson_shape.specs.Form.{Form, human_readable, by_mode}
use Rattle.bson_laws.specs.Settled.{IsSettledForm, settled_rows, IsSettled}
use Rattle.bson_laws.specs.Unrolled.{Meanings, unrolled, whole}
use Rattle.bson_laws.proofs.Every.{AreKept, every_whole}

pub mode_kept : {A B : Type 0} (m : ℕ) (s : Form) (g : Meanings) → (A → B) → IsSettledForm s A → IsSettledForm (unrolled m s g) B
mode_kept m (human_readable s) g f p = absurd p
mode_kept m (by_mode r c) g f p = absurd p
mode_kept m s g f p = f p

settled_kept : AreKept settled_rows
settled_kept = record {
  in_form = mode_kept;
  in_map = λ m key g f h p. h p;
  in_field = λ name f h p. (f p.0, h p.1);
  in_variant = λ name f h p. (f p.0, h p.1);
  in_content = λ m c g f p. f p;
  parts = λ name p. p;
  opened = λ f p. (f p.0, p.1);
  seen = λ p. (tt, p);
  left = λ name. tt;
}

pub settled_whole : (s : Form) → IsSettled s → IsSettled (whole s)
settled_whole = every_whole settled_rows settled_kept
