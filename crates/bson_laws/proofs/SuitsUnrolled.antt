-- A form that suits trees is unrolled to such a form.
use Rattle.std.proofs.Common.{ℕ}
use Rattle.bson_shape.specs.Form.{Form, Content, tuple_content, no_parts}
use Rattle.bson_laws.specs.SuitsTrees.{HasTreeParts, trees_rows, SuitsTrees}
use Rattle.bson_laws.specs.Unrolled.{Meanings, unrolled_content, whole}
use Rattle.bson_laws.proofs.Every.{AreKept, every_whole}

parts_kept : {A B : Type 0} (m : ℕ) (c : Content) (g : Meanings) → (A → B) → HasTreeParts c A → HasTreeParts (unrolled_content m c g) B
parts_kept m (tuple_content no_parts) g f p = absurd p
parts_kept m c g f p = f p

trees_kept : AreKept trees_rows
trees_kept = record {
  in_form = λ m s g f p. f p;
  in_map = λ m key g f h p. (f p.0, h p.1);
  in_field = λ name f h p. (f p.0, h p.1);
  in_variant = λ name f h p. (f p.0, h p.1);
  in_content = parts_kept;
  parts = λ name p. p;
  opened = λ f p. (f p.0, p.1);
  seen = λ p. (tt, p);
  left = λ name. tt;
}

pub suits_whole : (s : Form) → SuitsTrees s → SuitsTrees (whole s)
suits_whole = every_whole trees_rows trees_kept
