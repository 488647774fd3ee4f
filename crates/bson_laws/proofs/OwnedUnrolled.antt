-- A form that borrows nothing is unrolled to such a form.
use Rattle.std.proofs.Common.{ℕ}
use Rattle.bson_kinds.specs.Text.{Utf8}
use Rattle.bson_shape.specs.Form.{Form}
use Rattle.bson_laws.specs.Owned.{owned_rows, IsOwned}
use Rattle.bson_laws.specs.Unrolled.{Meanings, unrolled, whole}
use Rattle.bson_laws.proofs.Every.{AreKept, every_unrolled, every_whole}

owned_kept : AreKept owned_rows
owned_kept = record {
  in_form = λ m s g f p. f p;
  in_map = λ m key g f h p. (f p.0, h p.1);
  in_field = λ name f h p. (f p.0, h p.1);
  in_variant = λ name f h p. (f p.0, h p.1);
  in_content = λ m c g f p. f p;
  parts = λ name p. p;
  opened = λ f p. (f p.0, p.1);
  seen = λ p. (tt, p);
  left = λ name. tt;
}

pub owned_unrolled : (m : ℕ) (s : Form) (g : Meanings) → ((name : Utf8) → IsOwned (g name)) → IsOwned s → IsOwned (unrolled m s g)
owned_unrolled = every_unrolled owned_rows owned_kept

pub owned_whole : (s : Form) → IsOwned s → IsOwned (whole s)
owned_whole = every_whole owned_rows owned_kept
