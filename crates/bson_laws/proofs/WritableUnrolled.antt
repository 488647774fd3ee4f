-- A form whose keys can be written is unrolled to such a form.
use Rattle.std.proofs.Common.{ℕ, ◌∙◌}
use Rattle.bson_shape.specs.Form.{Form, leaf, enumeration}
use Rattle.bson_laws.specs.Plain.{IsPlainKey}
use Rattle.bson_laws.specs.Unrolled.{Meanings, unrolled, whole}
use Rattle.bson_laws.specs.Writable.{writable_rows, HasWritableKeys}
use Rattle.bson_laws.proofs.Every.{AreKept, every_whole}
use Rattle.bson_laws.proofs.SettledUnrolled.{mode_kept}
use Rattle.bson_laws.proofs.Unrolling.{units_unrolled}

pub key_plain : (m : ℕ) (key : Form) (g : Meanings) → IsPlainKey key → IsPlainKey (unrolled m key g)
key_plain m (leaf l) g p = p
key_plain m (enumeration vs) g p = units_unrolled m vs g ∙ p
key_plain m s g p = absurd p

writable_kept : AreKept writable_rows
writable_kept = record {
  in_form = mode_kept;
  in_map = λ m key g f h p. (key_plain m key g p.0, h p.1);
  in_field = λ name f h p. (p.0, f p.1, h p.2);
  in_variant = λ name f h p. (f p.0, h p.1);
  in_content = λ m c g f p. f p;
  parts = λ name p. (p.1, p.2);
  opened = λ f p. p;
  seen = λ p. (tt, p);
  left = λ name. tt;
}

pub writable_whole : (s : Form) → HasWritableKeys s → HasWritableKeys (whole s)
writable_whole = every_whole writable_rows writable_kept
