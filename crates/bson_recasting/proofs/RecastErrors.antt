-- What a recast comes to, from the answers of its halves.
use Rattle.std.proofs.Common.{◌≡◌, Bool, true, false, Ok, Err, ap, sym, subst, inl, inr}
use Rattle.std.specs.Prelude.{◌≢◌, ◌⊎◌, nat_lt}
use Rattle.std.proofs.lemmas.Bool.{lt-ltb}
use Rattle.bson_kinds.specs.Text.{Bytes}
use Rattle.bson_kinds.specs.Outcome.{result_map}
use Rattle.bson_base.specs.Sound.{max_bytes}
use Rattle.bson_base.specs.Tree.{Tree, enc}
use Rattle.bson_values.specs.Value.{Value}
use Rattle.bson_values.specs.Refusal.{WriteFault, Failure, no_memory}
use Rattle.bson_values.specs.ErrorView.{write_failure}
use Rattle.bson_values.specs.declared.ser.Error as ser
use Rattle.bson_laws.specs.Spell.{Writing, spell_document, size}
use Rattle.bson_ser_stream.specs.Writing.{Fails, IsExpected, too_long_failure}
use Rattle.bson_tree_recast.specs.declared.error.RecastError.{RecastError}
use Rattle.bson_tree_recast.specs.declared.error.RecastError.TheVariants.{Read, Write, NoMemory}
use Rattle.bson_tree_recast.specs.Recast.{writes, written, recast_read, Unwritten, IsRefusal, IsWriteError}

-- ---- from the halves to the whole

-- a value that is written within the limit
pub within : (b : Bool) (w : Writing Tree) (bytes : Bytes) → b ≡ false → result_map enc w ≡ Ok bytes → written b w ≡ writes bytes
within true w bytes e is = absurd cc
within false (Ok t) bytes e is = let same : enc t ≡ bytes = cc in ap writes same
within false (Err r) bytes e is = absurd cc

-- a value that is refused, or is too long
refused_or : (b : Bool) (w : Writing Tree) (f : Failure WriteFault) → IsExpected w f ⊎ ((b ≡ true) × (f ≡ too_long_failure)) → Unwritten (written b w) f
refused_or b (Err r) f h = h
refused_or true (Ok t) f (inl expected) = absurd expected
refused_or true (Ok t) f (inr long) = inr long
refused_or false (Ok t) f (inl expected) = absurd expected
refused_or false (Ok t) f (inr long) = absurd (let e = long.0 in cc)

expected : (d : Value) (f : Failure WriteFault) → f ≢ no_memory → Fails (size d) (spell_document d) f → IsExpected (spell_document d) f ⊎ ((nat_lt max_bytes (size d) ≡ true) × (f ≡ too_long_failure))
expected d f n (inl none) = absurd (n none)
expected d f n (inr (inl h)) = inl h
expected d f n (inr (inr h)) = inr (lt-ltb _ _ h.1, h.0)

pub write_error : (d : Value) (e : ser.Error) (r : RecastError) → Fails (size d) (spell_document d) (write_failure e) → IsWriteError e r → IsRefusal (recast_read (Ok d)) r
write_error d e NoMemory h is = tt
write_error d e (Write x) h is =
    let answer : Unwritten (recast_read (Ok d)) (write_failure e) = refused_or (nat_lt max_bytes (size d)) (spell_document d) (write_failure e) (expected d (write_failure e) is.1 h) in
    subst (λ y. Unwritten (recast_read (Ok d)) (write_failure y)) (sym is.0) answer
write_error d e (Read x) h is = absurd is
