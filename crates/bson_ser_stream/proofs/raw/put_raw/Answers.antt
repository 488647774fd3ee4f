use Rattle.std.proofs.Common.{◌≡◌, ℕ, zero, suc, Ok, refl, arith}
use Rattle.bson_kinds.specs.Text.{Bytes}
use Rattle.bson_base.specs.Tree.{raw}
use Rattle.bson_kinds.specs.declared.element_type.ElementType.{ElementType}
use Rattle.bson_rawdoc.proofs.Counts.{length_below}
use Rattle.bson_laws.specs.Spell.{in_bytes}
use Rattle.bson_ser_stream.proofs.Growth.{Grows-appended}
use Rattle.bson_ser_stream.proofs.Puts.{puts_value}
use Rattle.bson_ser_stream.proofs.raw.put_raw.Goals as goal

-- where a level is left it is these bytes
in_level : (k : ElementType) (b : Bytes) (levels : ℕ) → (levels ≡ 0 → ⊥) → in_bytes k b levels ≡ Ok (raw k b)
in_level k b zero left = absurd (left refl)
in_level k b (suc n) left = refl

pub returns : goal.returns
returns g c =
    let bytes = c.args.bytes.now in
    let appended = c.in_ok-push_all.ensures.ok in
    puts_value _ _ _ _ _ _ _ (Grows-appended _ _ _ _ _ appended) (raw c.args.kind bytes) (in_level c.args.kind bytes c.args.levels c.if-levels-eq0.false) appended.bytes (omega (arith, length_below bytes c.requires)) refl
