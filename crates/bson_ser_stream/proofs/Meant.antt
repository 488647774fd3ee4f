-- What means a sound document is written as it, and fails only where memory runs out.
use Rattle.std.proofs.Common.{◌≡◌, [], inl, inr, Some, Ok, ap, sym, subst, ◌∙◌, arith}
use Rattle.bson_kinds.specs.Text.{Bytes}
use Rattle.bson_kinds.specs.Outcome.{result_map}
use Rattle.bson_base.specs.Sound.{IsSound}
use Rattle.bson_base.specs.Tree.{Tree, enc}
use Rattle.bson_values.specs.Refusal.{WriteFault, Failure, no_memory}
use Rattle.bson_values.specs.Value.{Value}
use Rattle.bson_laws.specs.Means.{means}
use Rattle.bson_laws.specs.Spell.{Writing, spell_document, size}
use Rattle.bson_laws.proofs.Spelled.{spell_means}
use Rattle.bson_ser_stream.specs.Writing.{with_tree, IsExpected, Fails}

abbrev written : Bytes → Writing Bytes
written b = Ok b

same_bytes : (a b : Bytes) → written a ≡ written b → a ≡ b
same_bytes a b e = cc

pub sound_bytes : (v : Value) (t : Tree) (old new items : Bytes) → means v ≡ Some t → IsSound t → old ≡ [] → items ≡ new → with_tree old (spell_document v) ≡ Ok new → items ≡ enc t
sound_bytes v t old new items e s empty is h = same_bytes items (enc t) (ap Ok is ∙ sym h ∙ ap (λ b. with_tree b (spell_document v)) empty ∙ ap (result_map enc) (spell_means v t e s).0)

pub sound_fails : (v : Value) (t : Tree) (f : Failure WriteFault) → means v ≡ Some t → IsSound t → Fails (size v) (spell_document v) f → f ≡ no_memory
sound_fails v t f e s (inl none) = none
sound_fails v t f e s (inr (inl expected)) = absurd (subst (λ r. IsExpected r f) (spell_means v t e s).0 expected)
sound_fails v t f e s (inr (inr long)) = absurd (omega (arith, (spell_means v t e s).1, s.fits, long.1))
