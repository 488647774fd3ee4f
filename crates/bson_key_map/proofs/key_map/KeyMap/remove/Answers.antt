use Rattle.std.proofs.Common.{◌≡◌, ◌<◌, ◌∙◌, length, refl, ap, sym, subst}
use Rattle.std.specs.Prelude.{slice_get, is_some}
use Rattle.std.proofs.lemmas.Option.{slice_get_read}
use Rattle.bson_key_map.specs.Stored.{IsTableOf}
use Rattle.bson_key_map.proofs.Tables.{removed_distinct, removed_texts, none_kept}
use Rattle.bson_key_map.proofs.key_map.KeyMap.remove.Goals.{in-Some, in_default}
use Rattle.bson_key_map.proofs.key_map.KeyMap.remove.Goals as goal

pub invariant_of-self : goal.invariant_of-self
invariant_of-self g c =
    let ps = c.self.inside.pairs.items in
    elim c.match-self.branch [
      | in-Some w ↦
          rw (c.remove-2.ensures.items, w.self-inside-is)
          (removed_distinct ps c.args.index c.self.invariant.0, removed_texts w.in-Some.table _ ps c.args.index (subst (λ t. IsTableOf t ps) w.in-Some.is c.self.invariant.1) w.remove.ensures.texts)
      | in_default w ↦ rw (c.remove-2.ensures.items, w.self-inside-is) (removed_distinct ps c.args.index c.self.invariant.0, none_kept c.self.inside.table _ (ap is_some w.in_default.is))
    ]

pub returns-clause-pair : goal.returns-clause-pair
returns-clause-pair g c =
    let is : c.match-self.self-inside.pairs.items ≡ c.args.self.now = elim c.match-self.branch [
      | in-Some w ↦ ap (λ s. s.pairs.items) w.self-inside-is ∙ c.self.view_is
      | in_default w ↦ ap (λ s. s.pairs.items) w.self-inside-is ∙ c.self.view_is
    ] in
    let ps = c.match-self.self-inside.pairs.items in
    let within : c.args.index < length ps = subst (λ qs. c.args.index < length qs) (sym is) c.requires.within in
    ap (λ qs. slice_get qs c.args.index) (sym is) ∙ slice_get_read ps (length ps) c.args.index c.remove-2.result refl within c.remove-2.ensures.value
