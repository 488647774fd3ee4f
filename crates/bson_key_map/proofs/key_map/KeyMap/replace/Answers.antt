use Rattle.std.proofs.Common.{◌≡◌, ◌∙◌, ◌<◌, length, ap, sym, subst}
use Rattle.std.specs.Prelude.{slice_get, slice_set, Some}
use Rattle.std.proofs.lemmas.Option.{slice_get-get_or, get_or_from_slice_get}
use Rattle.bson_key_map.specs.Keys.{pair_with}
use Rattle.bson_key_map.proofs.Tables.{kept_same}
use Rattle.bson_key_map.proofs.Texts.{texts_set}
use Rattle.bson_key_map.proofs.key_map.KeyMap.replace.Goals as goal

pub invariant_of-self : goal.invariant_of-self
invariant_of-self g c =
    let ps = c.self.inside.pairs.items in
    let p = c.index_mut.result.now in
    let within : c.args.index < length ps = subst (λ qs. c.args.index < length qs) (sym c.self.view_is) c.requires.within in
    let is : slice_get ps c.args.index ≡ Some p = slice_get-get_or ps c.args.index p within ∙ ap Some (sym c.index_mut.ensures.value) in
    kept_same c.self.inside.table ps _ (texts_set ps c.args.index p c.replace.new.dest is) c.self.invariant

pub returns-clause-before : goal.returns-clause-before
returns-clause-before g c p is =
    let ps = c.self.inside.pairs.items in
    let at : c.index_mut.result.now ≡ p = c.index_mut.ensures.value ∙ get_or_from_slice_get ps c.args.index p c.index_mut.result.now (ap (λ qs. slice_get qs c.args.index) c.self.view_is ∙ is) in
    c.replace.ensures.value ∙ ap (λ q. q.value) at

pub returns-clause-after : goal.returns-clause-after
returns-clause-after g c p is =
    let ps = c.self.inside.pairs.items in
    let at : c.index_mut.result.now ≡ p = c.index_mut.ensures.value ∙ get_or_from_slice_get ps c.args.index p c.index_mut.result.now (ap (λ qs. slice_get qs c.args.index) c.self.view_is ∙ is) in
    λ i. slice_set (c.self.view_is i) c.args.index (pair_with (c.replace.ensures.after i) (at i))
