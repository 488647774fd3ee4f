-- The places that are left behind one part, and behind one front after another.
use Rattle.std.proofs.Common.{◌≡◌, List, [], ◌∷◌, length, Bool, true, false, Option, Some, None, refl, ap, sym, subst, ◌∙◌}
use Rattle.std.specs.Prelude.{is_some, ◌&&◌, option_map}
use Rattle.std.specs.Bool.{then_some}
use Rattle.bson_values.specs.Value.{Value}
use Rattle.bson_laws.specs.Unwrap.{Part}
use Rattle.bson_ser_parts.specs.Places.{Place, takes, agrees}
use Rattle.bson_ser_parts.specs.PlaceView.{Front, place_view, places_view, Behind}
use Rattle.bson_ser_parts.specs.declared.place.Place as code

-- no place is left for a part
pub behind_none : (ps : List code.Place) (x : Part Value) → length ps ≡ 0 → Behind None ps (λ rest. x ∷ rest)
behind_none [] x e rest = refl
behind_none (p ∷ ps) x e rest = absurd cc

-- a part, by its place
pub behind_part : (p : code.Place) (left ps : List code.Place) (x : Part Value) (b : Bool) → ps ≡ p ∷ left → b ≡ takes (place_view p) x → Behind (then_some b left) ps (λ rest. x ∷ rest)
behind_part p left ps x true e is = λ rest. ap (λ qs. agrees (places_view qs) (x ∷ rest)) e ∙ ap (λ c. c && agrees (places_view left) rest) (sym is)
behind_part p left ps x false e is = λ rest. ap (λ qs. agrees (places_view qs) (x ∷ rest)) e ∙ ap (λ c. c && agrees (places_view left) rest) (sym is)

-- the same as the code answers it
pub behind_test : {R : Type 0} (left : R) (see : R → List code.Place) (p : code.Place) (ps : List code.Place) (x : Part Value) (b : Bool) (r : Option R) → ps ≡ p ∷ see left → b ≡ takes (place_view p) x → r ≡ then_some b left
    → Behind (option_map see r) ps (λ rest. x ∷ rest)
behind_test left see p ps x true r e is t = subst (λ o. Behind (option_map see o) ps (λ rest. x ∷ rest)) (sym t) (behind_part p (see left) ps x true e is)
behind_test left see p ps x false r e is t = subst (λ o. Behind (option_map see o) ps (λ rest. x ∷ rest)) (sym t) (behind_part p (see left) ps x false e is)

-- one front after another
pub behind_both : (o : Option (List code.Place)) (mid ps : List code.Place) (first second : Front) → Behind (Some mid) ps first → Behind o mid second → Behind o ps (λ rest. first (second rest))
behind_both (Some left) mid ps first second one two = λ rest. one (second rest) ∙ two rest
behind_both None mid ps first second one two = λ rest. one (second rest) ∙ two rest

agrees_nothing : (qs : List Place) → agrees qs [] ≡ true
agrees_nothing [] = refl
agrees_nothing (q ∷ qs) = refl

-- there are places left exactly where the parts are what they have to be
pub left_some : (o : Option (List code.Place)) (ps : List code.Place) (front : Front) → Behind o ps front → is_some o ≡ agrees (places_view ps) (front [])
left_some (Some left) ps front h = sym (h [] ∙ agrees_nothing (places_view left))
left_some None ps front h = sym (h [])

-- the same as the code answers it
pub left_is : {R : Type 0} (see : R → List code.Place) (r : Option R) (b : Bool) (ps : List code.Place) (front : Front) → b ≡ is_some r → Behind (option_map see r) ps front → b ≡ agrees (places_view ps) (front [])
left_is see None b ps front is h = is ∙ left_some None ps front h
left_is see (Some x) b ps front is h = is ∙ left_some (Some (see x)) ps front h
