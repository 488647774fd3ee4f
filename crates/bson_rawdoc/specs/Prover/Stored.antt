-- How the logic stores an element, a walk and a cut.
use Rattle.std.specs.Prelude.{◌≡◌, ℕ, List, Option, refl}
use Rattle.std.specs.Coded.{Coded, coded_ℕ, coded_list, coded_option, coded×, code_by}
use Rattle.std.proofs.Common.{ap, arith}
use base.Stored.{Gv, gnil, gnum, gcons}
use Rattle.bson_kinds.specs.Prover.Stored.{head, tail, num}
use Rattle.bson_kinds.specs.declared.element_type.ElementType.{ElementType}
use Rattle.bson_kinds.specs.contracts.element_type.ElementType as kinds
use Rattle.bson_faults.specs.contracts.raw.Error as faults
use Rattle.bson_rawdoc.specs.Cut.{Cut}
use Rattle.bson_rawdoc.specs.Walk.{Element, Walk, ended, faulty, then_walk}

abbrev pub coded_element : Coded Element
coded_element =
    code_by (ElementType × (List ℕ × List ℕ)) (coded× kinds.the_row.coded (coded× (coded_list coded_ℕ) (coded_list coded_ℕ)))
    (λ e. (e.kind, (e.key, e.value))) (λ p. record { kind = p.0; key = p.1.0; value = p.1.1 }) (λ _. refl)

abbrev pub walk_code : Walk → Gv
walk_code ended = gcons (gnum 0) gnil
walk_code (faulty f) = gcons (gnum 1) (faults.the_row.coded.code f)
walk_code (then_walk e w) = gcons (gnum 2) (gcons (coded_element.code e) (walk_code w))

pub walk_inj : (x y : Walk) → walk_code x ≡ walk_code y → x ≡ y
walk_inj ended ended p = refl
walk_inj (faulty f) (faulty g) p = ap faulty (faults.the_row.coded.inj f g (ap (λ g. tail g) p))
walk_inj (then_walk e w) (then_walk d v) p = λ i. then_walk (coded_element.inj e d (ap (λ g. head (tail g)) p) i) (walk_inj w v (ap (λ g. tail (tail g)) p) i)
walk_inj x y p = absurd (omega (arith, ap (λ g. num (head g)) p))

abbrev pub coded_walk : Coded Walk
coded_walk = record { code = walk_code; inj = walk_inj }

abbrev pub coded_cut : Coded Cut
coded_cut =
    code_by (List (List ℕ) × Option ℕ) (coded× (coded_list (coded_list coded_ℕ)) (coded_option coded_ℕ))
    (λ c. (c.pieces, c.broken)) (λ p. record { pieces = p.0; broken = p.1 }) (λ _. refl)
