-- How the logic stores what a writer has made.
use Rattle.std.specs.Prelude.{ℕ, Bool, List, Option, refl}
use Rattle.std.specs.Coded.{Coded, coded_ℕ, coded_bool, coded_list, coded_option, coded×, code_by}
use Rattle.bson_base.specs.Tree.{Trees, Pairs}
use Rattle.bson_base.specs.Prover.StoredTree.{trees_code, trees_inj, coded_pairs}
use Rattle.bson_ser_tree.specs.Made.{ItemsMade, PairsMade, EntriesMade, VariantItemsMade, VariantPairsMade}

abbrev coded_trees : Coded Trees
coded_trees = record { code = trees_code; inj = trees_inj }

abbrev pub coded_items : Coded ItemsMade
coded_items = code_by (Bool × Option Trees) (coded× coded_bool (coded_option coded_trees)) (λ m. (m.readable, m.trees)) (λ p. record { readable = p.0; trees = p.1 }) (λ _. refl)

abbrev pub coded_made : Coded PairsMade
coded_made = code_by (Bool × Option Pairs) (coded× coded_bool (coded_option coded_pairs)) (λ m. (m.readable, m.pairs)) (λ p. record { readable = p.0; pairs = p.1 }) (λ _. refl)

abbrev pub coded_entries : Coded EntriesMade
coded_entries = code_by (PairsMade × List ℕ) (coded× coded_made (coded_list coded_ℕ)) (λ m. (m.made, m.key)) (λ p. record { made = p.0; key = p.1 }) (λ _. refl)

abbrev pub coded_variant_items : Coded VariantItemsMade
coded_variant_items = code_by (List ℕ × ItemsMade) (coded× (coded_list coded_ℕ) coded_items) (λ m. (m.variant, m.made)) (λ p. record { variant = p.0; made = p.1 }) (λ _. refl)

abbrev pub coded_variant_pairs : Coded VariantPairsMade
coded_variant_pairs = code_by (List ℕ × PairsMade) (coded× (coded_list coded_ℕ) coded_made) (λ m. (m.variant, m.made)) (λ p. record { variant = p.0; made = p.1 }) (λ _. refl)
