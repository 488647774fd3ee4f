-- What a `Pedigree` is written as, read from and contains, and its laws in the table of its definition. Source: serde's data model.
use Rattle.std.specs.Prelude.{◌≡◌, ◌≤◌, ◌<◌, suc, ℤ, List, [], ◌∷◌, length, get_or, if◌then◌else◌, Ok, Err, refl, codes, FitsSigned}
use Rattle.std.specs.Int.{w32}
use Rattle.std.specs.Str.{bytes_eq}
use Rattle.std.proofs.Common.{ap, sym, subst, ◌∙◌, arith, lit≤}
use Rattle.bson.specs.Depths.{value_depth}
use Rattle.bson.specs.Form.{Form, Fields, Variants, leaf}
use Rattle.bson.specs.Form as form
use Rattle.bson.specs.Leaves as leaves
use Rattle.bson.specs.Means.{norm}
use Rattle.bson.specs.Outcome.{◌>>=◌, result_map}
use Rattle.bson.specs.Recursive.{FitsIn, IsTable}
use Rattle.bson.specs.Value.{Value, integer, i32, newtype_variant, tuple, Items, no_items, item}
use Rattle.bson.specs.TypeAnswers.{Reading, Writing, not_fitting}
use Rattle.bson.specs.TypeLaws.{Returns, IsNeverNull}
use Rattle.bson.specs.Refusal.{ReadFault, Failure, no_memory, bare, placed, FailsAs}
use Rattle.bson.specs.Scalars.{taken_i32}
use Rattle.bson.specs.ScalarsBack.{i32_returns}
use Rattle.bson.specs.VariantsBack.{newtype_variant_not_null}
use Rattle.bson.specs.View.{view, items_view}
use Rattle.bson_datum.specs.declared.datum.Datum.{Datum}
use Rattle.bson.specs.InTables.{fits_more, newtype_variant_in, fits_reference, fits_definitions}
use Rattle.bson_example_types.specs.Names.{ascii_text}
use Rattle.bson_example_types.specs.declared.pedigree.Pedigree.{Pedigree}
use Rattle.bson_example_types.specs.declared.pedigree.Pedigree.TheVariants.{Founder, Bred'}

-- ---- written

abbrev pub pedigree_value : Pedigree → Value
pedigree_value (Founder n) = newtype_variant (codes "Founder") (integer i32 n)
pedigree_value (Bred' p sire q dam) = newtype_variant (codes "Bred") (tuple (item (pedigree_value sire) (item (pedigree_value dam) no_items)))

abbrev pub written_pedigree : Pedigree → Writing Value
written_pedigree x = Ok (pedigree_value x)

-- ---- read

-- where a pedigree stands in its own definition
abbrev pub pedigree_again : Form
pedigree_again = form.reference (codes "Pedigree")

abbrev pub parents_form : Form
parents_form = form.tuple (form.part pedigree_again (form.part pedigree_again form.no_parts))

abbrev pub pedigree_variants : Variants
pedigree_variants = form.variant (codes "Founder") (form.newtype_content (leaf leaves.I32)) (form.variant (codes "Bred") (form.newtype_content parents_form) form.no_variants)

abbrev pub variants_form : Form
variants_form = form.enumeration pedigree_variants

abbrev pub pedigree_table : Fields
pedigree_table = form.field (codes "Pedigree") variants_form form.no_fields

abbrev pub pedigree_form : Form
pedigree_form = form.definitions pedigree_table pedigree_again

pub data PedigreeContents : Type 0 where
  founder : ℤ → PedigreeContents
  bred : PedigreeContents → PedigreeContents → PedigreeContents

abbrev pub pedigree_contents : Pedigree → PedigreeContents
pedigree_contents (Founder n) = founder n
pedigree_contents (Bred' p sire q dam) = bred (pedigree_contents sire) (pedigree_contents dam)

abbrev pub taken_founder : Value → Reading PedigreeContents
taken_founder v = result_map founder (taken_i32 v)

-- what two parents give, or the first failure
abbrev pub taken_both : Reading PedigreeContents → Reading PedigreeContents → Reading PedigreeContents
taken_both sire dam = sire >>= λ a. result_map (bred a) dam

abbrev mutual
  pub taken_pedigree : Value → Reading PedigreeContents
  taken_pedigree (newtype_variant name v) = if bytes_eq name (codes "Founder") then taken_founder v else (if bytes_eq name (codes "Bred") then taken_inside v else Err not_fitting)
  taken_pedigree v = Err not_fitting

  pub taken_inside : Value → Reading PedigreeContents
  taken_inside (tuple vs) = taken_parents vs
  taken_inside v = Err not_fitting

  pub taken_parents : Items → Reading PedigreeContents
  taken_parents (item v (item w no_items)) = taken_both (taken_pedigree v) (taken_pedigree w)
  taken_parents vs = Err not_fitting

-- What is taken from data is that of two parents, where these are two, and else nothing.
both_taken : (ds : List Datum) (sire dam : Datum) → 2 ≤ length ds → length ds < 3 → sire ≡ get_or ds 0 sire → dam ≡ get_or ds 1 dam
    → taken_parents (items_view ds) ≡ taken_both (taken_pedigree (view sire)) (taken_pedigree (view dam))
both_taken [] sire dam more less first second = absurd (omega (arith, more))
both_taken (a ∷ []) sire dam more less first second = absurd (omega (arith, more))
both_taken (a ∷ b ∷ []) sire dam more less first second =
    ap (λ d. taken_both (taken_pedigree (view d)) (taken_pedigree (view b))) (sym first) ∙ ap (λ d. taken_both (taken_pedigree (view sire)) (taken_pedigree (view d))) (sym second)
both_taken (a ∷ b ∷ c ∷ ds) sire dam more less first second = absurd (omega (arith, less))

-- The first parent that is refused is the answer; else it is the cat of both.
sire_refused : (f : Failure ReadFault) (sire dam : Reading PedigreeContents) → FailsAs f sire → FailsAs f (taken_both sire dam)
sire_refused no_memory sire dam told = tt
sire_refused (bare f) sire dam told = ap (λ r. taken_both r dam) told
sire_refused (placed path f) sire dam told = ap (λ r. taken_both r dam) told

dam_refused : (f : Failure ReadFault) (x : PedigreeContents) (sire dam : Reading PedigreeContents) → sire ≡ Ok x → FailsAs f dam → FailsAs f (taken_both sire dam)
dam_refused no_memory x sire dam read told = tt
dam_refused (bare f) x sire dam read told = ap (λ r. taken_both r dam) read ∙ ap (result_map (bred x)) told
dam_refused (placed path f) x sire dam read told = ap (λ r. taken_both r dam) read ∙ ap (result_map (bred x)) told

module _ (ds : List Datum) (sire dam : Datum) (more : 2 ≤ length ds) (less : length ds < 3) (first : sire ≡ get_or ds 0 sire) (second : dam ≡ get_or ds 1 dam) where
  both : taken_parents (items_view ds) ≡ taken_both (taken_pedigree (view sire)) (taken_pedigree (view dam))
  both = both_taken ds sire dam more less first second

  pub sire_fails : (f : Failure ReadFault) → FailsAs f (taken_pedigree (view sire)) → FailsAs f (taken_parents (items_view ds))
  sire_fails f told = subst (FailsAs f) (sym both) (sire_refused f (taken_pedigree (view sire)) (taken_pedigree (view dam)) told)

  pub dam_fails : (f : Failure ReadFault) (x : PedigreeContents) → taken_pedigree (view sire) ≡ Ok x → FailsAs f (taken_pedigree (view dam)) → FailsAs f (taken_parents (items_view ds))
  dam_fails f x read told = subst (FailsAs f) (sym both) (dam_refused f x (taken_pedigree (view sire)) (taken_pedigree (view dam)) read told)

  pub both_read : (x y z : PedigreeContents) → taken_pedigree (view sire) ≡ Ok x → taken_pedigree (view dam) ≡ Ok y → z ≡ bred x y → taken_parents (items_view ds) ≡ Ok z
  both_read x y z read read' is = both ∙ ap (λ r. taken_both r (taken_pedigree (view dam))) read ∙ ap (result_map (bred x)) read' ∙ ap Ok (sym is)

pub too_few : (ds : List Datum) → length ds < 2 → taken_parents (items_view ds) ≡ Err not_fitting
too_few [] less = refl
too_few (a ∷ []) less = refl
too_few (a ∷ b ∷ ds) less = absurd (omega (arith, less))

pub too_many : (ds : List Datum) → 3 ≤ length ds → taken_parents (items_view ds) ≡ Err not_fitting
too_many [] more = absurd (omega (arith, more))
too_many (a ∷ []) more = absurd (omega (arith, more))
too_many (a ∷ b ∷ []) more = absurd (omega (arith, more))
too_many (a ∷ b ∷ c ∷ ds) more = refl

-- ---- the laws, from those of the parents

abbrev pub IsPedigree : Pedigree → Type 0
IsPedigree (Founder n) = FitsSigned w32 n
IsPedigree (Bred' p sire q dam) = IsPedigree sire × IsPedigree dam

pedigree_is_table : IsTable pedigree_table
pedigree_is_table =
    let name = ascii_text (codes "Pedigree") refl in
    let founder_name = ascii_text (codes "Founder") refl in
    let bred_name = ascii_text (codes "Bred") refl in
    record {
      guarded = refl;
      shapes = (name, (record { distinct = refl; few = lit≤ tt }, (founder_name, tt, (bred_name, (lit≤ tt, (name, (name, tt))), tt))), tt);
    }

-- a pair fits where both of its values do
pair_in : (h : Fields) (s : Form) (v w : Value) → FitsIn h v s → FitsIn h w s → FitsIn h (tuple (item v (item w no_items))) (form.tuple (form.part s (form.part s form.no_parts)))
pair_in h s v w f g =
    let deep = suc (value_depth (tuple (item v (item w no_items)))) in
    (fits_more (suc (value_depth v)) deep (omega arith) h s v f, (fits_more (suc (value_depth w)) deep (omega arith) h s w g, tt))

pedigree_fits : (x : Pedigree) → IsPedigree x → FitsIn pedigree_table (pedigree_value x) pedigree_again
pedigree_fits (Founder n) h =
    fits_reference pedigree_table (codes "Pedigree") variants_form (pedigree_value (Founder n)) pedigree_is_table refl
    (newtype_variant_in pedigree_table pedigree_variants (codes "Founder") (leaf leaves.I32) (integer i32 n) refl (i32_returns n h).fits)
pedigree_fits (Bred' p sire q dam) h =
    fits_reference pedigree_table (codes "Pedigree") variants_form (pedigree_value (Bred' p sire q dam)) pedigree_is_table refl
    (newtype_variant_in pedigree_table pedigree_variants (codes "Bred") parents_form (tuple (item (pedigree_value sire) (item (pedigree_value dam) no_items))) refl
    (pair_in pedigree_table pedigree_again (pedigree_value sire) (pedigree_value dam) (pedigree_fits sire h.0) (pedigree_fits dam h.1)))

pedigree_again_read : (x : Pedigree) → taken_pedigree (norm (pedigree_value x)) ≡ Ok (pedigree_contents x)
pedigree_again_read (Founder n) = refl
pedigree_again_read (Bred' p sire q dam) =
    ap (λ r. taken_both r (taken_pedigree (norm (pedigree_value dam)))) (pedigree_again_read sire) ∙ ap (result_map (bred (pedigree_contents sire))) (pedigree_again_read dam)

pub pedigree_returns : (x : Pedigree) → IsPedigree x → Returns pedigree_form (pedigree_contents x) taken_pedigree (written_pedigree x)
pedigree_returns x h = record {
  fits = fits_definitions form.no_fields pedigree_table pedigree_again (pedigree_value x) (pedigree_fits x h);
  again = pedigree_again_read x;
}

pub pedigree_not_null : (x : Pedigree) → IsNeverNull (written_pedigree x)
pedigree_not_null (Founder n) = newtype_variant_not_null (codes "Founder") (Ok (integer i32 n))
pedigree_not_null (Bred' p sire q dam) = newtype_variant_not_null (codes "Bred") (Ok (tuple (item (pedigree_value sire) (item (pedigree_value dam) no_items))))
