-- Forms that are inferred have no references: they are unrolled to themselves.
use Rattle.std.proofs.Common.{◌≡◌, ℕ, suc, refl, ap, sym, subst}
use Rattle.std.specs.Prelude.{IsSome}
use Rattle.bson_base.specs.Sound.{AreTreesClean}
use Rattle.bson_base.specs.Tree.{Tree, Trees, depth}
use Rattle.bson_shape.specs.Form.{dropped, Form, leaf, optional, sequence, structure, enumeration, Fields, no_fields, field, no_variants}
use Rattle.bson_laws.specs.Recursive.{view}
use Rattle.bson_laws.specs.Unrolled.{Meanings, unrolled, unrolled_fields, names_in}
use Rattle.bson_laws.specs.Views.{views}
use Rattle.bson_infer_laws.specs.Inferred.{inferred, AllTrees}
use Rattle.bson_infer_laws.proofs.Covers.{all_up}
use Rattle.bson_infer_laws.proofs.Shapes as shapes
use Rattle.bson_infer_laws.proofs.Usual.{IsUsual, AreUsual, inferred_usual}

module _ (rounds : ℕ) (g : Meanings) where
  mutual
    usual_same : (s : Form) → IsUsual s → unrolled rounds s g ≡ s
    usual_same (leaf l) u = refl
    usual_same (optional s) u = ap optional (usual_same s u)
    usual_same (sequence s) u = ap sequence (usual_same s u)
    usual_same (structure dropped name fs) u = ap (structure dropped name) (fields_same fs u.1)
    usual_same (enumeration no_variants) u = refl
    usual_same s u = absurd u

    fields_same : (fs : Fields) → AreUsual fs → unrolled_fields rounds fs g ≡ fs
    fields_same no_fields u = refl
    fields_same (field name s fs) u = λ i. field name (usual_same s u.1 i) (fields_same fs u.2 i)

-- a tree is at such a shape what it is at the form
pub view_usual : (s : Form) (t : Tree) → IsUsual s → view no_fields s t ≡ views s t
view_usual s t u = ap (λ f. views f t) (usual_same (suc (depth t)) (names_in (suc (depth t)) no_fields) s u)

pub each_views : (ts : Trees) → AreTreesClean ts → AllTrees (λ t. IsSome (view no_fields (inferred ts) t)) ts
each_views ts c =
    all_up (λ t. IsSome (views (inferred ts) t)) (λ t. IsSome (view no_fields (inferred ts) t)) (λ t h. subst IsSome (sym (view_usual (inferred ts) t (inferred_usual ts c))) h) ts (shapes.each_views ts c)
