-- The lists that the rows of structs, tuples and enums make, from a place in the list of the shape on.
use Rattle.std.proofs.Common.{◌≡◌, ℕ, suc, List, [], ◌∷◌, ◌++◌, length, Bool, true, false, Some, None, refl, ap, sym, ◌∙◌}
use Rattle.std.specs.Prelude.{option_map, option_and_then}
use Rattle.std.proofs.lemmas.List.{append_assoc}
use Rattle.bson_kinds.specs.Text.{Utf8}
use Rattle.bson_shape.specs.Form.{Form, leaf, optional, lossy, human_readable, by_mode, sequence, newtype, unit_structure, map, tuple, tuple_structure, structure, enumeration, reference, definitions, Content, unit_content, newtype_content, tuple_content, struct_content}
use Rattle.bson_shape.specs.ShapeView.{parts_of}
use Rattle.bson_values.specs.Refusal.{Path, at_key, at_index}
use Rattle.bson_evolve_laws.specs.Rows.{Step, Answer, step, field_row, parts_row, content_row, and_also}
use Rattle.bson_evolve_check.specs.Steps.{answered, behind, gone, is_option}

pub behind_none : (r : Answer) → behind [] r ≡ r
behind_none None = refl
behind_none (Some rs) = refl

abbrev pub key_step : Path → Utf8 → Form → Form → Step
key_step path name x y = step (path ++ (at_key name ∷ [])) x y

-- ---- structs

module _ (path : Path) (name : Utf8) (ss : List Step) where
  -- a field that the old struct has
  pub field_known : (x y : Form) (r : Answer) → behind (ss ++ key_step path name x y ∷ []) r ≡ behind ss (option_and_then (field_row path name (Some x) y) r)
  field_known x y None = refl
  field_known x y (Some rs) = ap Some (append_assoc ss (key_step path name x y ∷ []) rs)

  -- one that it lacks
  pub field_lacking : (y : Form) (r : Answer) → gone (is_option y) ss r ≡ behind ss (option_and_then (field_row path name None y) r)
  field_lacking (optional y) None = refl
  field_lacking (optional y) (Some rs) = refl
  field_lacking (leaf y) None = refl
  field_lacking (leaf y) (Some rs) = refl
  field_lacking (lossy y) None = refl
  field_lacking (lossy y) (Some rs) = refl
  field_lacking (human_readable y) None = refl
  field_lacking (human_readable y) (Some rs) = refl
  field_lacking (by_mode y z) None = refl
  field_lacking (by_mode y z) (Some rs) = refl
  field_lacking (sequence y) None = refl
  field_lacking (sequence y) (Some rs) = refl
  field_lacking (map y z) None = refl
  field_lacking (map y z) (Some rs) = refl
  field_lacking (tuple y) None = refl
  field_lacking (tuple y) (Some rs) = refl
  field_lacking (tuple_structure n y) None = refl
  field_lacking (tuple_structure n y) (Some rs) = refl
  field_lacking (newtype n y) None = refl
  field_lacking (newtype n y) (Some rs) = refl
  field_lacking (unit_structure n) None = refl
  field_lacking (unit_structure n) (Some rs) = refl
  field_lacking (structure u n y) None = refl
  field_lacking (structure u n y) (Some rs) = refl
  field_lacking (enumeration y) None = refl
  field_lacking (enumeration y) (Some rs) = refl
  field_lacking (reference n) None = refl
  field_lacking (reference n) (Some rs) = refl
  field_lacking (definitions y z) None = refl
  field_lacking (definitions y z) (Some rs) = refl

-- ---- tuples

abbrev pub index_step : Path → ℕ → Form → Form → Step
index_step path i x y = step (path ++ (at_index i ∷ [])) x y

-- an item of both
pub item_both : (path : Path) (i : ℕ) (x y : Form) (ps qs : List Form) (ss : List Step)
    → behind ss (parts_row path i (parts_of (x ∷ ps)) (parts_of (y ∷ qs))) ≡ behind (ss ++ index_step path i x y ∷ []) (parts_row path (suc i) (parts_of ps) (parts_of qs))
item_both path i x y ps qs ss = by_rest (parts_row path (suc i) (parts_of ps) (parts_of qs)) where
  by_rest : (r : Answer) → behind ss (option_map (λ rest. index_step path i x y ∷ rest) r) ≡ behind (ss ++ index_step path i x y ∷ []) r
  by_rest None = refl
  by_rest (Some rs) = ap Some (sym (append_assoc ss (index_step path i x y ∷ []) rs))

-- as many of the one as of the other
pub items_fail : (path : Path) (i : ℕ) (ps qs : List Form) → (length ps ≡ length qs → ⊥) → parts_row path i (parts_of ps) (parts_of qs) ≡ None
items_fail path i [] [] n = absurd (n refl)
items_fail path i [] (y ∷ qs) n = refl
items_fail path i (x ∷ ps) [] n = refl
items_fail path i (x ∷ ps) (y ∷ qs) n = ap (option_map (λ rest. index_step path i x y ∷ rest)) (items_fail path (suc i) ps qs (λ e. n (ap suc e)))

-- ---- enums

-- the content of a variant, and those behind it
pub also_behind : (passes : Bool) (ss new : List Step) (r others : Answer) → answered passes new ≡ behind ss r → gone passes new others ≡ behind ss (and_also r others)
also_behind true ss new None others e = absurd cc
also_behind false ss new None others e = refl
also_behind false ss new (Some rs) others e = absurd cc
also_behind true ss new (Some rs) None e = refl
also_behind true ss new (Some rs) (Some qs) e = let same : new ≡ ss ++ rs = cc in ap Some (ap (λ xs. xs ++ qs) same ∙ append_assoc ss rs qs)

pub no_content : (name : Utf8) (c : Content) → content_row name c None ≡ None
no_content name unit_content = refl
no_content name (newtype_content x) = refl
no_content name (tuple_content ps) = refl
no_content name (struct_content fs) = refl
