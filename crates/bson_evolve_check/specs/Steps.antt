-- What a row answers, as contracts see it. Source: this library's own comparison of shapes.
use Rattle.std.specs.Prelude.{List, [], ◌∷◌, ◌++◌, map, Bool, true, false, Option, Some, None, option_map, if◌then◌else◌}
use Rattle.std.specs.Borrow.{Bor}
use Rattle.std.specs.Global.{Vec}
use Rattle.bson_kinds.specs.Text.{Utf8}
use Rattle.bson_shape.specs.Form.{Form, leaf, optional}
use Rattle.bson_shape.specs.declared.leaf.Leaf.{Leaf}
use Rattle.bson_laws.specs.Leaves.{leaf_kind}
use Rattle.bson_values.specs.Refusal.{Path, at_key, at_index}
use Rattle.bson_evolve_laws.specs.Rows as rows
use Rattle.bson_evolve_check.specs.declared.step.Inner.{Inner}
use Rattle.bson_evolve_check.specs.declared.step.Inner.TheVariants.{Here, Key, Index}
use Rattle.bson_evolve_check.specs.declared.step.Step.{Step}
use Rattle.bson_evolve_check.specs.declared.step.Way.{Way}

abbrev pub inner_path : Inner → Path
inner_path Here = []
inner_path (Key key) = at_key key.now ∷ []
inner_path (Index i) = at_index i ∷ []

abbrev pub variant_path : Option (Bor Utf8) → Path
variant_path None = []
variant_path (Some name) = at_key name.now ∷ []

-- the path of a way
abbrev pub way_path : Way → Path
way_path w = variant_path w.variant ++ inner_path w.inner

abbrev pub step_view : Step → rows.Step
step_view s = rows.step (way_path s.way) s.old.now s.new.now

abbrev pub steps_view : List Step → List rows.Step
steps_view ss = map step_view ss

abbrev pub answer_view : Option (Vec Step) → rows.Answer
answer_view a = option_map (λ v. steps_view v.items) a

-- the shape is an option itself
abbrev pub is_option : Form → Bool
is_option (optional s) = true
is_option s = false

-- the old form is a leaf whose values the new leaf has
abbrev pub is_leaf_in : Form → Leaf → Bool
is_leaf_in (leaf l) m = rows.leaf_in (leaf_kind l) (leaf_kind m)
is_leaf_in s m = false

-- the steps, where the pair passes
abbrev pub answered : (passes : Bool) → List rows.Step → rows.Answer
answered passes ss = if passes then Some ss else None

-- the steps of a row behind others
abbrev pub behind : List rows.Step → rows.Answer → rows.Answer
behind ss r = option_map (λ rs. ss ++ rs) r

-- where the pair passes so far, the steps of the others behind these
abbrev pub gone : (passes : Bool) → List rows.Step → rows.Answer → rows.Answer
gone true ss r = behind ss r
gone false ss r = None
