-- What documents are at a shape that may be recursive, by what it is unrolled to. Source: the usual meaning of recursive types.
use Rattle.std.specs.Prelude.{◌≡◌, suc, Bool, true, Option}
use Rattle.bson_base.specs.Tree.{Tree, depth}
use Rattle.bson_rawdoc.specs.Node.{Node}
use Rattle.bson_shape.specs.Form.{Form, Fields}
use Rattle.bson_shape.specs.Guarded.{is_guarded}
use Rattle.bson_shape.specs.Makers.{AreShapes}
use Rattle.bson_values.specs.Marked.{Marked}
use Rattle.bson_values.specs.Value.{Value}
use Rattle.bson_laws.specs.declared.origin.Origin.{Origin}
use Rattle.bson_laws.specs.Depths.{value_depth}
use Rattle.bson_laws.specs.Fits.{Fits}
use Rattle.bson_laws.specs.Judged.{Reading}
use Rattle.bson_laws.specs.ReadsFrom.{reads_from}
use Rattle.bson_laws.specs.Settled.{settled}
use Rattle.bson_laws.specs.Unrolled.{in_table, max_steps}
use Rattle.bson_laws.specs.Views.{views}

-- the value that a node is at a form in a table, for a reader who is human or not
abbrev pub read : Origin → (readable : Bool) → Fields → Form → Node → Reading Marked
read o readable h s = reads_from o (settled readable (in_table max_steps h s))

-- the value that a tree is at a form in a table
abbrev pub view : Fields → Form → Tree → Option Value
view h s t = views (in_table (suc (depth t)) h s) t

-- the value is one of a form in a table
abbrev pub FitsIn : Fields → Value → Form → Type 0
FitsIn h v s = Fits v (in_table (suc (value_depth v)) h s)

-- the definitions are guarded, and each is a shape
pub record IsTable (h : Fields) : Type 0 where
  pub guarded : is_guarded h ≡ true
  pub shapes : AreShapes h
