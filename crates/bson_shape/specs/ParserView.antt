-- What the parser's values stand for. Source: this library's own notation.
use Rattle.std.specs.Prelude.{List, [], ◌∷◌, map, reverse, Option, Some, None, Result, string_bytes}
use Rattle.bson_shape.specs.Answers.{Gives}
use Rattle.bson_shape.specs.ShapeView.{fields_of, parts_of, variants_of}
use Rattle.bson_shape.specs.Machine as machine
use Rattle.bson_shape.specs.declared.error.ParseError.{ParseError}
use Rattle.bson_shape.specs.declared.group.OpenEnum.{OpenEnum}
use Rattle.bson_shape.specs.declared.group.Holder.{Holder}
use Rattle.bson_shape.specs.declared.group.Holder.TheVariants as holders
use Rattle.bson_shape.specs.declared.group.Group.{Group}
use Rattle.bson_shape.specs.declared.group.Group.TheVariants as groups
use Rattle.bson_shape.specs.declared.levels.Prefix.{Prefix}
use Rattle.bson_shape.specs.declared.levels.Prefix.TheVariants as prefixes
use Rattle.bson_shape.specs.declared.levels.Level.{Level}
use Rattle.bson_shape.specs.declared.levels.Level.TheVariants as levels
use Rattle.bson_shape.specs.declared.levels.Ended.{Ended}
use Rattle.bson_shape.specs.declared.mode.Owner.{Owner}
use Rattle.bson_shape.specs.declared.mode.Owner.TheVariants as owners
use Rattle.bson_shape.specs.declared.mode.Sign.{Sign}
use Rattle.bson_shape.specs.declared.mode.Sign.TheVariants as signs
use Rattle.bson_shape.specs.declared.mode.Mode.{Mode}
use Rattle.bson_shape.specs.declared.mode.Mode.TheVariants as modes

abbrev pub enum_view : OpenEnum → machine.OpenEnum
enum_view e = record { place = e.place; variants = variants_of e.variants.items }

abbrev pub holder_view : Holder → machine.Holder
holder_view (holders.NamelessAt place) = machine.Nameless_at place
holder_view (holders.NamedAt place name) = machine.Named_at place (string_bytes name)
holder_view (holders.VariantOf e name) = machine.Variant_of (enum_view e) (string_bytes name)

abbrev pub group_view : Group → machine.Group
group_view (groups.Braces holder fields) = machine.Braces (holder_view holder) (fields_of fields.items)
group_view (groups.ClosedBraces place name fields) = machine.Closed_braces place (string_bytes name) (fields_of fields.items)
group_view (groups.Parens holder parts) = machine.Parens (holder_view holder) (parts_of parts.items)
group_view (groups.Angles e) = machine.Angles (enum_view e)
group_view (groups.Table place table) = machine.Table place (fields_of table.items)

abbrev pub prefix_view : Prefix → machine.Prefix
prefix_view prefixes.Option = machine.Option_prefix
prefix_view prefixes.Lossy = machine.Lossy_prefix
prefix_view prefixes.Readable = machine.Readable_prefix
prefix_view (prefixes.Newtype name) = machine.Newtype_prefix (string_bytes name)
prefix_view (prefixes.Definitions table) = machine.Definitions_prefix (fields_of table.items)

abbrev pub level_view : Level → machine.Level
level_view (levels.InPrefix place p) = machine.In_prefix place (prefix_view p)
level_view (levels.InBrackets place) = machine.In_brackets place
level_view (levels.InPair place) = machine.In_pair place
level_view (levels.InCompact place readable) = machine.In_compact place readable
level_view (levels.InMap place key) = machine.In_map place key
level_view (levels.InItem group name) = machine.In_item (group_view group) (string_bytes name)

abbrev pub owner_view : Owner → machine.Owner
owner_view (owners.FormAt place) = machine.Form_at place
owner_view (owners.ItemOf group) = machine.Item_of (group_view group)
owner_view (owners.ReferenceAt place) = machine.Reference_at place

abbrev pub sign_view : Sign → machine.Sign
sign_view signs.Percent = machine.Percent
sign_view signs.Ampersand = machine.Ampersand
sign_view signs.At = machine.At

abbrev pub mode_view : Mode → machine.Mode
mode_view modes.FormDue = machine.Form_due
mode_view (modes.BehindSign sign place) = machine.Behind_sign (sign_view sign) place
mode_view (modes.ItemDue group) = machine.Item_due (group_view group)
mode_view (modes.Bare owner name) = machine.Bare (owner_view owner) (string_bytes name)
mode_view (modes.Quoted owner name) = machine.Quoted (owner_view owner) (string_bytes name)
mode_view (modes.Escape owner name) = machine.Escape (owner_view owner) (string_bytes name)
mode_view (modes.Named owner name) = machine.Named (owner_view owner) (string_bytes name)
mode_view (modes.ItemDone group) = machine.Item_done (group_view group)
mode_view (modes.Done shape) = machine.Done shape

-- the last of the stack is the innermost
abbrev pub levels_view : List Level → List machine.Level
levels_view ls = reverse (map level_view ls)

-- The mode that a call returned, with these levels around, is the state that the machine reaches, or the refusal is the machine's, unless memory ran out.
abbrev pub Reaches : Result Mode ParseError → List Level → Result machine.State machine.Refusal → Type 0
Reaches result ls due = Gives (λ m. (mode_view m, levels_view ls)) result due

-- the level that was taken off, if there was one, and those around it
abbrev pub around_view : Option Level → List machine.Level → List machine.Level
around_view None st = []
around_view (Some l) st = level_view l ∷ st

-- a form that has ended
abbrev pub ended_view : Ended → List machine.Level → machine.Ended
ended_view e st = (e.shape, around_view e.around st)
