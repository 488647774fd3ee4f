-- A step over the elements of a document or an array of the input. Source: bsonspec.org, version 1.1, `e_list`.
use Rattle.std.specs.Prelude.{◌≡◌, Option, Some, None, Result, Ok, Err}
use Rattle.bson_rawdoc.specs.Walk.{Element, Walk, ended, faulty, then_walk}
use Rattle.bson_faults.specs.declared.raw.Error.{Error}
use Rattle.bson_values.specs.Cause.{raw}
use Rattle.bson_values.specs.ErrorView.{read_fault}
use Rattle.bson_values.specs.Stop.{stop_view}
use Rattle.bson_values.specs.declared.de.Fault.{Fault}
use Rattle.bson_values.specs.declared.stop.Stop.{Stop}
use Rattle.bson_met.specs.Gives.{IsRefusedOrNoMemory}

-- the walk ends with a fault, which is refused; or memory ran out
pub record EndsFaulty (old : Walk) (s : Stop Fault) : Type 0 where
  pub fault : Error
  pub first : old ≡ faulty fault
  pub refused : IsRefusedOrNoMemory (raw fault) (stop_view read_fault s)

-- the element is the first of what was left of the walk, and the rest of it is left now; a fault is a refusal
abbrev pub IsNextElement : Walk → Result (Option Element) (Stop Fault) → Walk → Type 0
IsNextElement old (Ok (Some e)) new = old ≡ then_walk e new
IsNextElement old (Ok None) new = old ≡ ended
IsNextElement old (Err s) new = EndsFaulty old s
