-- The slots of the fields of a struct, filled with one element after another.
use Rattle.std.proofs.Common.{◌≡◌, ℕ, suc, refl}
use Rattle.bson_rawdoc.specs.Node.{Nodes, ended, faulty, then_node}
use Rattle.bson_shape.specs.Form.{UnknownFields}
use Rattle.bson_laws.specs.Slots.{Slots, put_at, fill}
use Rattle.bson_texts.proofs.Each.{Action, each}
use Rattle.bson_texts.proofs.Loops.{bind_same}

abbrev pub slots_by : UnknownFields → Action Slots
slots_by u i k n slots = put_at u k.bytes n slots

pub fill_each : (u : UnknownFields) (i : ℕ) (ns : Nodes) (slots : Slots) → each (slots_by u) i ns slots ≡ fill u ns slots
fill_each u i ended slots = refl
fill_each u i (faulty e) slots = refl
fill_each u i (then_node k n ns) slots = bind_same (put_at u k.bytes n slots) (each (slots_by u) (suc i) ns) (fill u ns) (λ x. fill_each u (suc i) ns x)
