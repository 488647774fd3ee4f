-- A refusal goes on through what would have followed, and out of the documents and arrays round it.
use Rattle.std.proofs.Common.{◌≡◌, Option, Some, None, Err, refl, ap, sym, subst, ◌∙◌, reverse, [], ◌∷◌, ◌++◌}
use Rattle.std.proofs.lemmas.List.{reverse-append}
use Rattle.bson_kinds.specs.Outcome.{◌>>=◌, result_map}
use Rattle.bson_values.specs.Refusal.{WriteFault, Refusal, Segment, in_segment, inside, here, Failure, no_memory, bare, placed, FailsAs}
use Rattle.bson_values.specs.Stop.{stop_view, segments_out, IsUnder, IsPlaced}
use Rattle.bson_values.specs.ErrorView.{write_fault}
use Rattle.bson_values.specs.declared.ser.Fault.{Fault}
use Rattle.bson_values.specs.declared.stop.Refused as code
use Rattle.bson_values.specs.declared.stop.Stop.{Stop}
use Rattle.bson_values.specs.declared.stop.Stop.TheVariants.{Refused, NoMemory}
use Rattle.bson_laws.specs.Spell.{Writing}
use Rattle.bson_ser_tree.specs.Answers.{with_paths, without_paths}
use Rattle.bson_ser_tree.specs.Gives.{RefusesAs, IsHereOrMemory, IsBare}

-- a stop on its way out is what the definition refuses with
abbrev pub StopsAs : {A : Type 0} → Stop Fault → Writing A → Type 0
StopsAs s r = RefusesAs (stop_view write_fault s) r

bind_as : {A B : Type 0} (o : Option (Refusal WriteFault)) (r : Writing A) (f : A → Writing B) → RefusesAs o r → RefusesAs o (r >>= f)
bind_as None r f h = tt
bind_as (Some x) r f h = ap (λ q. q >>= f) h

pub stops_bind : {A B : Type 0} (s : Stop Fault) (r : Writing A) (f : A → Writing B) → StopsAs s r → StopsAs s (r >>= f)
stops_bind s r f h = bind_as (stop_view write_fault s) r f h

map_as : {A B : Type 0} (o : Option (Refusal WriteFault)) (f : A → B) (r : Writing A) → RefusesAs o r → RefusesAs o (result_map f r)
map_as None f r h = tt
map_as (Some x) f r h = ap (result_map f) h

pub stops_map : {A B : Type 0} (s : Stop Fault) (f : A → B) (r : Writing A) → StopsAs s r → StopsAs s (result_map f r)
stops_map s f r h = map_as (stop_view write_fault s) f r h

out_of : (segment : Segment) (s t : code.Refused Fault) → t.fault ≡ s.fault → segments_out t ≡ segments_out s ++ segment ∷ []
    → in_segment segment (record { path = reverse (segments_out s); fault = write_fault s.fault }) ≡ record { path = reverse (segments_out t); fault = write_fault t.fault }
out_of segment s t faults steps = λ i. record { path = sym (ap reverse steps ∙ reverse-append (segments_out s) (segment ∷ [])) i; fault = write_fault (sym faults i) }

-- a stop at a segment is the refusal at that segment
pub stops_inside : {A : Type 0} (segment : Segment) (s t : Stop Fault) (r : Writing A) → IsUnder segment s t → StopsAs s r → StopsAs t (inside segment r)
stops_inside segment s NoMemory r u h = tt
stops_inside segment NoMemory (Refused t) r u h = absurd u
stops_inside segment (Refused s) (Refused t) r u h = ap (inside segment) h ∙ ap Err (out_of segment s.value t.value u.0 u.1)

-- ---- what a call answers

pub placed_as : {A : Type 0} (o : Option (Refusal WriteFault)) (f : Failure WriteFault) (r : Writing A) → IsPlaced o f → RefusesAs o r → FailsAs f (with_paths r)
placed_as None f r p h = subst (λ g. FailsAs g (with_paths r)) (sym p) tt
placed_as (Some x) no_memory r p h = tt
placed_as (Some x) (bare e) r p h = absurd cc
placed_as (Some x) (placed path f) r p h = ap with_paths h ∙ ap Err (sym p)

pub bare_as : {A : Type 0} (o : Option (Refusal WriteFault)) (f : Failure WriteFault) (r : Writing A) → IsBare o f → RefusesAs o r → FailsAs f (without_paths r)
bare_as None f r p h = subst (λ g. FailsAs g (without_paths r)) (sym p) tt
bare_as (Some x) f r p h = subst (λ g. FailsAs g (without_paths r)) (sym p) (ap without_paths h)
