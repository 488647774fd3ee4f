-- A refusal goes on through what would have followed, and out of the values round it.
use Rattle.std.proofs.Common.{◌≡◌, Option, Some, None, Result, Err, ap, sym, ◌∙◌, reverse, [], ◌∷◌, ◌++◌}
use Rattle.std.proofs.lemmas.List.{reverse-append}
use Rattle.bson_kinds.specs.Outcome.{◌>>=◌, result_map, or_else}
use Rattle.bson_values.specs.Refusal.{Refusal, Segment, here, in_segment, inside}
use Rattle.bson_values.specs.Stop.{stop_view, segments_out, IsUnder, IsRefusedHere}
use Rattle.bson_values.specs.declared.stop.Refused as code
use Rattle.bson_values.specs.declared.stop.Stop.{Stop}
use Rattle.bson_values.specs.declared.stop.Stop.TheVariants.{Refused, NoMemory}
use Rattle.bson_json_laws.specs.Gives.{RefusesAs, IsHere, IsFaultOf}
use Rattle.bson_json_laws.specs.TextFault.{fault_in}
use Rattle.bson_json_laws.specs.declared.text_fault.TextFault.{TextFault}

-- ---- answers

pub refuses_bind : {A B F : Type 0} (o : Option (Refusal F)) (r : Result A (Refusal F)) (f : A → Result B (Refusal F)) → RefusesAs o r → RefusesAs o (r >>= f)
refuses_bind None r f h = tt
refuses_bind (Some x) r f h = ap (λ q. q >>= f) h

pub refuses_map : {A B F : Type 0} (o : Option (Refusal F)) (f : A → B) (r : Result A (Refusal F)) → RefusesAs o r → RefusesAs o (result_map f r)
refuses_map None f r h = tt
refuses_map (Some x) f r h = ap (result_map f) h

out_of : {E F : Type 0} (tell : E → F) (segment : Segment) (s t : code.Refused E) → t.fault ≡ s.fault → segments_out t ≡ segments_out s ++ segment ∷ []
    → in_segment segment (record { path = reverse (segments_out s); fault = tell s.fault }) ≡ record { path = reverse (segments_out t); fault = tell t.fault }
out_of tell segment s t faults steps = λ i. record { path = sym (ap reverse steps ∙ reverse-append (segments_out s) (segment ∷ [])) i; fault = tell (sym faults i) }

-- a stop at a segment is the refusal at that segment
pub refuses_inside : {A E F : Type 0} (tell : E → F) (segment : Segment) (s t : Stop E) (r : Result A (Refusal F)) → IsUnder segment s t → RefusesAs (stop_view tell s) r → RefusesAs (stop_view tell t) (inside segment r)
refuses_inside tell segment s NoMemory r u h = tt
refuses_inside tell segment NoMemory (Refused t) r u h = absurd u
refuses_inside tell segment (Refused s) (Refused t) r u h = ap (inside segment) h ∙ ap Err (out_of tell segment s.value t.value u.0 u.1)

here_is : {E F : Type 0} (tell : E → F) (e : E) (r : code.Refused E) → r.fault ≡ e → segments_out r ≡ [] → here (tell e) ≡ record { path = reverse (segments_out r); fault = tell r.fault }
here_is tell e r faults none = λ i. record { path = sym (ap reverse none) i; fault = tell (sym faults i) }

-- a stop for a fault of the value itself
pub is_here : {E F : Type 0} (tell : E → F) (e : E) (s : Stop E) → IsRefusedHere e s → IsHere (tell e) (stop_view tell s)
is_here tell e NoMemory h = tt
is_here tell e (Refused s) h = sym (here_is tell e s.value h.0 h.1)

pub refused_as : {A F : Type 0} (f : F) (o : Option (Refusal F)) (r : Result A (Refusal F)) → IsHere f o → r ≡ Err (here f) → RefusesAs o r
refused_as f None r h is = tt
refused_as f (Some x) r h is = is ∙ ap Err (sym h)

-- ---- faults

pub fault_as : {F : Type 0} (f : F) (o p : Option (Refusal F)) → IsHere f o → p ≡ Some (here f) → IsFaultOf o p
fault_as f None p h is = tt
fault_as f (Some x) p h is = is ∙ ap Some (sym h)

pub fault_inside : (segment : Segment) (s t : Stop TextFault) (o : Option (Refusal TextFault)) → IsUnder segment s t → IsFaultOf (stop_view (λ e. e) s) o → IsFaultOf (stop_view (λ e. e) t) (fault_in segment o)
fault_inside segment s NoMemory o u h = tt
fault_inside segment NoMemory (Refused t) o u h = absurd u
fault_inside segment (Refused s) (Refused t) o u h = ap (fault_in segment) h ∙ ap Some (out_of (λ e. e) segment s.value t.value u.0 u.1)

-- the first of two faults
pub fault_first : {F : Type 0} (told o p : Option (Refusal F)) → IsFaultOf told o → IsFaultOf told (or_else o p)
fault_first None o p h = tt
fault_first (Some r) o p h = ap (λ q. or_else q p) h
