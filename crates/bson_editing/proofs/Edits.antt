-- The edit of a document, element by element.
use Rattle.std.proofs.Common.{◌≡◌, ℕ, zero, suc, ◌+◌, ◌-◌, ◌<◌, ◌≤◌, List, [], ◌∷◌, ◌++◌, length, take, drop, get_or, Bool, true, false, cond, Option, Some, None, Result, Ok, Err, refl, ap, sym, subst, ◌∙◌, arith, append-nil}
use Rattle.std.specs.Prelude.{option_map, reverse}
use Rattle.std.specs.Global.{Vec}
use Rattle.std.proofs.lemmas.Bool.{le-ltb, lt-ltb}
use Rattle.std.proofs.lemmas.List.{append_assoc, length-append}
use Rattle.bson_kinds.specs.Kind.{byte}
use Rattle.bson_kinds.specs.Text.{Bytes, Utf8}
use Rattle.bson_kinds.specs.Outcome.{◌>>=◌, result_map}
use Rattle.bson_kinds.proofs.Outcomes.{bind_ok, map_ok}
use Rattle.bson_kinds.specs.declared.element_type.ElementType.{ElementType}
use Rattle.bson_base.specs.Sound.{max_bytes}
use Rattle.bson_base.specs.Tree.{element, enclosed}
use Rattle.bson_rawdoc.specs.Envelope.{envelope}
use Rattle.bson_rawdoc.specs.Walk.{Element, Walk, ended, faulty, then_walk, walk_elements, walk}
use Rattle.bson_values.specs.Refusal.{Segment, inside}
use Rattle.bson_values.specs.Stop.{IsRefusedHere}
use Rattle.bson_values.specs.declared.stop.Stop.{Stop}
use Rattle.bson_values.specs.declared.stop.Stop.TheVariants as stops
use Rattle.bson_pass_parts.specs.Run.{IsHead, run, size}
use Rattle.bson_pass_parts.proofs.Pieces.{enclosed_put}
use Rattle.bson_pass_parts.proofs.Runs.{run_none, run_next, walk_next, next_within}
use Rattle.bson_editing.specs.Answers.{IsFault, IsTold, Appends, IsTaken, outcome_bytes}
use Rattle.bson_editing.specs.Edited.{Value, value_of, Changing, Editing, Outcome, Around, segment, renamed, refused, too_long, in_place, each_edited, behind, joined, enclosed_within, all_edited, of_envelope, nested, with_nested, absent, put_absent, chosen, edited_as, edited_by, missing_by, edited_in}
use Rattle.bson_editing.specs.Literal.{tree_of}
use Rattle.bson_editing.specs.Plan as plans
use Rattle.bson_editing.specs.Plan.{is_for}
use Rattle.bson_editing.specs.PlanView.{name_of, edit_of, rows_of, steps_of}
use Rattle.bson_editing.specs.declared.fault.EditFault.{EditFault}
use Rattle.bson_editing.specs.declared.fault.EditFault.TheVariants.{TooLong}
use Rattle.bson_editing.specs.declared.plan.Edit.TheBlock.{hidden-the_row-Step-0}
use Rattle.bson_editing.specs.declared.plan.Edit.{Edit, InsideIt, Row_of-Step, end_of-Step, more_of-Step, items-the_row-Step, items_hidden-the_row-Step-0}
use Rattle.bson_editing.specs.declared.plan.Step.{Step}
use Rattle.bson_editing.proofs.Again.{IsWhole}

-- ---- steps in a vector

rows_are : (m : _) (rows : Row_of-Step m) → rows_of rows ≡ steps_of (items-the_row-Step m rows)
rows_are m end_of-Step = refl
rows_are m (more_of-Step name to missing edit rest) = ap (plans.step (name_of name) (name_of to) (option_map tree_of missing) (edit_of edit)) (rows_are _ rest)

edit_of-InsideIt : (v : Vec Step) → edit_of (InsideIt v) ≡ plans.inside_it (steps_of v.items)
edit_of-InsideIt v = ap plans.inside_it (rows_are _ (hidden-the_row-Step-0 v) ∙ ap steps_of (items_hidden-the_row-Step-0 v))

pub step_in_front : (i : ℕ) (steps : List Step) (s d : Step) → i < length steps → s ≡ get_or steps i d
    → steps_of (drop i steps) ≡ plans.step (name_of s.name) (name_of s.to) (option_map tree_of s.missing) (edit_of s.edit) (steps_of (drop (i + 1) steps))
step_in_front i [] s d lt is = absurd (omega arith)
step_in_front zero (x ∷ steps) s d lt is = ap (λ (y : Step). plans.step (name_of y.name) (name_of y.to) (option_map tree_of y.missing) (edit_of y.edit) (steps_of steps)) (sym is)
step_in_front (suc i) (x ∷ steps) s d lt is =
    let next : suc i + 1 ≡ suc (i + 1) = omega arith in
    step_in_front i steps s d (omega arith) is ∙ ap (λ j. plans.step (name_of s.name) (name_of s.to) (option_map tree_of s.missing) (edit_of s.edit) (steps_of (drop j (x ∷ steps)))) (sym next)

-- ---- the walk that is made

-- no fault ends it
in_place_whole : (o : Option Element) (w : Walk) → IsWhole w → IsWhole (in_place o w)
in_place_whole None w h = h
in_place_whole (Some e) w h = h

pub each_whole : {X : Type 0} (f : ℕ → Element → Outcome X) (i : ℕ) (w v : Walk) → each_edited f i w ≡ Ok v → IsWhole v
each_whole f i ended v h = let is : ended ≡ v = cc in subst IsWhole is tt
each_whole f i (faulty e) v h = absurd cc
each_whole f i (then_walk x w) v h =
    let a = bind_ok (f i x) (λ o. result_map (in_place o) (each_edited f (i + 1) w)) v h in
    let b = map_ok (in_place a.0) (each_edited f (i + 1) w) v a.2 in
    subst IsWhole b.2 (in_place_whole a.0 b.0 (each_whole f (i + 1) w b.0 b.1))

pub joined-in_place : (o : Option Element) (w : Walk) → joined (in_place o w) ≡ outcome_bytes o ++ joined w
joined-in_place None w = refl
joined-in_place (Some e) w = refl

pub joined-behind : (w v : Walk) → IsWhole w → joined (behind w v) ≡ joined w ++ joined v
joined-behind ended v h = refl
joined-behind (faulty e) v h = absurd h
joined-behind (then_walk x w) v h = ap (λ b. element x.kind x.key x.value ++ b) (joined-behind w v h) ∙ sym (append_assoc (element x.kind x.key x.value) (joined w) (joined v))

-- ---- what was written so far

-- Behind what was there are the elements so far, but for those that are pending; these are left.
pub record IsFilled {X : Type 0} (f : ℕ → Element → Outcome X) (elements old now : Bytes) (index from at : ℕ) : Type 0 where
  pub order : from ≤ at
  pub within : at ≤ length elements
  pub count : index ≤ at
  pub so_far : Bytes
  pub filled : now ++ run elements from at ≡ old ++ so_far
  pub same : result_map (λ w. so_far ++ joined w) (each_edited f index (walk_elements (drop at elements))) ≡ result_map joined (each_edited f 0 (walk_elements elements))

-- Behind what was there are the elements that were missing so far; these are left.
pub record ArePut {X : Type 0} (whole left : Editing X Walk) (old now : Bytes) : Type 0 where
  pub so_far : Bytes
  pub filled : now ≡ old ++ so_far
  pub same : result_map (λ w. so_far ++ joined w) left ≡ result_map joined whole

module _ {X E : Type 0} (Tells : X → E → Type 0) where
  -- ---- answers

  pub told_map : {A B : Type 0} (stop : Stop (EditFault E)) (g : A → B) (x : Editing X A) → IsTold Tells stop x → IsTold Tells stop (result_map g x)
  told_map stops.NoMemory g x h = tt
  told_map (stops.Refused s) g (Ok v) h = absurd h
  told_map (stops.Refused s) g (Err r) h = h

  told_then : {A B : Type 0} (stop : Stop (EditFault E)) (g : A → Editing X B) (x : Editing X A) → IsTold Tells stop x → IsTold Tells stop (x >>= g)
  told_then stops.NoMemory g x h = tt
  told_then (stops.Refused s) g (Ok v) h = absurd h
  told_then (stops.Refused s) g (Err r) h = h

  -- what was appended, where it is made of this
  abbrev Appended : {A : Type 0} → (A → Bytes) → (old new : Bytes) → Editing X A → Type 0
  Appended {A} see old new x = (v : A) × (x ≡ Ok v) × (new ≡ old ++ see v)

  pub appended : {A : Type 0} (see : A → Bytes) (old new : Bytes) (u : Unit {0}) (x : Editing X A) → Appends Tells old new (Ok u) (result_map see x) → Appended see old new x
  appended see old new u (Ok v) h = (v, refl, h)
  appended see old new u (Err r) h = absurd h

  -- ---- nested elements

  pub into_nested : (r : Changing X) (edit : Edit) (v : Vec Step) (same : List Step) (levels : ℕ) (key : Utf8) (value : Value) (old new : Bytes) (result : Result (Unit {0}) (Stop (EditFault E))) → edit ≡ InsideIt v → same ≡ v.items
      → Appends Tells old new result (result_map outcome_bytes (with_nested (edited_in r (steps_of same)) levels key value (nested value.kind)))
      → Appends Tells old new result (result_map outcome_bytes (edited_as r (edit_of edit) levels key value))
  into_nested r edit v same levels key value old new result is alike h =
      subst (λ s. Appends Tells old new result (result_map outcome_bytes (edited_as r s levels key value))) (sym (ap edit_of is ∙ edit_of-InsideIt v ∙ ap (λ ss. plans.inside_it (steps_of ss)) (sym alike))) h

  fronted : (k : ElementType) (key : Utf8) (old mid new b : Bytes) → mid ≡ old ++ (byte k ∷ (key ++ 0 ∷ [])) → new ≡ mid ++ b → new ≡ old ++ element k key b
  fronted k key old mid new b front h =
      h ∙ ap (λ m. m ++ b) front ∙ append_assoc old (byte k ∷ (key ++ 0 ∷ [])) b ∙ ap (λ t. old ++ (byte k ∷ t)) (append_assoc key (0 ∷ []) b)

  with_front : (k : ElementType) (key : Utf8) (old mid new : Bytes) (result : Result (Unit {0}) (Stop (EditFault E))) (x : Editing X Bytes) → mid ≡ old ++ (byte k ∷ (key ++ 0 ∷ [])) → Appends Tells mid new result x
      → Appends Tells old new result (result_map outcome_bytes (result_map (λ b. Some (record { kind = k; key = key; value = b })) x))
  with_front k key old mid new (Ok u) (Ok b) front h = fronted k key old mid new b front h
  with_front k key old mid new (Ok u) (Err r) front h = absurd h
  with_front k key old mid new (Err stop) x front h =
      told_map stop outcome_bytes (result_map (λ b. Some (record { kind = k; key = key; value = b })) x) (told_map stop (λ b. Some (record { kind = k; key = key; value = b })) x h)

  pub nested_put : (f : Bool → ℕ → Bytes → Editing X Bytes) (levels inner : ℕ) (key : Utf8) (value : Value) (array : Bool) (bytes old mid new : Bytes) (result : Result (Unit {0}) (Stop (EditFault E)))
      → Some array ≡ nested value.kind → Ok bytes ≡ envelope value.bytes → inner ≡ levels - 1 → mid ≡ old ++ (byte value.kind ∷ (key ++ 0 ∷ [])) → Appends Tells mid new result (f array inner bytes)
      → Appends Tells old new result (result_map outcome_bytes (with_nested f levels key value (nested value.kind)))
  nested_put f levels inner key value array bytes old mid new result is framed less front h =
      subst (λ o. Appends Tells old new result (result_map outcome_bytes (with_nested f levels key value o))) is
      (subst (λ v. Appends Tells old new result (result_map outcome_bytes (result_map (λ b. Some (record { kind = value.kind; key = key; value = b })) (of_envelope (f array (levels - 1)) v)))) framed
      (with_front value.kind key old mid new result (f array (levels - 1) bytes) front (subst (λ n. Appends Tells mid new result (f array n bytes)) less h)))

  -- ---- the steps in front

  within_segment : (s : Segment) (old pending new : Bytes) (x : Outcome X) (e : Element) → Appended outcome_bytes (old ++ pending) new x → IsTaken Tells pending e old new (Ok true) (inside s x)
  within_segment s old pending new (Ok o) e h = h.2 ∙ ap (λ (y : Option Element). (old ++ pending) ++ outcome_bytes y) (let is : h.0 ≡ o = cc in is)
  within_segment s old pending new (Err r) e h = absurd cc

  pub by_front : (r : Changing X) (steps : List Step) (i : ℕ) (a : Around) (index : ℕ) (e : Element) (old mid pending new : Bytes) (u : Unit {0}) (s d : Step)
      → edited_by r (steps_of (drop i steps)) a index e ≡ edited_by r (steps_of steps) a index e → i < length steps → s ≡ get_or steps i d → is_for a.array (name_of s.name) e.key ≡ true → mid ≡ old ++ pending
      → Appends Tells mid new (Ok u) (result_map outcome_bytes (renamed (λ key. edited_as r (edit_of s.edit) a.levels key (value_of e)) (name_of s.to) e.key a.elements))
      → IsTaken Tells pending e old new (Ok true) (edited_by r (steps_of steps) a index e)
  by_front r steps i a index e old mid pending new u s d left lt is for put h =
      let x = renamed (λ key. edited_as r (edit_of s.edit) a.levels key (value_of e)) (name_of s.to) e.key a.elements in
      let whole : edited_by r (steps_of steps) a index e ≡ inside (segment a index e.key) x =
      sym left ∙ ap (λ ss. edited_by r ss a index e) (step_in_front i steps s d lt is)
      ∙ ap (λ b. chosen b (inside (segment a index e.key) x) (edited_by r (steps_of (drop (i + 1) steps)) a index e)) for in
      subst (IsTaken Tells pending e old new (Ok true)) (sym whole)
      (within_segment (segment a index e.key) old pending new x e (appended outcome_bytes (old ++ pending) new u x (subst (λ m. Appends Tells m new (Ok u) (result_map outcome_bytes x)) put h)))

  -- ---- the elements so far

  mapped : (so_far : Bytes) (o : Option Element) (x : Editing X Walk) → result_map (λ v. (so_far ++ outcome_bytes o) ++ joined v) x ≡ result_map (λ v. so_far ++ joined v) (result_map (in_place o) x)
  mapped so_far o (Ok v) = ap Ok (append_assoc so_far (outcome_bytes o) (joined v) ∙ ap (λ b. so_far ++ b) (sym (joined-in_place o v)))
  mapped so_far o (Err r) = refl

  one_more : (f : ℕ → Element → Outcome X) (i : ℕ) (e : Element) (w next : Walk) (so_far : Bytes) (o : Option Element) → w ≡ then_walk e next → f i e ≡ Ok o
      → result_map (λ v. (so_far ++ outcome_bytes o) ++ joined v) (each_edited f (i + 1) next) ≡ result_map (λ v. so_far ++ joined v) (each_edited f i w)
  one_more f i e w next so_far o is made =
      mapped so_far o (each_edited f (i + 1) next)
      ∙ ap (λ y. result_map (λ v. so_far ++ joined v) (y >>= λ p. result_map (in_place p) (each_edited f (i + 1) next))) (sym made)
      ∙ ap (λ v. result_map (λ b. so_far ++ joined b) (each_edited f i v)) (sym is)

  pub next_filled : (f : ℕ → Element → Outcome X) (elements old now new : Bytes) (index from at n : ℕ) (e : Element) (taken : Bool) (x : Outcome X) → f index e ≡ x → IsFilled f elements old now index from at
      → IsHead (drop at elements) e → n ≡ size e → IsTaken Tells (run elements from at) e now new (Ok taken) x → IsFilled f elements old new (index + 1) (cond taken (at + n) from) (at + n)
  next_filled f elements old now new index from at n e true (Ok o) is w head count h = record {
    order = omega arith;
    within = next_within elements at n e w.within head count;
    count = omega (arith, w.count, count);
    so_far = w.so_far ++ outcome_bytes o;
    filled = ap (λ b. new ++ b) (run_none elements (at + n)) ∙ append-nil new ∙ h ∙ ap (λ b. b ++ outcome_bytes o) w.filled ∙ append_assoc old w.so_far (outcome_bytes o);
    same = one_more f index e (walk_elements (drop at elements)) (walk_elements (drop (at + n) elements)) w.so_far o (walk_next elements at n e head count) is ∙ w.same;
  }
  next_filled f elements old now new index from at n e false (Ok o) is w head count h = record {
    order = omega (arith, w.order);
    within = next_within elements at n e w.within head count;
    count = omega (arith, w.count, count);
    so_far = w.so_far ++ outcome_bytes o;
    filled = (λ i. h.0 i ++ run elements from (at + count i)) ∙ ap (λ b. now ++ b) (run_next elements from at e w.order head) ∙ sym (append_assoc now (run elements from at) (element e.kind e.key e.value))
        ∙ ap (λ (p : Option Element). (now ++ run elements from at) ++ outcome_bytes p) (sym h.1) ∙ ap (λ b. b ++ outcome_bytes o) w.filled ∙ append_assoc old w.so_far (outcome_bytes o);
    same = one_more f index e (walk_elements (drop at elements)) (walk_elements (drop (at + n) elements)) w.so_far o (walk_next elements at n e head count) is ∙ w.same;
  }
  next_filled f elements old now new index from at n e true (Err r) is w head count h = absurd h
  next_filled f elements old now new index from at n e false (Err r) is w head count h = absurd h

  -- ---- what was missing

  pub next_put : (r : Changing X) (steps : List Step) (i : ℕ) (a : Around) (s d : Step) (old now new : Bytes) (u : Unit {0}) (whole : Editing X Walk) → i < length steps → s ≡ get_or steps i d → ArePut whole (missing_by r (steps_of (drop i steps)) a) old now
      → Appends Tells now new (Ok u) (result_map outcome_bytes (put_absent (edited_as r (edit_of s.edit) a.levels) a.levels (absent a (name_of s.name) (option_map tree_of s.missing))))
      → ArePut whole (missing_by r (steps_of (drop (i + 1) steps)) a) old new
  next_put r steps i a s d old now new u whole lt is w h =
      let x = put_absent (edited_as r (edit_of s.edit) a.levels) a.levels (absent a (name_of s.name) (option_map tree_of s.missing)) in
      let rest = missing_by r (steps_of (drop (i + 1) steps)) a in
      let o = appended outcome_bytes now new u x h in
      let front : missing_by r (steps_of (drop i steps)) a ≡ result_map (in_place o.0) rest =
      ap (λ ss. missing_by r ss a) (step_in_front i steps s d lt is) ∙ ap (λ y. y >>= λ p. result_map (in_place p) rest) o.1 in
      record {
        so_far = w.so_far ++ outcome_bytes o.0;
        filled = o.2 ∙ ap (λ b. b ++ outcome_bytes o.0) w.filled ∙ append_assoc old w.so_far (outcome_bytes o.0);
        same = mapped w.so_far o.0 rest ∙ ap (result_map (λ v. w.so_far ++ joined v)) (sym front) ∙ w.same;
      }

  -- ---- the whole

  abbrev zeros : Bytes
  zeros = 0 ∷ 0 ∷ 0 ∷ 0 ∷ []

  here_told : (stop : Stop (EditFault E)) → IsRefusedHere TooLong stop → IsTold {A = Bytes} Tells stop (refused too_long)
  here_told stops.NoMemory h = tt
  here_told (stops.Refused s) h = (ap reverse h.1, subst (λ x. IsFault Tells x too_long) (sym h.0) refl)

  module _ (r : Changing X) (steps : plans.Steps) (a : Around) (bytes old begun filled full : Bytes) (u v : Unit {0}) (walked : a.elements ≡ walk bytes) (begins : begun ≡ old ++ zeros)
      (each : Appends Tells begun filled (Ok u) (result_map joined (each_edited (edited_by r steps a) 0 (walk bytes)))) (missing : Appends Tells filled full (Ok v) (result_map joined (missing_by r steps a))) where
    done : Appended joined begun filled (each_edited (edited_by r steps a) 0 (walk bytes))
    done = appended joined begun filled u (each_edited (edited_by r steps a) 0 (walk bytes)) each

    more : Appended joined filled full (missing_by r steps a)
    more = appended joined filled full v (missing_by r steps a) missing

    body : Bytes
    body = joined done.0 ++ joined more.0

    full_is : full ≡ begun ++ body
    unfolding body
    full_is = more.2 ∙ ap (λ b. b ++ joined more.0) done.2 ∙ append_assoc begun (joined done.0) (joined more.0)

    comes_to : (all_edited (edited_by r steps a) (missing_by r steps a) (walk bytes) >>= λ w. enclosed_within (joined w)) ≡ enclosed_within body
    unfolding body
    comes_to =
        ap (λ x. (x >>= λ d. result_map (behind d) (missing_by r steps a)) >>= λ w. enclosed_within (joined w)) done.1
        ∙ ap (λ y. result_map (behind done.0) y >>= λ w. enclosed_within (joined w)) more.1
        ∙ ap enclosed_within (joined-behind done.0 more.0 (each_whole (edited_by r steps a) 0 (walk bytes) done.0 done.1))

    around_is : a ≡ record { array = a.array; levels = a.levels; elements = walk bytes }
    around_is = ap (λ w. record { array = a.array; levels = a.levels; elements = w }) walked

    whole : edited_in r steps a.array a.levels bytes ≡ enclosed_within body
    whole = ap (λ (b : Around). all_edited (edited_by r steps b) (missing_by r steps b) (walk bytes) >>= λ w. enclosed_within (joined w)) (sym around_is) ∙ comes_to

    long : length full ≡ length old + 4 + length body
    long = omega (arith, ap length full_is, length-append begun body, ap length begins, length-append old zeros)

    pub at_limit : (stop : Stop (EditFault E)) → IsRefusedHere TooLong stop → max_bytes ≤ length full - length old → IsTold Tells stop (edited_in r steps a.array a.levels bytes)
    at_limit stop why limit =
        subst (IsTold Tells stop) (sym (whole ∙ ap (λ b. cond b (refused too_long) (Ok (enclosed body))) (lt-ltb max_bytes (length body + 5) (omega (arith, limit, long))))) (here_told stop why)

    pub room : length old + 4 ≤ length full
    room = omega (arith, long)

    pub at_end : (new : Bytes) (w : Unit {0}) → length full - length old < max_bytes → new ≡ take (length old) full ++ enclosed (drop (length old + 4) full) → Appends Tells old new (Ok w) (edited_in r steps a.array a.levels bytes)
    at_end new w small put =
        subst (Appends Tells old new (Ok w)) (sym (whole ∙ ap (λ b. cond b (refused too_long) (Ok (enclosed body))) (le-ltb max_bytes (length body + 5) (omega (arith, small, long)))))
        (enclosed_put old begun full new body begins full_is put)
