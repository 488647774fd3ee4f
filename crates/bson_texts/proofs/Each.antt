-- Going over the elements of a document or an array, one after another.
use Rattle.std.proofs.Common.{◌≡◌, ℕ, suc, ◌+◌, Bool, true, false, Ok, Err, refl, ap, sym, subst, ◌∙◌, add-one}
use Rattle.bson_kinds.specs.Outcome.{◌>>=◌}
use Rattle.bson_rawdoc.specs.Node.{Node, Nodes, ended, faulty, then_node}
use Rattle.bson_kinds.specs.Piece.{Piece}
use Rattle.bson_values.specs.Cause.{raw}
use Rattle.bson_values.specs.declared.de.Fault.{Fault}
use Rattle.bson_values.specs.declared.stop.Stop.{Stop}
use Rattle.bson_laws.specs.Judged.{Reading, refused}
use Rattle.bson_met.proofs.Refusals.{StopsAs, stops_bind}
use Rattle.bson_met.specs.Next.{IsFirstOf, IsAdvanced, IsItemAdvanced}
use Rattle.bson_met.specs.PieceView.{str_piece}
use Rattle.bson_met.specs.declared.elements.Step.{Step}

-- what is done with an index, a key and a value
abbrev pub Action : Type 0 → Type 0
Action S = ℕ → Piece → Node → S → Reading S

-- the same with each in order, from this index on, up to the fault that ends the list
abbrev pub each : {S : Type 0} → Action S → ℕ → Nodes → S → Reading S
each act i ended s = Ok s
each act i (faulty e) s = refused (raw e)
each act i (then_node k n ns) s = act i k n s >>= each act (suc i) ns

bind_alike : {A B : Type 0} (r : Reading A) (q : Reading A) (f g : A → Reading B) → r ≡ q → ((x : A) → f x ≡ g x) → (r >>= f) ≡ (q >>= g)
bind_alike (Ok x) q f g e h = h x ∙ ap (λ p. p >>= g) e
bind_alike (Err x) q f g e h = ap (λ p. p >>= g) e

-- an action to which the index tells nothing
each_from : {S : Type 0} (act : Action S) → ((i j : ℕ) (k : Piece) (n : Node) (s : S) → act i k n s ≡ act j k n s) → (i j : ℕ) (ns : Nodes) (s : S) → each act i ns s ≡ each act j ns s
each_from act same i j ended s = refl
each_from act same i j (faulty e) s = refl
each_from act same i j (then_node k n ns) s = bind_alike (act i k n s) (act j k n s) (each act (suc i) ns) (each act (suc j) ns) (same i j k n s) (λ x. each_from act same (suc i) (suc j) ns x)

each_same : {S : Type 0} (act : Action S) (i : ℕ) → ((j : ℕ) (l : Piece) (n : Node) (x : S) → act j l n x ≡ act i l n x) → (j : ℕ) (ns : Nodes) (s : S) → each act j ns s ≡ each act i ns s
each_same act i same j ns s = each_from act (λ a b k n x. same a k n x ∙ sym (same b k n x)) j i ns s

-- the value that a step gives is the first of what was left
pub step_is : (old new : Nodes) (b : Bool) (s : Step) → IsAdvanced old (Ok b) s new → b ≡ true → old ≡ then_node (str_piece s.key) s.value new
step_is old new true s h e = h
step_is old new false s h e = absurd cc

pub item_is : (old new : Nodes) (b : Bool) (v : Node) → IsItemAdvanced old (Ok b) v new → b ≡ true → IsFirstOf old v new
item_is old new true v h e = h
item_is old new false v h e = absurd cc

module _ {S : Type 0} (act : Action S) (i : ℕ) (old : Nodes) (s : S) (total : Reading S) (so_far : each act i old s ≡ total) where
  -- one more was done
  pub each_step : (k : Piece) (n : Node) (new : Nodes) (t : S) → old ≡ then_node k n new → act i k n s ≡ Ok t → each act (i + 1) new t ≡ total
  each_step k n new t first is =
      ap (λ j. each act j new t) (add-one i) ∙ ap (λ r. r >>= each act (suc i) new) (sym is) ∙ ap (λ ns. each act i ns s) (sym first) ∙ so_far

  -- one stops
  pub each_stop : (k : Piece) (n : Node) (new : Nodes) (t : Stop Fault) → old ≡ then_node k n new → StopsAs t (act i k n s) → StopsAs t total
  each_stop k n new t first h =
      let here : StopsAs t (each act i (then_node k n new) s) = stops_bind t (act i k n s) (each act (suc i) new) h in
      subst (StopsAs t) (ap (λ ns. each act i ns s) (sym first) ∙ so_far) here

  -- one more was done, where the index tells nothing
  pub each_next : ((j : ℕ) (l : Piece) (n : Node) (x : S) → act j l n x ≡ act i l n x) → (k : Piece) (n : Node) (new : Nodes) (t : S) → old ≡ then_node k n new → act i k n s ≡ Ok t → each act i new t ≡ total
  each_next same k n new t first is = sym (each_same act i same (i + 1) new t) ∙ each_step k n new t first is
