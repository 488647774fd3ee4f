-- A part that is written, and one that is not, seen from what it is a part of.
use Rattle.std.proofs.Common.{◌≡◌, ℕ, ◌+◌, [], ◌∷◌, ◌++◌, length, reverse, Ok, Err, refl, ap, sym, subst, ◌∙◌, append_assoc, arith}
use Rattle.std.specs.Prelude.{IsOk}
use Rattle.std.proofs.lemmas.List.{length-append, reverse-append}
use Rattle.bson_kinds.specs.Text.{Bytes, Utf8}
use Rattle.bson_kinds.specs.Outcome.{◌>>=◌}
use Rattle.bson_base.specs.Tree.{Tree, enc, kind, element}
use Rattle.bson_values.specs.Refusal.{Segment, in_segment, inside}
use Rattle.bson_values.specs.Stop.{segments_out}
use Rattle.bson_values.specs.ErrorView.{write_fault}
use Rattle.bson_values.specs.declared.ser.Fault.{Fault}
use Rattle.bson_values.specs.declared.stop.Refused as code
use Rattle.bson_values.specs.declared.stop.Stop.TheVariants.{Refused, NoMemory}
use Rattle.bson_io.specs.Output.{Output, Appended}
use Rattle.bson_laws.specs.Spell.{Writing}
use Rattle.bson_laws.proofs.Sizes.{ok_is}
use Rattle.bson_ser_stream.specs.Writing.{front, with_bytes, with_tree, with_element}
use Rattle.bson_writing.specs.Halting.{Halts, IsUnder, refusal}
use Rattle.bson_writing.specs.declared.halt.Halt.{Halt}
use Rattle.bson_writing.specs.declared.halt.Halt.TheVariants.{Stopped, TooLong}

in_of : (segment : Segment) (r s : code.Refused Fault) → s.fault ≡ r.fault → segments_out s ≡ segments_out r ++ segment ∷ [] → in_segment segment (refusal r) ≡ refusal s
in_of segment r s faults steps = λ i. record { path = sym (ap reverse steps ∙ reverse-append (segments_out r) (segment ∷ [])) i; fault = write_fault (sym faults i) }

inside_ok : (segment : Segment) (old : Bytes) (key : Utf8) (r : Writing Tree) → IsOk (with_element old key (inside segment r)) → IsOk (with_element old key r)
inside_ok segment old key (Ok t) h = refl
inside_ok segment old key (Err f) h = absurd cc

refused_element : (old : Bytes) (key : Utf8) (r : Writing Tree) (x : code.Refused Fault) → with_element old key r ≡ Err (refusal x) → IsOk (with_element old key r) → ⊥
refused_element old key (Ok t) x e h = absurd cc
refused_element old key (Err f) x e h = absurd cc

inside_err : (segment : Segment) (old : Bytes) (key : Utf8) (r : Writing Tree) (x y : code.Refused Fault) → in_segment segment (refusal x) ≡ refusal y → with_element old key r ≡ Err (refusal x) → with_element old key (inside segment r) ≡ Err (refusal y)
inside_err segment old key (Ok t) x y is e = absurd cc
inside_err segment old key (Err f) x y is e = let same : f ≡ refusal x = cc in ap (λ g. Err (in_segment segment g)) same ∙ ap Err is

-- why an element is not written, seen from what the element is in
pub under_halts : (size spare : ℕ) (segment : Segment) (old : Bytes) (key : Utf8) (r : Writing Tree) (h g : Halt) → IsUnder segment h g → Halts size spare (with_element old key r) h → Halts size spare (with_element old key (inside segment r)) g
under_halts size spare segment old key r TooLong g is halts = subst (Halts size spare (with_element old key (inside segment r))) (sym is) halts
under_halts size spare segment old key r (Stopped s) TooLong is halts = absurd is
under_halts size spare segment old key r (Stopped NoMemory) (Stopped NoMemory) is halts = λ ok. halts (inside_ok segment old key r ok)
under_halts size spare segment old key r (Stopped (Refused x)) (Stopped NoMemory) is halts = λ ok. absurd (refused_element old key r x.value halts (inside_ok segment old key r ok))
under_halts size spare segment old key r (Stopped NoMemory) (Stopped (Refused y)) is halts = absurd is
under_halts size spare segment old key r (Stopped (Refused x)) (Stopped (Refused y)) is halts = inside_err segment old key r x.value y.value (in_of segment x.value y.value is.0 is.1) halts

element_ok : (old begun : Bytes) (key : Utf8) (r : Writing Tree) → IsOk (with_element old key r) → IsOk (with_tree begun r)
element_ok old begun key (Ok t) h = refl
element_ok old begun key (Err f) h = absurd cc

element_err : (old begun : Bytes) (key : Utf8) (r : Writing Tree) (x : code.Refused Fault) → with_tree begun r ≡ Err (refusal x) → with_element old key r ≡ Err (refusal x)
element_err old begun key (Ok t) x e = absurd cc
element_err old begun key (Err f) x e = let same : f ≡ refusal x = cc in ap Err same

-- why a value is not written, seen from its element
pub element_halts : (size : ℕ) (key : Utf8) (r : Writing Tree) (h : Halt) (old begun : Output) (before now : ℕ) → Appended old begun (front key) before now → Halts size begun.spare (with_tree begun.bytes r) h → Halts (length key + 2 + size) old.spare (with_element old.bytes key r) h
element_halts size key r TooLong old begun before now a halts = omega (arith, halts)
element_halts size key r (Stopped NoMemory) old begun before now a halts = λ ok. omega (arith, halts (element_ok old.bytes begun.bytes key r ok), a.spare, length-append key (0 ∷ []))
element_halts size key r (Stopped (Refused x)) old begun before now a halts = element_err old.bytes begun.bytes key r x.value halts

-- an element that was appended, and what was to come behind it
pub element_on : {A B : Type 0} (bytes : A → Bytes) (rest : B → Bytes) (join : Tree → B → A) (key : Utf8) (r : Writing Tree) (s : Writing B) (old new : Bytes) → ((t : Tree) (x : B) → bytes (join t x) ≡ element (kind t) key (enc t) ++ rest x)
    → with_element old key r ≡ Ok new → with_bytes rest new s ≡ with_bytes bytes old (r >>= λ t. s >>= λ x. Ok (join t x))
element_on bytes rest join key (Err f) s old new joins e = absurd cc
element_on bytes rest join key (Ok t) (Err f) old new joins e = refl
element_on bytes rest join key (Ok t) (Ok x) old new joins e =
    sym (ap (λ b. Ok (old ++ b)) (joins t x) ∙ ap Ok (sym (append_assoc old (element (kind t) key (enc t)) (rest x))) ∙ ap (λ b. Ok (b ++ rest x)) (ok_is _ new e))
