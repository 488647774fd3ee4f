-- The walk of an edited document is the walk that was made.
use Rattle.std.proofs.Common.{◌≡◌, ℕ, ◌+◌, ◌-◌, ◌≤◌, length, Bool, true, false, cond, Option, Some, None, Result, Ok, Err, refl, ap, sym, subst, ◌∙◌, arith}
use Rattle.std.specs.Prelude.{nat_lt, ◌||◌}
use Rattle.std.specs.Str.{is_utf8}
use Rattle.std.proofs.lemmas.Bool.{ltb-false}
use Rattle.bson_kinds.specs.Text.{Bytes, Utf8, has_zero}
use Rattle.bson_kinds.specs.Outcome.{◌>>=◌, result_map}
use Rattle.bson_kinds.specs.declared.element_type.ElementType.{ElementType}
use Rattle.bson_kinds.specs.declared.element_type.ElementType.TheVariants.{Double, String, EmbeddedDocument, Array, Binary, Undefined, ObjectId, Boolean, DateTime, Null, RegularExpression, DbPointer, JavaScriptCode, Symbol, JavaScriptCodeWithScope, Int32, Timestamp, Int64, Decimal128, MaxKey, MinKey}
use Rattle.bson_kinds.proofs.Outcomes.{bind_ok, map_ok}
use Rattle.bson_base.specs.Sound.{max_bytes}
use Rattle.bson_base.specs.Tree.{Tree, kind, enc, depth, enclosed}
use Rattle.bson_faults.specs.declared.raw.Error.{Error}
use Rattle.bson_rawdoc.specs.Envelope.{envelope, inside}
use Rattle.bson_rawdoc.specs.Extent.{extent}
use Rattle.bson_rawdoc.specs.Walk.{Element, Walk, ended, faulty, then_walk, walk_elements, walk}
use Rattle.bson_laws.proofs.Closed.{inside_again}
use Rattle.bson_laws.proofs.Framed.{frame}
use Rattle.bson_values.specs.Refusal.{Segment, at_key, inside as at_segment}
use Rattle.bson_editing.specs.Edited.{Value, value_of, with_key, Changing, Editing, Outcome, Around, segment, new_key, has_key, renamed, refused, taken, too_long, too_deep, in_place, each_edited, behind, joined, enclosed_within, all_edited, of_envelope, nested, changed, with_nested, absent, new_value, put_value, put_absent, chosen, edited_as, edited_by, missing_by, edited_walk, edited_in, edited}
use Rattle.bson_editing.specs.Plan.{Edit, keep, drop_it, change, inside_it, Steps, no_steps, step, is_for}
use Rattle.bson_editing.specs.Settled.{GivesValues, IsName, IsLiteral, IsNameOf, AreNames}
use Rattle.bson_editing.proofs.Again.{IsGood, IsWhole, AreGood, walk_joined, walk_good, enclosed_whole}
use Rattle.bson_editing.proofs.Edits.{each_whole}

-- ---- good elements

abbrev pub IsGoodOption : Option Element → Type 0
IsGoodOption None = Unit {0}
IsGoodOption (Some e) = IsGood e

-- What is made of good elements is good.
abbrev pub MakesGood : {X : Type 0} → (ℕ → Element → Outcome X) → Type 0
MakesGood f = (i : ℕ) (x : Element) (o : Option Element) → IsGood x → f i x ≡ Ok o → IsGoodOption o

in_place_good : (o : Option Element) (w : Walk) → IsGoodOption o → AreGood w → AreGood (in_place o w)
in_place_good None w h hs = hs
in_place_good (Some e) w h hs = (h, hs)

made_good : {X : Type 0} (f : ℕ → Element → Outcome X) → MakesGood f → (i : ℕ) (w m : Walk) → AreGood w → each_edited f i w ≡ Ok m → AreGood m
made_good f goods i ended m good h = let is : ended ≡ m = cc in subst AreGood is tt
made_good f goods i (faulty e) m good h = absurd cc
made_good f goods i (then_walk x w) m good h =
    let a = bind_ok (f i x) (λ p. result_map (in_place p) (each_edited f (i + 1) w)) m h in
    let b = map_ok (in_place a.0) (each_edited f (i + 1) w) m a.2 in
    subst AreGood b.2 (in_place_good a.0 b.0 (goods i x a.0 good.0 a.1) (made_good f goods (i + 1) w b.0 good.1 b.1))

behind_good : (w v : Walk) → AreGood w → AreGood v → AreGood (behind w v)
behind_good ended v g h = h
behind_good (faulty e) v g h = tt
behind_good (then_walk x w) v g h = (g.0, behind_good w v g.1 h)

behind_whole : (w v : Walk) → IsWhole w → IsWhole v → IsWhole (behind w v)
behind_whole ended v g h = h
behind_whole (faulty e) v g h = absurd g
behind_whole (then_walk x w) v g h = behind_whole w v g h

-- ---- a document that was made

-- these are the elements that were made, and the document of them
pub record IsMade {X : Type 0} (f : ℕ → Element → Outcome X) (missing : Editing X Walk) (w : Walk) (c : Bytes) : Type 0 where
  pub done : Walk
  pub more : Walk
  pub each : each_edited f 0 w ≡ Ok done
  pub put : missing ≡ Ok more
  pub is : c ≡ enclosed (joined (behind done more))
  pub fits : length (joined (behind done more)) + 5 ≤ max_bytes

enclosed_is : {X : Type 0} (b : Bool) (body c : Bytes) → nat_lt max_bytes (length body + 5) ≡ b → cond {A = Editing X Bytes} b (refused too_long) (Ok (enclosed body)) ≡ Ok c → (c ≡ enclosed body) × (length body + 5 ≤ max_bytes)
enclosed_is true body c is h = absurd cc
enclosed_is false body c is h = let same : enclosed body ≡ c = cc in (sym same, omega (arith, ltb-false _ _ is))

pub made_is : {X : Type 0} (f : ℕ → Element → Outcome X) (missing : Editing X Walk) (w : Walk) (c : Bytes) → (all_edited f missing w >>= λ v. enclosed_within (joined v)) ≡ Ok c → IsMade f missing w c
made_is f missing w c h =
    let v = bind_ok (all_edited f missing w) (λ v. enclosed_within (joined v)) c h in
    let d = bind_ok (each_edited f 0 w) (λ d. result_map (behind d) missing) v.0 v.1 in
    let m = map_ok (behind d.0) missing v.0 d.2 in
    let e = enclosed_is (nat_lt max_bytes (length (joined v.0) + 5)) (joined v.0) c refl v.2 in
    record { done = d.0; more = m.0; each = d.1; put = m.1; is = e.0 ∙ ap (λ x. enclosed (joined x)) (sym m.2); fits = subst (λ x. length (joined x) + 5 ≤ max_bytes) (sym m.2) e.1 }

-- what was missing is there, and good
pub record AreMore (v : Walk) : Type 0 where
  pub whole : IsWhole v
  pub good : AreGood v

-- the walk of the document is that of the elements
pub walk_made : {X : Type 0} (f : ℕ → Element → Outcome X) (missing : Editing X Walk) (b c : Bytes) → MakesGood f → ((v : Walk) → missing ≡ Ok v → AreMore v) → (m : IsMade f missing (walk b) c) → walk c ≡ behind m.done m.more
walk_made f missing b c goods mores m =
    let more = mores m.more m.put in
    let w = behind m.done m.more in
    ap walk m.is ∙ ap walk_elements (inside_again (length (joined w) + 5) (joined w))
    ∙ walk_joined w (behind_whole m.done m.more (each_whole f 0 (walk b) m.done m.each) more.whole) (behind_good m.done m.more (made_good f goods 0 (walk b) m.done (walk_good (inside b)) m.each) more.good)

-- ---- each element

nested_whole : (k : ElementType) (array : Bool) (body : Bytes) → nested k ≡ Some array → length body + 5 ≤ max_bytes → extent k (enclosed body) ≡ Ok (length (enclosed body))
nested_whole EmbeddedDocument array body is small = (enclosed_whole body (omega (arith, small))).0
nested_whole Array array body is small = (enclosed_whole body (omega (arith, small))).1
nested_whole Double array body is small = absurd cc
nested_whole String array body is small = absurd cc
nested_whole Binary array body is small = absurd cc
nested_whole Undefined array body is small = absurd cc
nested_whole ObjectId array body is small = absurd cc
nested_whole Boolean array body is small = absurd cc
nested_whole DateTime array body is small = absurd cc
nested_whole Null array body is small = absurd cc
nested_whole RegularExpression array body is small = absurd cc
nested_whole DbPointer array body is small = absurd cc
nested_whole JavaScriptCode array body is small = absurd cc
nested_whole Symbol array body is small = absurd cc
nested_whole JavaScriptCodeWithScope array body is small = absurd cc
nested_whole Int32 array body is small = absurd cc
nested_whole Timestamp array body is small = absurd cc
nested_whole Int64 array body is small = absurd cc
nested_whole Decimal128 array body is small = absurd cc
nested_whole MaxKey array body is small = absurd cc
nested_whole MinKey array body is small = absurd cc

-- a document that was made has one envelope
pub from_envelope : {X : Type 0} (g : Bytes → Editing X Bytes) (b c : Bytes) (o : Result Bytes Error) → envelope b ≡ o → of_envelope g o ≡ Ok c → g b ≡ Ok c
from_envelope g b c (Err e) is h = absurd cc
from_envelope g b c (Ok same) is h = ap g (frame b same is).0 ∙ h

abbrev outcome : {X : Type 0} → Option Element → Outcome X
outcome o = Ok o

good_value : {X : Type 0} (key : Utf8) (v : Value) (o : Option Element) → is_utf8 key ≡ true → has_zero key ≡ false → extent v.kind v.bytes ≡ Ok (length v.bytes) → outcome {X = X} (Some (with_key key v)) ≡ outcome o → IsGoodOption o
good_value key v o text clean whole h =
    let is : Some (with_key key v) ≡ o = cc in
    subst IsGoodOption is (record { text = text; no_zero = clean; whole = whole })

changed_good : {X : Type 0} (key : Utf8) (x : Result Value X) (o : Option Element) → ((m : Value) → x ≡ Ok m → extent m.kind m.bytes ≡ Ok (length m.bytes)) → is_utf8 key ≡ true → has_zero key ≡ false → changed key x ≡ Ok o → IsGoodOption o
changed_good key (Err x) o whole text clean h = absurd cc
changed_good key (Ok m) o whole text clean h = good_value key m o text clean (whole m refl) h

nested_good : {X : Type 0} (r : Changing X) (steps : Steps) (levels : ℕ) (key : Utf8) (v : Value) (n : Option Bool) (o : Option Element) → nested v.kind ≡ n → extent v.kind v.bytes ≡ Ok (length v.bytes) → is_utf8 key ≡ true → has_zero key ≡ false
    → with_nested (edited_in r steps) levels key v n ≡ Ok o → IsGoodOption o
nested_good r steps levels key v None o is whole text clean h = good_value key v o text clean whole h
nested_good {X} r steps levels key v (Some array) o is whole text clean h =
    let f = edited_in r steps array (levels - 1) in
    let c = map_ok (λ b. Some (record { kind = v.kind; key = key; value = b })) (of_envelope f (envelope v.bytes)) o h in
    let a : Around = record { array = array; levels = levels - 1; elements = walk v.bytes } in
    let m = made_is (edited_by r steps a) (missing_by r steps a) (walk v.bytes) c.0 (from_envelope f v.bytes c.0 (envelope v.bytes) refl c.1) in
    let body = joined (behind m.done m.more) in
    let value : Value = record { kind = v.kind; bytes = c.0 } in
    good_value key value o text clean (subst (λ b. extent v.kind b ≡ Ok (length b)) (sym m.is) (nested_whole v.kind array body is m.fits)) (ap (outcome {X = X}) c.2)

as_good : {X : Type 0} (r : Changing X) (edit : Edit) (levels : ℕ) (key : Utf8) (v : Value) (o : Option Element) → GivesValues r → extent v.kind v.bytes ≡ Ok (length v.bytes) → is_utf8 key ≡ true → has_zero key ≡ false → edited_as r edit levels key v ≡ Ok o
    → IsGoodOption o
as_good r keep levels key v o values whole text clean h = good_value key v o text clean whole h
as_good r drop_it levels key v o values whole text clean h = let is : None ≡ o = cc in subst IsGoodOption is tt
as_good r (change n) levels key v o values whole text clean h = changed_good key (r n levels v) o (λ m is. values n levels v m whole is) text clean h
as_good r (inside_it steps) levels key v o values whole text clean h = nested_good r steps levels key v (nested v.kind) o refl whole text clean h

abbrev IsKey : Utf8 → Type 0
IsKey key = (is_utf8 key ≡ true) × (has_zero key ≡ false)

pub given : {X : Type 0} (b : Bool) (x : Editing X Utf8) (to key : Utf8) → ((k : Utf8) → x ≡ Ok k → ⊥) → cond b x (Ok to) ≡ Ok key → to ≡ key
given true x to key none h = absurd (none key h)
given false x to key none h = cc

pub never : {X : Type 0} (to : Utf8) (k : Utf8) → refused {X = X} (taken to) ≡ Ok k → ⊥
never to k e = cc

named : {X : Type 0} (to : Option Utf8) (key new : Utf8) (w : Walk) → IsName to → IsKey key → new_key {X = X} to key w ≡ Ok new → IsKey new
named None key new w name good h = let is : key ≡ new = cc in subst IsKey is good
named {X} (Some to) key new w name good h = subst IsKey (given (has_key to w) (refused {X = X} (taken to)) to new (never {X = X} to) h) name

pub inside_is : {X A : Type 0} (s : Segment) (x : Editing X A) (o : A) → at_segment s x ≡ Ok o → x ≡ Ok o
inside_is s (Ok m) o h = h
inside_is s (Err r) o h = absurd cc

step_good : {X : Type 0} (r : Changing X) (edit : Edit) (to : Option Utf8) (a : Around) (i : ℕ) (e : Element) (rest : Outcome X) (o : Option Element) (b : Bool) → GivesValues r → IsName to → IsGood e → (rest ≡ Ok o → IsGoodOption o)
    → chosen b (at_segment (segment a i e.key) (renamed (λ key. edited_as r edit a.levels key (value_of e)) to e.key a.elements)) rest ≡ Ok o → IsGoodOption o
step_good r edit to a i e rest o true values name good later h =
    let n = bind_ok (new_key to e.key a.elements) (λ key. edited_as r edit a.levels key (value_of e)) o (inside_is (segment a i e.key) (renamed (λ key. edited_as r edit a.levels key (value_of e)) to e.key a.elements) o h) in
    let key = named to e.key n.0 a.elements name (good.text, good.no_zero) n.1 in
    as_good r edit a.levels n.0 (value_of e) o values good.whole key.0 key.1 n.2
step_good r edit to a i e rest o false values name good later h = later h

pub makes_good : {X : Type 0} (r : Changing X) (steps : Steps) (a : Around) → GivesValues r → AreNames steps → MakesGood (edited_by r steps a)
makes_good {X} r no_steps a values names i e o good h = let is : outcome {X = X} (Some e) ≡ outcome o = h in let same : Some e ≡ o = cc in subst IsGoodOption same good
makes_good r (step name to missing edit rest) a values names i e o good h =
    step_good r edit to a i e (edited_by r rest a i e) o (is_for a.array name e.key) values names.0 good (λ later. makes_good r rest a values names.2 i e o good later) h

-- ---- what was missing

new_is : {X : Type 0} (deep long : Bool) (t : Tree) (v : Value) → nat_lt max_bytes (length (enc t)) ≡ long → cond deep (refused {X = X} too_deep) (cond long (refused too_long) (Ok (record { kind = kind t; bytes = enc t }))) ≡ Ok v
    → (record { kind = kind t; bytes = enc t } ≡ v) × (length (enc t) ≤ max_bytes)
new_is true long t v is h = absurd cc
new_is false true t v is h = absurd cc
new_is false false t v is h = (cc, omega (arith, ltb-false _ _ is))

value_good : {X : Type 0} (r : Changing X) (edit : Edit) (levels : ℕ) (name : Utf8) (t : Tree) (o : Option Element) → GivesValues r → IsKey name → IsLiteral (Some t) → put_value (λ key v. edited_as r edit levels key v) levels name t ≡ Ok o → IsGoodOption o
value_good r edit levels name t o values key literal h =
    let v = bind_ok (new_value levels t) (λ v. edited_as r edit levels name v) o h in
    let n = new_is (nat_lt levels (depth t)) (nat_lt max_bytes (length (enc t))) t v.0 refl v.1 in
    as_good r edit levels name v.0 o values (subst (λ (w : Value). extent w.kind w.bytes ≡ Ok (length w.bytes)) n.0 (literal n.1)) key.0 key.1 v.2

absent_good : {X : Type 0} (r : Changing X) (edit : Edit) (levels : ℕ) (name : Utf8) (t : Tree) (o : Option Element) (b : Bool) → GivesValues r → IsKey name → IsLiteral (Some t)
    → put_absent (λ key v. edited_as r edit levels key v) levels (cond b None (Some (name, t))) ≡ Ok o → IsGoodOption o
absent_good {X} r edit levels name t o true values key literal h = let is : outcome {X = X} None ≡ outcome o = h in let same : None ≡ o = cc in subst IsGoodOption same tt
absent_good r edit levels name t o false values key literal h =
    value_good r edit levels name t o values key literal (inside_is (at_key name) (put_value (λ key v. edited_as r edit levels key v) levels name t) o h)

put_good : {X : Type 0} (r : Changing X) (edit : Edit) (a : Around) (name : Option Utf8) (missing : Option Tree) (o : Option Element) → GivesValues r → IsNameOf missing name
    → put_absent (λ key v. edited_as r edit a.levels key v) a.levels (absent a name missing) ≡ Ok o → IsGoodOption o
put_good {X} r edit a None None o values names h = let is : outcome {X = X} None ≡ outcome o = h in let same : None ≡ o = cc in subst IsGoodOption same tt
put_good {X} r edit a None (Some t) o values names h = let is : outcome {X = X} None ≡ outcome o = h in let same : None ≡ o = cc in subst IsGoodOption same tt
put_good {X} r edit a (Some name) None o values names h = let is : outcome {X = X} None ≡ outcome o = h in let same : None ≡ o = cc in subst IsGoodOption same tt
put_good r edit a (Some name) (Some t) o values names h = absent_good r edit a.levels name t o (a.array || has_key name a.elements) values names.0 names.1 h

in_place_whole : (o : Option Element) (w : Walk) → IsWhole w → IsWhole (in_place o w)
in_place_whole None w h = h
in_place_whole (Some e) w h = h

pub missing_good : {X : Type 0} (r : Changing X) (steps : Steps) (a : Around) (v : Walk) → GivesValues r → AreNames steps → missing_by r steps a ≡ Ok v → AreMore v
missing_good r no_steps a v values names h = let is : ended ≡ v = cc in subst AreMore is (record { whole = tt; good = tt })
missing_good r (step name to missing edit rest) a v values names h =
    let o = bind_ok (put_absent (λ key v. edited_as r edit a.levels key v) a.levels (absent a name missing)) (λ o. result_map (in_place o) (missing_by r rest a)) v h in
    let w = map_ok (in_place o.0) (missing_by r rest a) v o.2 in
    let more = missing_good r rest a w.0 values names.2 w.1 in
    subst AreMore w.2 (record { whole = in_place_whole o.0 w.0 more.whole; good = in_place_good o.0 w.0 (put_good r edit a name missing o.0 values names.1 o.1) more.good })

-- The law: each element in its place, and what was missing behind them.
pub in_place_law : {X : Type 0} (r : Changing X) (steps : Steps) (b c : Bytes) → GivesValues r → AreNames steps → edited r steps b ≡ Ok c → edited_walk r steps false 199 (walk b) ≡ Ok (walk c)
in_place_law r steps b c values names h =
    let a : Around = record { array = false; levels = 199; elements = walk b } in
    let m = made_is (edited_by r steps a) (missing_by r steps a) (walk b) c (from_envelope (edited_in r steps false 199) b c (envelope b) refl h) in
    ap (λ d. d >>= λ done. result_map (behind done) (missing_by r steps a)) m.each ∙ ap (result_map (behind m.done)) m.put
    ∙ ap Ok (sym (walk_made (edited_by r steps a) (missing_by r steps a) b c (makes_good r steps a values names) (λ v is. missing_good r steps a v values names is) m))
