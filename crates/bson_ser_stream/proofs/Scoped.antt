-- Code with a scope: a place for the length of all, the code, the scope, and the length over its place.
use Rattle.std.proofs.Common.{Bool, ◌≡◌, ℕ, zero, suc, ◌+◌, ◌-◌, ◌≤◌, [], ◌++◌, length, take, drop, Some, Result, Ok, Err, refl, ap, sym, subst, ◌∙◌, append_assoc, arith}
use Rattle.std.specs.Prelude.{codes, IsOk}
use Rattle.std.proofs.lemmas.List.{length-append, take_at, drop_at}
use Rattle.bson_kinds.specs.Outcome.{result_map}
use Rattle.bson_kinds.specs.Text.{Bytes, Utf8}
use Rattle.bson_base.specs.Tree.{Tree, string, document, raw, le32, closed_text, after_total, enc}
use Rattle.bson_kinds.specs.declared.element_type.ElementType.{ElementType}
use Rattle.bson_kinds.specs.declared.element_type.ElementType.TheVariants.{EmbeddedDocument, JavaScriptCodeWithScope}
use Rattle.bson_base.proofs.Lengths.{length-le32, length-text}
use Rattle.bson_kinds.proofs.Outcomes.{map_ok}
use Rattle.bson_values.specs.Refusal.{Refusal, WriteFault, under}
use Rattle.bson_io.specs.Output.{Output, Appended, patched}
use Rattle.bson_laws.specs.Written.{with_scope}
use Rattle.bson_values.specs.Value.{Value, map, raw_document, FieldValues}
use Rattle.bson_reserved.specs.AcceptedView.{IsScope}
use Rattle.bson_laws.specs.Unwrap.{listed, scoped_code}
use Rattle.bson_laws.specs.Spell.{Writing, spell_scoped, scoped_size, enclosed_at, spell_as, spell_entries_as, spell_list, size_as, size_list}
use Rattle.bson_laws.proofs.Listed.{scope_spelled, scope_sized}
use Rattle.bson_laws.proofs.Sizes.{ok_is, under_ok, length-spell}
use Rattle.bson_ser_stream.specs.Writing.{with_tree, length_place, places, count_of}
use Rattle.bson_writing.specs.Halting.{Halts}
use Rattle.bson_ser_stream.specs.Halting.{Grows, Puts, Totals, TotalHalts}
use Rattle.bson_ser_stream.proofs.Ended.{before_patch, length-patched}
use Rattle.bson_ser_stream.proofs.Growth.{Grows-trans, Grows-appended}
use Rattle.bson_writing.specs.declared.halt.Halt.{Halt}
use Rattle.bson_values.specs.declared.stop.Stop.TheVariants.{Refused, NoMemory}
use Rattle.bson_writing.specs.declared.halt.Halt.TheVariants.{Stopped, TooLong}

-- bytes behind a place of four, and the length of all written over the place
totaled : (old b : Bytes) (n : ℕ) → n ≡ length b + 4 → patched ((old ++ length_place) ++ b) (length old) (le32 n) ≡ old ++ after_total b
totaled old b n is =
    let front : take (length old) ((old ++ length_place) ++ b) ≡ old = ap (take (length old)) (append_assoc old length_place b) ∙ take_at old (length_place ++ b) (length old) refl in
    let back : drop (length old + length (le32 n)) ((old ++ length_place) ++ b) ≡ b = drop_at (old ++ length_place) b (length old + length (le32 n)) (omega (arith, length-append old length_place, length-le32 n)) in
    (λ i. (front i ++ le32 (is i)) ++ back i) ∙ append_assoc old (le32 (length b + 4)) b

-- code with a scope is as long as all of it behind its length, and has no more than that place beside those of the scope: the scope is a document, or given by its bytes
abbrev IsWhole : Utf8 → Tree → Type 0
IsWhole code u = (enc (with_scope code u) ≡ after_total (closed_text code ++ enc u)) × (places (with_scope code u) ≤ places u + 4)

whole_in : {A : Type 0} (code : Utf8) (container : A → Tree) (levels : ℕ) (parts : ℕ → Writing A) → ((x : A) → IsWhole code (container x)) → (u : Tree) → enclosed_at container levels parts ≡ Ok u → IsWhole code u
whole_in code container zero parts wholes u e = absurd cc
whole_in code container (suc levels) parts wholes u e = let m = map_ok container (parts levels) u e in subst (IsWhole code) m.2 (wholes m.0)

scope_whole : (code : Utf8) (readable : Bool) (v : Value) (levels : ℕ) → IsScope v → (u : Tree) → spell_as readable v levels ≡ Ok u → IsWhole code u
scope_whole code readable (map es) levels is u e = whole_in code document levels (spell_entries_as readable es) (λ ps. (refl, omega arith)) u e
scope_whole code readable (raw_document bs) levels is u e = whole_in code (raw EmbeddedDocument) levels (λ inside. Ok bs) (λ b. (refl, omega arith)) u e
scope_whole code readable v levels is u e = absurd is

-- the answer for a code, and the place of a length
abbrev spelled : Utf8 → Writing Tree
spelled code = Ok (string code)

abbrev placed : ℕ → Writing ℕ
placed x = Ok x

module _ (code : Utf8) (r : Writing Tree) (n : ℕ) (whole : (u : Tree) → r ≡ Ok u → IsWhole code u) (long : (u : Tree) → r ≡ Ok u → length (enc u) ≡ n) where
  abbrev expected : Writing Tree
  expected = spell_scoped (Some (code, r))

  -- the parts of all that is written of it
  abbrev parts : Tree → Bytes
  parts u = closed_text code ++ enc u

  expected_ok : (old new : Bytes) → with_tree old expected ≡ Ok new → IsOk (with_tree old (under (codes "$scope") r))
  expected_ok old new e = let m = map_ok (λ t. old ++ enc t) expected new e in let k = map_ok (with_scope code) (under (codes "$scope") r) m.0 m.1 in subst (λ x. IsOk (with_tree old x)) (sym k.1) refl

  ok_new : (w : Writing Bytes) → IsOk w → (b : Bytes) × (w ≡ Ok b)
  ok_new (Ok b) h = (b, refl)
  ok_new (Err f) h = absurd cc

  ok_any : (old other : Bytes) → IsOk (with_tree old (under (codes "$scope") r)) → IsOk (with_tree other (under (codes "$scope") r))
  ok_any old other h = let b = ok_new (with_tree old (under (codes "$scope") r)) h in let m = map_ok (λ t. old ++ enc t) (under (codes "$scope") r) b.0 b.1 in subst (λ x. IsOk (with_tree other x)) (sym m.1) refl

  err_expected : (w : Writing Tree) (old other : Bytes) (f : Refusal WriteFault) → with_tree old w ≡ Err f → with_tree other (result_map (with_scope code) w) ≡ Err f
  err_expected (Ok t) old other f e = absurd cc
  err_expected (Err g) old other f e = let same : g ≡ f = cc in ap Err same

  -- no place for the length
  pub unbegun : (h : Halt) (old : Output) (x : ℕ) → Halts 4 old.spare (placed x) h → Halts (length code + 9 + n) old.spare (with_tree old.bytes expected) h
  unbegun (Stopped NoMemory) old x e = λ _. omega (arith, e refl)
  unbegun (Stopped (Refused f)) old x e = absurd cc
  unbegun TooLong old x e = omega (arith, e)

  -- no code
  pub uncoded : (h : Halt) (old begun : Output) (s0 s1 : ℕ) → Appended old begun length_place s0 s1 → Halts (length code + 5) begun.spare (with_tree begun.bytes (spelled code)) h → Halts (length code + 9 + n) old.spare (with_tree old.bytes expected) h
  uncoded (Stopped NoMemory) old begun s0 s1 a e = λ _. omega (arith, e refl, a.spare)
  uncoded (Stopped (Refused f)) old begun s0 s1 a e = absurd cc
  uncoded TooLong old begun s0 s1 a e = omega (arith, e)

  module _ (old begun coded : Output) (start s0 s1 s2 : ℕ) (at : start ≡ length old.bytes) (begins : Appended old begun length_place s0 s1) (grows : Grows begun coded s1 s2) (text : with_tree begun.bytes (spelled code) ≡ Ok coded.bytes) where
    coded_is : begun.bytes ++ closed_text code ≡ coded.bytes
    coded_is = ok_is _ coded.bytes text

    coded_long : length coded.bytes ≡ length old.bytes + length code + 9
    coded_long = omega (arith, ap length coded_is, length-append begun.bytes (closed_text code), length-text code, ap length begins.bytes, length-append old.bytes length_place)

    so_far : Grows old coded s0 s2
    so_far = Grows-trans old begun coded s0 s1 s2 (Grows-appended old begun length_place s0 s1 begins) grows

    -- no scope
    pub unscoped : (h : Halt) → Halts n coded.spare (with_tree coded.bytes (under (codes "$scope") r)) h → Halts (length code + 9 + n) old.spare (with_tree old.bytes expected) h
    unscoped (Stopped NoMemory) e = λ ok.
        let b = ok_new (with_tree old.bytes expected) ok in
        omega (arith, e (ok_any old.bytes coded.bytes (expected_ok old.bytes b.0 b.1)), so_far.room, coded_long)
    unscoped (Stopped (Refused f)) e = err_expected (under (codes "$scope") r) coded.bytes old.bytes _ e
    unscoped TooLong e = omega (arith, e)

    pub Grows-scoped : (filled : Output) (s3 : ℕ) → Grows coded filled s2 s3 → Grows old filled s0 s3
    Grows-scoped filled s3 more = Grows-trans old coded filled s0 s2 s3 so_far more

    module _ (filled : Output) (s3 : ℕ) (more : Grows coded filled s2 s3) (scope : with_tree coded.bytes (under (codes "$scope") r) ≡ Ok filled.bytes) where
      tree_there : (u : Tree) × (under (codes "$scope") r ≡ Ok u) × (coded.bytes ++ enc u ≡ filled.bytes)
      tree_there = map_ok (λ t. coded.bytes ++ enc t) (under (codes "$scope") r) filled.bytes scope

      filled_is : (old.bytes ++ length_place) ++ parts tree_there.0 ≡ filled.bytes
      filled_is =
          let u = tree_there.0 in
          sym (append_assoc (old.bytes ++ length_place) (closed_text code) (enc u)) ∙ ap (λ b. (b ++ closed_text code) ++ enc u) (sym begins.bytes) ∙ ap (λ b. b ++ enc u) coded_is ∙ tree_there.2

      scope_long : length (enc tree_there.0) ≡ n
      scope_long = long tree_there.0 (under_ok (codes "$scope") r tree_there.0 tree_there.1)

      filled_long : length filled.bytes ≡ start + (length code + 9 + n)
      filled_long = omega (arith, ap length tree_there.2, length-append coded.bytes (enc tree_there.0), coded_long, scope_long, at)

      pub untotaled : (h : Halt) → TotalHalts filled start h → Halts (length code + 9 + n) old.spare (with_tree old.bytes expected) h
      untotaled (Stopped s) e = absurd e
      untotaled TooLong e = omega (arith, e, filled_long)

      -- the scope was written, and so many bytes of it twice
      abbrev ScopeLeast : Type 0
      ScopeLeast = s2 + length filled.bytes + count_of places r ≤ s3 + length coded.bytes

      scoped_places : count_of places expected ≤ count_of places r + 4
      scoped_places =
          let u = tree_there.0 in
          let there : r ≡ Ok u = under_ok (codes "$scope") r u tree_there.1 in
          let made : count_of places expected ≡ places (with_scope code u) = ap (λ x. count_of places (result_map (with_scope code) x)) tree_there.1 in
          let inner : count_of places r ≡ places u = ap (count_of places) there in
          omega (arith, made, inner, (whole u there).1)

      pub puts_scoped : (new : Output) (s4 : ℕ) → Totals filled new start s3 s4 → ScopeLeast → Puts JavaScriptCodeWithScope (length code + 9 + n) expected old new s0 s4 (Ok JavaScriptCodeWithScope)
      puts_scoped new s4 total least =
          let u = tree_there.0 in
          let m : ℕ = length filled.bytes - start in
          let count : m ≡ length (parts u) + 4 = omega (arith, at, ap length filled_is, length-append (old.bytes ++ length_place) (parts u), length-append old.bytes length_place) in
          let grown = Grows-scoped filled s3 more in
          let same : length new.bytes ≡ length filled.bytes = ap length total.bytes ∙ length-patched filled.bytes (le32 m) start (omega (arith, length-le32 m, filled_long)) in
          record {
            kind = refl;
            bytes = ap (λ x. with_tree old.bytes (result_map (with_scope code) x)) tree_there.1
                ∙ ap (λ b. Ok (old.bytes ++ b)) (whole u (under_ok (codes "$scope") r u tree_there.1)).0
                ∙ ap Ok (sym (totaled old.bytes (parts u) m count))
                ∙ ap (λ b. Ok (patched b (length old.bytes) (le32 m))) filled_is
                ∙ ap (λ k. Ok (patched filled.bytes k (le32 m))) (sym at)
                ∙ ap Ok (sym total.bytes);
            fits = omega (arith, filled_long, total.fits);
            grows = record {
              kept = ap (λ k. take k new.bytes) (sym at) ∙ ap (take start) total.bytes ∙ before_patch filled.bytes (le32 m) start (omega (arith, filled_long)) ∙ ap (λ k. take k filled.bytes) at ∙ grown.kept;
              room = omega (arith, grown.room, total.spare, same);
              least = omega (arith, grown.least, total.steps, same);
              most = omega (arith, begins.steps, ap length begins.bytes, length-append old.bytes length_place, grows.most, more.most, total.steps, same);
            };
            least = omega (arith, begins.steps, ap length begins.bytes, length-append old.bytes length_place, grows.least, least, scoped_places, total.steps, same);
          }

-- the code and the scope that the fields of a struct are accepted as
module _ (readable : Bool) (fs : FieldValues) (levels : ℕ) (code : Utf8) (v : Value) (is : scoped_code (listed fs []) ≡ Some (code, v)) (is_scope : IsScope v) where
  -- the struct was appended, or there is a reason not to
  abbrev pub PutsScoped : Output → Output → ℕ → ℕ → Result ElementType Halt → Type 0
  PutsScoped old new before now r = Puts JavaScriptCodeWithScope (scoped_size (scoped_code (size_list readable fs []))) (spell_scoped (scoped_code (spell_list readable fs levels []))) old new before now r

  abbrev written : Writing Tree
  written = spell_as readable v levels

  abbrev n : ℕ
  n = size_as readable v

  found : (old new : Output) (before now : ℕ) (r : Result ElementType Halt) → Puts JavaScriptCodeWithScope (length code + 9 + n) (spell_scoped (Some (code, written))) old new before now r → PutsScoped old new before now r
  found old new before now r h =
      subst (λ x. Puts JavaScriptCodeWithScope (scoped_size x) (spell_scoped (scoped_code (spell_list readable fs levels []))) old new before now r) (sym (scope_sized readable fs code v is))
      (subst (λ x. Puts JavaScriptCodeWithScope (length code + 9 + n) (spell_scoped x) old new before now r) (sym (scope_spelled readable fs levels code v is)) h)

  halted : (old new : Output) (before now : ℕ) (r : Result ElementType Halt) (h : Halt) → r ≡ Err h → Grows old new before now → Halts (length code + 9 + n) old.spare (with_tree old.bytes (spell_scoped (Some (code, written)))) h → PutsScoped old new before now r
  halted old new before now r h e grows halts = found old new before now r (subst (Puts JavaScriptCodeWithScope (length code + 9 + n) (spell_scoped (Some (code, written))) old new before now) (sym e) (record { kind = tt; bytes = halts; fits = tt; grows = grows; least = tt }))

  -- no place for the length
  pub halts_begin : (old new : Output) (before now : ℕ) (r : Result ElementType Halt) (h : Halt) (x : ℕ) → r ≡ Err h → Grows old new before now → Halts 4 old.spare (placed x) h → PutsScoped old new before now r
  halts_begin old new before now r h x e grows halts = halted old new before now r h e grows (unbegun code written n (scope_whole code readable v levels is_scope) (length-spell readable v levels) h old x halts)

  module _ (old begun : Output) (s0 s1 : ℕ) (begins : Appended old begun length_place s0 s1) where
    -- no code
    pub halts_code : (new : Output) (now : ℕ) (r : Result ElementType Halt) (h : Halt) → r ≡ Err h → Grows begun new s1 now → Halts (length code + 5) begun.spare (with_tree begun.bytes (spelled code)) h → PutsScoped old new s0 now r
    halts_code new now r h e grows halts =
        halted old new s0 now r h e (Grows-trans old begun new s0 s1 now (Grows-appended old begun length_place s0 s1 begins) grows) (uncoded code written n (scope_whole code readable v levels is_scope) (length-spell readable v levels) h old begun s0 s1 begins halts)

    module _ (coded : Output) (start s2 : ℕ) (starts : placed (length old.bytes) ≡ Ok start) (text : with_tree begun.bytes (spelled code) ≡ Ok coded.bytes) (grows : Grows begun coded s1 s2) where
      at : start ≡ length old.bytes
      at = sym (ok_is (length old.bytes) start starts)

      -- no scope
      pub halts_scope : (new : Output) (now : ℕ) (r : Result ElementType Halt) (h : Halt) → r ≡ Err h → Grows coded new s2 now → Halts n coded.spare (with_tree coded.bytes (under (codes "$scope") written)) h → PutsScoped old new s0 now r
      halts_scope new now r h e more halts =
          halted old new s0 now r h e (Grows-scoped code written n (scope_whole code readable v levels is_scope) (length-spell readable v levels) old begun coded start s0 s1 s2 at begins grows text new now more)
          (unscoped code written n (scope_whole code readable v levels is_scope) (length-spell readable v levels) old begun coded start s0 s1 s2 at begins grows text h halts)

      module _ (filled : Output) (s3 : ℕ) (more : Grows coded filled s2 s3) (scope : with_tree coded.bytes (under (codes "$scope") written) ≡ Ok filled.bytes) where
        -- too many bytes
        pub halts_total : (new : Output) (now : ℕ) (r : Result ElementType Halt) (h : Halt) → r ≡ Err h → Grows filled new s3 now → TotalHalts filled start h → PutsScoped old new s0 now r
        halts_total new now r h e last halts =
            halted old new s0 now r h e (Grows-trans old filled new s0 s3 now (Grows-scoped code written n (scope_whole code readable v levels is_scope) (length-spell readable v levels) old begun coded start s0 s1 s2 at begins grows text filled s3 more) last)
            (untotaled code written n (scope_whole code readable v levels is_scope) (length-spell readable v levels) old begun coded start s0 s1 s2 at begins grows text filled s3 more scope h halts)

        pub puts_total : (new : Output) (now : ℕ) → Totals filled new start s3 now → s2 + length filled.bytes + count_of places written ≤ s3 + length coded.bytes → PutsScoped old new s0 now (Ok JavaScriptCodeWithScope)
        puts_total new now total least = found old new s0 now (Ok JavaScriptCodeWithScope) (puts_scoped code written n (scope_whole code readable v levels is_scope) (length-spell readable v levels) old begun coded start s0 s1 s2 at begins grows text filled s3 more scope new now total least)
