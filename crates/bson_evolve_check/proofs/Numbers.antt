-- The numbers of parts that were seen through.
use Rattle.std.proofs.Common.{◌≡◌, ℕ, ◌<◌, Ordering, Less, Equal, Greater, Bool, true, false, cond, List, [], ◌∷◌, ◌++◌, length, Some, None, refl, ap, sym, subst, ◌∙◌, ◌⊎◌, inl, inr, string_bytes, Ok}
use Rattle.std.specs.Prelude.{◌&&◌}
use Rattle.std.specs.BTreeMap.{get, is_at, BTreeMap, IsEmpty}
use Rattle.std.specs.Cmp.{tied_then}
use Rattle.std.specs.Ordering.{is_eq, nat_cmp, ordering_then, MatchOrdering}
use Rattle.std.proofs.lemmas.Cmp.{nat_cmp_total, eq_by_cmp_equiv, ranked}
use Rattle.std.proofs.lemmas.List.{map-append}
use Rattle.std.proofs.lemmas.Map.Text.{is_eq-slice_cmp}
use Rattle.std.proofs.lemmas.Slice.Eq.{bytes_eq-Decides}
use Rattle.std.specs.Global.{Vec}
use Rattle.std.specs.Map.{lookup}
use Rattle.bson_kinds.proofs.Outcomes.{some_is}
use Rattle.bson_shape.specs.Form.{Form, Fields}
use Rattle.bson_shape.specs.Machine as machine
use Rattle.bson_shape.specs.Makers.{IsShape}
use Rattle.bson_shape.specs.Notation.{text}
use Rattle.bson_evolve_laws.specs.Placed.{Placed}
use Rattle.bson_evolve_check.specs.Numbering.{origin_cmp, part_cmp, parts_in, places_in, AreGood, AreMore, IsNumbering, IsPart, IsPartKey, Origin, PartKey}
use Rattle.bson_evolve_check.specs.Placing.{place_view, tables_in, AreDifferent, Extends, IsAt, IsMore, IsTable}
use Rattle.bson_evolve_check.specs.declared.parts.Part.{Part}
use Rattle.bson_evolve_check.specs.declared.parts.Parts.{Parts}
use Rattle.bson_evolve_check.specs.declared.place.Place.{Place}
use Rattle.bson_evolve_check.specs.declared.tables.Tables.{Tables}
use Rattle.bson_evolve_check.proofs.Placings.{at_end, at_last, at_left, at_longer, at_map, at_more, at_one, both_true, extends_both, more_both, more_none, of_map}

-- the notation of a shape is read as that shape
abbrev pub Reads : Type 0
Reads = (f : Form) → IsShape f → machine.parsed (text f) ≡ Ok f

same_text : Reads → (a b : Form) → IsShape a → IsShape b → text a ≡ text b → a ≡ b
same_text reads a b p q e = let both : machine.parsed (text a) ≡ machine.parsed (text b) = ap machine.parsed e in let same : Ok a ≡ Ok b = sym (reads a p) ∙ both ∙ reads b q in cc

true_both : (a b : Bool) → a ≡ true → b ≡ true → (a && b) ≡ true
true_both true b e f = f
true_both false b e f = absurd (let both : false ≡ true = e in cc)

pub then_both : (o p : Ordering) → is_eq (ordering_then o p) ≡ true → (is_eq o ≡ true) × (is_eq p ≡ true)
then_both o p e = both_true (is_eq o) (is_eq p) (tied_then o p ∙ e)

pub both_then : (o p : Ordering) → is_eq o ≡ true → is_eq p ≡ true → is_eq (ordering_then o p) ≡ true
both_then o p e f = sym (tied_then o p) ∙ true_both (is_eq o) (is_eq p) e f

pub same_number : (x y : ℕ) → is_eq (nat_cmp x y) ≡ true → x ≡ y
same_number x y e = by_order (nat_cmp x y) e (ranked x y (nat_cmp x y) refl) where
  by_order : (r : Ordering) → is_eq r ≡ true → MatchOrdering r (x < y) (x ≡ y) (y < x) → x ≡ y
  by_order Less e m = absurd cc
  by_order Equal e m = m
  by_order Greater e m = absurd cc

pub number_same : (x y : ℕ) → x ≡ y → is_eq (nat_cmp x y) ≡ true
number_same x y e = ap (λ n. is_eq (nat_cmp x n)) (sym e) ∙ (eq_by_cmp_equiv nat_cmp_total).refl x

-- ---- keys of parts

key_parts : (k l : PartKey) → is_eq (part_cmp k l) ≡ true → (k.0 ≡ l.0) × (string_bytes k.1 ≡ string_bytes l.1)
key_parts k l e =
    let r = then_both (nat_cmp k.0 l.0) _ e in
    (same_number k.0 l.0 r.0, (bytes_eq-Decides (string_bytes k.1) (string_bytes l.1)).0 (sym (is_eq-slice_cmp (string_bytes k.1) (string_bytes l.1)) ∙ r.1))

parts_key : (k l : PartKey) → k.0 ≡ l.0 → string_bytes k.1 ≡ string_bytes l.1 → is_eq (part_cmp k l) ≡ true
parts_key k l e f =
    both_then (nat_cmp k.0 l.0) _ (number_same k.0 l.0 e) (is_eq-slice_cmp (string_bytes k.1) (string_bytes l.1) ∙ (bytes_eq-Decides (string_bytes k.1) (string_bytes l.1)).1 f)

-- keys of one part are equal, and a part has each key that is equal to one of its keys
key_same : (p : Place) (k l : PartKey) → IsPartKey p k → IsPartKey p l → is_eq (part_cmp k l) ≡ true
key_same p k l a b = parts_key k l (a.number ∙ sym b.number) (a.notation ∙ sym b.notation)

same_key : (p : Place) (k l : PartKey) → IsPartKey p k → is_eq (part_cmp k l) ≡ true → IsPartKey p l
same_key p k l a e = let r = key_parts k l e in record { number = sym r.0 ∙ a.number; notation = sym r.1 ∙ a.notation; shape = a.shape }

key_back : (p : Place) (k l : PartKey) → IsPartKey p l → is_eq (part_cmp k l) ≡ true → IsPartKey p k
key_back p k l a e = let r = key_parts k l e in record { number = r.0 ∙ a.number; notation = r.1 ∙ a.notation; shape = a.shape }

pub key_more : (p q : Place) (k : PartKey) → p.table.number ≡ q.table.number → p.shape.now ≡ q.shape.now → IsPartKey p k → IsPartKey q k
key_more p q k e f a = record { number = a.number ∙ e; notation = a.notation ∙ ap text f; shape = subst IsShape f a.shape }

-- places of one key are one part
pub part_same : Reads → (tables : List Fields) (p q : Place) (k : PartKey) → IsTable tables p.table → IsTable tables q.table → IsPartKey p k → IsPartKey q k → place_view p ≡ place_view q
part_same reads tables p q k i j a b =
    let around : (place_view p).around ≡ (place_view q).around =
    at_one tables q.table.number (place_view p).around (place_view q).around (subst (λ n. IsAt tables n (place_view p).around) (sym a.number ∙ b.number) i) j in
    let form : p.shape.now ≡ q.shape.now = same_text reads p.shape.now q.shape.now a.shape b.shape (sym a.notation ∙ b.notation) in
    λ i. record { around = around i; form = form i }

-- ---- no parts

pub numbers_none : (tables : List Fields) (numbers : BTreeMap PartKey ℕ) → IsEmpty numbers → IsNumbering tables [] numbers
numbers_none tables numbers none = record {
  around = λ n p i. absurd i;
  keyed = λ n p i. absurd i;
  kept = λ n p k i. absurd i;
  given = λ k n e. absurd (let both : None ≡ Some n = sym (ap (λ es. lookup (is_at (part_cmp k)) es) none) ∙ e in cc);
}

-- ---- parts of numbers

module _ (tables : List Fields) (known : List Place) (numbers : BTreeMap PartKey ℕ) (h : IsNumbering tables known numbers) where
  -- no two numbers have the same part
  pub parts_different : AreDifferent tables → AreDifferent (places_in known)
  parts_different d i j x a b = by_places (of_map place_view known i x a) (of_map place_view known j x b) where
    by_places : ((p : Place) × IsAt known i p × (place_view p ≡ x)) → ((q : Place) × IsAt known j q × (place_view q ≡ x)) → i ≡ j
    by_places p q =
        let same : place_view p.0 ≡ place_view q.0 = p.2 ∙ sym q.2 in
        let around = ap (λ (y : Placed). y.around) same in
        let form : p.0.shape.now ≡ q.0.shape.now = ap (λ (y : Placed). y.form) same in
        let table : p.0.table.number ≡ q.0.table.number =
        d p.0.table.number q.0.table.number (place_view q.0).around (subst (λ y. IsAt tables p.0.table.number y) around (h.around i p.0 p.1)) (h.around j q.0 q.1) in
        let k = h.keyed i p.0 p.1 in
        some_is i j (sym (h.kept i p.0 k.0 p.1 k.1) ∙ h.kept j q.0 k.0 q.1 (key_more p.0 q.0 k.0 table form k.1))

  -- the number that the map has at the key of a part
  pub number_is : Reads → (p : Place) (k : PartKey) (n : ℕ) → IsTable tables p.table → IsPartKey p k → get part_cmp numbers k ≡ Some n → IsAt (places_in known) n (place_view p)
  number_is reads p k n i a e = by_given (h.given k n e) where
    by_given : ((q : Place) × IsAt known n q × IsPartKey q k) → IsAt (places_in known) n (place_view p)
    by_given q = subst (IsAt (places_in known) n) (part_same reads tables q.0 p k (h.around n q.0 q.1) i q.2 a) (at_map place_view known n q.0 q.1)

  -- ---- one more part

  module _ (p : Place) (k : PartKey) (i : IsTable tables p.table) (a : IsPartKey p k) (new : get part_cmp numbers k ≡ None) (more : BTreeMap PartKey ℕ)
      (updates : (l : PartKey) → get part_cmp more l ≡ cond (is_eq (part_cmp k l)) (Some (length known)) (get part_cmp numbers l)) where
    abbrev all : List Place
    all = known ++ p ∷ []

    by_key : (l : PartKey) → is_eq (part_cmp k l) ≡ true → get part_cmp more l ≡ Some (length known)
    by_key l e = updates l ∙ ap (λ b. cond b (Some (length known)) (get part_cmp numbers l)) e

    by_old : (l : PartKey) → is_eq (part_cmp k l) ≡ false → get part_cmp more l ≡ get part_cmp numbers l
    by_old l e = updates l ∙ ap (λ b. cond b (Some (length known)) (get part_cmp numbers l)) e

    -- no known part has a key that is equal to that of the new part
    other_key : (n : ℕ) (q : Place) (l : PartKey) → IsAt known n q → IsPartKey q l → is_eq (part_cmp k l) ≡ false
    other_key n q l j b = by_case (is_eq (part_cmp k l)) refl where
      by_case : (r : Bool) → is_eq (part_cmp k l) ≡ r → r ≡ false
      by_case true e = absurd (let both : None ≡ Some n = sym new ∙ h.kept n q k j (key_back q k l b e) in cc)
      by_case false e = refl

    at_either : (n : ℕ) (q : Place) → IsAt all n q → IsAt known n q ⊎ ((n ≡ length known) × (p ≡ q))
    at_either n q j = at_last known p q n j

    pub numbers_more : IsNumbering tables all more
    numbers_more = record {
      around = λ n q j. around n q (at_either n q j);
      keyed = λ n q j. keyed n q (at_either n q j);
      kept = λ n q l j b. kept n q l b (at_either n q j);
      given = λ l n e. given l n e (is_eq (part_cmp k l)) refl;
    } where
      around : (n : ℕ) (q : Place) → IsAt known n q ⊎ ((n ≡ length known) × (p ≡ q)) → IsTable tables q.table
      around n q (inl j) = h.around n q j
      around n q (inr j) = subst (λ (r : Place). IsTable tables r.table) j.1 i

      keyed : (n : ℕ) (q : Place) → IsAt known n q ⊎ ((n ≡ length known) × (p ≡ q)) → (l : PartKey) × IsPartKey q l
      keyed n q (inl j) = h.keyed n q j
      keyed n q (inr j) = (k, subst (λ (r : Place). IsPartKey r k) j.1 a)

      kept : (n : ℕ) (q : Place) (l : PartKey) → IsPartKey q l → IsAt known n q ⊎ ((n ≡ length known) × (p ≡ q)) → get part_cmp more l ≡ Some n
      kept n q l b (inl j) = by_old l (other_key n q l j b) ∙ h.kept n q l j b
      kept n q l b (inr j) = by_key l (key_same p k l a (subst (λ (r : Place). IsPartKey r l) (sym j.1) b)) ∙ ap Some (sym j.0)

      given : (l : PartKey) (n : ℕ) → get part_cmp more l ≡ Some n → (r : Bool) → is_eq (part_cmp k l) ≡ r → (q : Place) × IsAt all n q × IsPartKey q l
      given l n e true s =
          let here : length known ≡ n = some_is (length known) n (sym (by_key l s) ∙ e) in
          (p, subst (λ m. IsAt all m p) here (at_end known p), same_key p k l a s)
      given l n e false s = let r = h.given l n (sym (by_old l s) ∙ e) in (r.0, at_left known (p ∷ []) n r.0 r.1, r.2)

    pub parts_more : Extends (places_in all) (places_in known)
    parts_more = (place_view p ∷ [], map-append place_view known (p ∷ []))

pub number_last : (known all : List Place) (p : Place) (n : ℕ) → all ≡ known ++ p ∷ [] → n ≡ length known → IsAt (places_in all) n (place_view p)
number_last known all p n is e = at_map place_view all n p (subst (λ ps. IsAt ps n p) (sym is) (subst (λ m. IsAt (known ++ p ∷ []) m p) (sym e) (at_end known p)))

-- ---- more definitions

pub numbers_wider : (tables more : List Fields) (m : IsMore tables more) (known : List Place) (numbers : BTreeMap PartKey ℕ) → IsNumbering tables known numbers → IsNumbering more known numbers
numbers_wider tables more m known numbers h = record { around = λ n p i. at_more tables more p.table.number _ m (h.around n p i); keyed = h.keyed; kept = h.kept; given = h.given }

pub part_wider : (tables more : List Fields) (m : IsMore tables more) (parts all : List Placed) (l : Extends all parts) (s : Part) → IsPart tables parts s → IsPart more all s
part_wider tables more m parts all l s h =
    record {
      outside = at_more tables more s.place.table.number _ m h.outside;
      table = at_more tables more s.seen.table.number _ m h.table;
      seen = h.seen;
      number = at_longer parts all s.number _ l h.number;
    }

-- ---- parts that are more

pub parts_apart : (p : Parts) → AreGood p → AreDifferent (parts_in p)
parts_apart p g = parts_different (tables_in p.tables) p.known.items p.numbers g.numbered g.different

pub more_numbers : (p q : Parts) → AreMore p q → IsMore (parts_in p) (parts_in q)
more_numbers p q m = record { kept = m.parts; different = parts_apart q m.good }

pub all_same : (p : Parts) → AreGood p → AreMore p p
all_same p g = record { tables = more_none (tables_in p.tables) g.different; parts = (more_none (parts_in p) (parts_apart p g)).kept; good = g }

pub all_both : (p q r : Parts) → AreMore p q → AreMore q r → AreMore p r
all_both p q r m n = record { tables = more_both (tables_in p.tables) (tables_in q.tables) (tables_in r.tables) m.tables n.tables; parts = extends_both (parts_in p) (parts_in q) (parts_in r) m.parts n.parts; good = n.good }

-- ---- what changes

pub nothing_good : (p : Parts) → tables_in p.tables ≡ [] → p.known.items ≡ [] → IsEmpty p.numbers → IsEmpty p.found → AreGood p
nothing_good p no_tables no_known no_numbers no_found = record {
  different = subst AreDifferent (sym no_tables) (λ i j x a b. absurd a);
  numbered = subst (λ ps. IsNumbering (tables_in p.tables) ps p.numbers) (sym no_known) (numbers_none (tables_in p.tables) p.numbers no_numbers);
  found = λ k s e. absurd (let both : None ≡ Some s = sym (ap (λ es. lookup (is_at (origin_cmp k)) es) no_found) ∙ e in cc);
}

module _ (p : Parts) (g : AreGood p) where
  -- more definitions have numbers
  pub with_tables : (t : Tables) → IsMore (tables_in p.tables) (tables_in t) → AreMore p (record p { tables = t })
  with_tables t m =
      let parts : IsMore (parts_in p) (parts_in p) = more_none (parts_in p) (parts_apart p g) in
      record {
        tables = m;
        parts = parts.kept;
        good = record {
          different = m.different;
          numbered = numbers_wider (tables_in p.tables) (tables_in t) m p.known.items p.numbers g.numbered;
          found = λ k s e. part_wider (tables_in p.tables) (tables_in t) m (parts_in p) (parts_in p) parts.kept s (g.found k s e);
        };
      }

  -- one more part has a number
  pub with_number : (q : Place) (k : PartKey) → IsTable (tables_in p.tables) q.table → IsPartKey q k → get part_cmp p.numbers k ≡ None → (known : Vec Place) (numbers : BTreeMap PartKey ℕ) → known.items ≡ p.known.items ++ q ∷ []
      → ((l : PartKey) → get part_cmp numbers l ≡ cond (is_eq (part_cmp k l)) (Some (length p.known.items)) (get part_cmp p.numbers l)) → AreMore p (record p { known = known; numbers = numbers })
  with_number q k i a new known numbers is updates =
      let hs = tables_in p.tables in
      let same : IsMore hs hs = more_none hs g.different in
      let longer : Extends (places_in known.items) (parts_in p) = subst (λ ps. Extends (places_in ps) (parts_in p)) (sym is) (parts_more hs p.known.items p.numbers g.numbered q k i a new numbers updates) in
      record {
        tables = same;
        parts = longer;
        good = record {
          different = g.different;
          numbered = subst (λ ps. IsNumbering hs ps numbers) (sym is) (numbers_more hs p.known.items p.numbers g.numbered q k i a new numbers updates);
          found = λ o s e. part_wider hs hs same (parts_in p) (places_in known.items) longer s (g.found o s e);
        };
      }

  -- a part was found
  pub with_found : (o : Origin) (s : Part) → IsPart (tables_in p.tables) (parts_in p) s → (found : BTreeMap Origin Part) → ((l : Origin) → get origin_cmp found l ≡ cond (is_eq (origin_cmp o l)) (Some s) (get origin_cmp p.found l))
      → AreMore p (record p { found = found })
  with_found o s h found updates =
      record { tables = more_none (tables_in p.tables) g.different; parts = (more_none (parts_in p) (parts_apart p g)).kept; good = record { different = g.different; numbered = g.numbered; found = λ l r e. by_case l r (is_eq (origin_cmp o l)) (sym (updates l) ∙ e) } } where
        by_case : (l : Origin) (r : Part) (b : Bool) → cond b (Some s) (get origin_cmp p.found l) ≡ Some r → IsPart (tables_in p.tables) (parts_in p) r
        by_case l r true e = subst (IsPart (tables_in p.tables) (parts_in p)) (some_is s r e) h
        by_case l r false e = g.found l r e

  -- the part that was found last at an origin, where the same part stands there again
  pub found_again : (o : Origin) (s : Part) (q : Place) → get origin_cmp p.found o ≡ Some s → IsTable (tables_in p.tables) q.table → s.place.table.number ≡ q.table.number → s.place.shape.now ≡ q.shape.now → place_view s.place ≡ place_view q
  found_again o s q e i number form =
      let around : (place_view s.place).around ≡ (place_view q).around =
      at_one (tables_in p.tables) q.table.number (place_view s.place).around (place_view q).around (subst (λ n. IsAt (tables_in p.tables) n (place_view s.place).around) number (g.found o s e).outside) i in
      λ k. record { around = around k; form = form k }
