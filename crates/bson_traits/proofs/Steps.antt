-- One step of a loop over the items of a sequence.
use Rattle.std.proofs.Common.{◌≡◌, ℕ, ◌+◌, ◌<◌, ◌≤◌, List, [], ◌∷◌, ◌++◌, length, map, get_or, drop, refl, ap, ◌∙◌, sym, subst, arith, Result, Ok, Err}
use Rattle.std.proofs.lemmas.List.{at_drop_more, at_drop_all}
use Rattle.bson_kinds.specs.Outcome.{◌>>=◌, result_map}
use Rattle.bson_values.specs.Value.{Value, sequence, Items, no_items, item}
use Rattle.bson_datum.specs.View.{view, items_view}
use Rattle.bson_datum.specs.declared.datum.Datum.{Datum}
use Rattle.bson_type_data.specs.Answers.{Reading, Writing}
use Rattle.bson_type_data.proofs.Joined.{joined, joined_datum, joined_nothing}
use Rattle.bson_traits.specs.Sequences.{written_items, written_sequence, taken_items}

map_datum : {E : Type 0} (ds : List Datum) (d : Datum) (r : Result Items E) → result_map (joined (items_view (ds ++ d ∷ []))) r ≡ result_map (joined (items_view ds)) (result_map (item (view d)) r)
map_datum ds d (Ok vs) = ap Ok (joined_datum ds d vs)
map_datum ds d (Err e) = refl

written : {A : Type 0} (w : A → Writing Value) (x : A) (v : Value) (r : Writing Items) → w x ≡ Ok v → (w x >>= λ u. result_map (item u) r) ≡ result_map (item v) r
written w x v r e = ap (λ y. y >>= λ u. result_map (item u) r) e

-- one more item is written
pub write_more : {A : Type 0} (w : A → Writing Value) (xs ys : List A) (i : ℕ) (x : A) (ds new : List Datum) (d : Datum) → ys ≡ xs → i < length ys → x ≡ get_or ys i x → w x ≡ Ok (view d) → new ≡ ds ++ d ∷ []
    → result_map (joined (items_view ds)) (written_items w (drop i xs)) ≡ written_items w xs → result_map (joined (items_view new)) (written_items w (drop (i + 1) xs)) ≡ written_items w xs
write_more w xs ys i x ds new d same h is e grown so_far =
    let lt : i < length xs = subst (λ z. i < length z) same h in
    let at : x ≡ get_or xs i x = is ∙ ap (λ z. get_or z i x) same in
    let first : written_items w (drop i xs) ≡ (w (get_or xs i x) >>= λ u. result_map (item u) (written_items w (drop (i + 1) xs))) = at_drop_more (written_items w) xs i x lt in
    let here : w (get_or xs i x) ≡ Ok (view d) = ap w (sym at) ∙ e in
    let left : written_items w (drop i xs) ≡ result_map (item (view d)) (written_items w (drop (i + 1) xs)) = first ∙ written w (get_or xs i x) (view d) _ here in
    ap (λ z. result_map (joined (items_view z)) (written_items w (drop (i + 1) xs))) grown ∙ map_datum ds d _ ∙ ap (result_map (joined (items_view ds))) (sym left) ∙ so_far

-- all are written
pub write_end : {A : Type 0} (w : A → Writing Value) (xs ys : List A) (i : ℕ) (ds : List Datum) → ys ≡ xs → length ys ≤ i → result_map (joined (items_view ds)) (written_items w (drop i xs)) ≡ written_items w xs
    → written_sequence w xs ≡ Ok (sequence (items_view ds))
write_end w xs ys i ds same h so_far =
    ap (result_map sequence) (sym so_far ∙ ap (result_map (joined (items_view ds))) (at_drop_all (written_items w) xs i (subst (λ z. length z ≤ i) same h))) ∙ ap (λ vs. Ok (sequence vs)) (joined_nothing (items_view ds))

append_value : {A C : Type 0} (c : A → C) (xs : List A) (x : A) (cs : List C) → map c (xs ++ x ∷ []) ++ cs ≡ map c xs ++ c x ∷ cs
append_value c [] x cs = refl
append_value c (y ∷ xs) x cs = ap (λ ds. c y ∷ ds) (append_value c xs x cs)

append_nothing : {C : Type 0} (cs : List C) → cs ++ [] ≡ cs
append_nothing [] = refl
append_nothing (c ∷ cs) = ap (λ ds. c ∷ ds) (append_nothing cs)

map_value : {A C E : Type 0} (c : A → C) (xs : List A) (x : A) (r : Result (List C) E) → result_map (λ cs. map c (xs ++ x ∷ []) ++ cs) r ≡ result_map (λ cs. map c xs ++ cs) (result_map (λ cs. c x ∷ cs) r)
map_value c xs x (Ok cs) = ap Ok (append_value c xs x cs)
map_value c xs x (Err e) = refl

given : {C : Type 0} (t : Value → Reading C) (v : Value) (c : C) (r : Reading (List C)) → t v ≡ Ok c → (t v >>= λ y. result_map (λ cs. y ∷ cs) r) ≡ result_map (λ cs. c ∷ cs) r
given t v c r e = ap (λ z. z >>= λ y. result_map (λ cs. y ∷ cs) r) e

-- one more value is made
pub take_step : {A C : Type 0} (c : A → C) (t : Value → Reading C) (xs new : List A) (x : A) (d : Datum) (ds rest : List Datum) (all : Reading (List C)) → ds ≡ d ∷ rest → t (view d) ≡ Ok (c x) → new ≡ xs ++ x ∷ []
    → result_map (λ cs. map c xs ++ cs) (taken_items t (items_view ds)) ≡ all → result_map (λ cs. map c new ++ cs) (taken_items t (items_view rest)) ≡ all
take_step c t xs new x d ds rest all is e grown so_far =
    ap (λ z. result_map (λ cs. map c z ++ cs) (taken_items t (items_view rest))) grown ∙ map_value c xs x _
    ∙ ap (result_map (λ cs. map c xs ++ cs)) (sym (ap (λ z. taken_items t (items_view z)) is ∙ given t (view d) (c x) _ e)) ∙ so_far

-- all are made
pub take_end : {A C : Type 0} (c : A → C) (t : Value → Reading C) (xs : List A) (ds : List Datum) (all : Reading (List C)) → length ds ≡ 0 → result_map (λ cs. map c xs ++ cs) (taken_items t (items_view ds)) ≡ all
    → all ≡ Ok (map c xs)
take_end c t xs [] all h so_far = sym so_far ∙ ap Ok (append_nothing (map c xs))
take_end c t xs (d ∷ ds) all h so_far = absurd (omega (arith, h))
