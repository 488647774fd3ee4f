-- What a reference means is what its definition means, at every value.
use Rattle.std.proofs.Common.{◌≡◌, ℕ, zero, suc, ◌≤◌, Bool, true, false, cond, Some, None, refl, ap, sym, ◌∙◌, subst, arith}
use Rattle.std.specs.Str.{bytes_eq}
use Rattle.bson_kinds.specs.Outcome.{◌>>=◌}
use Rattle.bson_kinds.specs.Text.{Utf8}
use Rattle.bson_base.specs.Tree.{Tree, depth}
use Rattle.bson_rawdoc.specs.Node.{Node}
use Rattle.bson_shape.specs.Form.{Form, reference, definitions, Fields, no_fields, field}
use Rattle.bson_shape.specs.Guarded.{count, definition}
use Rattle.bson_shape.specs.Makers.{IsShape}
use Rattle.bson_shape.proofs.Chains.{guarded_if}
use Rattle.bson_values.specs.Cause.{unknown_reference}
use Rattle.bson_values.specs.Value as value
use Rattle.bson_values.specs.Value.{Value}
use Rattle.bson_laws.specs.declared.origin.Origin.{Origin}
use Rattle.bson_laws.specs.Depths.{height, value_depth}
use Rattle.bson_laws.specs.Fits.{Fits}
use Rattle.bson_laws.specs.Judged.{refused, judged}
use Rattle.bson_laws.specs.ReadsFrom.{read_leaf, reads_from}
use Rattle.bson_laws.specs.Recursive.{read, view, FitsIn, IsTable}
use Rattle.bson_laws.specs.Settled.{settled}
use Rattle.bson_laws.specs.Unrolled.{Meanings, undefined, seen_through, repeated, meanings, unrolled, unrolled_name, step, names_in, in_table, max_steps}
use Rattle.bson_laws.specs.Views.{views}
use Rattle.bson_laws.proofs.Agree.{rounded, agree_name, agree_in}
use Rattle.bson_laws.proofs.Cut.{cut}
use Rattle.bson_laws.proofs.CutFits.{fits_cut, fits_uncut}
use Rattle.bson_laws.proofs.CutReads.{reads_cut}
use Rattle.bson_laws.proofs.CutViews.{views_cut}
use Rattle.bson_laws.proofs.Fitting.{fits_body, body_fits}
use Rattle.bson_laws.proofs.SettledCut.{settled_alike}
use Rattle.bson_kinds.proofs.Apart.{no_some, some_no}

-- ---- forms that agree

reads_same : (o : Origin) (s t : Form) (n : Node) (d : ℕ) → height n ≤ d → cut s d ≡ cut t d → reads_from o s n ≡ reads_from o t n
reads_same o s t n d h e = reads_cut o (read_leaf o) s d n h ∙ ap (λ q. reads_from o q n) e ∙ sym (reads_cut o (read_leaf o) t d n h)

pub settled_same : (o : Origin) (r : Bool) (s t : Form) (n : Node) (d : ℕ) → height n ≤ d → cut s d ≡ cut t d → reads_from o (settled r s) n ≡ reads_from o (settled r t) n
settled_same o r s t n d h e = reads_same o (settled r s) (settled r t) n d h (settled_alike r s t d e)

views_same : (s t : Form) (u : Tree) (d : ℕ) → depth u ≤ d → cut s d ≡ cut t d → views s u ≡ views t u
views_same s t u d h e = views_cut s d u h ∙ ap (λ q. views q u) e ∙ sym (views_cut t d u h)

fits_same : (s t : Form) (v : Value) (d : ℕ) → value_depth v ≤ d → cut s d ≡ cut t d → Fits v s → Fits v t
fits_same s t v d h e f = fits_uncut v t d h (subst (λ q. Fits v q) e (fits_cut v s d h f))

-- ---- one step more

-- steps in any order
shifted : {A : Type 0} (f g : A → A) → ((x : A) → f (g x) ≡ g (f x)) → (n : ℕ) (x : A) → repeated n f (g x) ≡ g (repeated n f x)
shifted f g h zero x = refl
shifted f g h (suc n) x = ap f (shifted f g h n x) ∙ h (repeated n f x)

one_more : (m : ℕ) (h : Fields) → repeated m (repeated (suc (count h)) (step m h)) (step m h undefined) ≡ step m h (names_in m h)
one_more m h = shifted (repeated (suc (count h)) (step m h)) (step m h) (λ g. shifted (step m h) (step m h) (λ k. refl) (suc (count h)) g) m undefined

-- a name means what one step makes of its definition
stepped : (m d : ℕ) (h : Fields) (key : Utf8) → IsTable h → suc d ≤ m → cut (names_in m h key) d ≡ cut (unrolled_name m h (names_in m h) key) d
stepped m d h key table l =
    rounded m m h (step m h) (step m h) (λ q r e x y z name w. agree_name m m h q r e table.shapes x y z name w) (guarded_if h table.guarded) m m undefined (step m h undefined) d l l l l key
    ∙ ap (λ (g : Meanings). cut (g key) d) (one_more m h)

pub found : (m : ℕ) (h : Fields) (g : Meanings) (key : Utf8) (s : Form) → definition h key ≡ Some s → unrolled_name m h g key ≡ unrolled m s g
found m no_fields g key s e = absurd (no_some e)
found m (field name r h) g key s e = by_case (bytes_eq name key) (found m h g key s) e where
  by_case : (b : Bool) → (definition h key ≡ Some s → unrolled_name m h g key ≡ unrolled m s g) → cond b (Some r) (definition h key) ≡ Some s → cond b (unrolled m r g) (unrolled_name m h g key) ≡ unrolled m s g
  by_case true rest q = ap (λ z. unrolled m z g) (same r s q) where
    same : (x y : Form) → Some x ≡ Some y → x ≡ y
    same x y p = cc
  by_case false rest q = rest q

pub missing : (m : ℕ) (h : Fields) (g : Meanings) (key : Utf8) → definition h key ≡ None → unrolled_name m h g key ≡ undefined key
missing m no_fields g key e = refl
missing m (field name r h) g key e = by_case (bytes_eq name key) (missing m h g key) e where
  by_case : (b : Bool) → (definition h key ≡ None → unrolled_name m h g key ≡ undefined key) → cond b (Some r) (definition h key) ≡ None → cond b (unrolled m r g) (unrolled_name m h g key) ≡ undefined key
  by_case true rest q = absurd (some_no q)
  by_case false rest q = rest q

-- down to each depth, a reference is its definition
reference_is : (m d : ℕ) (h : Fields) (key : Utf8) (s : Form) → IsTable h → suc d ≤ m → definition h key ≡ Some s → cut (in_table m h (reference key)) d ≡ cut (seen_through (in_table m h s)) d
reference_is m d h key s table l e = ap seen_through (stepped m d h key table l ∙ ap (λ f. cut f d) (found m h (names_in m h) key s e))

-- a name without definition means itself after one step
names_lack : (m d : ℕ) (h : Fields) (key : Utf8) → m ≡ suc d → definition h key ≡ None → names_in m h key ≡ undefined key
names_lack m d h key is e =
    ap (λ n. meanings n (count h) (step m h) key) is ∙ missing m h (repeated (count h) (step m h) (repeated d (repeated (suc (count h)) (step m h)) undefined)) key e

last_round : max_steps ≡ suc 403
unfolding max_steps
last_round = refl

-- ---- reading

pub read_reference : (o : Origin) (r : Bool) (h : Fields) (key : Utf8) (s : Form) (n : Node) → IsTable h → suc (height n) ≤ max_steps → definition h key ≡ Some s → read o r h (reference key) n ≡ read o r h s n
read_reference o r h key s n table l e =
    settled_same o r (in_table max_steps h (reference key)) (seen_through (in_table max_steps h s)) n (height n) (omega arith) (reference_is max_steps (height n) h key s table l e)

pub read_undefined : (o : Origin) (r : Bool) (h : Fields) (key : Utf8) (n : Node) → definition h key ≡ None → read o r h (reference key) n ≡ (judged n >>= λ _. refused (unknown_reference key))
read_undefined o r h key n e = ap (λ f. reads_from o (settled r (seen_through f)) n) (names_lack max_steps 403 h key last_round e)

pub read_definitions : (o : Origin) (r : Bool) (g h : Fields) (s : Form) (n : Node) → read o r g (definitions h s) n ≡ read o r h s n
read_definitions o r g h s n = refl

-- ---- views

pub view_as : (m : ℕ) (h : Fields) (s : Form) (t : Tree) → IsTable h → IsShape s → suc (depth t) ≤ m → views (in_table m h s) t ≡ view h s t
view_as m h s t table u a =
    views_same (in_table m h s) (in_table (suc (depth t)) h s) t (depth t) (omega arith) (agree_in m (suc (depth t)) h s (depth t) (guarded_if h table.guarded) table.shapes u a (omega arith))

pub view_reference : (h : Fields) (key : Utf8) (s : Form) (t : Tree) → IsTable h → definition h key ≡ Some s → view h (reference key) t ≡ view h s t
view_reference h key s t table e =
    views_same (in_table (suc (depth t)) h (reference key)) (seen_through (in_table (suc (depth t)) h s)) t (depth t) (omega arith) (reference_is (suc (depth t)) (depth t) h key s table (omega arith) e)

pub view_undefined : (h : Fields) (key : Utf8) (t : Tree) → definition h key ≡ None → view h (reference key) t ≡ None
view_undefined h key t e = ap (λ f. views (seen_through f) t) (names_lack (suc (depth t)) (depth t) h key refl e)

pub view_definitions : (g h : Fields) (s : Form) (t : Tree) → view g (definitions h s) t ≡ view h s t
view_definitions g h s t = refl

-- ---- fitting

pub fits_as : (m n : ℕ) (h : Fields) (s : Form) (v : Value) → IsTable h → IsShape s → suc (value_depth v) ≤ m → suc (value_depth v) ≤ n → Fits v (in_table m h s) → Fits v (in_table n h s)
fits_as m n h s v table u a b = fits_same (in_table m h s) (in_table n h s) v (value_depth v) (omega arith) (agree_in m n h s (value_depth v) (guarded_if h table.guarded) table.shapes u a b)

pub fits_reference : (h : Fields) (key : Utf8) (s : Form) (v : Value) → IsTable h → definition h key ≡ Some s → FitsIn h v s → FitsIn h v (reference key)
fits_reference h key s v table e f =
    fits_same (seen_through (in_table (suc (value_depth v)) h s)) (in_table (suc (value_depth v)) h (reference key)) v (value_depth v) (omega arith) (sym (reference_is (suc (value_depth v)) (value_depth v) h key s table (omega arith) e))
    (body_fits v no_fields (in_table (suc (value_depth v)) h s) f)

pub reference_fits : (h : Fields) (key : Utf8) (s : Form) (v : Value) → IsTable h → definition h key ≡ Some s → FitsIn h v (reference key) → FitsIn h v s
reference_fits h key s v table e f =
    fits_body v no_fields (in_table (suc (value_depth v)) h s)
    (fits_same (in_table (suc (value_depth v)) h (reference key)) (seen_through (in_table (suc (value_depth v)) h s)) v (value_depth v) (omega arith) (reference_is (suc (value_depth v)) (value_depth v) h key s table (omega arith) e) f)

pub reference_fits_nothing : (h : Fields) (key : Utf8) (v : Value) → definition h key ≡ None → FitsIn h v (reference key) → ⊥
reference_fits_nothing h key v e f =
    never v (fits_body v no_fields (undefined key) (subst (λ s. Fits v (seen_through s)) (names_lack (suc (value_depth v)) (value_depth v) h key refl e) f)) where
      never : (w : Value) → Fits w (reference key) → ⊥
      never value.none g = g
      never w g = g

pub fits_definitions : (g h : Fields) (s : Form) (v : Value) → FitsIn h v s → FitsIn g v (definitions h s)
fits_definitions g h s v f = body_fits v no_fields (in_table (suc (value_depth v)) h s) f

pub definitions_fit : (g h : Fields) (s : Form) (v : Value) → FitsIn g v (definitions h s) → FitsIn h v s
definitions_fit g h s v f = fits_body v no_fields (in_table (suc (value_depth v)) h s) f
