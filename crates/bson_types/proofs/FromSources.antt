-- What is read of a source at the shape of a type.
use Rattle.std.proofs.Common.{◌≡◌, ℕ, [], Option, None, Some, Result, Ok, Err, refl, sym, subst, inl, inr, arith}
use Rattle.std.specs.Io.KnownBytes.{Keeps}
use Rattle.std.proofs.KnownBytes.{Consumes-nil}
use Rattle.bson_kinds.specs.Outcome.{◌>>=◌}
use Rattle.bson_kinds.specs.Text.{Bytes}
use Rattle.bson_io.specs.Ends.{Rose}
use Rattle.bson_shape.specs.Form.{Form}
use Rattle.bson_values.specs.ErrorView.{read_failure}
use Rattle.bson_values.specs.Refusal.{ReadFault, Failure, no_memory, bare, placed, FailsAs}
use Rattle.bson_values.specs.Value.{Value}
use Rattle.bson_datum.specs.View.{view}
use Rattle.bson_datum.specs.declared.datum.Datum.{Datum}
use Rattle.bson_values.specs.declared.de.Error.{Error}
use Rattle.bson_values.specs.Returned.{Reads}
use Rattle.bson_source.specs.FirstDocument.{first_document}
use Rattle.bson_source.specs.FromSource.{IsAll, Stops, Ends, ReadsOne, read_first}
use Rattle.bson_de_source.proofs.Then.{stops_then, ends_then}
use Rattle.bson_type_data.specs.Answers.{Reading}
use Rattle.bson_types.specs.FromSource.{ReadsAt}

-- ---- the type has no shape, or memory ran out for it

keeps : (bytes : Option Bytes) → Keeps bytes bytes
keeps None = tt
keeps (Some xs) = refl

none_taken : {X Y : Type 0} (see : X → Y) (answer : Bytes → Reading Y) (left : Option Bytes) (now : ℕ) (e : Error) → read_failure e ≡ no_memory → ReadsOne see answer left left now now (Err e)
none_taken see answer left now e is = record {
  came = [];
  taken = Consumes-nil left;
  within = omega arith;
  exact = subst (λ f. Stops (IsAll left []) (Rose now now) f (answer [])) (sym is) tt;
}

fails_at : {X C : Type 0} (see : X → C) (expected : Reading Form) (taken : Value → Reading C) (read : Form → Bytes → Reading Value) (left : Option Bytes) (now : ℕ) (e : Error) (f : Failure ReadFault) → read_failure e ≡ f → FailsAs f expected
    → ReadsAt see expected taken read left left now now (Err e)
fails_at see (Ok s) taken read left now e no_memory is h = none_taken see (read_first (λ b. read s b >>= taken)) left now e is
fails_at see (Ok s) taken read left now e (bare f) is h = absurd cc
fails_at see (Ok s) taken read left now e (placed path f) is h = absurd cc
fails_at see (Err g) taken read left now e no_memory is h = (keeps left, inr is)
fails_at see (Err g) taken read left now e (bare f) is h = (keeps left, inl cc)
fails_at see (Err g) taken read left now e (placed path f) is h = (keeps left, inl cc)

pub no_shape : {X C : Type 0} (see : X → C) (expected : Reading Form) (taken : Value → Reading C) (read : Form → Bytes → Reading Value) (left : Option Bytes) (now : ℕ) (e : Error) → FailsAs (read_failure e) expected
    → ReadsAt see expected taken read left left now now (Err e)
no_shape see expected taken read left now e h = fails_at see expected taken read left now e (read_failure e) refl h

-- ---- at a shape

in_turn : {A B C E : Type 0} (r : Result A E) (f : A → Result B E) (g : B → Result C E) → ((r >>= f) >>= g) ≡ (r >>= λ x. f x >>= g)
in_turn (Ok x) f g = refl
in_turn (Err e) f g = refl

at_shape : {X C : Type 0} (see : X → C) (expected : Reading Form) (s : Form) (taken : Value → Reading C) (read : Form → Bytes → Reading Value) (old new : Option Bytes) (before now : ℕ) (r : Result X Error) → expected ≡ Ok s
    → ReadsOne see (read_first (λ b. read s b >>= taken)) old new before now r → ReadsAt see expected taken read old new before now r
at_shape see expected s taken read old new before now r is h = subst (λ d. ReadsAt see d taken read old new before now r) (sym is) h

-- the document is not read
pub not_read : {X C : Type 0} (see : X → C) (expected : Reading Form) (s : Form) (taken : Value → Reading C) (read : Form → Bytes → Reading Value) (old new : Option Bytes) (before now : ℕ) (e : Error) → expected ≡ Ok s
    → ReadsOne view (read_first (read s)) old new before now (Err e) → ReadsAt see expected taken read old new before now (Err e)
not_read see expected s taken read old new before now e is h =
    at_shape see expected s taken read old new before now (Err e) is (record {
      came = h.came;
      taken = h.taken;
      within = h.within;
      exact = subst (Stops (IsAll new h.came) (Rose before now) (read_failure e)) (in_turn (first_document h.came) (read s) taken) (stops_then (IsAll new h.came) (Rose before now) (read_failure e) (first_document h.came >>= read s) taken h.exact);
    })

-- the type gives what its datum gives
pub type_gives : {X C : Type 0} (see : X → C) (expected : Reading Form) (s : Form) (taken : Value → Reading C) (read : Form → Bytes → Reading Value) (old new : Option Bytes) (before now : ℕ) (d : Datum) (r : Result X Error) → expected ≡ Ok s
    → ReadsOne view (read_first (read s)) old new before now (Ok d) → Reads see r (taken (view d)) → ReadsAt see expected taken read old new before now r
type_gives see expected s taken read old new before now d r is h reads =
    at_shape see expected s taken read old new before now r is (record {
      came = h.came;
      taken = h.taken;
      within = h.within;
      exact = subst (Ends see (IsAll new h.came) (Rose before now) r) (in_turn (first_document h.came) (read s) taken) (ends_then see (IsAll new h.came) (Rose before now) r (first_document h.came >>= read s) (view d) taken h.exact.0 h.exact.1 reads);
    })
