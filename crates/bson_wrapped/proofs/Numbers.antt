-- Numbers of an integer type, where they are fields.
use Rattle.std.proofs.Common.{◌≡◌, ℤ, Bool, true, false, cond, Option, Some, None, Ok, Err, refl, ap, sym, subst, ◌∙◌}
use Rattle.bson_kinds.specs.Outcome.{◌>>=◌}
use Rattle.bson_rawdoc.specs.Node.{Node}
use Rattle.bson_values.specs.Cause.{out_of_range}
use Rattle.bson_values.specs.Marked.{Marked}
use Rattle.bson_values.specs.Value.{IntegerType, in_range, integer}
use Rattle.bson_values.specs.declared.de.Fault.{Fault}
use Rattle.bson_values.specs.declared.stop.Stop.{Stop}
use Rattle.bson_laws.specs.Judged.{Reading, judged, refused}
use Rattle.bson_laws.specs.Leaves.{numbers}
use Rattle.bson_laws.specs.Taken.{integer_of, read_integer}
use Rattle.bson_met.specs.MetView.{integer_at}
use Rattle.bson_met.proofs.Refusals.{StopsAs, stops_bind}
use Rattle.bson_texts.specs.Leaves.{number_as}

-- a value at a leaf of numbers
abbrev pub number_of : IntegerType → Node → Reading Marked
number_of type n = judged n >>= λ m. integer_of m >>= read_integer type

then_twice : {A B C : Type 0} (r : Reading A) (f : A → Reading B) (g : B → Reading C) → (r >>= λ x. f x >>= g) ≡ ((r >>= f) >>= g)
then_twice (Ok x) f g = refl
then_twice (Err e) f g = refl

abbrev no_value : Option Marked
no_value = None

module _ (type : IntegerType) (n : Node) where
  is_read : number_of type n ≡ (integer_at n >>= read_integer type)
  is_read = then_twice (judged n) integer_of (read_integer type)

  pub number_stops : (s : Stop Fault) → StopsAs s (integer_at n) → StopsAs s (number_of type n)
  number_stops s h = subst (λ (r : Reading Marked). StopsAs s r) (sym is_read) (stops_bind s (integer_at n) (read_integer type) h)

  in_its_range : (b : Bool) (z : ℤ) (v : Marked) → Some v ≡ cond b (Some (integer type z)) None → cond b (Ok (integer type z)) (refused (out_of_range z)) ≡ Ok v
  in_its_range true z v e = cc
  in_its_range false z v e = absurd cc

  pub number_done : (z : ℤ) (v : Marked) → integer_at n ≡ Ok z → Some v ≡ number_as (numbers type) z → number_of type n ≡ Ok v
  number_done z v e is = is_read ∙ ap (λ r. r >>= read_integer type) e ∙ in_its_range (in_range type z) z v is

  out_of_its_range : (b : Bool) (z : ℤ) → no_value ≡ cond b (Some (integer type z)) None → cond b (Ok (integer type z)) (refused {A = Marked} (out_of_range z)) ≡ refused (out_of_range z)
  out_of_its_range true z e = absurd cc
  out_of_its_range false z e = refl

  pub number_far : (z : ℤ) (s : Stop Fault) → integer_at n ≡ Ok z → None ≡ number_as (numbers type) z → StopsAs s (refused {A = Marked} (out_of_range z)) → StopsAs s (number_of type n)
  number_far z s e is h = subst (λ (r : Reading Marked). StopsAs s r) (sym (is_read ∙ ap (λ r. r >>= read_integer type) e ∙ out_of_its_range (in_range type z) z is)) h
