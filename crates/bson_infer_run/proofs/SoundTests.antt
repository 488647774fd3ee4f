-- The test of soundness decides it.
use Rattle.std.proofs.Common.{◌≡◌, ℕ, zero, suc, ◌<◌, ◌≤◌, ◌^◌, length, get_or, Bool, true, false, ℤ, pos, negsuc, [], ◌∷◌, refl, ap, sym, ◌∙◌, arith, nat_lt, nat_eq}
use Rattle.std.specs.Prelude.{◌&&◌, not, nat_le, FitsSigned}
use Rattle.std.specs.Bool.{Decides}
use Rattle.std.specs.Int.{w32, w64}
use Rattle.std.specs.Str.{bytes_eq, is_utf8}
use Rattle.std.proofs.lemmas.Bool.{and_parts, and_from}
use Rattle.std.proofs.lemmas.Int.{ints}
use Rattle.bson_base.specs.Sound.{HasBytes, IsBinary, IsZeroFree, Lacks, IsClean, ArePairsClean, AreTreesClean, IsSound, max_binary, max_levels, max_bytes}
use Rattle.bson_kinds.specs.Text.{Bytes, Utf8, AreBytes, has_zero, begins_with_dollar, IsPlainName}
use Rattle.bson_base.specs.Tree.{Tree, double, string, document, array, binary, undefined, object_id, boolean, date_time, null, regular_expression, db_pointer, javascript_code, symbol, javascript_code_with_scope, int32, timestamp, int64, decimal128, max_key, min_key, raw, Pairs, no_pairs, pair, Trees, no_trees, tree, enc, depth}
use Rattle.bson_infer_run.specs.SoundTest.{are_bytes, has_bytes, is_binary, is_zero_free, is_plain_name, is_within, lacks, is_clean, are_pairs_clean, are_trees_clean, is_sound}

-- a test that decides a fact, as two functions
both : {P Q : Type 0} (a b : Bool) → Decides a P → Decides b Q → Decides (a && b) (P × Q)
both a b d e = (λ h. let p = and_parts a b h in (d.0 p.0, e.0 p.1), λ h. and_from a b (d.1 h.0) (e.1 h.1))

mapped : {P Q : Type 0} (a : Bool) → (P → Q) → (Q → P) → Decides a P → Decides a Q
mapped a f g d = (λ h. f (d.0 h), λ q. d.1 (g q))

itself : (a : Bool) → Decides a (a ≡ true)
itself a = (λ h. h, λ h. h)

always : Decides true (Unit {0})
always = (λ h. tt, λ h. refl)

never : Decides false ⊥
never = (λ h. absurd cc, λ h. absurd h)

negated : (a : Bool) → Decides (not a) (a ≡ false)
negated true = (λ h. absurd cc, λ h. absurd cc)
negated false = (λ h. refl, λ h. refl)

less : (a b : ℕ) → Decides (nat_lt a b) (a < b)
less a b = (λ h. grind (arith, h), λ h. grind (arith, h))

at_most : (a b : ℕ) → Decides (nat_le a b) (a ≤ b)
at_most a b = (λ h. grind (arith, h), λ h. grind (arith, h))

equal : (a b : ℕ) → Decides (nat_eq a b) (a ≡ b)
equal a b = (λ h. grind (arith, h), λ h. grind (arith, h))

-- ---- parts

all_bytes : (bs : Bytes) → are_bytes bs ≡ true → AreBytes bs
all_bytes [] h = λ k d lt. absurd (omega (arith, lt))
all_bytes (b ∷ bs) h = λ k d lt. at k d lt (all_bytes bs (and_parts (nat_lt b 256) (are_bytes bs) h).1) ((less b 256).0 (and_parts (nat_lt b 256) (are_bytes bs) h).0)
  where
    at : (k d : ℕ) → k < length (b ∷ bs) → AreBytes bs → b < 256 → get_or (b ∷ bs) k d < 256
    at zero d lt more first = first
    at (suc k) d lt more first = more k d (omega (arith, lt))

each_byte : (bs : Bytes) → AreBytes bs → are_bytes bs ≡ true
each_byte [] h = refl
each_byte (b ∷ bs) h = and_from (nat_lt b 256) (are_bytes bs) ((less b 256).1 (h 0 0 (omega arith))) (each_byte bs (λ k d lt. h (suc k) d (omega (arith, lt))))

bytes_decided : (bs : Bytes) → Decides (are_bytes bs) (AreBytes bs)
bytes_decided bs = (all_bytes bs, each_byte bs)

has_decided : (n : ℕ) (bs : Bytes) → Decides (has_bytes n bs) (HasBytes n bs)
has_decided n bs =
    mapped (has_bytes n bs) (λ h. record { are_bytes = h.0; count = h.1 }) (λ h. (h.are_bytes, h.count)) (both (are_bytes bs) (nat_eq (length bs) n) (bytes_decided bs) (equal (length bs) n))

binary_decided : (subtype : ℕ) (bs : Bytes) → Decides (is_binary subtype bs) (IsBinary subtype bs)
binary_decided subtype bs =
    mapped (is_binary subtype bs) (λ h. record { is_byte = h.0; are_bytes = h.1.0; fits = h.1.1 }) (λ h. (h.is_byte, (h.are_bytes, h.fits)))
    (both (nat_lt subtype 256) (are_bytes bs && nat_le (length bs) (max_binary subtype)) (less subtype 256)
    (both (are_bytes bs) (nat_le (length bs) (max_binary subtype)) (bytes_decided bs) (at_most (length bs) (max_binary subtype))))

part_decided : (t : Utf8) → Decides (is_zero_free t) (IsZeroFree t)
part_decided t =
    mapped (is_zero_free t) (λ h. record { text = h.0; no_zero = h.1 }) (λ h. (h.text, h.no_zero)) (both (is_utf8 t) (not (has_zero t)) (itself (is_utf8 t)) (negated (has_zero t)))

name_decided : (t : Utf8) → Decides (is_plain_name t) (IsPlainName t)
name_decided t =
    mapped (is_plain_name t) (λ h. record { text = h.0; free = record { no_zero = h.1.0; no_dollar = h.1.1 } }) (λ h. (h.text, (h.free.no_zero, h.free.no_dollar)))
    (both (is_utf8 t) (not (has_zero t) && not (begins_with_dollar t)) (itself (is_utf8 t))
    (both (not (has_zero t)) (not (begins_with_dollar t)) (negated (has_zero t)) (negated (begins_with_dollar t))))

int32_decided : (n : ℤ) → Decides (is_within (2 ^ 31) n) (FitsSigned w32 n)
int32_decided (pos n) = (λ h. grind (arith, ints, h), λ h. grind (arith, ints, h))
int32_decided (negsuc n) = (λ h. grind (arith, ints, h), λ h. grind (arith, ints, h))

int64_decided : (n : ℤ) → Decides (is_within (2 ^ 63) n) (FitsSigned w64 n)
int64_decided (pos n) = (λ h. grind (arith, ints, h), λ h. grind (arith, ints, h))
int64_decided (negsuc n) = (λ h. grind (arith, ints, h), λ h. grind (arith, ints, h))

lacks_decided : (key : Utf8) (ps : Pairs) → Decides (lacks key ps) (Lacks key ps)
lacks_decided key no_pairs = always
lacks_decided key (pair k t ps) = both (not (bytes_eq key k)) (lacks key ps) (negated (bytes_eq key k)) (lacks_decided key ps)

-- ---- trees

mutual
  clean_decided : (t : Tree) → Decides (is_clean t) (IsClean t)
  clean_decided (double bytes) = has_decided 8 bytes
  clean_decided (string t) = itself (is_utf8 t)
  clean_decided (document ps) = pairs_decided ps
  clean_decided (array ts) = trees_decided ts
  clean_decided (binary subtype bytes) = binary_decided subtype bytes
  clean_decided undefined = always
  clean_decided (object_id id) = has_decided 12 id
  clean_decided (boolean b) = always
  clean_decided (date_time n) = int64_decided n
  clean_decided null = always
  clean_decided (regular_expression pattern options) = both (is_zero_free pattern) (is_zero_free options) (part_decided pattern) (part_decided options)
  clean_decided (db_pointer namespace id) = both (is_utf8 namespace) (has_bytes 12 id) (itself (is_utf8 namespace)) (has_decided 12 id)
  clean_decided (javascript_code t) = itself (is_utf8 t)
  clean_decided (symbol t) = itself (is_utf8 t)
  clean_decided (javascript_code_with_scope code scope) = both (is_utf8 code) (are_pairs_clean scope) (itself (is_utf8 code)) (pairs_decided scope)
  clean_decided (int32 n) = int32_decided n
  clean_decided (timestamp time increment) = both (nat_lt time (2 ^ 32)) (nat_lt increment (2 ^ 32)) (less time (2 ^ 32)) (less increment (2 ^ 32))
  clean_decided (int64 n) = int64_decided n
  clean_decided (decimal128 bytes) = has_decided 16 bytes
  clean_decided max_key = always
  clean_decided min_key = always
  clean_decided (raw kind bytes) = never

  pairs_decided : (ps : Pairs) → Decides (are_pairs_clean ps) (ArePairsClean ps)
  pairs_decided no_pairs = always
  pairs_decided (pair key t ps) =
      mapped (are_pairs_clean (pair key t ps)) (λ h. (h.0, h.1.0, h.1.1.0, h.1.1.1)) (λ h. (h.0, (h.1, (h.2, h.3))))
      (both (is_plain_name key) (lacks key ps && (is_clean t && are_pairs_clean ps)) (name_decided key)
      (both (lacks key ps) (is_clean t && are_pairs_clean ps) (lacks_decided key ps) (both (is_clean t) (are_pairs_clean ps) (clean_decided t) (pairs_decided ps))))

  trees_decided : (ts : Trees) → Decides (are_trees_clean ts) (AreTreesClean ts)
  trees_decided no_trees = always
  trees_decided (tree t ts) = both (is_clean t) (are_trees_clean ts) (clean_decided t) (trees_decided ts)

pub sound_decided : (ps : Pairs) → Decides (is_sound ps) (IsSound (document ps))
sound_decided ps =
    mapped (is_sound ps) (λ h. record { document = tt; clean = h.0; nests = h.1.0; fits = h.1.1 }) (λ h. (h.clean, (h.nests, h.fits)))
    (both (are_pairs_clean ps) (nat_le (depth (document ps)) max_levels && nat_le (length (enc (document ps))) max_bytes) (pairs_decided ps)
    (both (nat_le (depth (document ps)) max_levels) (nat_le (length (enc (document ps))) max_bytes) (at_most (depth (document ps)) max_levels) (at_most (length (enc (document ps))) max_bytes)))
