-- The laws of the types without parts.
use Rattle.std.specs.Prelude.{◌≡◌, ◌<◌, ◌^◌, ℕ, ℤ, pos, negsuc, Bool, true, false, cond, Some, None, Ok, refl, int_lt, FitsSigned}
use Rattle.std.specs.Char.{IsScalar}
use Rattle.std.specs.Int.{w8, w16, w32, w64}
use Rattle.std.specs.Str.{is_utf8}
use Rattle.std.proofs.Common.{arith}
use Rattle.std.proofs.lemmas.Int.{ints}
use Rattle.bson_base.specs.Sound.{HasBytes}
use Rattle.bson_kinds.specs.Text.{Bytes, Utf8}
use Rattle.bson_base.specs.Tree.{null, int64}
use Rattle.bson_shape.specs.Form.{leaf}
use Rattle.bson_shape.specs.declared.leaf.Leaf.TheVariants as leaves
use Rattle.bson_values.specs.Value.{i8, i16, i32, i64, u8, u16, u32, u64, in_range, greatest, boolean, integer, double, character, str, unit}
use Rattle.bson_traits.specs.Laws.{Returns, IsNeverNull}
use Rattle.bson_type_data.specs.Scalars.{taken_bool, taken_i8, taken_i16, taken_i32, taken_i64, taken_u8, taken_u16, taken_u32, taken_u64, taken_double, taken_char, taken_text, taken_unit}

-- ---- the ranges of the integer types

in_i8 : (n : ℤ) → FitsSigned w8 n → in_range i8 n ≡ true
in_i8 (pos n) h = grind (arith, ints, h)
in_i8 (negsuc n) h = grind (arith, ints, h)

in_i16 : (n : ℤ) → FitsSigned w16 n → in_range i16 n ≡ true
in_i16 (pos n) h = grind (arith, ints, h)
in_i16 (negsuc n) h = grind (arith, ints, h)

in_i32 : (n : ℤ) → FitsSigned w32 n → in_range i32 n ≡ true
in_i32 (pos n) h = grind (arith, ints, h)
in_i32 (negsuc n) h = grind (arith, ints, h)

in_i64 : (n : ℤ) → FitsSigned w64 n → in_range i64 n ≡ true
in_i64 (pos n) h = grind (arith, ints, h)
in_i64 (negsuc n) h = grind (arith, ints, h)

in_u8 : (n : ℕ) → n < 2 ^ 8 → in_range u8 (pos n) ≡ true
in_u8 n h = grind (arith, ints, h)

in_u16 : (n : ℕ) → n < 2 ^ 16 → in_range u16 (pos n) ≡ true
in_u16 n h = grind (arith, ints, h)

in_u32 : (n : ℕ) → n < 2 ^ 32 → in_range u32 (pos n) ≡ true
in_u32 n h = grind (arith, ints, h)

in_u64 : (n : ℕ) → n < 2 ^ 64 → in_range u64 (pos n) ≡ true
in_u64 n h = grind (arith, ints, h)

-- ---- what is written fits, and gives the contents again

pub bool_returns : (b : Bool) → Returns (leaf leaves.Bool) b taken_bool (Ok (boolean b))
bool_returns b = record { fits = tt; again = refl }

pub i8_returns : (n : ℤ) → FitsSigned w8 n → Returns (leaf leaves.I8) n taken_i8 (Ok (integer i8 n))
i8_returns n h = record { fits = (refl, in_i8 n h); again = refl }

pub i16_returns : (n : ℤ) → FitsSigned w16 n → Returns (leaf leaves.I16) n taken_i16 (Ok (integer i16 n))
i16_returns n h = record { fits = (refl, in_i16 n h); again = refl }

pub i32_returns : (n : ℤ) → FitsSigned w32 n → Returns (leaf leaves.I32) n taken_i32 (Ok (integer i32 n))
i32_returns n h = record { fits = (refl, in_i32 n h); again = refl }

pub i64_returns : (n : ℤ) → FitsSigned w64 n → Returns (leaf leaves.I64) n taken_i64 (Ok (integer i64 n))
i64_returns n h = record { fits = (refl, in_i64 n h); again = refl }

pub u8_returns : (n : ℕ) → n < 2 ^ 8 → Returns (leaf leaves.U8) n taken_u8 (Ok (integer u8 (pos n)))
u8_returns n h = record { fits = (refl, in_u8 n h); again = refl }

pub u16_returns : (n : ℕ) → n < 2 ^ 16 → Returns (leaf leaves.U16) n taken_u16 (Ok (integer u16 (pos n)))
u16_returns n h = record { fits = (refl, in_u16 n h); again = refl }

pub u32_returns : (n : ℕ) → n < 2 ^ 32 → Returns (leaf leaves.U32) n taken_u32 (Ok (integer u32 (pos n)))
u32_returns n h = record { fits = (refl, in_u32 n h); again = refl }

pub u64_returns : (n : ℕ) → n < 2 ^ 64 → Returns (leaf leaves.U64) n taken_u64 (Ok (integer u64 (pos n)))
u64_returns n h = record { fits = (refl, in_u64 n h); again = refl }

pub double_returns : (b : Bytes) → HasBytes 8 b → Returns (leaf leaves.Double) b taken_double (Ok (double b))
double_returns b h = record { fits = h; again = refl }

pub char_returns : (c : ℕ) → IsScalar c → Returns (leaf leaves.Char) c taken_char (Ok (character c))
char_returns c h = record { fits = h; again = refl }

pub string_returns : (t : Utf8) → is_utf8 t ≡ true → Returns (leaf leaves.String) t taken_text (Ok (str t))
string_returns t h = record { fits = h; again = refl }

pub str_returns : (t : Utf8) → is_utf8 t ≡ true → Returns (leaf leaves.Str) t taken_text (Ok (str t))
str_returns t h = record { fits = h; again = refl }

pub unit_returns : Returns (leaf leaves.Unit) tt taken_unit (Ok unit)
unit_returns = record { fits = tt; again = refl }

-- ---- what is written does not mean Null

wide_not_null : (b : Bool) (n : ℤ) → cond b None (Some (int64 n)) ≡ Some null → ⊥
wide_not_null true n e = cc
wide_not_null false n e = cc

pub bool_not_null : (b : Bool) → IsNeverNull (Ok (boolean b))
bool_not_null b e = cc

pub i8_not_null : (n : ℤ) → IsNeverNull (Ok (integer i8 n))
i8_not_null n e = cc

pub i16_not_null : (n : ℤ) → IsNeverNull (Ok (integer i16 n))
i16_not_null n e = cc

pub i32_not_null : (n : ℤ) → IsNeverNull (Ok (integer i32 n))
i32_not_null n e = cc

pub i64_not_null : (n : ℤ) → IsNeverNull (Ok (integer i64 n))
i64_not_null n e = wide_not_null (int_lt (greatest i64) n) n e

pub u8_not_null : (n : ℕ) → IsNeverNull (Ok (integer u8 (pos n)))
u8_not_null n e = cc

pub u16_not_null : (n : ℕ) → IsNeverNull (Ok (integer u16 (pos n)))
u16_not_null n e = cc

pub u32_not_null : (n : ℕ) → IsNeverNull (Ok (integer u32 (pos n)))
u32_not_null n e = wide_not_null (int_lt (greatest i64) (pos n)) (pos n) e

pub u64_not_null : (n : ℕ) → IsNeverNull (Ok (integer u64 (pos n)))
u64_not_null n e = wide_not_null (int_lt (greatest i64) (pos n)) (pos n) e

pub double_not_null : (b : Bytes) → IsNeverNull (Ok (double b))
double_not_null b e = cc

pub char_not_null : (c : ℕ) → IsNeverNull (Ok (character c))
char_not_null c e = cc

pub string_not_null : (t : Utf8) → IsNeverNull (Ok (str t))
string_not_null t e = cc
