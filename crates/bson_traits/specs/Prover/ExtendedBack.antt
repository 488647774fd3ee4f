-- The laws of extended values.
use Rattle.std.specs.Prelude.{◌≡◌, ◌<◌, ◌^◌, ℕ, zero, suc, ℤ, pos, true, cond, length, nat_eq, Option, Some, None, option_and_then, Ok, refl, FitsSigned}
use Rattle.std.specs.Int.{w64}
use Rattle.std.specs.Str.{is_utf8}
use Rattle.std.proofs.Common.{ap, ◌∙◌, arith}
use Rattle.std.proofs.lemmas.Int.{ints}
use Rattle.bson_base.specs.Sound.{HasBytes}
use Rattle.bson_kinds.specs.Outcome.{result_map}
use Rattle.bson_base.specs.Sorted.{sorted}
use Rattle.bson_kinds.specs.Text.{AreBytes, Bytes, Utf8}
use Rattle.bson_base.specs.Tree as tree
use Rattle.bson_base.specs.Tree.{Tree, kind, null}
use Rattle.bson_base.proofs.WrittenTexts.{base64_read, digits_read, integer_read, subtype_read}
use Rattle.bson_shape.specs.Form.{leaf}
use Rattle.bson_shape.specs.declared.leaf.Leaf.TheVariants as leaves
use Rattle.bson_values.specs.Prover.Decided.{same_decides}
use Rattle.bson_values.specs.Value.{Value, u32, i64, in_range}
use Rattle.bson_laws.specs.Datum.{datum, itself, sorted_tree}
use Rattle.bson_laws.specs.Fits.{IsValueOfKind}
use Rattle.bson_laws.specs.InRange.{IsInRange}
use Rattle.bson_laws.specs.Means.{means, norm}
use Rattle.bson_laws.proofs.DatumNormal.{datum_norm, datum_means}
use Rattle.bson_traits.specs.Laws.{Returns, IsNeverNull}
use Rattle.bson_type_data.specs.Extended.{taken_where, taken_as, sized, decimal_datum, decimal_said, taken_decimal, binary_datum, binary_said, taken_binary, uuid_value, uuid_said, taken_uuid, pointer_datum, pointer_said, taken_pointer, regex_datum, regex_said, with_sorted, taken_regex, id_datum, id_said, taken_id, date_datum, date_said, taken_date, unsigned, both, stamp_datum, stamp_said, taken_stamp}

-- the datum of a tree is of the tree's kind
pub of_kind : (t : Tree) → IsInRange t → IsValueOfKind (kind t) (datum itself t)
of_kind t h = record { of_tree = record { tree = t; ranges = h; is_datum = refl }; has_kind = refl }

-- the datum of contents gives them, where it says them
pub own_datum : {C : Type 0} (datum_of : C → Value) (said : Value → Option C) (c : C) → said (datum_of c) ≡ Some c → taken_as datum_of said (datum_of c) ≡ Ok c
own_datum datum_of said c e = ap (taken_where datum_of (datum_of c)) e ∙ rw ((same_decides (datum_of c) (datum_of c)).1 refl) refl

-- what means Null is Null
pub only_null : (t : Tree) → IsInRange t → means (datum itself t) ≡ Some null → null ≡ sorted_tree t
only_null t h e = datum_means t null h e

-- ---- an ObjectId

pub id_says : (id : Bytes) → HasBytes 12 id → id_said (id_datum id) ≡ Some id
id_says id h = digits_read 12 id h.count h.are_bytes

pub id_returns : (id : Bytes) → HasBytes 12 id → Returns (leaf leaves.ObjectId) id taken_id (Ok (id_datum id))
id_returns id h = record {
  fits = of_kind (tree.object_id id) h;
  again = ap taken_id (datum_norm (tree.object_id id)) ∙ own_datum id_datum id_said id (id_says id h);
}

pub id_not_null : (id : Bytes) → HasBytes 12 id → IsNeverNull (Ok (id_datum id))
id_not_null id h e = let is : null ≡ tree.object_id id = only_null (tree.object_id id) h e in cc

-- ---- a time

pub date_says : (n : ℤ) → FitsSigned w64 n → date_said (date_datum n) ≡ Some n
date_says n h = integer_read n h

pub date_returns : (n : ℤ) → FitsSigned w64 n → Returns (leaf leaves.DateTime) n taken_date (Ok (date_datum n))
date_returns n h = record {
  fits = of_kind (tree.date_time n) h;
  again = ap taken_date (datum_norm (tree.date_time n)) ∙ own_datum date_datum date_said n (date_says n h);
}

pub date_not_null : (n : ℤ) → FitsSigned w64 n → IsNeverNull (Ok (date_datum n))
date_not_null n h e = let is : null ≡ tree.date_time n = only_null (tree.date_time n) h e in cc

-- ---- a time in seconds and an increment

in_u32 : (n : ℕ) → n < 2 ^ 32 → in_range u32 (pos n) ≡ true
in_u32 n h = grind (arith, ints, h)

in_i64 : (n : ℕ) → n < 2 ^ 32 → in_range i64 (pos n) ≡ true
in_i64 n h = grind (arith, ints, h)

unsigned_is : (n : ℕ) → n < 2 ^ 32 → option_and_then unsigned (cond (in_range i64 (pos n)) (Some (pos n)) None) ≡ Some (pos n)
unsigned_is n h = rw (in_i64 n h, in_u32 n h) refl

pub stamp_says : (t i : ℕ) → t < 2 ^ 32 → i < 2 ^ 32 → stamp_said (stamp_datum (pos t, pos i)) ≡ Some (pos t, pos i)
stamp_says t i h k = ap (λ a. both a (option_and_then unsigned (cond (in_range i64 (pos i)) (Some (pos i)) None))) (unsigned_is t h) ∙ ap (λ b. both (Some (pos t)) b) (unsigned_is i k)

pub stamp_returns : (t i : ℕ) → t < 2 ^ 32 → i < 2 ^ 32 → Returns (leaf leaves.Timestamp) (pos t, pos i) taken_stamp (Ok (stamp_datum (pos t, pos i)))
stamp_returns t i h k = record {
  fits = of_kind (tree.timestamp t i) (h, k);
  again = ap taken_stamp (datum_norm (tree.timestamp t i)) ∙ own_datum stamp_datum stamp_said (pos t, pos i) (stamp_says t i h k);
}

pub stamp_not_null : (t i : ℕ) → t < 2 ^ 32 → i < 2 ^ 32 → IsNeverNull (Ok (stamp_datum (pos t, pos i)))
stamp_not_null t i h k e = let is : null ≡ tree.timestamp t i = only_null (tree.timestamp t i) (h, k) e in cc

-- ---- a decimal number

pub sized_is : (b : Bytes) → length b ≡ 16 → sized 16 b ≡ Some b
sized_is b h = ap (λ n. cond (nat_eq n 16) (Some b) None) h

pub decimal_returns : (b : Bytes) → HasBytes 16 b → Returns (leaf leaves.Decimal128) b taken_decimal (Ok (decimal_datum b))
decimal_returns b h = record {
  fits = of_kind (tree.decimal128 b) h;
  again = ap taken_decimal (datum_norm (tree.decimal128 b)) ∙ own_datum decimal_datum decimal_said b (sized_is b h.count);
}

pub decimal_not_null : (b : Bytes) → HasBytes 16 b → IsNeverNull (Ok (decimal_datum b))
decimal_not_null b h e = let is : null ≡ tree.decimal128 b = only_null (tree.decimal128 b) h e in cc

-- ---- a binary

pub binary_says : (subtype : ℕ) (b : Bytes) → subtype < 256 → AreBytes b → binary_said (binary_datum (subtype, b)) ≡ Some (subtype, b)
binary_says zero b small bytes = refl
binary_says (suc n) b small bytes = rw (subtype_read (suc n) small, base64_read b bytes) refl

binary_norm : (subtype : ℕ) (b : Bytes) → norm (binary_datum (subtype, b)) ≡ binary_datum (subtype, b)
binary_norm subtype b = datum_norm (tree.binary subtype b)

pub binary_returns : (subtype : ℕ) (b : Bytes) → subtype < 256 → AreBytes b → Returns (leaf leaves.Binary) (subtype, b) taken_binary (Ok (binary_datum (subtype, b)))
binary_returns subtype b small bytes = record {
  fits = of_kind (tree.binary subtype b) (small, bytes);
  again = ap taken_binary (binary_norm subtype b) ∙ own_datum binary_datum binary_said (subtype, b) (binary_says subtype b small bytes);
}

pub binary_not_null : (subtype : ℕ) (b : Bytes) → subtype < 256 → AreBytes b → IsNeverNull (Ok (binary_datum (subtype, b)))
binary_not_null subtype b small bytes e = let is : null ≡ tree.binary subtype b = only_null (tree.binary subtype b) (small, bytes) e in cc

-- ---- a UUID

pub uuid_returns : (b : Bytes) → HasBytes 16 b → Returns (leaf leaves.Uuid) b taken_uuid (Ok (uuid_value b))
uuid_returns b h = record {
  fits = record { id = b; sixteen = h; is_datum = refl };
  again = own_datum uuid_value uuid_said b (sized_is b h.count);
}

pub uuid_not_null : (b : Bytes) → IsNeverNull (Ok (uuid_value b))
uuid_not_null b e = cc

-- ---- a reference to a document

pub pointer_returns : (n : Utf8) (id : Bytes) → is_utf8 n ≡ true → HasBytes 12 id → Returns (leaf leaves.DbPointer) (n, id) taken_pointer (Ok (pointer_datum (n, id)))
pointer_returns n id u h = record {
  fits = of_kind (tree.db_pointer n id) (u, h);
  again = ap taken_pointer (datum_norm (tree.db_pointer n id)) ∙ own_datum pointer_datum pointer_said (n, id) (ap (λ o. both (Some n) o) (id_says id h));
}

pub pointer_not_null : (n : Utf8) (id : Bytes) → is_utf8 n ≡ true → HasBytes 12 id → IsNeverNull (Ok (pointer_datum (n, id)))
pointer_not_null n id u h e = let is : null ≡ tree.db_pointer n id = only_null (tree.db_pointer n id) (u, h) e in cc

-- ---- a regular expression

pub regex_returns : (p o : Utf8) → is_utf8 p ≡ true → is_utf8 o ≡ true → sorted o ≡ o → Returns (leaf leaves.Regex) (p, o) taken_regex (Ok (regex_datum (p, o)))
regex_returns p o u w s = record {
  fits = of_kind (tree.regular_expression p o) (u, w);
  again = ap taken_regex (datum_norm (tree.regular_expression p o) ∙ ap (λ q. datum itself (tree.regular_expression p q)) s)
      ∙ ap (result_map with_sorted) (own_datum regex_datum regex_said (p, o) refl) ∙ ap (λ q. Ok (p, q)) s;
}

pub regex_not_null : (p o : Utf8) → is_utf8 p ≡ true → is_utf8 o ≡ true → IsNeverNull (Ok (regex_datum (p, o)))
regex_not_null p o u w e = let is : null ≡ tree.regular_expression p (sorted o) = only_null (tree.regular_expression p o) (u, w) e in cc
