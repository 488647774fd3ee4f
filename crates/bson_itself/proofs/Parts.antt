-- Numbers, texts and frames in bytes are those that they are encoded as.
use Rattle.std.proofs.Common.{◌≡◌, ℕ, zero, suc, ◌+◌, ◌-◌, ◌^◌, ◌<◌, ◌≤◌, [], ◌∷◌, ◌++◌, length, take, drop, drop-cons, get_or, Bool, true, false, cond, refl, ap, sym, subst, ◌∙◌, arith}
use Rattle.std.specs.Prelude.{Option, Some, None, IfSome, nat_eq}
use Rattle.std.specs.Int.{w32, w64, from_le_bytes, cast_unsigned}
use Rattle.std.specs.Str.{is_utf8}
use Rattle.std.proofs.lemmas.Bool.{eqb-true}
use Rattle.std.proofs.lemmas.Int.{of_z-to_z}
use Rattle.std.proofs.lemmas.List.{length-append, length-take-le, length-drop, take_all, take-append-drop, get_or-drop, get_or-take}
use Rattle.std.proofs.lemmas.List.Elements.{All-take}
use Rattle.std.proofs.lemmas.Nat.{le_bytes_4, le_bytes_8}
use Rattle.bson_base.specs.Sound.{max_binary}
use Rattle.bson_kinds.specs.Text.{Bytes, AreBytes}
use Rattle.bson_base.specs.Tree.{double, string, document, array, binary, undefined, object_id, boolean, date_time, null, regular_expression, db_pointer, javascript_code, symbol, int32, timestamp, int64, decimal128, max_key, min_key, le32, le64, enclosed, after_length}
use Rattle.bson_base.proofs.Lengths.{length-le32}
use Rattle.bson_rawdoc.specs.Envelope.{is_closed, inside}
use Rattle.bson_rawdoc.specs.Numbers.{uint32_in, int32_in, int64_in}
use Rattle.bson_kinds.specs.declared.element_type.ElementType.{ElementType}
use Rattle.bson_kinds.specs.declared.element_type.ElementType.TheVariants as kinds
use Rattle.bson_laws.proofs.TameBytes.{byte_at, int32_fits, int64_fits}
use Rattle.bson_laws.proofs.Keys.{dropped}
use Rattle.bson_itself.specs.Itself.{IsItself, IsTakenSubtype}
use Rattle.bson_itself.specs.Encoded.{EncodesItself, ArePairs, AreTrees, IsTextValue, IsBinaryValue, IsBehind, IsExpression, IsPointer, IsTrueOrFalse, IsFrame}
use Rattle.bson_itself.specs.declared.untyped.UntypedLeaf.{UntypedLeaf}
use Rattle.bson_itself.specs.declared.untyped.UntypedLeaf.TheVariants.{Bson}

-- ---- numbers

four_below : (b : Bytes) → AreBytes b → from_le_bytes w32 b < 2 ^ 32
four_below b h = omega (arith, byte_at b 0 h, byte_at b 1 h, byte_at b 2 h, byte_at b 3 h)

eight_below : (b : Bytes) → AreBytes b → from_le_bytes w64 b < 2 ^ 64
eight_below b h = omega (arith, byte_at b 0 h, byte_at b 1 h, byte_at b 2 h, byte_at b 3 h, byte_at b 4 h, byte_at b 5 h, byte_at b 6 h, byte_at b 7 h)

uint32_below : (b : Bytes) → AreBytes b → uint32_in b < 2 ^ 32
unfolding uint32_in
uint32_below b all = four_below b all

pub int32_bytes : (b : Bytes) → AreBytes b → length b ≡ 4 → le32 (cast_unsigned w32 (int32_in b)) ≡ b
unfolding int32_in le32
int32_bytes b all four = le_bytes_4 b _ four (λ i. byte_at b i all) (of_z-to_z w32 (from_le_bytes w32 b) (four_below b all))

pub int64_bytes : (b : Bytes) → AreBytes b → length b ≡ 8 → le64 (cast_unsigned w64 (int64_in b)) ≡ b
unfolding int64_in le64
int64_bytes b all eight = le_bytes_8 b _ eight (λ i. byte_at b i all) (of_z-to_z w64 (from_le_bytes w64 b) (eight_below b all))

-- the four bytes in front
front_again : (n : ℕ) (b : Bytes) → 4 ≤ n → uint32_in (take n b) ≡ uint32_in b
unfolding uint32_in
front_again zero b h = absurd (omega arith)
front_again (suc zero) b h = absurd (omega arith)
front_again (suc (suc zero)) b h = absurd (omega arith)
front_again (suc (suc (suc zero))) b h = absurd (omega arith)
front_again (suc (suc (suc (suc n)))) [] h = refl
front_again (suc (suc (suc (suc n)))) (a ∷ []) h = refl
front_again (suc (suc (suc (suc n)))) (a ∷ b ∷ []) h = refl
front_again (suc (suc (suc (suc n)))) (a ∷ b ∷ c ∷ []) h = refl
front_again (suc (suc (suc (suc n)))) (a ∷ b ∷ c ∷ d ∷ bytes) h = refl

pub front_is : (b : Bytes) → AreBytes b → 4 ≤ length b → take 4 b ≡ le32 (uint32_in b)
unfolding uint32_in le32
front_is b all h =
    let four = take 4 b in
    sym (le_bytes_4 four _ (length-take-le 4 b h) (λ i. byte_at four i (All-take (λ x. x < 256) 4 b all)) (sym (front_again 4 b (omega arith))))

-- ---- frames

last_zero : (xs : Bytes) (n : ℕ) → suc n ≡ length xs → get_or xs n 1 ≡ 0 → xs ≡ take n xs ++ 0 ∷ []
last_zero [] n e h = absurd (omega arith)
last_zero (x ∷ []) zero e h = ap (λ y. y ∷ []) h
last_zero (x ∷ []) (suc n) e h = absurd (omega arith)
last_zero (x ∷ y ∷ xs) zero e h = absurd (omega arith)
last_zero (x ∷ y ∷ xs) (suc n) e h = ap (λ (l : Bytes). x ∷ l) (last_zero (y ∷ xs) n (omega arith) h)

pub framed : (b : Bytes) → AreBytes b → 5 ≤ length b → is_closed b ≡ true → b ≡ le32 (uint32_in b) ++ (inside b ++ 0 ∷ [])
unfolding inside
framed b all h closed =
    let n = length b - 5 in
    let at : 4 + n ≡ length b - 1 = omega arith in
    let zero_there : get_or (drop 4 b) n 1 ≡ 0 = get_or-drop 4 b n 1 ∙ ap (λ i. get_or b i 1) at ∙ eqb-true _ _ closed in
    sym (take-append-drop 4 b) ∙ (λ i. front_is b all (omega arith) i ++ last_zero (drop 4 b) n (omega (arith, length-drop 4 b)) zero_there i)

inside_length : (b : Bytes) → 5 ≤ length b → length (inside b) ≡ length b - 5
unfolding inside
inside_length b h = length-take-le (length b - 5) (drop 4 b) (omega (arith, length-drop 4 b))

-- as few as a binary may have, where what is behind the subtype has 16 MiB at most
inner_fits : (b : Bool) (inner back : Bytes) → cond b (le32 (length inner) ++ inner) inner ≡ back → length back ≤ 16777216 → length inner ≤ cond b 16777212 16777216
inner_fits true inner back is few = omega (arith, ap (λ (x : Bytes). length x) is, length-append (le32 (length inner)) inner, length-le32 (length inner))
inner_fits false inner back is few = omega (arith, ap (λ (x : Bytes). length x) is)

-- a second length in front
pub counted : (b : Bytes) → AreBytes b → 4 ≤ length b → uint32_in b ≡ length b - 4 → IsBehind 2 b
counted b all four is =
    let inner = drop 4 b in
    let size : length inner ≡ uint32_in b = omega (arith, length-drop 4 b, is) in
    (inner, dropped 4 b all, (λ i. le32 (size i) ++ inner) ∙ ap (λ x. x ++ inner) (sym (front_is b all four)) ∙ take-append-drop 4 b)

-- no second length
pub uncounted : (subtype : ℕ) (b : Bytes) → AreBytes b → nat_eq subtype 2 ≡ false → IsBehind subtype b
uncounted subtype b all other = (b, all, ap (λ c. cond c (le32 (length b) ++ b) b) other)

-- bytes in front of others
module _ (b : Bytes) (n : ℕ) (all : AreBytes b) (within : n ≤ length b) where
  part_bytes : AreBytes (take n b)
  part_bytes = All-take (λ x. x < 256) n b all

  part_length : length (take n b) ≡ n
  part_length = length-take-le n b within

  pub frame_is : 5 ≤ n → uint32_in b ≡ n → is_closed (take n b) ≡ true → IsFrame (take n b)
  frame_is five is closed =
      let part = take n b in
      let number : length (inside part) + 5 ≡ uint32_in part = omega (arith, part_length, inside_length part (omega (arith, part_length)), front_again n b (omega arith), is) in
      ap (λ m. le32 m ++ (inside part ++ 0 ∷ [])) number ∙ sym (framed part part_bytes (omega (arith, part_length)) closed)

  pub text_is : 5 ≤ n → uint32_in b + 4 ≡ n → is_closed (take n b) ≡ true → is_utf8 (inside (take n b)) ≡ true → IsTextValue (take n b)
  text_is five is closed text =
      let part = take n b in
      let number : length (inside part) + 1 ≡ uint32_in part = omega (arith, part_length, inside_length part (omega (arith, part_length)), front_again n b (omega arith), is) in
      (inside part, text, ap (λ m. le32 m ++ (inside part ++ 0 ∷ [])) number ∙ sym (framed part part_bytes (omega (arith, part_length)) closed))

  -- one length, a subtype, and so many bytes
  binary_parts : (p : Bytes) (subtype : ℕ) → length (drop 5 p) ≡ uint32_in p → AreBytes p → 5 ≤ length p → get_or p 4 0 ≡ subtype → after_length subtype (drop 5 p) ≡ p
  binary_parts p subtype e bytes h is =
      (λ i. le32 (e i) ++ (sym is i ∷ drop 5 p))
      ∙ (λ i. sym (front_is p bytes (omega arith)) i ++ sym (drop-cons p 4 0 h) i)
      ∙ take-append-drop 4 p

  pub binary_is : (leaf : UntypedLeaf) (subtype : ℕ) → 5 ≤ n → uint32_in b + 5 ≡ n → n ≤ max_binary 0 + 5 → get_or b 4 0 ≡ subtype → subtype < 256 → IsTakenSubtype leaf subtype → IsBehind subtype (drop 5 (take n b))
      → IsBinaryValue leaf (take n b)
  binary_is leaf subtype five is few there byte taken behind =
      let part = take n b in
      let back = drop 5 part in
      let size : length back ≡ uint32_in b = omega (arith, part_length, length-drop 5 part) in
      let whole : after_length subtype back ≡ part = binary_parts part subtype (size ∙ sym (front_again n b (omega arith))) part_bytes (omega (arith, part_length)) (get_or-take n b 4 0 (omega arith) ∙ there) in (
        subtype,
        behind.0,
        taken,
        record { is_byte = byte; are_bytes = behind.1; fits = inner_fits (nat_eq subtype 2) behind.0 back behind.2 (omega (arith, size)) },
        ap (after_length subtype) behind.2 ∙ whole,
      )

-- ---- values of a kind

module _ (leaf : UntypedLeaf) (levels : ℕ) where
  pub double_one : (b : Bytes) → AreBytes b → length b ≡ 8 → EncodesItself leaf kinds.Double levels b
  double_one b all eight = (double b, refl, record { are_bytes = all; count = eight }, refl)

  pub text_one : (b : Bytes) → IsTextValue b → EncodesItself leaf kinds.String levels b
  text_one b t = (string t.0, refl, t.1, t.2)

  pub binary_one : (b : Bytes) → IsBinaryValue leaf b → EncodesItself leaf kinds.Binary levels b
  binary_one b t = (binary t.0 t.1, refl, (t.2, t.3), t.4)

  pub boolean_one : (b : Bytes) → IsTrueOrFalse b → EncodesItself leaf kinds.Boolean levels b
  boolean_one b t = (boolean t.0, refl, tt, t.1)

  pub null_one : EncodesItself leaf kinds.Null levels []
  null_one = (null, refl, tt, refl)

  pub int32_one : (b : Bytes) → AreBytes b → length b ≡ 4 → EncodesItself leaf kinds.Int32 levels b
  int32_one b all four = (int32 (int32_in b), refl, int32_fits b, int32_bytes b all four)

  pub int64_one : (b : Bytes) → AreBytes b → length b ≡ 8 → EncodesItself leaf kinds.Int64 levels b
  int64_one b all eight = (int64 (int64_in b), refl, int64_fits b, int64_bytes b all eight)

  pub document_one : (m : ℕ) (b : Bytes) → levels ≡ suc m → IsFrame b → ArePairs leaf m (inside b) → EncodesItself leaf kinds.EmbeddedDocument levels b
  document_one m b e frame ps = (document ps.0, refl, subst (λ n. IsItself leaf (document ps.0) n) (sym e) ps.1, ap enclosed ps.2 ∙ frame)

  pub array_one : (m : ℕ) (b : Bytes) → levels ≡ suc m → IsFrame b → AreTrees leaf m (inside b) → EncodesItself leaf kinds.Array levels b
  array_one m b e frame ts = (array ts.0, refl, subst (λ n. IsItself leaf (array ts.0) n) (sym e) ts.1, ap enclosed ts.2 ∙ frame)

-- ---- extended values

timestamp_bytes : (b : Bytes) → AreBytes b → length b ≡ 8 → le32 (uint32_in b) ++ le32 (uint32_in (drop 4 b)) ≡ b
timestamp_bytes b all eight =
    let behind = drop 4 b in
    let four : length behind ≡ 4 = omega (arith, eight, length-drop 4 b) in
    (λ i. sym (front_is b all (omega arith)) i ++ sym (front_is behind (dropped 4 b all) (omega (arith, four))) i)
    ∙ ap (λ x. take 4 b ++ x) (take_all 4 behind (omega (arith, four)))
    ∙ take-append-drop 4 b

module _ (levels : ℕ) where
  pub id_one : (b : Bytes) → AreBytes b → length b ≡ 12 → EncodesItself Bson kinds.ObjectId levels b
  id_one b all twelve = (object_id b, refl, record { are_bytes = all; count = twelve }, refl)

  pub date_one : (b : Bytes) → AreBytes b → length b ≡ 8 → EncodesItself Bson kinds.DateTime levels b
  date_one b all eight = (date_time (int64_in b), refl, int64_fits b, int64_bytes b all eight)

  pub timestamp_one : (b : Bytes) → AreBytes b → length b ≡ 8 → EncodesItself Bson kinds.Timestamp levels b
  timestamp_one b all eight = (timestamp (uint32_in (drop 4 b)) (uint32_in b), refl, (uint32_below (drop 4 b) (dropped 4 b all), uint32_below b all), timestamp_bytes b all eight)

  pub decimal_one : (b : Bytes) → AreBytes b → length b ≡ 16 → EncodesItself Bson kinds.Decimal128 levels b
  decimal_one b all sixteen = (decimal128 b, refl, record { are_bytes = all; count = sixteen }, refl)

  pub code_one : (b : Bytes) → IsTextValue b → EncodesItself Bson kinds.JavaScriptCode levels b
  code_one b t = (javascript_code t.0, refl, t.1, t.2)

  pub symbol_one : (b : Bytes) → IsTextValue b → EncodesItself Bson kinds.Symbol levels b
  symbol_one b t = (symbol t.0, refl, t.1, t.2)

  pub expression_one : (b : Bytes) → IsExpression b → EncodesItself Bson kinds.RegularExpression levels b
  expression_one b e = (regular_expression e.0 e.1, refl, (e.2, e.3, e.4), e.5)

  pub pointer_one : (b : Bytes) → IsPointer b → EncodesItself Bson kinds.DbPointer levels b
  pointer_one b p = (db_pointer p.0 p.1, refl, (p.2, p.3), p.4)

  pub undefined_one : EncodesItself Bson kinds.Undefined levels []
  undefined_one = (undefined, refl, tt, refl)

  pub min_key_one : EncodesItself Bson kinds.MinKey levels []
  min_key_one = (min_key, refl, tt, refl)

  pub max_key_one : EncodesItself Bson kinds.MaxKey levels []
  max_key_one = (max_key, refl, tt, refl)

-- ---- so many bytes in front

module _ (leaf : UntypedLeaf) (k : ElementType) (levels : ℕ) (b : Bytes) where
  pub fixed_one : (count : ℕ) (r : Option ℕ) → AreBytes b → IfSome r (λ n. n ≤ length b) → IfSome r (λ n. n ≡ count) → ((part : Bytes) → AreBytes part → length part ≡ count → EncodesItself leaf k levels part)
      → IfSome r (λ n. EncodesItself leaf k levels (take n b))
  fixed_one count None all within is one = tt
  fixed_one count (Some n) all within is one = one (take n b) (All-take (λ x. x < 256) n b all) (length-take-le n b within ∙ is)

  pub made_one : (r : Option ℕ) (P : Bytes → Type 0) → IfSome r (λ n. P (take n b)) → ((part : Bytes) → P part → EncodesItself leaf k levels part) → IfSome r (λ n. EncodesItself leaf k levels (take n b))
  made_one None P is one = tt
  made_one (Some n) P is one = one (take n b) is
