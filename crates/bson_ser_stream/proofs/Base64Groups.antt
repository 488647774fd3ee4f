-- Decoding group by group, over plain lists and buffers.
use Rattle.std.proofs.Common.{◌≡◌, ◌≢◌, ℕ, ◌+◌, ◌<◌, ◌≤◌, ◌++◌, length, take, drop, Option, Some, None, Err, refl, ap, sym, ◌∙◌, arith, inl, inr, append_assoc, length-append}
use Rattle.std.proofs.lemmas.Bool.{cases_lt}
use Rattle.std.proofs.lemmas.Bool.Decides.{eqb_tells}
use Rattle.base64.specs.GeneralPurpose.{IsBytes}
use Rattle.bson_base.specs.Parsed.{bytes_of_base64}
use Rattle.bson_kinds.specs.Text.{Bytes}
use Rattle.bson_base.proofs.Base64Texts.{after_group, base64_cut, bytes_back}
use Rattle.bson_io.specs.Output.{Output, Appended}
use Rattle.bson_ser_stream.specs.Halting.{Grows}
use Rattle.bson_ser_stream.specs.Decoding.{IsDecoded, Decodes}
use Rattle.bson_ser_stream.specs.declared.base64_text.Base64Fault.{Base64Fault}
use Rattle.bson_ser_stream.specs.declared.base64_text.Base64Fault.TheVariants.{NotBase64, NoMemory}
use Rattle.bson_ser_stream.proofs.Growth.{Grows-appended}

-- ---- bytes in front of those of a text

-- the bytes of a text after those of `front`
abbrev pub with_front : Bytes → Option Bytes → Option Bytes
with_front front None = None
with_front front (Some b) = Some (front ++ b)

front_twice : (a b : Bytes) (x : Option Bytes) → with_front a (with_front b x) ≡ with_front (a ++ b) x
front_twice a b None = refl
front_twice a b (Some c) = rw append_assoc refl

front_none : (a : Bytes) (x : Option Bytes) → x ≡ None → with_front a x ≡ None
front_none a x e = rw e refl

whole_group : (a : Bytes) (y : Option Bytes) → length a ≡ 3 → after_group (Some a) y ≡ with_front a y
whole_group a None three = refl
whole_group a (Some b) three = rw three refl

short_group : (a : Bytes) (y : Option Bytes) → length a ≢ 3 → after_group (Some a) y ≡ None
short_group a None other = refl
short_group a (Some b) other = elim (eqb_tells (length a) 3) [
  | inl same ↦ absurd (other same.1)
  | inr differs ↦ rw differs.0 refl
]

some_same : (a b : Bytes) → Some a ≡ Some b → a ≡ b
some_same a b e = cc

-- ---- pieces appended

Appended-trans : (a b c : Output) (p q : Bytes) (before between now : ℕ) → Appended a b p before between → Appended b c q between now → Appended a c (p ++ q) before now
Appended-trans a b c p q before between now f s =
    let long = length-append p q in
    record { bytes = s.bytes ∙ ap (λ x. x ++ q) f.bytes ∙ append_assoc a.bytes p q; spare = omega (arith, f.spare, s.spare); steps = omega (arith, f.steps, s.steps) }

-- ---- too little room

-- a group's bytes are no more than those of the text
front_longer : (done a b : Bytes) (y : Option Bytes) → with_front done (after_group (Some a) y) ≡ Some b → length done + length a ≤ length b
front_longer done a b None e = cc e
front_longer done a b (Some c) e = elim (eqb_tells (length a) 3) [
  | inl same ↦
      let is : done ++ (a ++ c) ≡ b = some_same _ _ (rw same.0 at e) in
      omega (arith, ap length is, length-append done (a ++ c), length-append a c)
  | inr other ↦ cc (rw other.0 at e)
]

no_room_group : (spare left : ℕ) (done b : Bytes) (x y : Option Bytes) → spare ≤ left + length done → ((a : Bytes) → x ≡ Some a → left < length a) → with_front done (after_group x y) ≡ Some b → spare < length b
no_room_group spare left done b None y within short e = cc e
no_room_group spare left done b (Some a) y within short e = omega (arith, within, short a refl, front_longer done a b y e)

-- a piece that did not fit
pub no_room : (spare : ℕ) (expected : Option Bytes) (piece : Bytes) → expected ≡ Some piece → (length piece ≤ spare → ⊥) → (b : Bytes) → expected ≡ Some b → spare < length b
no_room spare expected piece is large b e =
    let same : piece ≡ b = some_same _ _ (sym is ∙ e) in
    elim (cases_lt spare (length piece)) [
      | inl less ↦ rw same at less
      | inr fits ↦ absurd (large fits)
    ]

-- ---- a text read so far

-- The bytes of a text are some that were appended, and then those of what is left of it.
pub record IsRead (text rest : Bytes) (old new : Output) (before now : ℕ) : Type 0 where
  pub bytes : IsBytes rest
  pub done : Bytes
  pub appended : Appended old new done before now
  pub expected : bytes_of_base64 text ≡ with_front done (bytes_of_base64 rest)

pub read_grows : (text rest : Bytes) (old new : Output) (before now : ℕ) → IsRead text rest old new before now → Grows old new before now
read_grows text rest old new before now h = Grows-appended old new h.done before now h.appended

-- how many bytes a piece has
piece_length : (old new : Output) (piece : Bytes) (before now n : ℕ) → Appended old new piece before now → length new.bytes ≡ length old.bytes + n → length piece ≡ n
piece_length old new piece before now n h count = let e = ap length h.bytes in let long = length-append old.bytes piece in omega arith

module _ (text rest : Bytes) (old mid new : Output) (before between now : ℕ) (read : IsRead text rest old mid before between) where
  -- a group of three bytes
  pub read_step : 4 < length rest → IsDecoded (bytes_of_base64 (take 4 rest)) mid new between now → length new.bytes ≡ length mid.bytes + 3 → IsRead text (drop 4 rest) old new before now
  read_step long group count =
      let three = piece_length mid new group.bytes between now 3 group.appended count in
      let cut : bytes_of_base64 rest ≡ with_front group.bytes (bytes_of_base64 (drop 4 rest)) =
      base64_cut rest long read.bytes ∙ ap (λ x. after_group x (bytes_of_base64 (drop 4 rest))) group.is_expected ∙ whole_group group.bytes (bytes_of_base64 (drop 4 rest)) three in
      record {
        bytes = bytes_back 4 rest read.bytes;
        done = read.done ++ group.bytes;
        appended = Appended-trans old mid new read.done group.bytes before between now read.appended group.appended;
        expected = read.expected ∙ ap (with_front read.done) cut ∙ front_twice read.done group.bytes (bytes_of_base64 (drop 4 rest));
      }

  -- a group of fewer bytes, with more behind it
  pub read_short : (n : ℕ) → 4 < length rest → IsDecoded (bytes_of_base64 (take 4 rest)) mid new between now → length new.bytes ≡ length mid.bytes + n → n ≢ 3
      → bytes_of_base64 text ≡ None
  read_short n long group count short =
      let len = piece_length mid new group.bytes between now n group.appended count in
      let cut : bytes_of_base64 rest ≡ None =
      base64_cut rest long read.bytes ∙ ap (λ x. after_group x (bytes_of_base64 (drop 4 rest))) group.is_expected ∙ short_group group.bytes (bytes_of_base64 (drop 4 rest)) (λ three. short (sym len ∙ three)) in
      read.expected ∙ front_none read.done _ cut

  -- a group is refused
  pub read_fault : (T U : Type 0) (f : Base64Fault) → 4 < length rest → Decodes {T = T} (Err f) (bytes_of_base64 (take 4 rest)) mid new between now → Decodes {T = U} (Err f) (bytes_of_base64 text) old new before now
  read_fault T U NotBase64 long h = read.expected ∙ front_none read.done _ (base64_cut rest long read.bytes ∙ ap (λ x. after_group x (bytes_of_base64 (drop 4 rest))) h)
  read_fault T U NoMemory long h = λ b e.
      no_room_group old.spare mid.spare read.done b (bytes_of_base64 (take 4 rest)) (bytes_of_base64 (drop 4 rest)) read.appended.spare h
      (sym (ap (with_front read.done) (base64_cut rest long read.bytes)) ∙ sym read.expected ∙ e)
