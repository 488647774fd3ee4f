-- Whether the word at the end of what a state has read goes on.
use Rattle.std.proofs.Common.{◌≡◌, ℕ, Bool, true, false, cond, eqb, ◌&&◌, ◌||◌, List, [], ◌∷◌, ◌++◌, refl, sym, ap, ◌∙◌, append_assoc, append-nil}
use Rattle.std.specs.List.{list_all}
use Rattle.bson_kinds.specs.Text.{Utf8}
use Rattle.bson_shape.specs.Form.{Form, Parts, no_parts, part}
use Rattle.bson_shape.specs.Notation.{begins_bare, in_bare, bare, escaped, name_text, listed, definition_texts, text, part_texts}
use Rattle.bson_shape.specs.Machine.{Group, Braces, Closed_braces, Parens, Angles, Table, Prefix, Option_prefix, Lossy_prefix, Readable_prefix, Newtype_prefix, Definitions_prefix, Level, In_prefix, In_brackets, In_pair, In_compact, In_map, In_item, Form_at, Reference_at, Mode, Bare, Named, Done}
use Rattle.bson_shape.specs.Fronts.{ends_in_word, is_longer, goes_on, refers, word_goes_on}
use Rattle.bson_shape.proofs.Words.{and_true, differs}
use Rattle.bson_shape.proofs.States.{sep, due_text, parens_text, label, item_text, prefix_text, level_text, levels_text, written, ValidMode}
use Rattle.bson_shape.proofs.Wraps.{word_on, Behind}

-- ---- the last byte

pub ends-snoc : (xs : Utf8) (b : ℕ) → ends_in_word (xs ++ b ∷ []) ≡ in_bare b
ends-snoc [] b = refl
ends-snoc (x ∷ []) b = refl
ends-snoc (x ∷ y ∷ xs) b = ends-snoc (y ∷ xs) b

ends-bytes : (bs xs : Utf8) (b : ℕ) → in_bare b ≡ true → list_all in_bare bs ≡ true → ends_in_word (xs ++ b ∷ bs) ≡ true
ends-bytes [] xs b h all = ends-snoc xs b ∙ h
ends-bytes (c ∷ bs) xs b h all =
    let both = and_true (in_bare c) (list_all in_bare bs) all in
    sym (ap ends_in_word (append_assoc xs (b ∷ []) (c ∷ bs))) ∙ ends-bytes bs (xs ++ b ∷ []) c both.0 both.1

pub ends-bare : (n xs : Utf8) → bare n ≡ true → ends_in_word (xs ++ n) ≡ true
ends-bare [] xs h = absurd cc
ends-bare (b ∷ bs) xs h = let both = and_true (begins_bare b) (list_all in_bare bs) h in ends-bytes bs xs b (rw both.0 refl) both.1

-- behind another byte no word goes on
pub no_word : (front rest : Utf8) → ends_in_word front ≡ false → word_goes_on front rest ≡ false
no_word front rest e = ap (λ t. t && cond (refers false front) (is_longer rest) (goes_on rest)) e

-- ---- references

refers-append : (xs ys : Utf8) (before : Bool) → refers before (xs ++ ys) ≡ refers (refers before xs) ys
refers-append [] ys before = refl
refers-append (x ∷ xs) ys before = refers-append xs ys (eqb x 64 || (before && in_bare x))

and_false : (a : Bool) → (a && false) ≡ false
and_false true = refl
and_false false = refl

-- The bytes end in one that is neither `@` nor of a bare name, or there is none.
record IsPlain (xs : Utf8) : Type 0 where
  before : Utf8
  byte : ℕ
  whole : xs ≡ before ++ byte ∷ []
  no_sign : eqb byte 64 ≡ false
  no_name : in_bare byte ≡ false

plain_after : (xs ys : Utf8) → IsPlain ys → IsPlain (xs ++ ys)
plain_after xs ys p = record { before = xs ++ p.before; byte = p.byte; whole = ap (λ zs. xs ++ zs) p.whole ∙ sym (append_assoc xs p.before (p.byte ∷ [])); no_sign = p.no_sign; no_name = p.no_name }

plain_byte : (xs : Utf8) (b : ℕ) → eqb b 64 ≡ false → in_bare b ≡ false → IsPlain (xs ++ b ∷ [])
plain_byte xs b s n = record { before = xs; byte = b; whole = refl; no_sign = s; no_name = n }

plain_refers : (xs : Utf8) (before : Bool) → IsPlain xs → refers before xs ≡ false
plain_refers xs before p =
    ap (refers before) p.whole ∙ refers-append p.before (p.byte ∷ []) before
    ∙ (λ i. p.no_sign i || (refers before p.before && p.no_name i)) ∙ and_false (refers before p.before)

plain_prefix : (p : Prefix) → IsPlain (prefix_text p)
plain_prefix Option_prefix = plain_byte [] 63 refl refl
plain_prefix Lossy_prefix = plain_byte [] 126 refl refl
plain_prefix Readable_prefix = plain_byte [] 94 refl refl
plain_prefix (Newtype_prefix n) = plain_byte (name_text n) 61 refl refl
plain_prefix (Definitions_prefix h) = plain_byte (38 ∷ 40 ∷ listed (definition_texts h)) 41 refl refl

-- behind an opening bracket, or behind a comma
plain_due : (before : Utf8) (ps : Parts) → IsPlain ((before ++ ((40 ∷ []) ++ listed (part_texts ps))) ++ sep (part_texts ps))
plain_due before no_parts = record { before = before; byte = 40; whole = append-nil (before ++ 40 ∷ []); no_sign = refl; no_name = refl }
plain_due before (part f ps) = plain_byte (before ++ ((40 ∷ []) ++ listed (part_texts (part f ps)))) 44 refl refl

plain_item : (g : Group) (n : Utf8) → IsPlain (item_text g n)
plain_item (Braces h fs) n = plain_after (due_text (Braces h fs)) (label (Braces h fs) n) (plain_byte (name_text n) 58 refl refl)
plain_item (Closed_braces place m fs) n = plain_after (due_text (Closed_braces place m fs)) (label (Closed_braces place m fs) n) (plain_byte (name_text n) 58 refl refl)
plain_item (Parens h ps) n =
    let p = plain_due (parens_text h) ps in
    record { before = p.before; byte = p.byte; whole = append-nil (due_text (Parens h ps)) ∙ p.whole; no_sign = p.no_sign; no_name = p.no_name }
plain_item (Angles e) n = plain_after (due_text (Angles e)) (label (Angles e) n) (plain_byte (name_text n) 61 refl refl)
plain_item (Table place h) n = plain_after (due_text (Table place h)) (label (Table place h) n) (plain_byte (name_text n) 61 refl refl)

plain_level : (l : Level) → IsPlain (level_text l)
plain_level (In_prefix place p) = plain_prefix p
plain_level (In_brackets place) = plain_byte [] 91 refl refl
plain_level (In_pair place) = plain_byte (37 ∷ []) 40 refl refl
plain_level (In_compact place r) = plain_byte (37 ∷ 40 ∷ text r) 44 refl refl
plain_level (In_map place k) = plain_byte (91 ∷ text k) 58 refl refl
plain_level (In_item g n) = plain_item g n

-- what is around a form does not end in a reference
levels_refer : (st : List Level) → refers false (levels_text st) ≡ false
levels_refer [] = refl
levels_refer (l ∷ st) = refers-append (levels_text st) (level_text l) false ∙ plain_refers (level_text l) (refers false (levels_text st)) (plain_level l)

-- bytes of a bare name keep what is before them
name_refers : (bs : Utf8) (before : Bool) → list_all in_bare bs ≡ true → refers before bs ≡ before
name_refers [] before h = refl
name_refers (b ∷ bs) before h =
    let both = and_true (in_bare b) (list_all in_bare bs) h in
    ap (λ t. refers t bs) ((λ i. differs in_bare b 64 both.0 refl i || (before && both.0 i)) ∙ kept before) ∙ name_refers bs before both.1
  where
    kept : (t : Bool) → (t && true) ≡ t
    kept true = refl
    kept false = refl

all_in_bare : (n : Utf8) → bare n ≡ true → list_all in_bare n ≡ true
all_in_bare [] h = absurd cc
all_in_bare (b ∷ bs) h =
    let both = and_true (begins_bare b) (list_all in_bare bs) h in
    let first : in_bare b ≡ true = rw both.0 refl in
    λ i. first i && both.1 i

-- ---- states

-- behind a word that may be a leaf
pub bare_goes_on : (place : ℕ) (n : Utf8) (st : List Level) (rest : Utf8) → bare n ≡ true → word_goes_on (written (Bare (Form_at place) n, st)) rest ≡ goes_on rest
bare_goes_on place n st rest v =
    let front = levels_text st ++ n in
    let no_reference : refers false front ≡ false = refers-append (levels_text st) n false ∙ ap (λ t. refers t n) (levels_refer st) ∙ name_refers n false (all_in_bare n v) in
    (λ i. ends-bare n (levels_text st) v i && cond (no_reference i) (is_longer rest) (goes_on rest))

reference_goes_on : (place : ℕ) (n : Utf8) (st : List Level) (rest : Utf8) → bare n ≡ true → word_goes_on (written (Bare (Reference_at place) n, st)) rest ≡ is_longer rest
reference_goes_on place n st rest v =
    let front = levels_text st ++ 64 ∷ n in
    let ends : ends_in_word front ≡ true = sym (ap ends_in_word (append_assoc (levels_text st) (64 ∷ []) n)) ∙ ends-bare n (levels_text st ++ 64 ∷ []) v in
    let is_reference : refers false front ≡ true = refers-append (levels_text st) (64 ∷ n) false ∙ name_refers n true (all_in_bare n v) in
    (λ i. ends i && cond (is_reference i) (is_longer rest) (goes_on rest))

quoted_ends : (xs n : Utf8) → ends_in_word (xs ++ 64 ∷ 34 ∷ (escaped n ++ 34 ∷ [])) ≡ false
quoted_ends xs n = ap ends_in_word (sym (append_assoc xs (64 ∷ 34 ∷ escaped n) (34 ∷ []))) ∙ ends-snoc (xs ++ 64 ∷ 34 ∷ escaped n) 34

-- a form that has ended has its last byte, or it is a word
pub behind_goes_on : (f : Form) (m : Mode) (st : List Level) (rest : Utf8) → Behind f m → ValidMode m → word_goes_on (written (m, st)) rest ≡ word_on m rest
behind_goes_on f (Done g) st rest b v =
    no_word (levels_text st ++ text g) rest
    (ap (λ xs. ends_in_word (levels_text st ++ xs)) v.whole ∙ sym (ap ends_in_word (append_assoc (levels_text st) v.before (v.byte ∷ []))) ∙ ends-snoc (levels_text st ++ v.before) v.byte ∙ v.closes)
behind_goes_on f (Bare (Form_at place) n) st rest b v = bare_goes_on place n st rest v
behind_goes_on f (Bare (Reference_at place) n) st rest b v = reference_goes_on place n st rest v
behind_goes_on f (Named (Reference_at place) n) st rest b v = no_word (levels_text st ++ 64 ∷ 34 ∷ (escaped n ++ 34 ∷ [])) rest (quoted_ends (levels_text st) n)
behind_goes_on f m st rest b v = absurd b
