-- A text by the codes of its characters: what stands before one and behind it, whether it stands there at all, and the number at the front.
-- Assumes nothing.
use mathlib.Core.Path.{◌≡◌, refl, sym, ap, ◌∙◌}
use mathlib.Core.Bool.{Bool, true, false, ◌&&◌, ◌||◌}
use mathlib.Core.List.{List, [], ◌∷◌, ◌++◌}
use Prim.Native.Nat.compare
use Prim.Native.Nat.{ℕ, suc, ◌+◌, ◌/◌, ◌%◌, ◌≤◌, ◌<◌}
use native.Mathlib.Decide.{dec_lt}
use native.Mathlib.Nat.{add-zero}
use native.Mathlib.Numerals.{add-one}
use native.Mathlib.Omega.{arith}
use borrow.Author.Tests.{eqb-true, ne_eqb, lt-ltb}
use lib.Dec.{eqb}
use lib.ListN.{length, take, drop, length-append}
use Rattle.chars.specs.Pick.{pick}
use Rattle.chars.specs.Utf8.{first, decode_at, encode, encode_all}
use Rattle.chars.specs.declared.Decoded.TheVariants.{Char}
use Rattle.chars.proofs.Cases.{of_test, and-true}
use Rattle.chars.proofs.Encode.{encode_one, encode-two, encode-three, encode-four}
use Rattle.chars.proofs.Laws.{found}
use Rattle.scanner.specs.declared.Class.{Class}
use Rattle.scanner.specs.declared.Class.TheVariants.{Whitespace, Numeric, Sign}
use Rattle.scanner.specs.Class.{in_class}
use Rattle.scanner.specs.Scan.{len_in, match_len, eat_while, eat_if, part, run_at, next_run}
use Rattle.scanner.proofs.Laws.{match-end, stop, go}
use Rattle.scanner.proofs.Parts.{part-empty}
use Rattle.scanner.proofs.Front.{From, from_start, from-behind, front-part, front-past, front-end}
use Rattle.numbers.specs.declared.Digits.{Digits}
use Rattle.numbers.specs.declared.Digits.TheVariants.{Two, Four}
use Rattle.numbers.specs.declared.NoNumber.TheVariants.{Wrong}
use Rattle.std.specs.Prelude.{Option, Some, None, Err}
use Rattle.numbers.specs.Parse.{digits_from}
use Rattle.numbers.specs.Number.{cursor, admits, run_value, run_of, or_kept, behind_sign, with_sign, signed_at, signed_run, int_of, parse_int}
use Rattle.chunks.proofs.Proper.{Spelled, Spells, spells_none, spells_more, encode-append}
use Rattle.datefield.specs.Text.{first_of}
use Rattle.roundtrip_laws.proofs.Bytes.{Each}
use Rattle.roundtrip_laws.proofs.Bytes.Each.{none, more}
use Rattle.verdicts.specs.Windows.{stands, is_int}

-- ---- what is said of codes, and of bytes likewise

-- those before the first b: all of them if there is none
abbrev pub before : ℕ → List ℕ → List ℕ
before b [] = []
before b (c ∷ cs) = pick (eqb c b) [] (c ∷ before b cs)

-- those behind it: none if there is none
abbrev pub behind : ℕ → List ℕ → List ℕ
behind b [] = []
behind b (c ∷ cs) = pick (eqb c b) cs (behind b cs)

-- whether there is one
abbrev pub has : ℕ → List ℕ → Bool
has b [] = false
has b (c ∷ cs) = eqb c b || has b cs

-- those of a class at the front
abbrev pub front : Class → List ℕ → List ℕ
front k [] = []
front k (c ∷ cs) = pick (in_class k c) (c ∷ front k cs) []

-- what stands behind them
abbrev pub skip : Class → List ℕ → List ℕ
skip k [] = []
skip k (c ∷ cs) = pick (in_class k c) (skip k cs) (c ∷ cs)

-- behind one of them, if there is one
abbrev pub skip_one : Class → List ℕ → List ℕ
skip_one k [] = []
skip_one k (c ∷ cs) = pick (in_class k c) cs (c ∷ cs)

-- the numeric ones behind white space, a sign or none, and white space
abbrev pub number : List ℕ → List ℕ
number cs = front Numeric (skip Whitespace (skip_one Sign (skip Whitespace cs)))

-- it is not b
pub record Not (b c : ℕ) : Type 0 where
  pub is : eqb c b ≡ false

-- ---- codes without b, before others

module _ (b : ℕ) where
  -- what stands before b and behind it, and whether it stands there
  pub before-past : {l : List ℕ} (r : List ℕ) → Each (Not b) l → before b (l ++ r) ≡ l ++ before b r
  unfolding pick
  before-past r none = refl
  before-past r (more h e) = rw (h.is, before-past r e)

  pub behind-past : {l : List ℕ} (r : List ℕ) → Each (Not b) l → behind b (l ++ r) ≡ behind b r
  unfolding pick
  behind-past r none = refl
  behind-past r (more h e) = rw (h.is, behind-past r e)

  pub has-past : {l : List ℕ} (r : List ℕ) → Each (Not b) l → has b (l ++ r) ≡ has b r
  has-past r none = refl
  has-past r (more h e) = rw (h.is, has-past r e)

  -- the same by the place of the first b
  pub take-before : (s : List ℕ) → take (first_of b s) s ≡ before b s
  unfolding first_of pick
  take-before [] = refl
  take-before (c ∷ s) = of_test (eqb c b) (λ t. rw t) (λ t. rw (t, take-before s))

  past_it : (s : List ℕ) → drop (suc (first_of b s)) s ≡ behind b s
  unfolding first_of pick
  past_it [] = refl
  past_it (c ∷ s) = of_test (eqb c b) (λ t. rw t) (λ t. rw (t, past_it s))

  pub drop-behind : (s : List ℕ) → drop (first_of b s + 1) s ≡ behind b s
  drop-behind s = rw add-one (past_it s)

  pub stands-has : (s : List ℕ) → stands b s ≡ has b s
  unfolding stands first_of pick
  stands-has [] = refl
  stands-has (c ∷ s) = of_test (eqb c b) (λ t. rw t (lt-ltb 0 (length (c ∷ s)) (omega arith))) (λ t. rw (t, compare.suc-suc) (stands-has s))

-- ---- the bytes of codes

-- a code that is not b has no byte b
module _ (b : ℕ) (h : b < 0x80) where
  high : (x : ℕ) {l : List ℕ} → 0x80 ≤ x → Each (Not b) l → Each (Not b) (x ∷ l)
  high x g e = more (record { is = ne_eqb x b (λ (e : x ≡ b). omega arith) }) e

  pub apart : (c : ℕ) → eqb c b ≡ false → Each (Not b) (encode c)
  apart c e =
      let last = 0x80 + c % 64 in
      let inner = 0x80 + c / 64 % 64 in
      elim (dec_lt c 0x80) [
        | yes i ↦ rw (encode_one c i) (more (record { is = e }) none)
        | no i ↦ elim (dec_lt c 0x800) [
          | yes j ↦ rw (encode-two c (omega arith) j) (high (0xC0 + c / 64) (omega arith) (high last (omega arith) none))
          | no j ↦ elim (dec_lt c 0x10000) [
            | yes k ↦ rw (encode-three c (omega arith) k) (high (0xE0 + c / 64 / 64) (omega arith) (high inner (omega arith) (high last (omega arith) none)))
            | no k ↦ rw (encode-four c (omega arith))
                (high (0xF0 + c / 64 / 64 / 64) (omega arith) (high (0x80 + c / 64 / 64 % 64) (omega arith) (high inner (omega arith) (high last (omega arith) none))))
          ]
        ]
      ]

  -- and b is its own byte, so what is said of the codes is said of their bytes
  itself : (c : ℕ) → eqb c b ≡ true → encode c ≡ c ∷ []
  itself c t = encode_one c (omega (arith, eqb-true c b t))

  pub before-bytes : (cs : List ℕ) → before b (encode_all cs) ≡ encode_all (before b cs)
  unfolding encode_all pick
  before-bytes [] = refl
  before-bytes (c ∷ cs) =
      of_test (eqb c b) (λ t. rw (itself c t, t))
      (λ t. rw t (before-past b (encode_all cs) (apart c t) ∙ ap (λ (l : List ℕ). encode c ++ l) (before-bytes cs)))

  pub behind-bytes : (cs : List ℕ) → behind b (encode_all cs) ≡ encode_all (behind b cs)
  unfolding encode_all pick
  behind-bytes [] = refl
  behind-bytes (c ∷ cs) =
      of_test (eqb c b) (λ t. rw (itself c t, t))
      (λ t. rw t (behind-past b (encode_all cs) (apart c t) ∙ behind-bytes cs))

  pub has-bytes : (cs : List ℕ) → has b (encode_all cs) ≡ has b cs
  unfolding encode_all
  has-bytes [] = refl
  has-bytes (c ∷ cs) =
      of_test (eqb c b) (λ t. rw (itself c t, t))
      (λ t. rw t (has-past b (encode_all cs) (apart c t) ∙ has-bytes cs))

-- ---- a text of such bytes, as the scanner goes through it

module _ (t : List ℕ) {s : List ℕ} {i c : ℕ} (p : Spelled c) (f : From s i (encode c ++ t)) where
  -- a character stands there, with some bytes
  pub char-at : decode_at s i ≡ Char c (length (encode c))
  unfolding decode_at
  char-at = ap first f.is ∙ p.reads t

  char-match : (k : Class) → match_len k s i ≡ pick (in_class k c) (length (encode c)) 0
  unfolding match_len len_in
  char-match k = rw char-at

  pub char-some : 0 < length (encode c)
  char-some = (found s i char-at).some

  char-go : (k : Class) → in_class k c ≡ true → eat_while k s i ≡ eat_while k s (i + length (encode c))
  unfolding pick
  char-go k y =
      let m : match_len k s i ≡ length (encode c) = rw y at (char-match k) in
      go k s i (omega (arith, char-some)) ∙ ap (λ (n : ℕ). eat_while k s (i + n)) m

  char-stop : (k : Class) → in_class k c ≡ false → eat_while k s i ≡ i
  unfolding pick
  char-stop k y = stop k s i (rw y at (char-match k))

  sign-past : in_class Sign c ≡ true → behind_sign s i ≡ i + length (encode c)
  unfolding behind_sign or_kept eat_if pick
  sign-past y =
      let m : match_len Sign s i ≡ length (encode c) = rw y at (char-match Sign) in
      rw (m, ne_eqb (length (encode c)) 0 (λ (e : length (encode c) ≡ 0). omega (arith, char-some)))

  sign_kept : in_class Sign c ≡ false → behind_sign s i ≡ i
  unfolding behind_sign or_kept eat_if pick
  sign_kept y = let m : match_len Sign s i ≡ 0 = rw y at (char-match Sign) in rw m

module _ (k : Class) where
  -- those behind the class are read as themselves, too
  pub skip-spells : {cs : List ℕ} → Spells cs → Spells (skip k cs)
  unfolding pick
  skip-spells spells_none = spells_none
  skip-spells (spells_more {c} p r) = of_test (in_class k c) (λ t. rw t (skip-spells r)) (λ t. rw t (spells_more p r))

  one-spells : {cs : List ℕ} → Spells cs → Spells (skip_one k cs)
  unfolding pick
  one-spells spells_none = spells_none
  one-spells (spells_more {c} p r) = of_test (in_class k c) (λ t. rw t r) (λ t. rw t (spells_more p r))

  -- those of the class and those behind them are all
  pub front-skip : (cs : List ℕ) → front k cs ++ skip k cs ≡ cs
  unfolding pick
  front-skip [] = refl
  front-skip (c ∷ cs) = of_test (in_class k c) (λ t. rw (t, front-skip cs)) (λ t. rw t)

  -- behind those of the class
  pub eaten : {cs s : List ℕ} {i : ℕ} → Spells cs → From s i (encode_all cs) → From s (eat_while k s i) (encode_all (skip k cs))
  unfolding encode_all pick
  eaten spells_none f = rw (front-end f k) f
  eaten (spells_more {c} {cs} p r) f =
      of_test (in_class k c) (λ t. rw (t, char-go (encode_all cs) p f k t) (eaten r (from-behind (encode c) f))) (λ t. rw (t, char-stop (encode_all cs) p f k t) f)

  -- their bytes are what was eaten
  pub eaten-to : {cs s : List ℕ} {i : ℕ} → Spells cs → From s i (encode_all cs) → eat_while k s i ≡ i + length (encode_all (front k cs))
  unfolding encode_all pick
  eaten-to {i = i} spells_none f = front-end f k ∙ sym (add-zero i)
  eaten-to {i = i} (spells_more {c} {cs} p r) f =
      of_test (in_class k c)
      (λ t. rw t (char-go (encode_all cs) p f k t ∙ eaten-to r (from-behind (encode c) f) ∙ omega (arith, length-append (encode c) (encode_all (front k cs)))))
      (λ t. rw t (char-stop (encode_all cs) p f k t ∙ sym (add-zero i)))

-- behind a sign
no_sign : (s : List ℕ) (i : ℕ) → length s ≤ i → behind_sign s i ≡ i
unfolding behind_sign or_kept eat_if pick
no_sign s i h = rw (match-end Sign s i h)

signed : {cs s : List ℕ} {i : ℕ} → Spells cs → From s i (encode_all cs) → From s (behind_sign s i) (encode_all (skip_one Sign cs))
unfolding encode_all pick
signed {s = s} {i = i} spells_none f = rw (no_sign s i (front-past f)) f
signed (spells_more {c} {cs} p r) f =
    of_test (in_class Sign c) (λ t. rw (t, sign-past (encode_all cs) p f t) (from-behind (encode c) f)) (λ t. rw (t, sign_kept (encode_all cs) p f t) f)

-- ---- the number at a text's front

-- the bytes of a class at a place
run-part : (k : Class) {cs s : List ℕ} {i : ℕ} → Spells cs → From s i (encode_all cs) → part s i (eat_while k s i) ≡ encode_all (front k cs)
run-part k {cs} {s} {i} p f =
    let u = encode_all (front k cs) in
    let v = encode_all (skip k cs) in
    let g : From s i (u ++ v) = record { is = f.is ∙ ap encode_all (sym (front-skip k cs)) ∙ encode-append (front k cs) (skip k cs) } in
    ap (part s i) (eaten-to k p f) ∙ front-part u v g

-- whether a number was read of digits
abbrev pub is_value : Option ℕ → Bool
is_value (Some n) = true
is_value None = false

-- whether bytes are a number of so many digits
abbrev pub reads : Digits → List ℕ → Bool
reads g num = admits g (length num) && is_value (digits_from 9999 num 0)

by_value : (n b : Bool) (v : Option ℕ) (e : ℕ) → is_int (with_sign n (pick b (run_value v e) (Err (Wrong (cursor e))))) ≡ b && is_value v
unfolding is_int with_sign run_value pick
by_value n true (Some v) e = refl
by_value n true None e = refl
by_value n false v e = refl

-- the digits that are read at a text's front
abbrev start : List ℕ → ℕ
start s = eat_while Whitespace s (behind_sign s (eat_while Whitespace s 0))

abbrev digits : List ℕ → List ℕ
digits s = part s (start s) (eat_while Numeric s (start s))

-- a number is read or not by them alone
int-reads : (g : Digits) (s : List ℕ) → is_int (parse_int s 0 g) ≡ reads g (digits s)
unfolding parse_int int_of signed_run signed_at next_run run_at run_of
int-reads g s = by_value _ _ _ _

-- they are the codes' number
pub number_read : (g : Digits) {cs : List ℕ} → Spells cs → is_int (parse_int (encode_all cs) 0 g) ≡ reads g (encode_all (number cs))
number_read g {cs} p =
    let s = encode_all cs in
    let q = skip-spells Whitespace p in
    let f = signed q (eaten Whitespace p (from_start s)) in
    let r = one-spells Sign q in
    int-reads g s ∙ ap (reads g) (run-part Numeric (skip-spells Whitespace r) (eaten Whitespace r f))

-- there are none behind the end
pub no_number : (g : Digits) (s : List ℕ) → admits g 0 ≡ false → length s ≤ eat_while Whitespace s 0 → is_int (parse_int s 0 g) ≡ false
no_number g s e h =
    let a = eat_while Whitespace s 0 in
    let w : eat_while Whitespace s a ≡ a = stop Whitespace s a (match-end Whitespace s a h) in
    let n : eat_while Numeric s a ≡ a = stop Numeric s a (match-end Numeric s a h) in
    int-reads g s ∙ rw (no_sign s a h, w, n, part-empty s a, e)

-- two digits are not four
pub not-both : (s : List ℕ) → is_int (parse_int s 0 Two) ≡ true → is_int (parse_int s 0 Four) ≡ true → ⊥
unfolding admits
not-both s e f =
    let n = length (digits s) in
    let p = and-true (eqb n 2) _ (sym (int-reads Two s) ∙ e) in
    let q = and-true (eqb n 4) _ (sym (int-reads Four s) ∙ f) in
    omega (arith, eqb-true n 2 p.0, eqb-true n 4 q.0)
