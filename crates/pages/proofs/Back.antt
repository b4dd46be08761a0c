-- A written range, read as one piece of one Normal chunk, gives the range back. Assumes nothing.
use mathlib.Core.Path.{◌≡◌, refl, sym, ap, ◌∙◌}
use mathlib.Core.Bool.{Bool, true, false, false≢true}
use mathlib.Core.List.{List, [], ◌∷◌, ◌++◌, append-nil}
use Prim.Native.Nat.{ℕ, zero, suc, ◌+◌, ◌*◌, ◌/◌, ◌%◌, ◌^◌, ◌≤◌, ◌<◌}
use mathlib.Core.Logic.{⊎_elim}
use native.Mathlib.Nat.{add-zero, eq-zero-or-pos, pow-succ'}
use native.Mathlib.Omega.{arith}
use borrow.Author.Tests.{lt-ltb, le-ltb, le-leb, lt-leb, eq-eqb, ne_eqb, ltb-true, ltb-false}
use lib.Dec.{lit<, lit≤, ltb}
use lib.ListN.{length, length-append}
use lib.Seq.{take-length}
use Rattle.chars.specs.Pick.{pick}
use Rattle.chars.specs.Ascii.{digit_of}
use Rattle.chars.proofs.Laws.{digit-is}
use Rattle.chars.proofs.Cases.{of_test}
use Rattle.scanner.specs.declared.Class.TheVariants.{Whitespace, AsciiDigit, Is}
use Rattle.scanner.specs.Class.{in_class}
use Rattle.scanner.specs.Scan.{eat_while, done_at, run_at, next_run}
use Rattle.scanner.proofs.Front.{From, from-behind, front-part, front_rest, front-go, front-stop, front-end, front-past}
use Rattle.scanner.proofs.Laws.{not_white}
use Rattle.scanner.proofs.Digits.{digit-ascii, below-digits, is-other}
use Rattle.std.specs.Prelude.{Option, Some, None, Ok}
use Rattle.numbers.specs.Parse.{whole_value, digits_from, parse}
use Rattle.numbers.proofs.Reading.{front-ate, hyphen-hyphen}
use Rattle.refusals.specs.declared.FileSpan.{FileSpan}
use Rattle.chunks.specs.Chunks.{chunks_of, lengths, span_of, one_chunk}
use Rattle.chunks.specs.Format.{formatted, is_break}
use Rattle.chars.specs.Classes.{is_whitespace}
use Rattle.chunks.specs.Plain.{all_ascii, plain_byte, plain_out, plain_text}
use Rattle.chunks.proofs.Answers.{plain-as-is}
use Rattle.chunks.proofs.Plains.{plainly}
use Rattle.puts.specs.Numbers.{digits, digit_count, width, decimal}
use Rattle.puts.proofs.Counts.{length-decimal, few, one_more, no-digits}
use Rattle.pages.specs.Piece.{numbered, number_of, number_at, or_else, dash_at, on_number, second_at, behind_dash, on_dash, behind_first, range_text as read_text, on_clean, piece}
use Rattle.pages.specs.Text.{written_range}
use Rattle.pages.specs.Pieces.{total, adds_up, size_of, first_of, pieces_of, said, on_range, judged, numbers_of, put, pages_answer, table_after, pages_afterwards}

-- bytes from a low one to the digit nine
abbrev In : ℕ → List ℕ → Type 0
In low [] = Unit {0}
In low (c ∷ u) = ((low ≤ c) × (c < 58)) × In low u

in-append : (low : ℕ) (u v : List ℕ) → In low u → In low v → In low (u ++ v)
in-append low [] v p q = q
in-append low (c ∷ u) v p q = (p.0, in-append low u v p.1 q)

in-more : (u : List ℕ) → In 48 u → In 45 u
in-more [] p = tt
in-more (c ∷ u) p = ((omega (arith, p.0.0), p.0.1), in-more u p.1)

in-digits : (w n : ℕ) → In 48 (digits w n)
in-digits zero n = tt
in-digits (suc w) n = in-append 48 (digits w (n / 10)) ((48 + n % 10) ∷ []) (in-digits w (n / 10)) ((omega arith, omega arith), tt)

-- the number that digits say

some-value : Option ℕ → Bool
some-value (Some v) = true
some-value None = false

value-behind : (top acc v : ℕ) (u t : List ℕ) → whole_value top acc u ≡ Some v → whole_value top acc (u ++ t) ≡ whole_value top v t
unfolding whole_value pick some-value
value-behind top acc v [] t e = ap (λ (p : Option ℕ). whole_value top (value_in p) t) e
  where
    value_in : Option ℕ → ℕ
    value_in (Some x) = x
    value_in None = 0
value-behind top acc v (c ∷ u) t e =
    of_test (ltb 9 (digit_of c)) (λ q. absurd (false≢true (ap some-value (rw q at e))))
    (λ q. of_test (ltb top (acc * 10 + digit_of c)) (λ r. absurd (false≢true (ap some-value (rw (q, r) at e))))
    (λ r. rw (q, r) (value-behind top (acc * 10 + digit_of c) v u t (rw (q, r) at e))))

value-last : (top n : ℕ) → n ≤ top → whole_value top (n / 10) ((48 + n % 10) ∷ []) ≡ Some n
unfolding whole_value pick
value-last top n h =
    let d : digit_of (48 + n % 10) ≡ n % 10 = digit-is (n % 10) (omega arith) in
    rw (d, le-ltb 9 (n % 10) (omega arith), le-ltb top (n / 10 * 10 + n % 10) (omega arith)) (ap Some (omega arith))

value-digits : (top w n : ℕ) → n < 10 ^ w → n ≤ top → whole_value top 0 (digits w n) ≡ Some n
unfolding whole_value
value-digits top zero n h l = ap Some (omega arith)
value-digits top (suc w) n h l =
    value-behind top 0 (n / 10) (digits w (n / 10)) ((48 + n % 10) ∷ []) (value-digits top w (n / 10) (let p = pow-succ' 10 w in omega arith) (omega arith))
    ∙ value-last top n l

-- what may stand behind a number here: nothing, or a hyphen
data Stops : List ℕ → Type 0 where
  no_more : Stops []
  a_hyphen : {t : List ℕ} → Stops (0x2D ∷ t)

stops-white : {s t : List ℕ} {i : ℕ} → Stops t → From s i t → eat_while Whitespace s i ≡ i
stops-white no_more f = front-end f Whitespace
stops-white a_hyphen f = front-stop f Whitespace (lit< tt) (not_white 0x2D (lit< tt) (lit< tt))

hyphen-digit : in_class AsciiDigit 0x2D ≡ false
hyphen-digit = below-digits 0x2D (lit< tt)

stops-digit : {s t : List ℕ} {i : ℕ} → Stops t → From s i t → eat_while AsciiDigit s i ≡ i
stops-digit no_more f = front-end f AsciiDigit
stops-digit a_hyphen f = front-stop f AsciiDigit (lit< tt) hyphen-digit

in-class : (c : ℕ) → 48 ≤ c → c < 58 → in_class AsciiDigit c ≡ true
in-class c l h = digit-ascii c l (omega arith)

run : (u : List ℕ) {s t : List ℕ} {i : ℕ} → In 48 u → Stops t → From s i (u ++ t) → eat_while AsciiDigit s i ≡ i + length u
run [] {s} {t} {i} p b f = stops-digit b f ∙ sym (add-zero i)
run (c ∷ u) {s} {t} {i} p b f =
    front-go f AsciiDigit (omega (arith, p.0.1)) (in-class c p.0.0 p.0.1) ∙ run u p.1 b (front_rest f) ∙ omega arith

-- no white space, and no hyphen, before digits
first-white : (u t : List ℕ) {s : List ℕ} {i : ℕ} → 0 < length u → In 48 u → From s i (u ++ t) → eat_while Whitespace s i ≡ i
first-white [] t l p f = absurd (omega arith)
first-white (c ∷ u) t l p f = front-stop f Whitespace (omega (arith, p.0.1)) (not_white c (omega (arith, p.0.0)) (omega (arith, p.0.1)))

no-hyphen : (c : ℕ) → 48 ≤ c → in_class (Is 0x2D) c ≡ false
no-hyphen c l = is-other 0x2D c (λ (e : c ≡ 0x2D). omega arith)

first-hyphen : (u t : List ℕ) {s : List ℕ} {i : ℕ} → 0 < length u → In 48 u → From s i (u ++ t) → eat_while (Is 0x2D) s i ≡ i
first-hyphen [] t l p f = absurd (omega arith)
first-hyphen (c ∷ u) t l p f = front-stop f (Is 0x2D) (omega (arith, p.0.1)) (no-hyphen c p.0.0)

-- digits that are a number, at a place
number_read : (u t : List ℕ) (n start : ℕ) {s : List ℕ} {i : ℕ} → 0 < length u → In 48 u → parse 4294967295 u ≡ Some n → Stops t → From s i (u ++ t) → number_at s start i ≡ Ok (n, record { 0 = i + length u })
unfolding number_at number_of numbered next_run run_at
number_read u t n start l p v b f = rw (first-white u t l p f, run u p b f, front-part u t f, v)

-- the digits of a number
digits-parse : (u : List ℕ) (top n : ℕ) → 0 < length u → In 48 u → whole_value top 0 u ≡ Some n → parse top u ≡ Some n
unfolding parse digits_from pick
digits-parse [] top n l p v = absurd (omega arith)
digits-parse (c ∷ u) top n l p v =
    rw (ne_eqb c 0x2B (λ (e : c ≡ 0x2B). omega (arith, p.0.0)), lt-leb (length (c ∷ u)) 0 l) v

-- a number is below the power of ten of its digits
pub enough : (k n : ℕ) → n < 10 ^ k → n < 10 ^ digit_count n
enough zero n h = let z : n ≡ 0 = omega arith in rw (z, no-digits) (lit< tt)
enough (suc k) n h =
    ⊎_elim (λ (z : n ≡ 0). rw (z, no-digits) (lit< tt))
    (λ (l : 0 < n). rw (one_more n l)
    (let p = pow-succ' 10 (digit_count (n / 10)) in let q = enough k (n / 10) (let r = pow-succ' 10 k in omega arith) in omega arith))
    (eq-zero-or-pos n)

module _ (n : ℕ) (h : n < 4294967296) where
  abbrev text : List ℕ
  text = decimal 1 n

  in-text : In 48 text
  unfolding decimal
  in-text = in-digits (width 1 n) n

  pub some-text : 0 < length text
  unfolding width pick
  some-text = rw (length-decimal 1 n) (of_test (ltb (digit_count n) 1) (λ q. rw q (lit< tt)) (λ q. rw q (omega (arith, ltb-false (digit_count n) 1 q))))

  pub short_text : length text ≤ 10
  unfolding width pick
  short_text = rw (length-decimal 1 n) (of_test (ltb (digit_count n) 1) (λ q. rw q (lit≤ tt)) (λ q. rw q (few 10 n (omega arith))))

  below : n < 10 ^ width 1 n
  unfolding width pick
  below =
      of_test (ltb (digit_count n) 1)
      (λ q. let z : digit_count n ≡ 0 = (let l = ltb-true (digit_count n) 1 q in omega arith) in
      let e = rw z at (enough 10 n (omega arith)) in rw q (omega arith))
      (λ q. rw q (enough 10 n (omega arith)))

  is-value : parse 4294967295 text ≡ Some n
  unfolding decimal
  is-value = digits-parse text 4294967295 n some-text in-text (value-digits 4294967295 (width 1 n) n below (omega arith))

  number-at : (start : ℕ) {s t : List ℕ} {i : ℕ} → Stops t → From s i (text ++ t) → number_at s start i ≡ Ok (n, record { 0 = i + length text })
  number-at start {s} {t} b f = number_read text t n start some-text in-text is-value b f

-- one Normal chunk of such bytes is clean, and formatted it is its bytes
all_ascii_lem : (u : List ℕ) → In 45 u → all_ascii u ≡ true
unfolding all_ascii
all_ascii_lem [] p = refl
all_ascii_lem (c ∷ u) p = rw (lt-ltb c 0x80 (omega (arith, p.0.1))) (all_ascii_lem u p.1)

as-shown : (white : Bool) (u : List ℕ) → In 45 u → plain_text false white u ≡ u
unfolding plain_text plain_out plain_byte is_break pick
as-shown white [] p = refl
as-shown white (c ∷ u) p =
    rw (ne_eqb c 0x0A (λ (e : c ≡ 0x0A). omega (arith, p.0.0)), ne_eqb c 0x0D (λ (e : c ≡ 0x0D). omega (arith, p.0.0)))
    (ap (λ (l : List ℕ). c ∷ l) (as-shown (is_whitespace c) u p.1))

module _ (a b : ℕ) (ha : a < 4294967296) (hb : b < 4294967296) where
  abbrev s : List ℕ
  s = written_range a b

  shown : In 45 s
  unfolding written_range
  shown =
      in-append 45 (decimal 1 a) ((0x2D ∷ []) ++ decimal 1 b) (in-more (decimal 1 a) (in-text a ha))
      ((lit≤ tt, lit< tt), in-more (decimal 1 b) (in-text b hb))

  -- a written range has at most 21 bytes
  pub at_most : length s ≤ 21
  unfolding written_range
  at_most =
      omega (arith, length-append (decimal 1 a) ((0x2D ∷ []) ++ decimal 1 b), short_text a ha, short_text b hb)

  from-0 : From s 0 (decimal 1 a ++ (0x2D ∷ decimal 1 b))
  unfolding written_range
  from-0 = record { is = refl }

  from-1 : From s (0 + length (decimal 1 a)) (0x2D ∷ decimal 1 b)
  from-1 = from-behind (decimal 1 a) from-0

  from-2 : From s (0 + length (decimal 1 a) + 1) (decimal 1 b ++ [])
  from-2 = record { is = (front_rest from-1).is ∙ sym (append-nil (decimal 1 b)) }

  from-3 : From s (0 + length (decimal 1 a) + 1 + length (decimal 1 b)) []
  from-3 = from-behind (decimal 1 b) from-2

  text-back : (span : FileSpan) → read_text s span ≡ Ok (a, b)
  unfolding read_text behind_first dash_at or_else on_dash behind_dash second_at on_number done_at pick
  text-back span =
      rw (
        number-at a ha span.0 a_hyphen from-0,
        stops-white a_hyphen from-1,
        front-ate from-1 (Is 0x2D) (lit< tt) hyphen-hyphen,
        first-hyphen (decimal 1 b) [] (some-text b hb) (in-text b hb) from-2,
        first-white (decimal 1 b) [] (some-text b hb) (in-text b hb) from-2,
        number-at b hb span.0 no_more from-2,
        le-leb (length s) (0 + length (decimal 1 a) + 1 + length (decimal 1 b)) (front-past from-3),
      )

  -- each written range, read as one piece of one Normal chunk anywhere in a file, gives the range back
  pub range_back : (start end : ℕ) → piece s (one_chunk s start end) ≡ Ok (a, b)
  unfolding piece on_clean
  range_back start end =
      let t = one_chunk s start end in
      let p = plainly s t (record { four = refl; normal_kind = refl; whole = refl; small = omega (arith, at_most); ascii = all_ascii_lem s shown }) in
      let e : formatted s t ≡ s = sym (plain-as-is s t {u = false} refl) ∙ p.text false ∙ as-shown false s shown in
      rw (p.clean, e) (text-back (span_of (chunks_of t)))

  module _ (start end : ℕ) where
    whole-size : size_of 1 (one_chunk s start end) ≡ length s
    unfolding size_of lengths chunks_of
    whole-size = add-zero (length s)

    said-back : said (first_of 1 s (one_chunk s start end)) ≡ Ok (a, b)
    unfolding said first_of
    said-back = rw (whole-size, take-length s) (range_back start end)

    adds : adds_up s (one_chunk s start end) (1 ∷ []) ≡ true
    unfolding adds_up total lengths chunks_of
    adds = rw (add-zero (length s)) (eq-eqb (length s) (length s) refl)

    -- lent as one piece with any span it is answered with one range
    pub pages-back : (room : ℕ) → 2 ≤ room → pages_answer s (one_chunk s start end) (1 ∷ []) room ≡ Ok 1
    unfolding pages_answer pieces_of judged on_range pick
    pages-back room h = rw (adds, le-leb 2 room h, said-back) refl

    -- whose two numbers stand at the front of the lent table, and what is behind them stays
    pub pages-left : (x y : ℕ) (out : List ℕ) → pages_afterwards s (one_chunk s start end) (1 ∷ []) (x ∷ y ∷ out) ≡ a ∷ b ∷ out
    unfolding pages_afterwards table_after pieces_of put numbers_of
    pages-left x y out = rw (pages-back (length (x ∷ y ∷ out)) (omega arith), said-back) refl
