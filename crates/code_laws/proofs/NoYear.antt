-- Nothing, and words that begin with no digit, sign or white space, are refused at their front: no year stands there, and there is no X and no
-- slash that would have them read otherwise.
-- Assumes nothing.
use mathlib.Core.Path.{◌≡◌, refl, sym, ap, ◌∙◌}
use mathlib.Core.Bool.{Bool, true, false, not, ◌&&◌, ◌||◌}
use mathlib.Core.List.{List, [], ◌∷◌, ◌++◌}
use Prim.Native.Nat.{ℕ, zero, suc, ◌-◌, ◌≤◌, ◌<◌}
use native.Mathlib.Omega.{arith}
use borrow.Author.Tests.{ne_eqb, lt-ltb, le-ltb, ltb-true, leb-true, eqb-false}
use lib.Dec.{eqb, ltb, leb, lit≤}
use lib.ListN.{length, get_or, take}
use Rattle.chars.specs.Pick.{pick}
use Rattle.chars.specs.Classes.{is_whitespace}
use Rattle.chars.proofs.Cases.{by-test, and-true}
use Rattle.scanner.specs.declared.Class.{Class}
use Rattle.scanner.specs.declared.Class.TheVariants.{Whitespace, Numeric, Sign, Is}
use Rattle.scanner.specs.Class.{in_class}
use Rattle.scanner.specs.Scan.{match_len, eat_while, eat_if, stands_at, part}
use Rattle.scanner.proofs.Laws.{match-end, stop, not_white}
use Rattle.scanner.proofs.Digits.{above-digits, no-numeric, is-other}
use Rattle.scanner.proofs.Front.{from_start, front-match}
use Rattle.refusals.specs.declared.Kind.TheVariants.{InvalidFormat}
use Rattle.refusals.specs.declared.FileSpan.{FileSpan}
use Rattle.numbers.specs.declared.NoNumber.TheVariants.{Wrong}
use Rattle.std.specs.Prelude.{Err}
use Rattle.refusals.specs.Offset.{text_refusal, offset}
use Rattle.numbers.specs.Trim.{trim_end}
use Rattle.numbers.specs.declared.Digits.{Digits}
use Rattle.numbers.specs.declared.Digits.TheVariants.{Two, Four}
use Rattle.numbers.proofs.Laws.{int-behind}
use Rattle.numbers.specs.Number.{admits, cursor, run_of, run_at, parse_unsigned_int, or_kept, behind_sign, with_sign, parse_int}
use Rattle.points.specs.Step.{refuse_number}
use Rattle.points.specs.Point.{windowed_int, short_year, long_of, long_year, short_or, year_at, on_year, point}
use Rattle.datefield.specs.Text.{trimmed, last_byte, is_uncertain, is_approximate, unmarked, first_of}
use Rattle.datefield.specs.Value.{moved, on_half, value, marked, trimmed_date, parse_text}
use Rattle.chunks.specs.Format.{is_break}
use Rattle.chunks.specs.Plain.{all_ascii, plain_byte, plain_out, plain_text}
use Rattle.chunks.proofs.Plains.{plain-high}
use Rattle.codes.specs.Ported.{refused_at, is_word_byte, are_word_bytes, no_year}
use Rattle.code_laws.proofs.Says.{Says, Saying, place-moves, place-near}

-- a byte of words in upper case: ASCII, no X, no slash
abbrev Word : ℕ → Type 0
Word x = (x < 128) × ((x ≡ 0x58 → ⊥) × (x ≡ 0x2F → ⊥))

abbrev Wordy : List ℕ → Type 0
Wordy [] = Unit {0}
Wordy (x ∷ t) = Word x × Wordy t

-- what stands at the front begins no year
abbrev Starts : List ℕ → Type 0
Starts [] = Unit {0}
Starts (x ∷ t) = 0x3A ≤ x

take-wordy : (n : ℕ) (s : List ℕ) → Wordy s → Wordy (take n s)
take-wordy zero s w = tt
take-wordy (suc n) [] w = tt
take-wordy (suc n) (x ∷ s) w = (w.0, take-wordy n s w.1)

take-starts : (n : ℕ) (s : List ℕ) → Starts s → Starts (take n s)
take-starts zero s h = tt
take-starts (suc n) [] h = tt
take-starts (suc n) (x ∷ s) h = h

append-wordy : (s t : List ℕ) → Wordy s → Wordy t → Wordy (s ++ t)
append-wordy [] t v w = w
append-wordy (x ∷ s) t v w = (v.0, append-wordy s t v.1 w)

-- no X and no slash is found
no_x : (s : List ℕ) → Wordy s → first_of 0x58 s ≡ length s
unfolding first_of pick
no_x [] w = refl
no_x (x ∷ s) w = rw (ne_eqb x 0x58 w.0.1.0) (ap suc (no_x s w.1))

no_slash : (s : List ℕ) → Wordy s → first_of 0x2F s ≡ length s
unfolding first_of pick
no_slash [] w = refl
no_slash (x ∷ s) w = rw (ne_eqb x 0x2F w.0.1.1) (ap suc (no_slash s w.1))

-- what begins no year is of none of these classes
high-numeric : (x : ℕ) → 0x3A ≤ x → x < 128 → in_class Numeric x ≡ false
high-numeric x l h = no-numeric x h (above-digits x l)

high-sign : (x : ℕ) → 0x3A ≤ x → in_class Sign x ≡ false
unfolding in_class
high-sign x l = rw (ne_eqb x 0x2B (λ (e : x ≡ 0x2B). omega arith), ne_eqb x 0x2D (λ (e : x ≡ 0x2D). omega arith))

high-hyphen : (x : ℕ) → 0x3A ≤ x → in_class (Is 0x2D) x ≡ false
high-hyphen x l = is-other 0x2D x (λ (e : x ≡ 0x2D). omega arith)

nothing-at : (k : Class) (s : List ℕ) → Wordy s → Starts s → ((x : ℕ) → 0x3A ≤ x → x < 128 → in_class k x ≡ false) → match_len k s 0 ≡ 0
unfolding pick
nothing-at k [] w h f = match-end k [] 0 (omega arith)
nothing-at k (x ∷ t) w h f = rw (f x h w.0.0) at (front-match (from_start (x ∷ t)) k w.0.0)

module _ (s : List ℕ) (w : Wordy s) (h : Starts s) where
  white-none : eat_while Whitespace s 0 ≡ 0
  white-none = stop Whitespace s 0 (nothing-at Whitespace s w h (λ x l m. not_white x (omega arith) m))

  numeric-none : eat_while Numeric s 0 ≡ 0
  numeric-none = stop Numeric s 0 (nothing-at Numeric s w h high-numeric)

  no-int : (g : Digits) → admits g 0 ≡ false → parse_int s 0 g ≡ Err (Wrong (cursor 0))
  unfolding with_sign behind_sign or_kept eat_if stands_at parse_unsigned_int run_at run_of part pick
  no-int g a =
      rw (
        int-behind s 0 g,
        white-none,
        nothing-at Sign s w h (λ x l m. high-sign x l),
        nothing-at (Is 0x2D) s w h (λ x l m. high-hyphen x l),
        white-none,
        numeric-none,
        a,
      )

  no_year_lem : point s ≡ Err (text_refusal InvalidFormat 0 0)
  unfolding point on_year year_at short_or short_year windowed_int long_year long_of admits refuse_number
  no_year_lem = rw (no-int Two refl, no-int Four refl)

  no_value : (span : FileSpan) → value span s ≡ Err (offset (text_refusal InvalidFormat 0 0) span.0)
  unfolding value moved on_half pick
  no_value span = rw (no_x s w, no_slash s w, le-ltb (length s) (length s) (omega arith), no_year_lem)

-- such a text is refused, whatever is trimmed of it, and with a mark behind it or not
no_text : (span : FileSpan) (s : List ℕ) → Wordy s → Starts s → parse_text span s ≡ Err (offset (text_refusal InvalidFormat 0 0) span.0)
unfolding parse_text trimmed_date trimmed unmarked marked
no_text span s w h =
    let t = take (trim_end s) s in
    rw (by-test (λ (l : List ℕ). value span l ≡ Err (offset (text_refusal InvalidFormat 0 0) span.0)) (is_uncertain (last_byte t) || is_approximate (last_byte t))
    (λ _. no_value (take (length t - 1) t) (take-wordy (length t - 1) t (take-wordy (trim_end s) s w)) (take-starts (length t - 1) t (take-starts (trim_end s) s h)) span)
    (λ _. no_value t (take-wordy (trim_end s) s w) (take-starts (trim_end s) s h) span))

-- the words of a list, formatted in upper case
not-true : (t : Bool) → not t ≡ true → t ≡ false
not-true true h = sym h
not-true false h = refl

record IsWord (x : ℕ) : Type 0 where
  low : x < 128
  not_x : x ≡ 0x58 → ⊥
  not_small_x : x ≡ 0x78 → ⊥
  not_slash : x ≡ 0x2F → ⊥

is_word : (x : ℕ) → is_word_byte x ≡ true → IsWord x
unfolding is_word_byte
is_word x e =
    let p = and-true (ltb x 0x80) _ e in
    let q = and-true (not (eqb x 0x58)) _ p.1 in
    let r = and-true (not (eqb x 0x78)) (not (eqb x 0x2F)) q.1 in
    record {
      low = ltb-true x 0x80 p.0;
      not_x = eqb-false x 0x58 (not-true (eqb x 0x58) q.0);
      not_small_x = eqb-false x 0x78 (not-true (eqb x 0x78) r.0);
      not_slash = eqb-false x 0x2F (not-true (eqb x 0x2F) r.1);
    }

byte_word : (x : ℕ) → IsWord x → Word (plain_byte true x)
unfolding plain_byte pick
byte_word x v =
    by-test Word (leb 0x61 x && leb x 0x7A)
    (λ e.
    let p = and-true (leb 0x61 x) (leb x 0x7A) e in
    let l = leb-true 0x61 x p.0 in
    let m = leb-true x 0x7A p.1 in
    (omega arith, ((λ (f : x - 32 ≡ 0x58). v.not_small_x (omega arith)), (λ (f : x - 32 ≡ 0x2F). omega arith))))
    (λ _. (v.low, (v.not_x, v.not_slash)))

out-wordy : (w : Bool) (x : ℕ) → IsWord x → Wordy (plain_out true w x)
unfolding plain_out
out-wordy w x v =
    by-test Wordy (is_break x)
    (λ _. by-test Wordy w (λ _. tt) (λ _. ((omega arith, ((λ (e : 0x20 ≡ 0x58). omega arith), (λ (e : 0x20 ≡ 0x2F). omega arith))), tt)))
    (λ _. (byte_word x v, tt))

text-wordy : (w : Bool) (b : List ℕ) → are_word_bytes b ≡ true → Wordy (plain_text true w b)
unfolding are_word_bytes plain_text
text-wordy w [] e = tt
text-wordy w (x ∷ t) e =
    let p = and-true (is_word_byte x) (are_word_bytes t) e in
    append-wordy (plain_out true w x) (plain_text true (is_whitespace x) t) (out-wordy w x (is_word x p.0)) (text-wordy (is_whitespace x) t p.1)

words-ascii : (b : List ℕ) → are_word_bytes b ≡ true → all_ascii b ≡ true
unfolding are_word_bytes all_ascii
words-ascii [] e = refl
words-ascii (x ∷ t) e =
    let p = and-true (is_word_byte x) (are_word_bytes t) e in
    rw (lt-ltb x 0x80 (is_word x p.0).low, words-ascii t p.1)

byte_high : (x : ℕ) → 0x3A ≤ x → 0x3A ≤ plain_byte true x
unfolding plain_byte pick
byte_high x h = by-test (λ (y : ℕ). 0x3A ≤ y) (leb 0x61 x && leb x 0x7A) (λ e. let l = leb-true 0x61 x (and-true (leb 0x61 x) (leb x 0x7A) e).0 in omega arith) (λ _. h)

text-starts : (x : ℕ) (t : List ℕ) → 0x3A ≤ x → x < 0x80 → Starts (plain_text true false (x ∷ t))
unfolding plain_text
text-starts x t h l = rw (plain-high true false x (omega arith) l).0 (byte_high x h)

-- what is said of such a text
no-year-says : (s : List ℕ) → length s ≤ 4096 → are_word_bytes s ≡ true → Starts (plain_text true false s) → Says s (refused_at InvalidFormat 0 0)
no-year-says s n e h =
    record {
      small = n;
      ascii = words-ascii s e;
      text = λ span l. no_text span (plain_text true false s) (text-wordy false s e) h ∙ place-moves InvalidFormat refl 0 0 (omega arith) (omega arith) span.0 0 0 span.0 l refl refl;
      near = place-near InvalidFormat refl 0 0 (omega arith) (omega arith);
    }

pub empty-says : (s : List ℕ) → length s ≡ 0 → Says s (refused_at InvalidFormat 0 0)
unfolding are_word_bytes plain_text
empty-says [] n = no-year-says [] (lit≤ tt) refl tt
empty-says (x ∷ t) n = absurd (omega arith)

words-start : (s : List ℕ) → 0x3A ≤ get_or s 0 0 → are_word_bytes s ≡ true → Starts (plain_text true false s)
unfolding are_word_bytes plain_text
words-start [] h e = tt
words-start (x ∷ t) h e = text-starts x t h (is_word x (and-true (is_word_byte x) _ e).0).low

pub words-say : (s : List ℕ) → 0x3A ≤ get_or s 0 0 → Saying s (no_year s)
unfolding no_year
words-say s h =
    by-test (Saying s) (leb (length s) 4096 && are_word_bytes s)
    (λ t. let p = and-true (leb (length s) 4096) _ t in no-year-says s (leb-true _ 4096 p.0) p.1 (words-start s h p.1))
    (λ t. tt)
