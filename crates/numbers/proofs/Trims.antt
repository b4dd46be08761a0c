-- What callers use of the trimming.
-- Assumes nothing.
use mathlib.Core.Path.{◌≡◌, refl, sym, ap, subst, ◌∙◌}
use mathlib.Core.Bool.{true, false}
use mathlib.Core.List.{List, [], ◌∷◌}
use Prim.Native.Nat.{ℕ, zero, suc, ◌+◌, ◌-◌, ◌≤◌, ◌<◌}
use native.Mathlib.Nat.{add-zero, le_refl, lt_irrefl}
use native.Mathlib.Omega.{arith}
use borrow.Author.Tests.{lt-ltb, le-ltb, le-leb}
use lib.ListN.{length, get_or, take, drop, length-drop}
use Rattle.chars.specs.Pick.{pick}
use Rattle.chars.specs.Utf8.{len_of, is_cont, code2, decode2, decode, decode_at}
use Rattle.chars.specs.declared.Decoded.{Decoded}
use Rattle.chars.specs.declared.Decoded.TheVariants.{Char, Bad, End}
use Rattle.chars.proofs.Cases.{of_test}
use Rattle.chars.proofs.Laws.{Sound, char, bad, end, sound, found, first-end, past_end, ascii, inside_is, cont}
use Rattle.scanner.specs.declared.Class.TheVariants.{Whitespace}
use Rattle.scanner.specs.Class.{in_class}
use Rattle.scanner.specs.Scan.{len_in, match_len, eat_while, part}
use Rattle.scanner.proofs.Walk.{walk-stop, walk-go, walk_kept, walk-ended, walk_inside}
use Rattle.scanner.proofs.Laws.{at_least, stopped, stop, all-eaten, go-ascii, stop-ascii}
use Rattle.scanner.proofs.Blanks.{match-two}
use Rattle.scanner.proofs.Front.{From, from_start, front_rest, front-stop, front-char, front-end, front-past}
use Rattle.numbers.specs.Trim.{step_by, step_over, trim_step, trim_from, trim_end, trim, Over, past, ill, Solid, Ended, empty, both, Trimmed}

by_fits : (s : List ℕ) (i a : ℕ) {r : Decoded} → Sound (drop a s) r → step_by i a r ≤ length s - i
unfolding step_by
by_fits s i a (char l h _ _) = omega (arith, length-drop a s)
by_fits s i a bad = omega arith
by_fits s i a end = omega arith

-- a step stays within the text
pub step_fits : (s : List ℕ) (i : ℕ) → trim_step s i ≤ length s - i
unfolding trim_step step_over
step_fits s i = by_fits s i (eat_while Whitespace s i) (sound s (eat_while Whitespace s i))

-- no character is left: the place stays
pub trim-stop : (s : List ℕ) (at : ℕ) → trim_step s at ≡ 0 → trim_from s at ≡ at
unfolding trim_from
trim-stop s at h = walk-stop (trim_step s) (length s) (step_fits s) (length s) at h

-- on behind a character
pub trim-go : (s : List ℕ) (at : ℕ) → 0 < trim_step s at → trim_from s at ≡ trim_from s (at + trim_step s at)
unfolding trim_from
trim-go s at h = walk-go (trim_step s) (length s) (step_fits s) at h

-- an ASCII character: a step of its own, or white space before one
on-white : (i a : ℕ) (d : Decoded) → i + 1 ≤ a → 0 < step_by (i + 1) a d → i + step_by i a d ≡ i + 1 + step_by (i + 1) a d
unfolding step_by
on-white i a (Char code len) h l = omega arith
on-white i a Bad h l = absurd (lt_irrefl 0 l)
on-white i a End h l = absurd (lt_irrefl 0 l)

module _ (s : List ℕ) (at : ℕ) (h : at < length s) (l : get_or s at 0 < 128) where
  solid-step : in_class Whitespace (get_or s at 0) ≡ false → trim_step s at ≡ 1
  unfolding trim_step step_over step_by
  solid-step w = rw (stop-ascii Whitespace s at h l w, ascii s at h l) (omega arith)

  white-step : in_class Whitespace (get_or s at 0) ≡ true → 0 < trim_step s (at + 1) → at + trim_step s at ≡ at + 1 + trim_step s (at + 1)
  unfolding trim_step step_over
  white-step w p =
      rw (go-ascii Whitespace s at h l w)
      (on-white at (eat_while Whitespace s (at + 1)) (decode_at s (eat_while Whitespace s (at + 1))) (at_least Whitespace s (at + 1)) p)

-- a character of two bytes from U+00C0 on
pub pair_step : (s : List ℕ) (i : ℕ) → i < length s → 0xC3 ≤ get_or s i 0 → get_or s i 0 < 0xE0 → is_cont (get_or s (i + 1) 0) ≡ true → trim_step s i ≡ 2
unfolding trim_step step_over step_by decode len_of decode2 pick
pair_step s i h l m k =
    let d = cont (get_or s (i + 1) 0) k in
    rw (
      stop Whitespace s i (match-two s i l m),
      inside_is s i h,
      le-ltb (get_or s i 0) 0x80 (omega arith),
      le-ltb (get_or s i 0) 0xC0 (omega arith),
      lt-ltb (get_or s i 0) 0xE0 m,
      k,
      le-leb 0x80 (code2 (get_or s i 0) (get_or s (i + 1) 0)) (omega (arith, d.low, d.high)),
    )
    (omega arith)

one_on : (i j : ℕ) → i + 1 + j ≡ i + suc j
one_on i j = omega arith

-- over ASCII characters to one that is no white space: there is a step, and the walk comes to the place behind them
pub over-ascii : (n : ℕ) (s : List ℕ) (at : ℕ) → at + n < length s → ((j : ℕ) → j ≤ n → get_or s (at + j) 0 < 128) → in_class Whitespace (get_or s (at + n) 0) ≡ false → (0 < trim_step s at) × (trim_from s at ≡ trim_from s (at + (n + 1)))
over-ascii zero s at h low w =
    let e = solid-step s at (omega arith) (rw (add-zero at) at (low 0 (omega arith))) (rw (add-zero at) at w) in
    (omega arith, trim-go s at (omega arith) ∙ ap (λ (k : ℕ). trim_from s (at + k)) e)
over-ascii (suc n) s at h low w =
    let here : get_or s at 0 < 128 = rw (add-zero at) at (low 0 (omega arith)) in
    let rest = over-ascii n s (at + 1) (omega arith) (λ j l. rw (one_on at j) (low (suc j) (omega arith))) (rw (one_on at n) w) in
    let far : trim_from s (at + 1) ≡ trim_from s (at + (suc n + 1)) = rest.1 ∙ ap (trim_from s) (omega arith) in
    of_test (in_class Whitespace (get_or s at 0))
    (λ t.
    let e = white-step s at (omega arith) here t rest.0 in
    (omega (arith, rest.0), trim-go s at (omega (arith, rest.0)) ∙ ap (trim_from s) e ∙ sym (trim-go s (at + 1) rest.0) ∙ far))
    (λ t. let e = solid-step s at (omega arith) here t in (omega arith, trim-go s at (omega arith) ∙ ap (λ (k : ℕ). trim_from s (at + k)) e ∙ far))

from_zero : (j : ℕ) → 0 + j ≡ j
from_zero j = omega arith

-- of an ASCII text whose last character is no white space nothing is trimmed
pub ascii-trim : (s : List ℕ) → 0 < length s → ((j : ℕ) → j < length s → get_or s j 0 < 128) → in_class Whitespace (get_or s (length s - 1) 0) ≡ false → trim_end s ≡ length s
unfolding trim_end
ascii-trim s h low w =
    let n = length s - 1 in
    let o = over-ascii n s 0 (omega arith) (λ j l. rw (from_zero j) (low j (omega arith))) (rw (from_zero n) w) in
    let all : 0 + (n + 1) ≡ length s = omega arith in
    o.1 ∙ ap (trim_from s) all ∙ trim-stop s (length s) (omega (arith, step_fits s (length s)))

-- ASCII characters, none of them white space
abbrev pub Plain : List ℕ → Type 0
Plain [] = Unit {0}
Plain (x ∷ l) = ((x < 128) × (in_class Whitespace x ≡ false)) × Plain l

plain_step : {s t : List ℕ} {i c : ℕ} → c < 128 → in_class Whitespace c ≡ false → From s i (c ∷ t) → trim_step s i ≡ 1
unfolding trim_step step_over step_by
plain_step {s} {t} {i} h w f = rw (front-stop f Whitespace h w, front-char f h) (omega arith)

end_step : {s : List ℕ} {i : ℕ} → From s i [] → trim_step s i ≡ 0
unfolding trim_step step_over step_by
end_step {s} {i} f = rw (front-end f Whitespace, past_end s i (front-past f))

plain-from : (u : List ℕ) {s : List ℕ} {i : ℕ} → Plain u → From s i u → trim_from s i ≡ i + length u
plain-from [] {s} {i} p f = trim-stop s i (end_step f) ∙ sym (add-zero i)
plain-from (x ∷ u) {s} {i} p f =
    let e = plain_step p.0.0 p.0.1 f in
    trim-go s i (omega arith) ∙ ap (λ (n : ℕ). trim_from s (i + n)) e ∙ plain-from u p.1 (front_rest f) ∙ omega arith

-- of such a text nothing is trimmed
pub plain-trim : (s : List ℕ) → Plain s → trim_end s ≡ length s
unfolding trim_end
plain-trim s p = plain-from s p (from_start s) ∙ omega arith

-- the place lies within the text
pub trim-inside : (s : List ℕ) → trim_end s ≤ length s
unfolding trim_end trim_from
trim-inside s = walk_inside (trim_step s) (length s) (step_fits s) 0 (omega arith)

-- behind the last character there is white space alone
no_char : (s : List ℕ) (i a : ℕ) (d : Decoded) → i ≤ a → decode_at s a ≡ d → step_by i a d ≡ 0 → Over s a
unfolding step_by decode_at
no_char s i a (Char code len) l e h = absurd (lt_irrefl 0 (let f = found s a e in omega (arith, f.some)))
no_char s i a Bad l e h = ill e
no_char s i a End l e h = past (omega (arith, length-drop a s, ap length (first-end (drop a s) e)))

no_more : (s : List ℕ) (i : ℕ) → trim_step s i ≡ 0 → Over s (eat_while Whitespace s i)
unfolding trim_step step_over
no_more s i h = let a = eat_while Whitespace s i in no_char s i a (decode_at s a) (at_least Whitespace s i) refl h

-- a step ends behind a character that is no white space
not_white : (s : List ℕ) (a code len : ℕ) → decode_at s a ≡ Char code len → match_len Whitespace s a ≡ 0 → in_class Whitespace code ≡ false
unfolding match_len len_in pick
not_white s a code len e h =
    of_test (in_class Whitespace code)
    (λ t. let z : len ≡ 0 = rw (e, t) at h in let f = found s a e in absurd (lt_irrefl 0 (omega (arith, f.some))))
    (λ t. t)

step-char : (s : List ℕ) (i a : ℕ) (d : Decoded) → i ≤ a → decode_at s a ≡ d → match_len Whitespace s a ≡ 0 → 0 < step_by i a d → Solid s a (i + step_by i a d)
unfolding step_by
step-char s i a (Char code len) l e m h = record { code = code; len = len; stands = e; solid = not_white s a code len e m; ends = omega arith }
step-char s i a Bad l e m h = absurd (lt_irrefl 0 h)
step-char s i a End l e m h = absurd (lt_irrefl 0 h)

step-solid : (s : List ℕ) (i : ℕ) → 0 < trim_step s i → Solid s (eat_while Whitespace s i) (i + trim_step s i)
unfolding trim_step step_over
step-solid s i h =
    let a = eat_while Whitespace s i in
    step-char s i a (decode_at s a) (at_least Whitespace s i) refl (stopped Whitespace s i) h

ended : (s : List ℕ) → trim_step s (trim_end s) ≡ 0
unfolding trim_end trim_from
ended s = walk-ended (trim_step s) (length s) (step_fits s) 0

-- what the walk to the end keeps: it is at the start, or behind such a character, with such a one at the first place that is no white space
data Walked (s : List ℕ) (e : ℕ) : Type 0 where
  at_start : e ≡ 0 → Walked s e
  behind_some : {behind last : ℕ} → Solid s (eat_while Whitespace s 0) behind → behind ≤ e → eat_while Whitespace s 0 ≤ last → Solid s last e → Walked s e

walk-on : (s : List ℕ) (i : ℕ) → 0 < trim_step s i → Walked s i → Walked s (i + trim_step s i)
walk-on s i h (at_start z) =
    let c = subst (λ (n : ℕ). Solid s (eat_while Whitespace s n) (i + trim_step s i)) z (step-solid s i h) in
    behind_some c (le_refl (i + trim_step s i)) (le_refl (eat_while Whitespace s 0)) c
walk-on s i h (behind_some p b l q) =
    let further : eat_while Whitespace s 0 ≤ eat_while Whitespace s i = omega (arith, q.ends, at_least Whitespace s i) in
    behind_some p (omega arith) further (step-solid s i h)

walked : (s : List ℕ) → Walked s (trim_end s)
unfolding trim_end trim_from
walked s = walk_kept (trim_step s) (length s) (step_fits s) (Walked s) (walk-on s) (length s) 0 (at_start refl)

to-ends : (s : List ℕ) (e : ℕ) → Walked s e → Ended s (eat_while Whitespace s 0) e
unfolding part
to-ends s e (at_start z) =
    let n : e - eat_while Whitespace s 0 ≡ 0 = omega arith in
    empty (ap (λ (m : ℕ). take m (drop (eat_while Whitespace s 0) s)) n)
to-ends s e (behind_some p b l q) = both p b l q

-- trimming takes off white space alone, and all that there is at the ends
pub trimmed : (s : List ℕ) → Trimmed s (trim s)
unfolding trim
trimmed s =
    record {
      start = eat_while Whitespace s 0;
      end = trim_end s;
      rest = eat_while Whitespace s (trim_end s);
      left = refl;
      before = all-eaten Whitespace s 0;
      behind = all-eaten Whitespace s (trim_end s);
      over = no_more s (trim_end s) (ended s);
      ends = to-ends s (trim_end s) (walked s);
    }
