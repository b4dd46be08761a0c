-- What callers use of what is eaten, instead of the definitions' text.
-- Assumes nothing.
use mathlib.Core.Path.{◌≡◌, refl, ap, ◌∙◌}
use mathlib.Core.Bool.{true, false}
use mathlib.Core.List.{List}
use Prim.Native.Nat.{ℕ, ◌+◌, ◌-◌, ◌≤◌, ◌<◌, zero-le}
use native.Mathlib.Decide.{dec_le}
use native.Mathlib.Nat.{le_refl, lt_irrefl}
use native.Mathlib.Omega.{arith}
use lib.ListN.{length, get_or}
use Rattle.chars.specs.Pick.{pick}
use Rattle.chars.proofs.Classes.{printing-not-white}
use Rattle.chars.specs.Utf8.{decode_at, len_d}
use Rattle.chars.specs.declared.Decoded.{Decoded}
use Rattle.chars.specs.declared.Decoded.TheVariants.{Char, Bad, End}
use Rattle.chars.proofs.Cases.{by-test, of_test}
use Rattle.chars.proofs.Laws.{fits, ascii, past_end}
use Rattle.scanner.specs.declared.Class.{Class}
use Rattle.scanner.specs.declared.Class.TheVariants.{Whitespace}
use Rattle.scanner.specs.Class.{in_class}
use Rattle.scanner.specs.Scan.{len_in, match_len, eat_while, AllOf, none, more}
use Rattle.scanner.proofs.Walk.{walk-stop, walk-go, walk_kept, walk-ended, walk-least, walk_inside}

len_in-le : (k : Class) (d : Decoded) → len_in k d ≤ len_d d
unfolding len_in len_d
len_in-le k (Char code len) = by-test (λ n. n ≤ len) (in_class k code) (λ _. le_refl len) (λ _. zero-le)
len_in-le k Bad = zero-le
len_in-le k End = zero-le

module _ (k : Class) (s : List ℕ) where
  -- what matches lies within the text
  pub match-fits : (at : ℕ) → match_len k s at ≤ length s - at
  unfolding match_len
  match-fits at = omega (arith, len_in-le k (decode_at s at), fits s at)

  -- an ASCII byte matches by itself
  pub match-ascii : (at : ℕ) → at < length s → get_or s at 0 < 128 → match_len k s at ≡ pick (in_class k (get_or s at 0)) 1 0
  unfolding match_len len_in
  match-ascii at h l = rw (ascii s at h l)

  -- behind the end nothing does
  pub match-end : (at : ℕ) → length s ≤ at → match_len k s at ≡ 0
  unfolding match_len len_in
  match-end at h = rw (past_end s at h)

  -- nothing of the class at the place: it stays
  pub stop : (at : ℕ) → match_len k s at ≡ 0 → eat_while k s at ≡ at
  unfolding eat_while
  stop at h = walk-stop (match_len k s) (length s) match-fits (length s) at h

  -- a character of the class at the place: on behind it
  pub go : (at : ℕ) → 0 < match_len k s at → eat_while k s at ≡ eat_while k s (at + match_len k s at)
  unfolding eat_while
  go at h = walk-go (match_len k s) (length s) match-fits at h

  -- an ASCII character, of the class or not
  pub go-ascii : (at : ℕ) → at < length s → get_or s at 0 < 128 → in_class k (get_or s at 0) ≡ true → eat_while k s at ≡ eat_while k s (at + 1)
  unfolding pick
  go-ascii at h l y =
      let m : match_len k s at ≡ 1 = rw y at (match-ascii at h l) in
      go at (omega arith) ∙ ap (λ (n : ℕ). eat_while k s (at + n)) m

  pub stop-ascii : (at : ℕ) → at < length s → get_or s at 0 < 128 → in_class k (get_or s at 0) ≡ false → eat_while k s at ≡ at
  unfolding pick
  stop-ascii at h l y = stop at (rw y at (match-ascii at h l))

  -- what holds at the place, and is kept past each character of the class, holds behind the run
  pub kept : (P : ℕ → Type 0) → ((i : ℕ) → 0 < match_len k s i → P i → P (i + match_len k s i)) → (at : ℕ) → P at → P (eat_while k s at)
  unfolding eat_while
  kept P step at p = walk_kept (match_len k s) (length s) match-fits P step (length s) at p

  pub at_least : (at : ℕ) → at ≤ eat_while k s at
  unfolding eat_while
  at_least at = walk-least (match_len k s) (length s) match-fits at

  pub inside : (at : ℕ) → at ≤ length s → eat_while k s at ≤ length s
  unfolding eat_while
  inside at h = walk_inside (match_len k s) (length s) match-fits at h

  -- a run that has some character lies within the text
  pub inside-some : (at : ℕ) → at < eat_while k s at → eat_while k s at ≤ length s
  inside-some at h =
      elim (dec_le at (length s)) [ yes l ↦ inside at l | no l ↦ absurd (lt_irrefl at (rw (stop at (omega (arith, match-fits at, l))) at h)) ]

  -- no character of the class stands behind the run
  pub stopped : (at : ℕ) → match_len k s (eat_while k s at) ≡ 0
  unfolding eat_while
  stopped at = walk-ended (match_len k s) (length s) match-fits at

  of-class : (d : Decoded) (i j : ℕ) → decode_at s j ≡ d → 0 < len_in k d → AllOf k s i j → AllOf k s i (j + len_in k d)
  unfolding len_in pick
  of-class (Char code len) i j e h a =
      of_test (in_class k code) (λ t. rw t (more a e t)) (λ t. absurd (lt_irrefl 0 (rw t at h)))
  of-class Bad i j e h a = absurd (lt_irrefl 0 h)
  of-class End i j e h a = absurd (lt_irrefl 0 h)

  -- what was eaten is characters of the class alone
  pub all-eaten : (at : ℕ) → AllOf k s at (eat_while k s at)
  unfolding match_len
  all-eaten at = kept (AllOf k s at) (λ i h a. of-class (decode_at s i) at i refl h a) at none

  -- what was eaten is not eaten again
  pub again : (at : ℕ) → eat_while k s (eat_while k s at) ≡ eat_while k s at
  again at = stop (eat_while k s at) (stopped at)

-- a printing ASCII character is no white space
pub not_white : (b : ℕ) → 0x20 < b → b < 0x80 → in_class Whitespace b ≡ false
unfolding in_class
not_white b l h = printing-not-white b l h
