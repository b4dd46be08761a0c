-- How reading goes on, by what the text has from a place on: what callers that know the text use.
-- Assumes nothing.
use mathlib.Core.Path.{◌≡◌, refl, sym, ap, ◌∙◌}
use mathlib.Core.Bool.{true, false}
use mathlib.Core.List.{List, [], ◌∷◌, ◌++◌}
use Prim.Native.Nat.{ℕ, ◌+◌, ◌≤◌, ◌<◌}
use native.Mathlib.Nat.{add-sub_cancel_left}
use native.Mathlib.Omega.{arith}
use borrow.Author.Tests.{le-leb}
use lib.ListN.{length, drop, length-drop}
use lib.Seq.{drop-drop, drop-append_seam, take-append_seam}
use Rattle.chars.specs.Pick.{pick}
use Rattle.chars.specs.Utf8.{first, decode_at}
use Rattle.chars.specs.declared.Decoded.TheVariants.{Char}
use Rattle.chars.proofs.Laws.{first-ascii}
use Rattle.scanner.specs.declared.Class.{Class}
use Rattle.scanner.specs.Class.{in_class}
use Rattle.scanner.specs.Scan.{len_in, match_len, eat_while, done_at, part}
use Rattle.scanner.proofs.Laws.{match-end, stop, go}

-- from place i on, the text s is t. A record, so that s, i and t are read off a fact of it
pub record From (s : List ℕ) (i : ℕ) (t : List ℕ) : Type 0 where
  pub is : drop i s ≡ t

pub from_start : (s : List ℕ) → From s 0 s
from_start s = record { is = refl }

-- behind a part of it
pub from-behind : {s t : List ℕ} {i : ℕ} (u : List ℕ) → From s i (u ++ t) → From s (i + length u) t
from-behind {s} {t} {i} u f = record { is = sym (drop-drop (length u) i s) ∙ ap (drop (length u)) f.is ∙ drop-append_seam u t }

-- that part
pub front-part : (u t : List ℕ) {s : List ℕ} {i : ℕ} → From s i (u ++ t) → part s i (i + length u) ≡ u
unfolding part
front-part u t f = rw (add-sub_cancel_left, f.is) (take-append_seam u t)

module _ {s t : List ℕ} {i c : ℕ} (f : From s i (c ∷ t)) where
  -- a byte stands there
  pub front-inside : i < length s
  front-inside = omega (arith, length-drop i s, ap length f.is)

  -- and the rest stands behind it
  pub front_rest : From s (i + 1) t
  front_rest = record { is = sym (drop-drop 1 i s) ∙ ap (drop 1) f.is }

  -- an ASCII byte is a character by itself
  pub front-char : c < 128 → decode_at s i ≡ Char c 1
  unfolding decode_at
  front-char h = ap first f.is ∙ first-ascii c t h

  pub front-match : (k : Class) → c < 128 → match_len k s i ≡ pick (in_class k c) 1 0
  unfolding match_len len_in
  front-match k h = rw (front-char h)

  pub front-go : (k : Class) → c < 128 → in_class k c ≡ true → eat_while k s i ≡ eat_while k s (i + 1)
  unfolding pick
  front-go k h y = let m : match_len k s i ≡ 1 = rw y at (front-match k h) in go k s i (omega arith) ∙ ap (λ (n : ℕ). eat_while k s (i + n)) m

  pub front-stop : (k : Class) → c < 128 → in_class k c ≡ false → eat_while k s i ≡ i
  unfolding pick
  front-stop k h y = stop k s i (rw y at (front-match k h))

-- nothing stands there
module _ {s : List ℕ} {i : ℕ} (f : From s i []) where
  pub front-past : length s ≤ i
  front-past = omega (arith, length-drop i s, ap length f.is)

  pub front-done : done_at s i ≡ true
  unfolding done_at
  front-done = le-leb (length s) i front-past

  pub front-end : (k : Class) → eat_while k s i ≡ i
  front-end k = stop k s i (match-end k s i front-past)
