-- A text without an X, as the ported reader takes it apart: a point, or two halves at the slash, each a point or open.
-- Assumes nothing.
use mathlib.Core.Path.{◌≡◌, refl, ◌∙◌}
use mathlib.Core.Bool.{true, false}
use mathlib.Core.List.{List, [], ◌∷◌, ◌++◌}
use Prim.Native.Nat.{ℕ, ◌+◌}
use native.Mathlib.Omega.{arith}
use borrow.Author.Tests.{ne_eqb, lt-ltb, le-ltb}
use lib.Dec.{ltb, lit≤}
use lib.ListN.{length, take, drop, length-append}
use lib.Seq.{take_at, drop-append-add}
use Rattle.chars.specs.Pick.{pick}
use Rattle.refusals.specs.declared.FileSpan.{FileSpan}
use Rattle.refusals.specs.Offset.{offset, offset_second}
use Rattle.dates.specs.declared.DateValue.TheVariants.{At, After, Before, Between}
use Rattle.points.specs.Point.{point}
use Rattle.std.specs.Prelude.{Ok}
use Rattle.datefield.specs.Text.{first_of, is_dots, is_open}
use Rattle.datefield.specs.Value.{moved, first_half, second_half, on_half, both_halves, halves, value}
use Rattle.roundtrip_laws.proofs.Bytes.{each_append, IsClear, Without, value-clear, PointText, without-x, without-slash, point-clear, not_blank, first-none, first_some}
use Rattle.roundtrip_laws.proofs.Bytes.Each.{none, more}

abbrev dots : List ℕ
dots = 46 ∷ 46 ∷ []

dots-open : is_open dots ≡ true
unfolding is_open is_dots
dots-open = rw (not_blank (more dot (more dot none)) (omega arith))
  where
    dot : IsClear 46
    dot = value-clear 46 (record { low = lit≤ tt; high = lit≤ tt; unmarked = refl })

-- a point's text is no open half
closed : {s : List ℕ} → PointText s → is_open s ≡ false
unfolding is_open is_dots
closed {s} p = rw (not_blank (point-clear p.in_point) (omega arith), ne_eqb (length s) 2 (λ (e : length s ≡ 2). omega arith))

before-slash : (u v : List ℕ) → take (length u) (u ++ 47 ∷ v) ≡ u
before-slash u v = take_at u (47 ∷ v) (length u) refl

behind-slash : (u v : List ℕ) → drop (length u + 1) (u ++ 47 ∷ v) ≡ v
behind-slash u v = drop-append-add u (47 ∷ v) 1

module _ (span : FileSpan) where
  no_x : (s : List ℕ) → Without 0x58 s → value span s ≡ pick (ltb (first_of 0x2F s) (length s)) (halves span s (first_of 0x2F s)) (on_half (moved (point s) λ e. offset e span.0) λ d. Ok (At d))
  unfolding value pick
  no_x s x = rw (first-none 0x58 x, le-ltb (length s) (length s) (omega arith))

  -- the first slash is the one between the halves
  split : (u v : List ℕ) → Without 0x2F u → Without 0x58 u → Without 0x58 v → value span (u ++ 47 ∷ v) ≡ halves span (u ++ 47 ∷ v) (length u)
  unfolding pick
  split u v h x y =
      no_x (u ++ 47 ∷ v) (each_append x (more {x = 47} refl y))
      ∙ rw (first_some 0x2F v h, lt-ltb (length u) (length (u ++ 47 ∷ v)) (rw length-append (omega arith)))

  pub alone-value : {s : List ℕ} → PointText s → value span s ≡ on_half (moved (point s) λ e. offset e span.0) λ a. Ok (At a)
  unfolding pick
  alone-value {s} p = no_x s (without-x p.in_point) ∙ rw (first-none 0x2F (without-slash p.in_point), le-ltb (length s) (length s) (omega arith))

  pub between-value : {s t : List ℕ} → PointText s → PointText t → value span (s ++ 47 ∷ t) ≡ on_half (moved (point s) λ e. offset e span.0) λ a. on_half (moved (point t) λ e. offset_second e span.0 (length s)) λ b. Ok (Between a b)
  unfolding halves both_halves first_half second_half pick
  between-value {s} {t} p q =
      split s t (without-slash p.in_point) (without-x p.in_point) (without-x q.in_point) ∙ rw (before-slash s t, behind-slash s t, closed p, closed q)

  pub after-value : {s : List ℕ} → PointText s → value span (s ++ 47 ∷ dots) ≡ on_half (moved (point s) λ e. offset e span.0) λ a. Ok (After a)
  unfolding halves first_half pick
  after-value {s} p =
      split s dots (without-slash p.in_point) (without-x p.in_point) (more {x = 46} refl (more {x = 46} refl none))
      ∙ rw (before-slash s dots, behind-slash s dots, closed p, dots-open)

  pub before-value : {t : List ℕ} → PointText t → value span (dots ++ 47 ∷ t) ≡ on_half (moved (point t) λ e. offset_second e span.0 2) λ b. Ok (Before b)
  unfolding halves second_half pick
  before-value {t} q =
      split dots t (more {x = 46} refl (more {x = 46} refl none)) (more {x = 46} refl (more {x = 46} refl none)) (without-x q.in_point)
      ∙ rw (before-slash dots t, behind-slash dots t, closed q, dots-open)
