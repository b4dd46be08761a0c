-- The sums of the offset rule, where they fit and where they do not.
-- Assumes nothing.
use mathlib.Core.Path.{◌≡◌}
use Prim.Native.Nat.{ℕ, ◌+◌, ◌≤◌, ◌<◌}
use borrow.Author.Tests.{le-leb, lt-leb}
use Rattle.chars.specs.Pick.{pick}
use Rattle.refusals.specs.declared.Kind.TheVariants.{RustPanics}
use Rattle.refusals.specs.declared.TextRefusal.{TextRefusal}
use Rattle.refusals.specs.Refusal.{file_span, refusal, nowhere}
use Rattle.refusals.specs.Offset.{top, saturating_add, offset, offset_second, offset_number}

pub sum_fits : (a b : ℕ) → a + b ≤ top → saturating_add a b ≡ a + b
unfolding saturating_add pick
sum_fits a b h = rw (le-leb (a + b) top h)

pub sum_over : (a b : ℕ) → top < a + b → saturating_add a b ≡ top
unfolding saturating_add pick
sum_over a b h = rw (lt-leb (a + b) top h)

module _ (e : TextRefusal) (start slash : ℕ) where
  pub second_fits : start + slash + 1 ≤ top → offset_second e start slash ≡ offset e (start + slash + 1)
  unfolding offset_second pick
  second_fits h = rw (le-leb (start + slash + 1) top h)

  pub second-over : top < start + slash + 1 → offset_second e start slash ≡ nowhere RustPanics
  unfolding offset_second pick
  second-over h = rw (lt-leb (start + slash + 1) top h)

module _ (e : TextRefusal) (start : ℕ) where
  pub number-end-over : top < e.place.1 + start → offset_number e start ≡ nowhere RustPanics
  unfolding offset_number pick
  number-end-over h = rw (lt-leb (e.place.1 + start) top h)

  module _ (h : e.place.1 + start ≤ top) where
    pub number-start-over : top < e.place.0 + start → offset_number e start ≡ nowhere RustPanics
    unfolding offset_number pick
    number-start-over g = rw (le-leb (e.place.1 + start) top h, lt-leb (e.place.0 + start) top g)

    pub number_fits : e.place.0 + start ≤ top → offset_number e start ≡ refusal e.kind (file_span (e.place.0 + start) (e.place.1 + start))
    unfolding offset_number pick
    number_fits g = rw (le-leb (e.place.1 + start) top h, le-leb (e.place.0 + start) top g)
