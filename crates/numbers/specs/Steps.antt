-- What some steps of the trimming come to. No public contract rests on it.
use Rattle.std.specs.Prelude.{ℕ, ◌≤◌, ◌<◌, ◌≡◌, Bool, true, false, List, length}
use Rattle.numbers.specs.Trim.{trim_step, trim_from}

-- from place at to place r, and whether no step goes on from there
pub record Steps (s : List ℕ) (at r : ℕ) (over : Bool) : Type 0 where
  -- the text is trimmed from there as from the start
  pub same : trim_from s r ≡ trim_from s at
  -- it is within the text
  pub inside : r ≤ length s
  -- no step goes on
  pub stops : over ≡ true → trim_step s r ≡ 0
  -- else there was one
  pub on : over ≡ false → at < r
