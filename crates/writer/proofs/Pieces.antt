-- The texts that the writers put together, by the tests and variants that lead to them. Over plain variables. Assumes nothing.
use mathlib.Core.Path.{◌≡◌, refl, sym, ap, ◌∙◌}
use mathlib.Core.Bool.{Bool, true, false, false≢true, ◌||◌}
use mathlib.Core.List.{List, [], ◌∷◌, ◌++◌}
use Prim.Native.Nat.{ℕ, ◌+◌, ◌<◌}
use native.Mathlib.Omega.{arith}
use lib.Dec.{ltb}
use lib.ListN.{length, length-append}
use lib.IntN.{ℤ, pos, negsuc, nat_abs}
use lib.Signed.{lt_z}
use mir.Syntax.{w32}
use mir.Val.{SFits, of_z, to_z}
use mir.ValLaws.{to_z-of_z}
use borrow.Author.Tests.{ltb-true}
use Rattle.chars.specs.Pick.{pick}
use Rattle.dates.specs.declared.Datetime.{Datetime}
use Rattle.dates.specs.Value.{has_season, season_number}
use Rattle.writer.specs.declared.Parts.{Parts}
use Rattle.chars.specs.Ascii.{ascii}
use Rattle.puts.specs.Numbers.{width, decimal}
use Rattle.writer.specs.Texts.{minus, year_text, parts_of, part_text, hyphen_part, parts_text, datetime_text}
use Rattle.puts.specs.Marks.{mark_text}
use Rattle.writer.specs.Fields.{prefix, line, part_lines, end_lines}
use Rattle.writer.specs.Level.{long_sign, behind_text}
use Rattle.puts.proofs.Counts.{length-decimal}

-- what a test of two ends says
pub first-false : (a b : Bool) → a || b ≡ false → a ≡ false
first-false true b e = e
first-false false b e = refl

pub second-false : (a b : Bool) → a || b ≡ false → b ≡ false
second-false true b e = absurd (false≢true (sym e))
second-false false b e = e

-- the length of two texts
pub added : (a b : List ℕ) {m n : ℕ} → m ≡ length a → n ≡ length b → m + n ≡ length (a ++ b)
added a b e f = rw (e, f, length-append)

below : (z : ℤ) → lt_z z (pos 0) ≡ true → minus z ≡ 45 ∷ []
unfolding minus
below (pos n) t = absurd (let h = ltb-true n 0 t in omega arith)
below (negsuc n) t = refl

above : (z : ℤ) → lt_z z (pos 0) ≡ false → minus z ≡ []
unfolding minus
above (pos n) t = refl
above (negsuc n) t = absurd (false≢true (sym t))

-- a year as the machine has it
module _ (y : ℤ) (f : SFits w32 y) where
  pub has-minus : lt_z (to_z w32 (of_z w32 y)) (pos 0) ≡ true → minus y ≡ 45 ∷ []
  has-minus t = below y (rw (to_z-of_z w32 y f) at t)

  pub no_minus : lt_z (to_z w32 (of_z w32 y)) (pos 0) ≡ false → minus y ≡ []
  no_minus t = above y (rw (to_z-of_z w32 y f) at t)

  pub year-digits : {n : ℕ} → n ≡ nat_abs (to_z w32 (of_z w32 y)) → year_text y ≡ minus y ++ decimal 4 n
  unfolding year_text
  year-digits e = rw (e, to_z-of_z w32 y f)

  -- the length of its text, by the width of its digits
  module _ {n w : ℕ} (en : n ≡ nat_abs (to_z w32 (of_z w32 y))) (ew : w ≡ width 4 n) where
    by_width : length (year_text y) ≡ length (minus y) + w
    by_width = ap length (year-digits en) ∙ rw (length-append, length-decimal, ew)

    pub negative-length : lt_z (to_z w32 (of_z w32 y)) (pos 0) ≡ true → w + 1 ≡ length (year_text y)
    negative-length t = let e : length (minus y) ≡ 1 = ap length (has-minus t) in omega (arith, e, by_width)

    pub plain-length : lt_z (to_z w32 (of_z w32 y)) (pos 0) ≡ false → w ≡ length (year_text y)
    plain-length t = let e : length (minus y) ≡ 0 = ap length (no_minus t) in omega (arith, e, by_width)

-- a Datetime and its lines, once its parts are known
pub datetime-pieces : (d : Datetime) {p : Parts} → p ≡ parts_of d → datetime_text d ≡ year_text d.year ++ parts_text p
unfolding datetime_text
datetime-pieces d e = ap (λ (x : Parts). year_text d.year ++ parts_text x) (sym e)

pub end-pieces : (end : Bool) (d : Datetime) {p : Parts} → p ≡ parts_of d → end_lines end d ≡ line end (ascii "year=") (year_text d.year) ++ part_lines end p
unfolding end_lines
end-pieces end d e = ap (λ (x : Parts). line end (ascii "year=") (year_text d.year) ++ part_lines end x) (sym e)

-- the length of a mark
module _ {u : Bool} where
  pub one-mark : (a : Bool) → u ≡ true → (1 ≡ length (mark_text u a)) × (1 < 2)
  unfolding mark_text
  one-mark true e = rw e (refl, omega arith)
  one-mark false e = rw e (refl, omega arith)

  pub other-mark : {a : Bool} → u ≡ false → a ≡ true → (1 ≡ length (mark_text u a)) × (1 < 2)
  unfolding mark_text
  other-mark e f = rw (e, f) (refl, omega arith)

  pub no_mark : {a : Bool} → u ≡ false → a ≡ false → (0 ≡ length (mark_text u a)) × (0 < 2)
  unfolding mark_text
  no_mark e f = rw (e, f) (refl, omega arith)

-- a line: the lengths of its pieces
pub line-length : (end : Bool) (name value : List ℕ) → length (line end name value) ≡ length (prefix end) + length name + length value + 1
unfolding line
line-length end name value = rw (length-append, length-append, length-append)

pub hyphen-length : (n : ℕ) → length (hyphen_part n) ≡ length (part_text n) + 1
unfolding hyphen_part
hyphen-length n = length-append (ascii "-") (part_text n) ∙ omega arith

-- ---- level one

-- Y, by whether the year is short
module _ (y : ℤ) (f : SFits w32 y) {b : Bool} (e : b ≡ ltb (nat_abs (to_z w32 (of_z w32 y))) 10000) where
  short-known : b ≡ ltb (nat_abs y) 10000
  short-known = e ∙ ap (λ (z : ℤ). ltb (nat_abs z) 10000) (to_z-of_z w32 y f)

  pub has-sign : b ≡ false → long_sign y ≡ 89 ∷ []
  unfolding long_sign pick
  has-sign t = rw (sym short-known ∙ t)

  pub no_sign : b ≡ true → long_sign y ≡ []
  unfolding long_sign pick
  no_sign t = rw (sym short-known ∙ t)

-- behind the year, by whether there is a season
module _ (d : Datetime) {b : Bool} (e : b ≡ has_season d) where
  pub season-behind : b ≡ true → {n : ℕ} → n ≡ season_number d.season → behind_text d ≡ hyphen_part n
  unfolding behind_text pick
  season-behind t g = ap (λ (x : Bool). pick x (hyphen_part (season_number d.season)) (parts_text (parts_of d))) (sym e ∙ t) ∙ ap hyphen_part (sym g)

  pub parts-behind : b ≡ false → {p : Parts} → p ≡ parts_of d → behind_text d ≡ parts_text p
  unfolding behind_text pick
  parts-behind t g = ap (λ (x : Bool). pick x (hyphen_part (season_number d.season)) (parts_text (parts_of d))) (sym e ∙ t) ∙ ap parts_text (sym g)
