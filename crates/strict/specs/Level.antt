-- The grammar of level one: a part of ISO 8601-2 beside the strict grammar. Its points are the strict ones, seasons of a year and long years.
use Rattle.std.specs.Prelude.{ℕ, zero, suc, ◌^◌, ◌≤◌, ◌<◌, List, ◌∷◌, ◌++◌, ℤ, pos, neg_ℤ, Option, Some, None}
use Prim.Native.Char.{code}
use Rattle.dates.specs.declared.Season.{Season}
use Rattle.dates.specs.declared.Season.TheVariants.{Autumn, Spring, Summer, Winter}
use Rattle.dates.specs.declared.Datetime.{Datetime}
use Rattle.dates.specs.declared.Date.{Date}
use Rattle.dates.specs.Value.{datetime, season_of}
use Rattle.strict.specs.Digits.{digits}
use Rattle.strict.specs.Grammar.{Year, Field, Point, TextOf}

-- the seasons by their numbers 21 to 24, counted from 21
unfoldable pub season_at : ℕ → Option Season
season_at zero = Some Spring
season_at (suc zero) = Some Summer
season_at (suc (suc zero)) = Some Autumn
season_at (suc (suc (suc n))) = Some Winter

-- Y, perhaps a minus, five to nine digits: one more than w, and the first is not zero
pub data LongYear : List ℕ → ℤ → Type 0 where
  Yd : (w n : ℕ) → 4 ≤ w → w ≤ 8 → 10 ^ w ≤ n → n < 10 ^ suc w → LongYear (code "Y" ∷ digits (suc w) n) (pos n)
  Y_d : (w n : ℕ) → 4 ≤ w → w ≤ 8 → 10 ^ w ≤ n → n < 10 ^ suc w → LongYear (code "Y" ∷ code "-" ∷ digits (suc w) n) (neg_ℤ (pos n))

-- a point of level one: a strict one, a season of a year, or a long year with nothing behind it
pub data LevelPoint : List ℕ → Datetime → Type 0 where
  strictly : {s : List ℕ} {a : Datetime} → Point s a → LevelPoint s a
  season : {s t : List ℕ} {y : ℤ} {n : ℕ} → Year s y → Field (code "-") 21 24 t n → LevelPoint (s ++ t) (season_of y (season_at n))
  long : {s : List ℕ} {y : ℤ} → LongYear s y → LevelPoint s (datetime y None None None)

-- a text of level one: ranges, X and marks are those of the strict grammar
abbrev pub LevelText : List ℕ → Date → Type 0
LevelText = TextOf LevelPoint
