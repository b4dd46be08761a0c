-- The texts that the ported reader reads as the days of a month: dddd-mm-XX, with white space and more hyphens where it admits them.
use Rattle.std.specs.Prelude.{ℕ, ◌+◌, ◌<◌, ◌≡◌, true, List, [], ◌++◌, length}
use Prim.Native.Char.{code}
use Rattle.chars.specs.Ascii.{ascii}
use Rattle.chars.specs.Utf8.{encode}
use Rattle.scanner.specs.declared.Class.{Class}
use Rattle.scanner.specs.declared.Class.TheVariants.{Whitespace, Is}
use Rattle.scanner.specs.Class.{in_class}
use Rattle.strict.specs.Digits.{digits}

-- characters of a class, one behind the other
pub data ClassRun (k : Class) : List ℕ → Type 0 where
  none : ClassRun k []
  more : (c : ℕ) {t : List ℕ} → in_class k c ≡ true → ClassRun k t → ClassRun k (encode c ++ t)

-- one hyphen or more, and white space around them
pub data Hyphens : List ℕ → Type 0 where
  hyphens : {u h v : List ℕ} → ClassRun Whitespace u → ClassRun (Is (code "-")) h → 0 < length h → ClassRun Whitespace v → Hyphens (u ++ (h ++ v))

-- such a text, by its year and its month, which is counted from zero
pub data DaysText : List ℕ → ℕ → ℕ → Type 0 where
  dddd_mm_XX : {u h g v : List ℕ} {y m : ℕ} → ClassRun Whitespace u → Hyphens h → Hyphens g → ClassRun Whitespace v
      → DaysText (u ++ (digits 4 y ++ (h ++ (digits 2 (m + 1) ++ (g ++ (ascii "XX" ++ v)))))) y m
