-- The English names of the months, and their abbreviations, in any mixture of cases.
use Prim.Native.Char.{code}
use Rattle.std.specs.Prelude.{ℕ, ◌+◌, Bool, true, false, ◌&&◌, List, [], ◌∷◌, ltb, eqb, Option, Some, None}
use Prim.Native.String.{String}
use Rattle.chars.specs.Pick.{pick}
use Rattle.dates.specs.declared.Month.{Month}
use Rattle.dates.specs.Value.{month}
use Rattle.chars.specs.Ascii.{ascii}

-- an ASCII letter in lower case; any other byte as it is
unfoldable pub lower : ℕ → ℕ
lower b = pick (ltb b (code "A")) b (pick (ltb (code "Z") b) b (b + 32))

-- whether the second text is the first, which is in lower case, in any mixture of cases
unfoldable pub same_letters : List ℕ → List ℕ → Bool
same_letters [] [] = true
same_letters [] (b ∷ t) = false
same_letters (x ∷ name) [] = false
same_letters (x ∷ name) (b ∷ t) = eqb x (lower b) && same_letters name t

-- a month as it is stored
abbrev pub stored_month : ℕ → Option Month
stored_month m = month m

-- a word for a month, and the month as it is stored
pub record Word : Type 0 where
  -- the word, in lower case
  pub word : String
  -- the month, counted from zero
  pub says : ℕ

-- the month of the first word that the text is
unfoldable pub month_in : List Word → List ℕ → Option Month
month_in [] t = None
month_in (w ∷ ws) t = pick (same_letters (ascii w.word) t) (stored_month w.says) (month_in ws t)

-- the names, in full and English alone
abbrev pub names : List Word
names =
    record { word = "january"; says = 0 }
    ∷ record { word = "february"; says = 1 }
    ∷ record { word = "march"; says = 2 }
    ∷ record { word = "april"; says = 3 }
    ∷ record { word = "may"; says = 4 }
    ∷ record { word = "june"; says = 5 }
    ∷ record { word = "july"; says = 6 }
    ∷ record { word = "august"; says = 7 }
    ∷ record { word = "september"; says = 8 }
    ∷ record { word = "october"; says = 9 }
    ∷ record { word = "november"; says = 10 }
    ∷ record { word = "december"; says = 11 }
    ∷ []

-- the abbreviations: the first three letters, and june, july and sept
abbrev pub abbreviations : List Word
abbreviations =
    record { word = "jan"; says = 0 }
    ∷ record { word = "feb"; says = 1 }
    ∷ record { word = "mar"; says = 2 }
    ∷ record { word = "apr"; says = 3 }
    ∷ record { word = "may"; says = 4 }
    ∷ record { word = "jun"; says = 5 }
    ∷ record { word = "june"; says = 5 }
    ∷ record { word = "jul"; says = 6 }
    ∷ record { word = "july"; says = 6 }
    ∷ record { word = "aug"; says = 7 }
    ∷ record { word = "sep"; says = 8 }
    ∷ record { word = "sept"; says = 8 }
    ∷ record { word = "oct"; says = 9 }
    ∷ record { word = "nov"; says = 10 }
    ∷ record { word = "dec"; says = 11 }
    ∷ []

-- a name in full: a part of one is no name
unfoldable pub get_month_for_name : List ℕ → Option Month
get_month_for_name t = month_in names t

-- an abbreviation without a full stop
unfoldable pub get_month_for_abbr : List ℕ → Option Month
get_month_for_abbr t = month_in abbreviations t

-- the first month, or where it is absent the second
unfoldable pub or_else : Option Month → Option Month → Option Month
or_else (Some m) else = Some m
or_else None else = else

-- the month of a name, or else of an abbreviation
unfoldable pub month_for : List ℕ → Option Month
month_for t = or_else (get_month_for_name t) (get_month_for_abbr t)
