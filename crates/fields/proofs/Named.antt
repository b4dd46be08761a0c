-- What is known of a month that a word names: it is one of twelve. Assumes nothing.
use mathlib.Core.Path.{◌≡◌, refl}
use mathlib.Core.Bool.{Bool, true, ◌&&◌}
use mathlib.Core.List.{List, [], ◌∷◌}
use Prim.Native.Nat.{ℕ, ◌<◌}
use borrow.Author.Tests.{ltb-true}
use lib.Dec.{ltb}
use Rattle.chars.proofs.Cases.{by-test, and-true}
use Rattle.dates.specs.declared.Month.{Month}
use Rattle.std.specs.Prelude.{Option, Some, None}
use Rattle.fields.specs.Names.{Word, month_in, names, abbreviations, get_month_for_name, get_month_for_abbr, or_else, month_for}

-- a stored month, if there is one, is below n
abbrev pub MonthBelow : ℕ → Option Month → Type 0
MonthBelow n None = Unit {0}
MonthBelow n (Some m) = m.0 < n

-- whether every word of a list says one
abbrev say_below : ℕ → List Word → Bool
say_below n [] = true
say_below n (w ∷ ws) = ltb w.says n && say_below n ws

word_below : (n : ℕ) (ws : List Word) (t : List ℕ) → say_below n ws ≡ true → MonthBelow n (month_in ws t)
unfolding month_in
word_below n [] t h = tt
word_below n (w ∷ ws) t h =
    let p = and-true (ltb w.says n) (say_below n ws) h in
    by-test (MonthBelow n) _ (λ _. ltb-true w.says n p.0) (λ _. word_below n ws t p.1)

else-below : (n : ℕ) (a b : Option Month) → MonthBelow n a → MonthBelow n b → MonthBelow n (or_else a b)
unfolding or_else
else-below n (Some m) b h k = h
else-below n None b h k = k

-- the month that a name or an abbreviation says
pub named-below : (t : List ℕ) → MonthBelow 12 (month_for t)
unfolding month_for get_month_for_name get_month_for_abbr
named-below t = else-below 12 (month_in names t) (month_in abbreviations t) (word_below 12 names t refl) (word_below 12 abbreviations t refl)
