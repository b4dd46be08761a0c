-- How the days of two Datetimes stand to each other, in the words of the calendar, for each answer of the order.
use Rattle.std.specs.Prelude.{◌≡◌, ◌⊎◌, ◌≤ℤ◌, ◌<ℤ◌, Option, Some, None}
use Rattle.std.specs.declared.cmp.Ordering.{Ordering}
use Rattle.std.specs.declared.cmp.Ordering.TheVariants.{Equal, Greater, Less}
use Rattle.days.specs.declared.Period.{Period}

-- the last day of the first is before the first day of the second
abbrev pub Before : Period → Period → Type 0
Before p q = p.last <ℤ q.first

-- one period lies inside the other
abbrev pub Inside : Period → Period → Type 0
Inside p q = (q.first ≤ℤ p.first) × (p.last ≤ℤ q.last)

-- one lies inside the other, whichever it is, and they differ
abbrev pub Nested : Period → Period → Type 0
Nested p q = (Inside p q ⊎ Inside q p) × (p ≡ q → ⊥)

-- what each answer means
abbrev pub Stands : Option Ordering → Period → Period → Type 0
Stands (Some Less) p q = Before p q
Stands (Some Equal) p q = p ≡ q
Stands (Some Greater) p q = Before q p
Stands None p q = Nested p q
