-- What the ported reader reads of a text of the strict grammar, its mark left out.
use Rattle.std.specs.Prelude.{ℕ, ◌≡◌, List, ◌⊎◌, Ok}
use Rattle.refusals.specs.declared.FileSpan.{FileSpan}
use Rattle.dates.specs.declared.DateValue.{DateValue}
use Rattle.datefield.specs.Value.{value}
use Rattle.roundtrip_laws.specs.Domain.{ShortDays}

-- what the grammar says, or, of days in a month under 31 days, the range up to the 31st
abbrev pub PortedReads : FileSpan → List ℕ → DateValue → Type 0
PortedReads span s v = (value span s ≡ Ok v) ⊎ ((w : DateValue) × ShortDays s v w × (value span s ≡ Ok w))
