-- The readers that know no seasons never give one. Assumes nothing.
use mathlib.Core.Path.{◌≡◌, refl, ap, subst}
use mathlib.Core.Bool.{false}
use mathlib.Core.List.{List}
use mathlib.Core.Logic.{⊎_elim}
use Prim.Native.Nat.{ℕ}
use Rattle.dates.specs.declared.Datetime.{Datetime}
use Rattle.dates.specs.declared.DateValue.{DateValue}
use Rattle.dates.specs.declared.Date.{Date}
use Rattle.dates.specs.Value.{is_season, has_season, any_season}
use Rattle.dates.proofs.Ends.{no_end}
use Rattle.points.specs.Accepted.{Dated}
use Rattle.std.specs.Prelude.{Ok}
use Rattle.reading_laws.specs.Field.{parsed, parsed_strict}
use Rattle.chunks.specs.Lent.{Three}
use Rattle.reading_laws.specs.Fields.{three_fields}
use Rattle.reading_laws.proofs.Stored.{FieldsIn, fields, three-in}
use Rattle.roundtrip_laws.specs.Domain.{AllDated, ShortMonthRange, days_xx}
use Rattle.roundtrip_laws.proofs.Accepted.{accepted-known}
use Rattle.roundtrip_laws.proofs.Strictly.{strict-dated}

end_none : (d : Datetime) → Dated d → has_season d ≡ false
end_none d w = ap is_season w.unseasoned

dated-none : (v : DateValue) → AllDated v → any_season v ≡ false
dated-none v w = no_end end_none v w

short_none : {v : DateValue} → ShortMonthRange v → any_season v ≡ false
short_none (days_xx y m h l n) = refl

-- the ported reader
pub ported-none : (b table : List ℕ) {d : Date} → parsed b table ≡ Ok d → any_season d.value ≡ false
ported-none b table {d} e = ⊎_elim (λ w. dated-none d.value w) (λ r. short_none r) (accepted-known b table e)

-- the strict reader
pub strict_none : (b table : List ℕ) {d : Date} → parsed_strict b table ≡ Ok d → any_season d.value ≡ false
strict_none b table {d} e = dated-none d.value (strict-dated b table e)

fields-none : {d : Date} → FieldsIn (Ok d) → any_season d.value ≡ false
fields-none (fields h k l) = refl

-- three fields
pub three-none : (t : Three) {d : Date} → three_fields t ≡ Ok d → any_season d.value ≡ false
three-none t e = fields-none (subst FieldsIn e (three-in t))
