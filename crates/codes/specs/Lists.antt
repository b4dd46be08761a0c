-- Which chunk lists are answered at once, and what is said of them. That this is what the readers say is proved in `code_laws`.
use Rattle.std.specs.Prelude.{ℕ, Bool, ◌&&◌, ◌||◌, List, eqb, leb, ltb, length, get_or, None, Result, Ok, Option, Some}
use Rattle.chars.specs.Pick.{pick}
use Rattle.chunks.specs.Chunks.{chunks_of, no_math, fits}
use Rattle.chunks.specs.Lent.{Lent, Optional, Three}
use Rattle.dates.specs.declared.Date.{Date}
use Rattle.dates.specs.declared.Day.{Day}
use Rattle.dates.specs.declared.Month.{Month}
use Rattle.refusals.specs.declared.Refusal.{Refusal}
use Rattle.dates.specs.Value.{datetime, from_datetime}
use Rattle.codes.specs.Points.{on_some}
use Rattle.codes.specs.Texts.{written}
use Rattle.codes.specs.Ported.{ported, moved_by}
use Rattle.codes.specs.Parts.{year_part, month_part, day_part}

-- a list of one Normal chunk with all of the bytes
unfoldable pub one_normal : List ℕ → List ℕ → Bool
one_normal b table = eqb (length table) 4 && (eqb (get_or table 0 0) 0 && eqb (get_or table 1 0) (length b))

-- a list of at most 64 chunks that are no Math, whose texts one behind the other are the bytes; no usual text is longer than 54
unfoldable pub is_joined : List ℕ → List ℕ → Bool
is_joined b table =
    leb (length b) 54 && (leb (length (chunks_of table)) 64 && (no_math (chunks_of table) && fits b table))

-- what both readers say of the text of either list
unfoldable pub list_written : List ℕ → List ℕ → Option (Result Date Refusal)
list_written b table = pick (one_normal b table || is_joined b table) (written b) None

-- what the ported reader alone says, if the list's span starts where no place becomes too large
unfoldable pub list_ported : List ℕ → List ℕ → Option (Result Date Refusal)
list_ported b table =
    pick (one_normal b table && ltb (get_or table 2 0) 0x8000000000000000) (on_some (ported b) λ r. Some (moved_by (get_or table 2 0) r)) None

-- what a field's text says, if its list is one such chunk
unfoldable pub on_normal : {A : Type 0} → Lent → (List ℕ → Option A) → Option A
on_normal l read = pick (one_normal l.bytes l.table) (read l.bytes) None

-- the month of a month list that may be absent
unfoldable pub month_or : Optional → Option (Option Month)
month_or month = pick month.present (on_normal month.list month_part) (Some None)

-- the day of a day list, which is not looked at without a month list
unfoldable pub day_or : Optional → Optional → Option (Option Day)
day_or month day = pick (month.present && day.present) (on_normal day.list day_part) (Some None)

-- what three fields say
unfoldable pub list_three : Three → Option (Result Date Refusal)
list_three t =
    on_some (on_normal t.year year_part) λ y.
    on_some (month_or t.month) λ m.
    on_some (day_or t.month t.day) λ d. Some (Ok (from_datetime (datetime y m d None)))
