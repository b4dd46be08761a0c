-- What is said of a cell that holds a date: strict, read otherwise, or refused.
use Rattle.std.specs.Prelude.{ℕ, Bool, true, false, List, eqb, length, Option, Some, None, Result, Ok, Err}
use Rattle.chars.specs.Pick.{pick}
use Rattle.dates.specs.declared.Day.{Day}
use Rattle.refusals.specs.declared.Refusal.{Refusal}
use Rattle.dates.specs.declared.DateValue.{DateValue}
use Rattle.dates.specs.declared.DateValue.TheVariants.{At, After, Before, Between}
use Rattle.dates.specs.declared.Date.{Date}
use Rattle.chunks.specs.Chunks.{one_chunk}
use Rattle.reading_laws.specs.Field.{parsed, parsed_strict}
use Rattle.verdicts.specs.declared.Verdict.{Verdict}
use Rattle.verdicts.specs.declared.Verdict.TheVariants.{NoDate, Full, NotStrict, Refused}

-- the table of a cell's text: one Normal chunk, whose span is that of the text
abbrev pub cell_table : List ℕ → List ℕ
cell_table s = one_chunk s 0 (length s)

-- the day on which a range with both ends ends
unfoldable pub end_day : DateValue → Option Day
end_day (At a) = None
end_day (After a) = None
end_day (Before a) = None
end_day (Between a b) = b.day

-- whether two days are the same, or both are none
unfoldable pub same_day : Option Day → Option Day → Bool
same_day None None = true
same_day None (Some b) = false
same_day (Some a) None = false
same_day (Some a) (Some b) = eqb a.0 b.0

-- whether the strict reader gives the ported reader's Date, too: where both give one, no more than the day of a range's end can differ
unfoldable pub is_same : Result Date Refusal → Date → Bool
is_same (Ok d) e = same_day (end_day d.value) (end_day e.value)
is_same (Err f) e = false

-- what the ported reader reads is full if the strict reader gives the same Date, and else not strict; what it refuses is refused
unfoldable pub by_readers : Result Date Refusal → Result Date Refusal → Verdict
by_readers strict (Ok e) = pick (is_same strict e) Full (NotStrict e)
by_readers strict (Err f) = Refused f

-- an empty cell holds no date
unfoldable pub date_verdict : List ℕ → Verdict
date_verdict s = pick (eqb (length s) 0) NoDate (by_readers (parsed_strict s (cell_table s)) (parsed s (cell_table s)))
