-- Which times are not written, what the writer answers, and what it leaves in the lent buffer.
use Rattle.std.specs.Prelude.{ℕ, Bool, List, length, Result, Ok, Err}
use Rattle.chars.specs.Pick.{pick}
use Rattle.refusals.specs.declared.Kind.TheVariants.{RustPanics, NoRoom, BadTime, HasSeason}
use Rattle.dates.specs.declared.DateValue.{DateValue}
use Rattle.dates.specs.declared.Date.{Date}
use Rattle.dates.specs.Ends.{any_end}
use Rattle.dates.specs.Value.{any_season}
use Rattle.dates.specs.Clocks.{has_bad_time}
use Rattle.refusals.specs.declared.Refusal.{Refusal}
use Rattle.puts.specs.Answers.{decided, left}
use Rattle.refusals.specs.Refusal.{nowhere}
use Rattle.writer.specs.Texts.{panics}
use Rattle.timed.specs.Texts.{timed_text}

-- whether one of the ends has a bad time
unfoldable pub value_bad : DateValue → Bool
value_bad v = any_end has_bad_time v

-- the length of the text of a date without seasons; RustPanics of either end comes before BadTime of either
unfoldable pub plain_measured : Date → Result ℕ Refusal
plain_measured d = pick (panics d) (Err (nowhere RustPanics)) (pick (value_bad d.value) (Err (nowhere BadTime)) (Ok (length (timed_text d))))

-- the length of a date's text: HasSeason if an end has a season, before all else
unfoldable pub timed_measured : Date → Result ℕ Refusal
timed_measured d = pick (any_season d.value) (Err (nowhere HasSeason)) (plain_measured d)

-- the answer with so much room: NoRoom comes last
unfoldable pub timed_answer : Date → ℕ → Result ℕ Refusal
timed_answer d room = decided (timed_measured d) room

-- the buffer afterwards
unfoldable pub timed_afterwards : Date → List ℕ → List ℕ
timed_afterwards d out = left (timed_answer d (length out)) (timed_text d) out

-- the answer by its four tests: HasSeason comes first, then RustPanics, then BadTime, then NoRoom
abbrev pub shown : Bool → Bool → Bool → Bool → ℕ → Result ℕ Refusal
shown season panic bad fits n = pick season (Err (nowhere HasSeason)) (pick panic (Err (nowhere RustPanics)) (pick bad (Err (nowhere BadTime)) (pick fits (Ok n) (Err (nowhere NoRoom)))))
