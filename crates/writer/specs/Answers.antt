-- What the writers that know no season answer, and what they leave in the lent buffer.
use Rattle.std.specs.Prelude.{ℕ, List, length, Result, Err}
use Rattle.chars.specs.Pick.{pick}
use Rattle.refusals.specs.declared.Kind.TheVariants.{HasSeason}
use Rattle.dates.specs.declared.Date.{Date}
use Rattle.dates.specs.Value.{any_season}
use Rattle.refusals.specs.declared.Refusal.{Refusal}
use Rattle.puts.specs.Answers.{measured, decided, left}
use Rattle.refusals.specs.Refusal.{nowhere}
use Rattle.writer.specs.Texts.{panics}

-- the length of what these writers make of a date: HasSeason if an end has a season, before all else
unfoldable pub date_measured : Date → List ℕ → Result ℕ Refusal
date_measured d text = pick (any_season d.value) (Err (nowhere HasSeason)) (measured (panics d) text)

-- their answer with so much room
unfoldable pub date_answer : Date → List ℕ → ℕ → Result ℕ Refusal
date_answer d text room = decided (date_measured d text) room

-- the buffer afterwards
unfoldable pub date_afterwards : Date → List ℕ → List ℕ → List ℕ
date_afterwards d text out = left (date_answer d text (length out)) text out
