-- A chunk list as a date field: what the ported reader, the strict reader and the one of level one say of it.
use Rattle.std.specs.Prelude.{ℕ, Bool, true, false, List, Option, Some, None, Result, Ok, Err}
use Rattle.refusals.specs.declared.Kind.TheVariants.{NotStrict, NotLevelOne}
use Rattle.refusals.specs.Refusal.{file_span, refusal}
use Rattle.dates.specs.declared.Date.{Date}
use Rattle.refusals.specs.declared.Refusal.{Refusal}
use Rattle.chunks.specs.Chunks.{chunks_of, span_of}
use Rattle.chunks.specs.Check.{checked}
use Rattle.chunks.specs.Format.{formatted}
use Rattle.chunks.specs.Upper.{uppercase}
use Rattle.datefield.specs.Value.{parse_text}
use Rattle.strict.specs.Matcher.{strict}
use Rattle.strict.specs.LevelMatcher.{level}

-- a list without a fault is read; else the fault is the answer
unfoldable pub on_clean : Result (Unit {0}) Refusal → Result Date Refusal → Result Date Refusal
on_clean (Ok tt) read = read
on_clean (Err e) read = Err e

-- the ported reader: the formatted text in upper case
unfoldable pub parsed : List ℕ → List ℕ → Result Date Refusal
parsed b table = on_clean (checked b table) (parse_text (span_of (chunks_of table)) (uppercase (formatted b table)))

-- what the strict matcher says: a text that is not of the grammar is refused, with no place
unfoldable pub strictly : Option Date → Result Date Refusal
strictly (Some d) = Ok d
strictly None = Err (refusal NotStrict (file_span 0 0))

-- the strict reader: the formatted text as it is
unfoldable pub parsed_strict : List ℕ → List ℕ → Result Date Refusal
parsed_strict b table = on_clean (checked b table) (strictly (strict (formatted b table)))

-- what the matcher of level one says, likewise
unfoldable pub leveled : Option Date → Result Date Refusal
leveled (Some d) = Ok d
leveled None = Err (refusal NotLevelOne (file_span 0 0))

-- the reader of level one: the formatted text as it is
unfoldable pub parsed_level_one : List ℕ → List ℕ → Result Date Refusal
parsed_level_one b table = on_clean (checked b table) (leveled (level (formatted b table)))

-- a text by the grammar of level one or by the strict one
unfoldable pub match_by : Bool → List ℕ → Result Date Refusal
match_by true s = leveled (level s)
match_by false s = strictly (strict s)

-- a list likewise
unfoldable pub parsed_by : Bool → List ℕ → List ℕ → Result Date Refusal
parsed_by one b table = on_clean (checked b table) (match_by one (formatted b table))
