-- Is anything dated in a period, and how many entries are read to tell.
use Rattle.std.specs.Prelude.{ℕ, ◌+◌, Bool, false, ◌&&◌, ◌||◌, List, [], ◌∷◌, ltb, length, Result, Ok, Err}
use Rattle.std.specs.Int.Signed.{lt_z, le_z}
use Rattle.chars.specs.Pick.{pick}
use Rattle.refusals.specs.declared.Kind.{Kind}
use Rattle.refusals.specs.declared.Kind.TheVariants.{BadPeriod, BadChronology}
use Rattle.refusals.specs.Refusal.{file_span, refusal}
use Rattle.days.specs.declared.Period.{Period}
use Rattle.chronology.specs.declared.Entry.{Entry}
use Rattle.refusals.specs.declared.Refusal.{Refusal}
use Rattle.chronology.specs.Entries.{good_period}
use Rattle.chronology.specs.Store.{Store, contents, sound, first_where}

-- whether an entry touches a period: they have a day in common
unfoldable pub touches : Period → Entry → Bool
touches p e = le_z e.first p.last && le_z p.first e.last

-- whether an entry begins after a period
unfoldable pub begins_after : Period → Entry → Bool
begins_after p e = lt_z p.last e.first

-- whether any of all entries touches it
unfoldable pub any_touches : Period → List Entry → Bool
any_touches p [] = false
any_touches p (e ∷ l) = touches p e || any_touches p l

-- whether a walk stops at an entry: it touches the period or begins after it
unfoldable pub stops : Period → Entry → Bool
stops p e = touches p e || begins_after p e

-- the place of the first entry that stops a walk
unfoldable pub stop_at : Period → List Entry → ℕ
stop_at p l = first_where (stops p) l

-- how many entries are read: the position of that entry, counted from one, or all of them
unfoldable pub entries_read : Period → List Entry → ℕ
entries_read p l = pick (ltb (stop_at p l) (length l)) (stop_at p l + 1) (length l)

-- a refusal; none here names a place
unfoldable pub untold : Kind → Result (Bool × ℕ) Refusal
untold k = Err (refusal k (file_span 0 0))

-- the reply: what a reading of all entries says, and how many are read
unfoldable pub reply : Store → Period → Result (Bool × ℕ) Refusal
reply s p =
    pick (sound s) (pick (good_period p) (Ok (any_touches p (contents s), entries_read p (contents s))) (untold BadPeriod))
    (untold BadChronology)
