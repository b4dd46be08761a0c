-- A chronology's entries and their order. Days have the numbers that the crate days gives them.
use Rattle.std.specs.Prelude.{ℕ, Bool, true, false, not, ◌&&◌, List, [], ◌∷◌, eqb, ltb, ℤ, pos, neg_ℤ}
use Rattle.std.specs.Int.Signed.{lt_z, le_z}
use Rattle.chars.specs.Pick.{pick}
use Rattle.days.specs.declared.Period.{Period}
use Rattle.days.specs.Covered.{period}
use Rattle.chronology.specs.declared.Entry.{Entry}

-- an entry of a first and a last day and an identifier
abbrev pub entry : ℤ → ℤ → ℕ → Entry
entry first last id = record { first = first; last = last; id = id }

-- the entry of a period and an identifier
abbrev pub entry_of : Period → ℕ → Entry
entry_of p id = entry p.first p.last id

-- the period of an entry
abbrev pub period_of : Entry → Period
period_of e = period e.first e.last

-- whether one day is before another; of the same day something else decides
unfoldable pub sooner : ℤ → ℤ → Bool → Bool
sooner a b other = pick (lt_z a b) true (pick (lt_z b a) false other)

-- list order: by first day, then by last day, then by identifier
unfoldable pub precedes : Entry → Entry → Bool
precedes a b = sooner a.first b.first (sooner a.last b.last (ltb a.id b.id))

-- the days that are numbered: -3652059 to 3652424
unfoldable pub in_span : ℤ → Bool
in_span day = le_z (neg_ℤ (pos 3652059)) day && le_z day (pos 3652424)

-- whether both days of a period are numbered, and the last is not before the first
unfoldable pub good_period : Period → Bool
good_period p = in_span p.first && (in_span p.last && le_z p.first p.last)

-- whether an entry has a good period
unfoldable pub good_days : Entry → Bool
good_days e = good_period (period_of e)

-- the identifiers of entries
unfoldable pub ids_of : List Entry → List ℕ
ids_of [] = []
ids_of (e ∷ l) = e.id ∷ ids_of l

-- whether a number is among others
unfoldable pub among : ℕ → List ℕ → Bool
among d [] = false
among d (x ∷ l) = pick (eqb x d) true (among d l)

-- whether entries have one of this identifier
unfoldable pub has : ℕ → List Entry → Bool
has d l = among d (ids_of l)

-- whether an entry stands before the next one
unfoldable pub before_next : Entry → List Entry → Bool
before_next e [] = true
before_next e (x ∷ l) = precedes e x

-- whether an entry has good days, stands before the next one, and its identifier is that of no later one
unfoldable pub kept_first : Entry → List Entry → Bool
kept_first e l = pick (good_days e) (pick (before_next e l) (not (has e.id l)) false) false

-- whether this holds of all entries
unfoldable pub well_kept : List Entry → Bool
well_kept [] = true
well_kept (e ∷ l) = pick (kept_first e l) (well_kept l) false

-- an entry among those in order: behind those that precede it
unfoldable pub insert : Entry → List Entry → List Entry
insert e [] = e ∷ []
insert e (x ∷ l) = pick (precedes x e) (x ∷ insert e l) (e ∷ x ∷ l)

-- the entries without that of an identifier
unfoldable pub without : ℕ → List Entry → List Entry
without d [] = []
without d (x ∷ l) = pick (eqb x.id d) l (x ∷ without d l)

-- three numbers an entry: its first day, its last day and its identifier
unfoldable pub listed : List Entry → List ℤ
listed [] = []
listed (e ∷ l) = e.first ∷ e.last ∷ pos e.id ∷ listed l
