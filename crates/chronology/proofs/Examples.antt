-- Worked examples: calls from an empty start, and what is refused, each answer written out. Assumes nothing.
use mathlib.Core.Path.{◌≡◌, refl}
use mathlib.Core.Bool.{true, false}
use mathlib.Core.List.{List, [], ◌∷◌, map}
use Prim.Native.Nat.{ℕ, zero, suc, ◌+◌}
use lib.IntN.{ℤ, pos, negsuc}
use lib.ListN.{replicate}
use Rattle.chars.specs.Pick.{pick}
use Rattle.refusals.specs.declared.Kind.{Kind}
use Rattle.refusals.specs.declared.Kind.TheVariants.{NoRoom, BadPeriod, DuplicateEntry, ChronologyFull, UnknownEntry, BadChronology}
use Rattle.refusals.specs.Refusal.{file_span, refusal}
use Rattle.days.specs.Covered.{period}
use Rattle.refusals.specs.declared.Refusal.{Refusal}
use Rattle.std.specs.Prelude.{Result, Ok, Err, Bool}
use Rattle.chronology.specs.Entries.{sooner, precedes, in_span, good_period, good_days, ids_of, among, has, before_next, kept_first, well_kept, listed}
use Rattle.chronology.specs.Store.{Store, store, rows, contents, sound, index_of, first_where, rank, inserted, removed}
use Rattle.chronology.specs.Calls.{refused, accepted, count_answer, add_answer, remove_answer, list_answer, with_entry, without_at, after_add, after_remove}
use Rattle.chronology.specs.Asked.{touches, begins_after, any_touches, stops, stop_at, entries_read, untold, reply}
use Rattle.chronology.specs.History.{adds, removes, after_call, after_calls}

-- a column of 512 that begins with those given
days : List ℤ → List ℤ
days [] = replicate 512 (pos 0)
days (n ∷ l) = n ∷ days l

numbers : List ℕ → List ℕ
numbers [] = replicate 512 0
numbers (n ∷ l) = n ∷ numbers l

-- a store of these
pub kept : ℕ → List ℤ → List ℤ → List ℕ → Store
kept n fs ls ds = store n (days fs) (days ls) (numbers ds)

-- what is answered: no refusal here names a place
abbrev pub no : Kind → Result ℕ Refusal
no k = Err (refusal k (file_span 0 0))

abbrev pub unsaid : Kind → Result (Bool × ℕ) Refusal
unsaid k = Err (refusal k (file_span 0 0))

-- three adds from an empty start, the latest first
pub three : Store
three = after_calls (adds (period (pos 5) (pos 5)) 3 ∷ adds (period (negsuc 2) (pos 10)) 2 ∷ adds (period (pos 5) (pos 5)) 7 ∷ []) (kept 0 [] [] [])

-- they are listed by first day, last day, identifier; a removal closes its gap
pub in-list-order : listed (contents three) ≡ negsuc 2 ∷ pos 10 ∷ pos 2 ∷ pos 5 ∷ pos 5 ∷ pos 3 ∷ pos 5 ∷ pos 5 ∷ pos 7 ∷ []
unfolding three kept days numbers contents rows after_calls after_call after_add accepted add_answer with_entry inserted rank first_where precedes sooner good_period in_span has among ids_of sound well_kept kept_first before_next good_days pick listed
in-list-order = refl

pub one-removed : listed (contents (after_call (removes 3) three)) ≡ negsuc 2 ∷ pos 10 ∷ pos 2 ∷ pos 5 ∷ pos 5 ∷ pos 7 ∷ []
unfolding three kept days numbers contents rows after_calls after_call after_add accepted add_answer with_entry inserted rank first_where precedes sooner good_period in_span has among ids_of sound well_kept kept_first before_next good_days pick listed after_remove remove_answer without_at removed index_of
one-removed = refl

-- what each call answers
pub answers : List (Result ℕ Refusal)
answers =
    add_answer three (period (pos 6) (pos 5)) 7
    ∷ add_answer three (period (pos 0) (pos 3652425)) 9
    ∷ add_answer three (period (negsuc 3652059) (pos 0)) 9
    ∷ add_answer three (period (pos 0) (pos 0)) 7
    ∷ add_answer three (period (negsuc 3652058) (pos 3652424)) 9
    ∷ remove_answer three 9
    ∷ remove_answer three 7
    ∷ count_answer three
    ∷ list_answer three 8
    ∷ list_answer three 9
    ∷ []

pub answered : answers
    ≡ no BadPeriod ∷ no BadPeriod ∷ no BadPeriod ∷ no DuplicateEntry ∷ Ok 4 ∷ no UnknownEntry ∷ Ok 2 ∷ Ok 3 ∷ no NoRoom ∷ Ok 3 ∷ []
unfolding answers three kept days numbers contents rows after_calls after_call after_add accepted add_answer with_entry inserted rank first_where precedes sooner good_period in_span has among ids_of sound well_kept kept_first before_next good_days pick remove_answer count_answer list_answer refused
answered = refl

-- no chronology: above 512, out of order by first day, by last day or by identifier, an identifier twice, a last day before the first, a day
-- before the first that is numbered or after the last
pub bad : List Store
bad =
    kept 513 [] [] []
    ∷ kept 2 (pos 5 ∷ pos 4 ∷ []) (pos 5 ∷ pos 4 ∷ []) (1 ∷ 2 ∷ [])
    ∷ kept 2 (pos 5 ∷ pos 5 ∷ []) (pos 6 ∷ pos 5 ∷ []) (1 ∷ 2 ∷ [])
    ∷ kept 2 (pos 5 ∷ pos 5 ∷ []) (pos 5 ∷ pos 5 ∷ []) (2 ∷ 1 ∷ [])
    ∷ kept 2 (pos 4 ∷ pos 5 ∷ []) (pos 4 ∷ pos 5 ∷ []) (1 ∷ 1 ∷ [])
    ∷ kept 1 (pos 5 ∷ []) (pos 4 ∷ []) (1 ∷ [])
    ∷ kept 1 (negsuc 3652059 ∷ []) (pos 0 ∷ []) (1 ∷ [])
    ∷ kept 1 (pos 0 ∷ []) (pos 3652425 ∷ []) (1 ∷ [])
    ∷ []

pub all-bad : map count_answer bad ≡ replicate 8 (no BadChronology)
unfolding bad kept days numbers contents rows precedes sooner good_period in_span has among ids_of sound well_kept kept_first before_next good_days pick count_answer refused
all-bad = refl

-- the widest period of all, and one behind the count that is not looked at
pub widest : count_answer (kept 1 (negsuc 3652058 ∷ pos 9 ∷ []) (pos 3652424 ∷ pos 8 ∷ []) (4294967295 ∷ [])) ≡ Ok 1
unfolding kept days numbers contents rows precedes sooner good_period in_span has among ids_of sound well_kept kept_first before_next good_days pick count_answer
widest = refl

-- 512 entries, each a day of its own: one more is refused, and so is one that is there
up : ℕ → ℕ → List ℕ
up zero i = []
up (suc n) i = i ∷ up n (i + 1)

pub full : Store
full = store 512 (map pos (up 512 0)) (map pos (up 512 0)) (up 512 0)

pub filled : add_answer full (period (pos 0) (pos 0)) 511 ∷ add_answer full (period (pos 0) (pos 0)) 512 ∷ [] ≡ no DuplicateEntry ∷ no ChronologyFull ∷ []
unfolding full up kept days numbers contents rows precedes sooner good_period in_span has among ids_of sound well_kept kept_first before_next good_days pick add_answer refused
filled = refl

-- whether anything is dated in a period, and how many entries are read: before all, at the first, from its last day on, behind all, at the
-- second; of no entries; a bad period; no chronology
pub replies : List (Result (Bool × ℕ) Refusal)
replies =
    reply three (period (negsuc 9) (negsuc 3))
    ∷ reply three (period (negsuc 9) (negsuc 2))
    ∷ reply three (period (pos 10) (pos 12))
    ∷ reply three (period (pos 11) (pos 12))
    ∷ reply (kept 2 (pos 400 ∷ pos 500 ∷ []) (pos 400 ∷ pos 500 ∷ []) (1 ∷ 2 ∷ [])) (period (pos 450) (pos 600))
    ∷ reply (kept 2 (pos 400 ∷ pos 500 ∷ []) (pos 400 ∷ pos 500 ∷ []) (1 ∷ 2 ∷ [])) (period (pos 450) (pos 499))
    ∷ reply (kept 0 [] [] []) (period (pos 0) (pos 0))
    ∷ reply three (period (pos 6) (pos 5))
    ∷ reply (kept 513 [] [] []) (period (pos 6) (pos 5))
    ∷ []

pub replied : replies
    ≡ Ok (false, 1) ∷ Ok (true, 1) ∷ Ok (true, 1) ∷ Ok (false, 3) ∷ Ok (true, 2) ∷ Ok (false, 2) ∷ Ok (false, 0) ∷ unsaid BadPeriod ∷ unsaid BadChronology ∷ []
unfolding replies three kept days numbers contents rows after_calls after_call after_add accepted add_answer with_entry inserted rank first_where precedes sooner good_period in_span has among ids_of sound well_kept kept_first before_next good_days pick reply untold entries_read stop_at stops any_touches touches begins_after
replied = refl
