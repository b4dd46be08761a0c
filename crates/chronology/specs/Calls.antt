-- What the calls answer, and what they leave in the lent store.
use Rattle.std.specs.Prelude.{ℕ, ◌+◌, ◌-◌, ◌*◌, Bool, true, false, List, ◌++◌, eqb, leb, ℤ, length, drop, Result, Ok, Err}
use Rattle.chars.specs.Pick.{pick}
use Rattle.refusals.specs.declared.Kind.{Kind}
use Rattle.refusals.specs.declared.Kind.TheVariants.{NoRoom, BadPeriod, DuplicateEntry, ChronologyFull, UnknownEntry, BadChronology}
use Rattle.refusals.specs.Refusal.{file_span, refusal}
use Rattle.days.specs.declared.Period.{Period}
use Rattle.chronology.specs.declared.Entry.{Entry}
use Rattle.refusals.specs.declared.Refusal.{Refusal}
use Rattle.chronology.specs.Entries.{good_period, entry_of, ids_of, has, listed}
use Rattle.chronology.specs.Store.{Store, store, contents, sound, index_of, rank, inserted, removed}

-- a refusal; none here names a place
unfoldable pub refused : Kind → Result ℕ Refusal
refused k = Err (refusal k (file_span 0 0))

-- whether a call was accepted
unfoldable pub accepted : Result ℕ Refusal → Bool
accepted (Ok n) = true
accepted (Err e) = false

-- what asking for the count is answered
unfoldable pub count_answer : Store → Result ℕ Refusal
count_answer s = pick (sound s) (Ok s.count) (refused BadChronology)

-- what an add is answered: the new count, or what is refused first
unfoldable pub add_answer : Store → Period → ℕ → Result ℕ Refusal
add_answer s p d =
    pick (sound s)
    (pick (good_period p)
    (pick (has d (contents s)) (refused DuplicateEntry) (pick (eqb s.count 512) (refused ChronologyFull) (Ok (s.count + 1))))
    (refused BadPeriod))
    (refused BadChronology)

-- what a removal is answered: the new count, or what is refused first
unfoldable pub remove_answer : Store → ℕ → Result ℕ Refusal
remove_answer s d = pick (sound s) (pick (has d (contents s)) (Ok (s.count - 1)) (refused UnknownEntry)) (refused BadChronology)

-- what a listing is answered, with so much room: it takes three numbers an entry
unfoldable pub list_answer : Store → ℕ → Result ℕ Refusal
list_answer s room = pick (sound s) (pick (leb (3 * s.count) room) (Ok s.count) (refused NoRoom)) (refused BadChronology)

-- a store with an entry more, at its place
unfoldable pub with_entry : Store → Entry → Store
with_entry s e =
    let n = s.count in
    let i = rank e (contents s) in
    store (n + 1) (inserted s.firsts n i e.first) (inserted s.lasts n i e.last) (inserted s.ids n i e.id)

-- a store without the entry at a place
unfoldable pub without_at : Store → ℕ → Store
without_at s i =
    let n = s.count in
    store (n - 1) (removed s.firsts n i) (removed s.lasts n i) (removed s.ids n i)

-- the store after an add; one that is refused changes nothing
unfoldable pub after_add : Store → Period → ℕ → Store
after_add s p d = pick (accepted (add_answer s p d)) (with_entry s (entry_of p d)) s

-- the store after a removal; one that is refused changes nothing
unfoldable pub after_remove : Store → ℕ → Store
after_remove s d = pick (accepted (remove_answer s d)) (without_at s (index_of d (ids_of (contents s)))) s

-- the lent numbers after a listing: the list at their front and what was behind it, or, after a refusal, all as they were
unfoldable pub after_list : Store → List ℤ → List ℤ
after_list s out = pick (accepted (list_answer s (length out))) (listed (contents s) ++ drop (3 * s.count) out) out
