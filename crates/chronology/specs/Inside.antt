-- What functions inside compute. No public contract rests on it.
use Rattle.std.specs.Prelude.{◌≡◌, ℕ, suc, ◌+◌, ◌%◌, Bool, true, false, List, ltb, ℤ, pos, get_or, drop, Result, Ok}
use Rattle.chars.specs.Pick.{pick}
use Rattle.days.specs.declared.Period.{Period}
use Rattle.chronology.specs.declared.Entry.{Entry}
use Rattle.refusals.specs.declared.Refusal.{Refusal}
use Rattle.chronology.specs.Entries.{entry, among, before_next, kept_first}
use Rattle.chronology.specs.Store.{Store, contents}
use Rattle.chronology.specs.Asked.{touches, stop_at}

-- the entry at a place of three columns
abbrev pub entry_at : List ℤ → List ℤ → List ℕ → ℕ → Entry
entry_at fs ls ds i = entry (get_or fs i (pos 0)) (get_or ls i (pos 0)) (get_or ds i 0)

-- the entry at a place of a store
abbrev pub row_at : Store → ℕ → Entry
row_at s i = entry_at s.firsts s.lasts s.ids i

-- whether the entry at a place stands before the next one
unfoldable pub before_at : Store → ℕ → Bool
before_at s i = before_next (row_at s i) (drop (suc i) (contents s))

-- whether it has good days too, and its identifier is that of no later one
unfoldable pub kept_at : Store → ℕ → Bool
kept_at s i = kept_first (row_at s i) (drop (suc i) (contents s))

-- each of some numbers is marked: a mark stands at each of its two remainders
abbrev pub Marked : List ℕ → List ℕ → Type 0
Marked marks l = (d : ℕ) → among d l ≡ true → (get_or marks (d % 4096) 0 ≡ 1) × (get_or marks (d % 4093) 0 ≡ 1)

-- the walk's reply: the entry at which it stops decides
unfoldable pub walked : Store → Period → Result (Bool × ℕ) Refusal
walked s p =
    let i = stop_at p (contents s) in
    pick (ltb i s.count) (Ok (touches p (row_at s i), i + 1)) (Ok (false, s.count))
