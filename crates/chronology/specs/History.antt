-- Calls one after the other on a lent store, and which entries their history says there are. Lists of calls have the latest first.
use Rattle.std.specs.Prelude.{◌≡◌, ℕ, suc, Bool, true, false, List, [], ◌∷◌, eqb, Result, Ok, Err}
use Rattle.chars.specs.Pick.{pick}
use Rattle.days.specs.declared.Period.{Period}
use Rattle.chronology.specs.declared.Entry.{Entry}
use Rattle.refusals.specs.declared.Refusal.{Refusal}
use Rattle.chronology.specs.Entries.{entry_of, insert, without}
use Rattle.chronology.specs.Store.{Store, Wide}
use Rattle.chronology.specs.Calls.{accepted, count_answer, add_answer, remove_answer, list_answer, after_add, after_remove}
use Rattle.chronology.specs.Asked.{reply}

-- a call
pub data Call : Type 0 where
  -- adds an entry of a period and an identifier
  adds : Period → ℕ → Call
  -- removes the entry of an identifier
  removes : ℕ → Call
  -- asks for the count
  counts : Call
  -- asks for the list, with so much room
  lists : ℕ → Call
  -- asks whether anything is dated in a period
  asks : Period → Call

-- whether a question was answered
unfoldable pub answered : Result (Bool × ℕ) Refusal → Bool
answered (Ok (found, read)) = true
answered (Err e) = false

-- whether a store accepts a call
unfoldable pub accepts : Call → Store → Bool
accepts (adds p d) s = accepted (add_answer s p d)
accepts (removes d) s = accepted (remove_answer s d)
accepts counts s = accepted (count_answer s)
accepts (lists room) s = accepted (list_answer s room)
accepts (asks p) s = answered (reply s p)

-- the store after a call; only adds and removals change it
unfoldable pub after_call : Call → Store → Store
after_call (adds p d) s = after_add s p d
after_call (removes d) s = after_remove s d
after_call counts s = s
after_call (lists room) s = s
after_call (asks p) s = s

-- the store after calls
unfoldable pub after_calls : List Call → Store → Store
after_calls [] s = s
after_calls (c ∷ h) s = after_call c (after_calls h s)

-- what an accepted call does: an add adds its entry, a removal takes that of its identifier, others nothing
unfoldable pub told : Call → List Entry → List Entry
told (adds p d) l = entry_of p d ∷ l
told (removes d) l = without d l
told counts l = l
told (lists room) l = l
told (asks p) l = l

-- the entries that a history says, from an empty start: accepted adds less accepted removals
unfoldable pub history : List Call → Store → List Entry
history [] s = []
history (c ∷ h) s = pick (accepts c (after_calls h s)) (told c (history h s)) (history h s)

-- an empty store: no entry, whatever the columns hold
pub record Empty (s : Store) : Type 0 where
  -- no entry
  pub nothing : s.count ≡ 0
  -- in columns as they are lent
  pub wide : Wide s

-- entries in list order
unfoldable pub sorted : List Entry → List Entry
sorted [] = []
sorted (e ∷ l) = insert e (sorted l)

-- how often an identifier is among those of entries
unfoldable pub id_times : ℕ → List Entry → ℕ
id_times d [] = 0
id_times d (x ∷ l) = pick (eqb x.id d) (suc (id_times d l)) (id_times d l)
