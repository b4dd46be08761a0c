-- When entries are in list order.
use Rattle.std.specs.Prelude.{◌<◌, ◌≡◌, true, List, [], ◌∷◌}
use Rattle.std.specs.Int.Signed.{lt_z}
use Rattle.chronology.specs.declared.Entry.{Entry}

-- one entry stands before another: by its first day, its last day or its identifier
pub data Before (a b : Entry) : Type 0 where
  by_first : lt_z a.first b.first ≡ true → Before a b
  by_last : a.first ≡ b.first → lt_z a.last b.last ≡ true → Before a b
  by_id : a.first ≡ b.first → a.last ≡ b.last → a.id < b.id → Before a b

-- an entry stands before all of these
pub data AllBefore (e : Entry) : List Entry → Type 0 where
  last : AllBefore e []
  next : {x : Entry} {l : List Entry} → Before e x → AllBefore e l → AllBefore e (x ∷ l)

-- each entry stands before all behind it
pub data InOrder : List Entry → Type 0 where
  empty : InOrder []
  first : {e : Entry} {l : List Entry} → AllBefore e l → InOrder l → InOrder (e ∷ l)
