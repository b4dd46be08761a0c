-- A chronology as it is kept in lent memory: a count, and three columns of 512 numbers. What stands behind the count is no entry.
use Rattle.std.specs.Prelude.{◌≡◌, ℕ, suc, ◌-◌, Bool, false, not, List, [], ◌∷◌, ◌++◌, eqb, leb, ℤ, length, take, drop}
use Rattle.std.specs.Borrow.{Bor, MutBor}
use denote.Triple.Both.{Both}
use Rattle.chars.specs.Pick.{pick}
use Rattle.chronology.specs.declared.Entry.{Entry}
use Rattle.chronology.specs.Entries.{entry, precedes, well_kept}

-- the count, the first days, the last days and the identifiers
pub record Store : Type 0 where
  -- how many entries there are
  pub count : ℕ
  -- their first days
  pub firsts : List ℤ
  -- their last days
  pub lasts : List ℤ
  -- their identifiers
  pub ids : List ℕ

-- a store of these
abbrev pub store : ℕ → List ℤ → List ℤ → List ℕ → Store
store n fs ls ds = record { count = n; firsts = fs; lasts = ls; ids = ds }

-- the columns have 512 numbers, as their type says
pub record Wide (s : Store) : Type 0 where
  -- so many first days,
  pub of_firsts : length s.firsts ≡ 512
  -- last days
  pub of_lasts : length s.lasts ≡ 512
  -- and identifiers
  pub of_ids : length s.ids ≡ 512

-- what four references hold
abbrev pub lent : Bor ℕ → Bor (List ℤ) → Bor (List ℤ) → Bor (List ℕ) → Store
lent n fs ls ds = store n.now fs.now ls.now ds.now

-- a reference at the moment of a call and at its end
abbrev pub Lent : Type 0 → Type 0
Lent A = Both (Bor A) (Bor A)

-- the store before a call
abbrev pub before : Lent ℕ → Lent (List ℤ) → Lent (List ℤ) → Lent (List ℕ) → Store
before n fs ls ds = lent n.entry fs.entry ls.entry ds.entry

-- what four references that write hold
abbrev pub lent_mut : MutBor ℕ → MutBor (List ℤ) → MutBor (List ℤ) → MutBor (List ℕ) → Store
lent_mut n fs ls ds = store n.now fs.now ls.now ds.now

-- a reference that writes at the moment of a call and at its end
abbrev pub LentMut : Type 0 → Type 0
LentMut A = Both (MutBor A) (MutBor A)

-- the store before a call that writes
abbrev pub before_mut : LentMut ℕ → LentMut (List ℤ) → LentMut (List ℤ) → LentMut (List ℕ) → Store
before_mut n fs ls ds = lent_mut n.entry fs.entry ls.entry ds.entry

-- the store after it
abbrev pub after : LentMut ℕ → LentMut (List ℤ) → LentMut (List ℤ) → LentMut (List ℕ) → Store
after n fs ls ds = lent_mut n.exit fs.exit ls.exit ds.exit

-- three columns, read side by side
unfoldable pub rows : List ℤ → List ℤ → List ℕ → List Entry
rows [] ls ds = []
rows (f ∷ fs) [] ds = []
rows (f ∷ fs) (e ∷ ls) [] = []
rows (f ∷ fs) (e ∷ ls) (d ∷ ds) = entry f e d ∷ rows fs ls ds

-- the entries of a store: as many as the count says
unfoldable pub contents : Store → List Entry
contents s = take s.count (rows s.firsts s.lasts s.ids)

-- whether a store is a chronology: not above 512 entries, each with good days, in list order, no identifier twice
unfoldable pub sound : Store → Bool
sound s = pick (leb s.count 512) (well_kept (contents s)) false

-- the place of a number among others; past them if it is not there
unfoldable pub index_of : ℕ → List ℕ → ℕ
index_of d [] = 0
index_of d (x ∷ l) = pick (eqb x d) 0 (suc (index_of d l))

-- the place of the first entry of a sort; past them if there is none
unfoldable pub first_where : (Entry → Bool) → List Entry → ℕ
first_where is [] = 0
first_where is (e ∷ l) = pick (is e) 0 (suc (first_where is l))

-- the place of an entry among those in order: behind those that precede it
unfoldable pub rank : Entry → List Entry → ℕ
rank e l = first_where (λ x. not (precedes x e)) l

-- a column with a value put among its first n at a place: those from there on move up by one, over what stood behind them
unfoldable pub inserted : {A : Type 0} → List A → ℕ → ℕ → A → List A
inserted l n i v = take i l ++ v ∷ (take (n - i) (drop i l) ++ drop (suc n) l)

-- a column whose first n lose the one at a place: those behind it move down by one, and the place that falls free keeps its value
unfoldable pub removed : {A : Type 0} → List A → ℕ → ℕ → List A
removed l n i = take i l ++ (take (n - suc i) (drop (suc i) l) ++ drop (n - 1) l)
