-- Marks of identifiers: one that has no mark is not there. Assumes nothing.
use mathlib.Core.Path.{◌≡◌, refl, sym, ap, ◌∙◌}
use mathlib.Core.Bool.{Bool, true, false, not, ◌||◌, false≢true}
use mathlib.Core.List.{List, [], ◌∷◌}
use Prim.Native.Nat.{ℕ, zero, suc, ◌+◌, ◌-◌, ◌%◌, ◌≤◌, ◌<◌}
use native.Mathlib.Numerals.{add-one}
use native.Mathlib.Omega.{arith}
use lib.Dec.{eqb}
use lib.ListN.{length, get_or, set, take, drop, length-set}
use lib.Seq.{get_or-set_same, get_or-set_other}
use borrow.Author.Tests.{eqb-true, eqb-false}
use Rattle.chars.specs.Pick.{pick}
use Rattle.chronology.specs.declared.Entry.{Entry}
use Rattle.chronology.specs.Entries.{good_days, among, has, kept_first, well_kept}
use Rattle.chronology.specs.Store.{Store, contents}
use Rattle.chronology.specs.Inside.{row_at, before_at, kept_at, Marked}
use Rattle.chronology.proofs.Columns.{Room, ids-from, column-cons, column-end, kept_next, kept-stop}
use Rattle.chronology.proofs.Order.{kept}

pub marked-none : (m : List ℕ) → Marked m []
unfolding among
marked-none m d t = absurd (false≢true t)

-- without one of its marks a number is not among them
pub unmarked : (m l : List ℕ) (d : ℕ) → Marked m l → get_or m (d % 4096) 0 ≡ 0 → among d l ≡ false
unmarked m l d k z = go (among d l) refl
  where
    go : (t : Bool) → among d l ≡ t → t ≡ false
    go true e = let o = (k d e).0 in absurd (omega (arith, o, z))
    go false e = refl

pub unmarked-other : (m l : List ℕ) (d : ℕ) → Marked m l → get_or m (d % 4093) 0 ≡ 0 → among d l ≡ false
unmarked-other m l d k z = go (among d l) refl
  where
    go : (t : Bool) → among d l ≡ t → t ≡ false
    go true e = let o = (k d e).1 in absurd (omega (arith, o, z))
    go false e = refl

-- a mark that is set stays so
still : (m : List ℕ) (i j : ℕ) → i < length m → get_or m j 0 ≡ 1 → get_or (set m i 1) j 0 ≡ 1
still m i j h o = go (eqb j i) refl
  where
    go : (b : Bool) → eqb j i ≡ b → get_or (set m i 1) j 0 ≡ 1
    go true e = ap (λ (k : ℕ). get_or (set m i 1) k 0) (eqb-true j i e) ∙ get_or-set_same m i 1 0 h
    go false e = get_or-set_other m i j 1 0 (eqb-false j i e) ∙ o

-- two marks more: what was marked still is, and so is the new one
module _ (m : List ℕ) (a b : ℕ) (h : a < length m) (g : b < length m) where
  long : b < length (set m a 1)
  long = rw (length-set m a 1) g

  first-set : get_or (set (set m a 1) b 1) a 0 ≡ 1
  first-set = still (set m a 1) b a long (get_or-set_same m a 1 0 h)

  second-set : get_or (set (set m a 1) b 1) b 0 ≡ 1
  second-set = get_or-set_same (set m a 1) b 1 0 long

  both-still : (j : ℕ) → get_or m j 0 ≡ 1 → get_or (set (set m a 1) b 1) j 0 ≡ 1
  both-still j o = still (set m a 1) b j long (still m a j h o)

pub marked_more : (m l : List ℕ) (x : ℕ) → x % 4096 < length m → x % 4093 < length m → Marked m l → Marked (set (set m (x % 4096) 1) (x % 4093) 1) (x ∷ l)
unfolding among pick
marked_more m l x h g k d t = go (eqb x d) refl t
  where
    go : (b : Bool) → eqb x d ≡ b → pick b true (among d l) ≡ true
        → (get_or (set (set m (x % 4096) 1) (x % 4093) 1) (d % 4096) 0 ≡ 1) × (get_or (set (set m (x % 4096) 1) (x % 4093) 1) (d % 4093) 0 ≡ 1)
    go true e u =
        let q = eqb-true x d e in (
          ap (λ (y : ℕ). get_or (set (set m (x % 4096) 1) (x % 4093) 1) (y % 4096) 0) (sym q) ∙ first-set m (x % 4096) (x % 4093) h g,
          ap (λ (y : ℕ). get_or (set (set m (x % 4096) 1) (x % 4093) 1) (y % 4093) 0) (sym q) ∙ second-set m (x % 4096) (x % 4093) h g,
        )
    go false e u =
        let o = k d u in
        (both-still m (x % 4096) (x % 4093) h g (d % 4096) o.0, both-still m (x % 4096) (x % 4093) h g (d % 4093) o.1)

-- of a column, from a place on
module _ (m l : List ℕ) (n i : ℕ) where
  pub marked-end : n ≤ i → n ≤ length l → Marked m (drop i (take n l))
  marked-end h g = rw (column-end l n i h g) (marked-none m)

  pub marked-on : i < n → n ≤ length l → get_or l i 0 % 4096 < length m → get_or l i 0 % 4093 < length m → Marked m (drop (i + 1) (take n l))
      → Marked (set (set m (get_or l i 0 % 4096) 1) (get_or l i 0 % 4093) 1) (drop i (take n l))
  marked-on h g b c k = rw (column-cons l n i h g) (marked_more m (drop (suc i) (take n l)) (get_or l i 0) b c (rw (sym (add-one i)) k))

  -- whether a number is among them: one looked at, or none left
  pub seen : (d : ℕ) (b : Bool) → i < n → n ≤ length l → (b || eqb (get_or l i 0) d) || among d (drop (i + 1) (take n l)) ≡ b || among d (drop i (take n l))
  unfolding among pick
  seen d b h g = rw (column-cons l n i h g, add-one i) (go b (eqb (get_or l i 0) d) (among d (drop (suc i) (take n l))))
    where
      go : (x y z : Bool) → (x || y) || z ≡ x || pick y true z
      go true y z = refl
      go false true z = refl
      go false false z = refl

  pub seen_all : (d : ℕ) (b : Bool) → n ≤ i → n ≤ length l → b || among d (drop i (take n l)) ≡ b
  unfolding among
  seen_all d b h g = rw (column-end l n i h g) (go b)
    where
      go : (x : Bool) → x || false ≡ x
      go true = refl
      go false = refl

-- whether an entry is kept
pub kept-alone : (s : Store) → Room s → (i : ℕ) {x : Entry} {b : Bool} → x ≡ row_at s i → good_days x ≡ true → before_at s i ≡ true
    → b ≡ not (among x.id (drop (i + 1) (take s.count s.ids))) → b ≡ kept_at s i
unfolding kept_at kept_first before_at has pick
kept-alone s r i {x} {b} q t u e =
    let g = sym (ap good_days q) ∙ t in
    rw (g, u)
    (e
    ∙ ap (λ (d : ℕ). not (among d (drop (i + 1) (take s.count s.ids)))) (ap (λ (y : Entry). y.id) q)
    ∙ ap (λ (l : List ℕ). not (among (get_or s.ids i 0) l)) (ap (λ (m : ℕ). drop m (take s.count s.ids)) (add-one i) ∙ sym (ids-from s r (suc i))))

-- what is well kept is so from a place on
kept_from : (i : ℕ) (l : List Entry) → well_kept l ≡ true → well_kept (drop i l) ≡ true
kept_from zero l w = w
kept_from (suc i) [] w = w
kept_from (suc i) (e ∷ l) w = kept_from i l (kept e l w).rest

pub kept_off : (i : ℕ) (l : List Entry) → well_kept (drop i l) ≡ false → well_kept l ≡ false
kept_off i l t = go (well_kept l) refl
  where
    go : (b : Bool) → well_kept l ≡ b → b ≡ false
    go true e = absurd (false≢true (sym t ∙ kept_from i l e))
    go false e = refl

-- a pass from the last entry to the first: from the one at i to the one before it
module _ (s : Store) (r : Room s) (m : List ℕ) (i : ℕ) (h : 0 < i) (g : i ≤ s.count) where
  back : i - 1 + 1 ≡ i
  back = omega arith

  pub marked-here : Marked m (drop i (take s.count s.ids)) → Marked m (drop (i - 1 + 1) (take s.count s.ids))
  marked-here k = rw back k

  pub pass-stops : kept_at s (i - 1) ≡ false → false ≡ well_kept (contents s)
  pass-stops t = sym (kept_off (i - 1) (contents s) (kept-stop s r (i - 1) (omega arith) t))

  pub pass-goes : kept_at s (i - 1) ≡ true → well_kept (drop i (contents s)) ≡ true → well_kept (drop (i - 1) (contents s)) ≡ true
  pass-goes t w = kept_next s r (i - 1) (omega arith) t ∙ rw back w

  pub pass-marks : {at other : ℕ} → at ≡ get_or s.ids (i - 1) 0 % 4096 → other ≡ get_or s.ids (i - 1) 0 % 4093 → at < length m → other < length m
      → Marked m (drop i (take s.count s.ids)) → Marked (set (set m at 1) other 1) (drop (i - 1) (take s.count s.ids))
  pass-marks {at} {other} e f b c k =
      rw (e, f)
      (marked-on m s.ids s.count (i - 1) (omega arith) (omega (arith, r.few, r.of_ids)) (rw (sym e) b) (rw (sym f) c) (marked-here k))
