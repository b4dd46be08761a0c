-- The entries of a store, read one after the other from its columns. Assumes nothing.
use mathlib.Core.Path.{◌≡◌, refl, sym, ap, ◌∙◌}
use mathlib.Core.Bool.{Bool, true, false, not}
use mathlib.Core.List.{List, [], ◌∷◌, ◌++◌}
use Prim.Native.Nat.{ℕ, zero, suc, ◌+◌, ◌*◌, ◌≤◌, ◌<◌}
use native.Mathlib.Nat.{le_of_suc-le-suc, not-suc-le-zero, add-zero}
use native.Mathlib.Numerals.{add-one}
use native.Mathlib.Omega.{arith}
use lib.Dec.{eqb, ltb}
use lib.IntN.{ℤ}
use lib.ListN.{length, get_or, take, drop, set, drop_of_length-le}
use lib.Seq.{drop-cons, sets, sets-eq, get_or-take, length-take-le}
use borrow.Author.Tests.{lt-ltb, le-ltb, eq-eqb, ne_eqb}
use Rattle.chars.specs.Pick.{pick}
use Rattle.chronology.specs.declared.Entry.{Entry}
use Rattle.chronology.specs.Entries.{precedes, good_days, ids_of, among, before_next, kept_first, well_kept, listed}
use Rattle.chronology.specs.Store.{Store, Wide, rows, contents, index_of, first_where, rank}
use Rattle.chronology.specs.Inside.{entry_at, row_at, before_at, kept_at}

-- what a store that is lent has, if its count is not above 512
pub record Room (s : Store) : Type 0 where
  pub few : s.count ≤ 512
  pub of_firsts : length s.firsts ≡ 512
  pub of_lasts : length s.lasts ≡ 512
  pub of_ids : length s.ids ≡ 512

pub room : (s : Store) → Wide s → s.count ≤ 512 → Room s
room s w h = record { few = h; of_firsts = w.of_firsts; of_lasts = w.of_lasts; of_ids = w.of_ids }

-- of three columns with at least n numbers
rows-cons : (n i : ℕ) (fs ls : List ℤ) (ds : List ℕ) → i < n → n ≤ length fs → n ≤ length ls → n ≤ length ds
    → drop i (take n (rows fs ls ds)) ≡ entry_at fs ls ds i ∷ drop (suc i) (take n (rows fs ls ds))
unfolding rows
rows-cons zero i fs ls ds h a b c = absurd (not-suc-le-zero h)
rows-cons (suc n) i [] ls ds h a b c = absurd (not-suc-le-zero a)
rows-cons (suc n) i (f ∷ fs) [] ds h a b c = absurd (not-suc-le-zero b)
rows-cons (suc n) i (f ∷ fs) (e ∷ ls) [] h a b c = absurd (not-suc-le-zero c)
rows-cons (suc n) zero (f ∷ fs) (e ∷ ls) (d ∷ ds) h a b c = refl
rows-cons (suc n) (suc i) (f ∷ fs) (e ∷ ls) (d ∷ ds) h a b c =
    rows-cons n i fs ls ds (le_of_suc-le-suc h) (le_of_suc-le-suc a) (le_of_suc-le-suc b) (le_of_suc-le-suc c)

rows-length : (n : ℕ) (fs ls : List ℤ) (ds : List ℕ) → n ≤ length fs → n ≤ length ls → n ≤ length ds → length (take n (rows fs ls ds)) ≡ n
unfolding rows
rows-length zero fs ls ds a b c = refl
rows-length (suc n) [] ls ds a b c = absurd (not-suc-le-zero a)
rows-length (suc n) (f ∷ fs) [] ds a b c = absurd (not-suc-le-zero b)
rows-length (suc n) (f ∷ fs) (e ∷ ls) [] a b c = absurd (not-suc-le-zero c)
rows-length (suc n) (f ∷ fs) (e ∷ ls) (d ∷ ds) a b c =
    ap suc (rows-length n fs ls ds (le_of_suc-le-suc a) (le_of_suc-le-suc b) (le_of_suc-le-suc c))

rows-ids : (n : ℕ) (fs ls : List ℤ) (ds : List ℕ) → n ≤ length fs → n ≤ length ls → n ≤ length ds → ids_of (take n (rows fs ls ds)) ≡ take n ds
unfolding rows ids_of
rows-ids zero fs ls ds a b c = refl
rows-ids (suc n) [] ls ds a b c = absurd (not-suc-le-zero a)
rows-ids (suc n) (f ∷ fs) [] ds a b c = absurd (not-suc-le-zero b)
rows-ids (suc n) (f ∷ fs) (e ∷ ls) [] a b c = absurd (not-suc-le-zero c)
rows-ids (suc n) (f ∷ fs) (e ∷ ls) (d ∷ ds) a b c =
    ap {B = List ℕ} (λ (l : List ℕ). d ∷ l) (rows-ids n fs ls ds (le_of_suc-le-suc a) (le_of_suc-le-suc b) (le_of_suc-le-suc c))

pub ids-drop : (i : ℕ) (l : List Entry) → ids_of (drop i l) ≡ drop i (ids_of l)
unfolding ids_of
ids-drop zero l = refl
ids-drop (suc i) [] = refl
ids-drop (suc i) (e ∷ l) = ids-drop i l

-- of a store in room
module _ (s : Store) (r : Room s) where
  -- its entries from a place on
  pub contents-cons : (i : ℕ) → i < s.count → drop i (contents s) ≡ row_at s i ∷ drop (suc i) (contents s)
  unfolding contents
  contents-cons i h =
      rows-cons s.count i s.firsts s.lasts s.ids h (omega arith) (omega arith)
      (omega arith)

  pub contents-length : length (contents s) ≡ s.count
  unfolding contents
  contents-length =
      rows-length s.count s.firsts s.lasts s.ids (omega arith) (omega arith)
      (omega arith)

  pub contents-end : (i : ℕ) → s.count ≤ i → drop i (contents s) ≡ []
  contents-end i h = drop_of_length-le (contents s) {i = i} (omega (arith, contents-length))

  -- their identifiers
  pub contents-ids : ids_of (contents s) ≡ take s.count s.ids
  unfolding contents
  contents-ids =
      rows-ids s.count s.firsts s.lasts s.ids (omega arith) (omega arith)
      (omega arith)

  pub ids-from : (i : ℕ) → ids_of (drop i (contents s)) ≡ drop i (take s.count s.ids)
  ids-from i = ids-drop i (contents s) ∙ ap (drop i) contents-ids

-- a column's first n, from a place on
pub column-cons : (l : List ℕ) (n i : ℕ) → i < n → n ≤ length l → drop i (take n l) ≡ get_or l i 0 ∷ drop (suc i) (take n l)
column-cons l n i h g =
    drop-cons (take n l) i 0 (rw (length-take-le n l g) h) ∙ ap {B = List ℕ} (λ (x : ℕ). x ∷ drop (suc i) (take n l)) (get_or-take n l i 0 h)

pub column-end : (l : List ℕ) (n i : ℕ) → n ≤ i → n ≤ length l → drop i (take n l) ≡ []
column-end l n i h g = drop_of_length-le (take n l) {i = i} (rw (length-take-le n l g) h)

-- the place of a number: here, further on, or past the end
pub here : (d x : ℕ) (l : List ℕ) → x ≡ d → index_of d (x ∷ l) ≡ 0
unfolding index_of pick
here d x l e = rw (eq-eqb x d e)

pub on : (d x : ℕ) (l : List ℕ) → (x ≡ d → ⊥) → index_of d (x ∷ l) ≡ suc (index_of d l)
unfolding index_of pick
on d x l e = rw (ne_eqb x d e)

-- a search in a column: found at a place, not there, or past the end
module _ (l : List ℕ) (n i d : ℕ) where
  pub found : i < n → n ≤ length l → get_or l i 0 ≡ d → i ≡ i + index_of d (drop i (take n l))
  found h g e = rw (column-cons l n i h g, here d (get_or l i 0) (drop (suc i) (take n l)) e) (sym (add-zero i))

  pub passed : i < n → n ≤ length l → (get_or l i 0 ≡ d → ⊥) → i + index_of d (drop i (take n l)) ≡ i + 1 + index_of d (drop (i + 1) (take n l))
  passed h g e =
      rw (column-cons l n i h g, on d (get_or l i 0) (drop (suc i) (take n l)) e, add-one i) (omega arith)

  pub missing : n ≤ i → n ≤ length l → i ≡ i + index_of d (drop i (take n l))
  unfolding index_of
  missing h g = rw (column-end l n i h g) (sym (add-zero i))

-- whether a number is among others, by its place
pub data Place (d : ℕ) (l : List ℕ) : Type 0 where
  in_it : among d l ≡ true → index_of d l < length l → Place d l
  past_it : among d l ≡ false → index_of d l ≡ length l → Place d l

pub place : (d : ℕ) (l : List ℕ) → Place d l
unfolding among index_of pick
place d [] = past_it refl refl
place d (x ∷ l) = go (eqb x d) refl (place d l)
  where
    go : (t : Bool) → eqb x d ≡ t → Place d l → Place d (x ∷ l)
    go true e p = in_it (rw e) (rw e (omega arith))
    go false e (in_it a h) = in_it (rw (e, a)) (rw e (omega arith))
    go false e (past_it a h) = past_it (rw (e, a)) (rw e (ap suc h))

pub below-test : (d : ℕ) (l : List ℕ) (k n : ℕ) → k + length l ≡ n → ltb (k + index_of d l) n ≡ among d l
below-test d l k n e = go (place d l)
  where
    go : Place d l → ltb (k + index_of d l) n ≡ among d l
    go (in_it a h) = lt-ltb (k + index_of d l) n (omega arith) ∙ sym a
    go (past_it a h) = le-ltb (k + index_of d l) n (omega arith) ∙ sym a

-- the first entry of a sort
module _ (is : Entry → Bool) where
  pub where-here : (x : Entry) (l : List Entry) → is x ≡ true → first_where is (x ∷ l) ≡ 0
  unfolding first_where pick
  where-here x l t = rw t

  pub where-on : (x : Entry) (l : List Entry) → is x ≡ false → first_where is (x ∷ l) ≡ suc (first_where is l)
  unfolding first_where pick
  where-on x l t = rw t

  pub where-in : (l : List Entry) → first_where is l ≤ length l
  unfolding first_where pick
  where-in [] = omega arith
  where-in (x ∷ l) = go (is x) (where-in l)
    where
      go : (t : Bool) → first_where is l ≤ length l → pick t 0 (suc (first_where is l)) ≤ suc (length l)
      go true h = omega arith
      go false h = omega arith

-- the place of an entry in order
pub rank-here : (e x : Entry) (l : List Entry) → precedes x e ≡ false → rank e (x ∷ l) ≡ 0
unfolding rank
rank-here e x l t = where-here (λ y. not (precedes y e)) x l (ap not t)

pub rank-on : (e x : Entry) (l : List Entry) → precedes x e ≡ true → rank e (x ∷ l) ≡ suc (rank e l)
unfolding rank
rank-on e x l t = where-on (λ y. not (precedes y e)) x l (ap not t)

-- entries that are well kept, from one on
pub kept_on : (e : Entry) (l : List Entry) → kept_first e l ≡ true → well_kept (e ∷ l) ≡ well_kept l
unfolding well_kept pick
kept_on e l t = rw t

pub kept-not : (e : Entry) (l : List Entry) → kept_first e l ≡ false → well_kept (e ∷ l) ≡ false
unfolding well_kept pick
kept-not e l t = rw t

-- its place in the columns, from a place on
module _ (s : Store) (r : Room s) (i : ℕ) (is : Entry → Bool) where
  pub where_found : {x : Entry} → i < s.count → x ≡ row_at s i → is x ≡ true → i ≡ i + first_where is (drop i (contents s))
  where_found {x} h e t =
      rw (contents-cons s r i h) (sym (ap (λ (k : ℕ). i + k) (where-here is _ (drop (suc i) (contents s)) (ap is (sym e) ∙ t)) ∙ add-zero i))

  pub where-passed : {x : Entry} → i < s.count → x ≡ row_at s i → is x ≡ false
      → i + first_where is (drop i (contents s)) ≡ i + 1 + first_where is (drop (i + 1) (contents s))
  where-passed {x} h e t =
      let n : suc i ≡ i + 1 = omega arith in
      ap (λ (l : List Entry). i + first_where is l) (contents-cons s r i h)
      ∙ ap (λ (k : ℕ). i + k) (where-on is _ (drop (suc i) (contents s)) (ap is (sym e) ∙ t))
      ∙ ap (λ (k : ℕ). i + suc (first_where is (drop k (contents s)))) n
      ∙ omega arith

  pub where-end : s.count ≤ i → i ≡ i + first_where is (drop i (contents s))
  unfolding first_where
  where-end h = rw (contents-end s r i h) (sym (add-zero i))

-- loops over the entries of a store in room
module _ (s : Store) (r : Room s) (i : ℕ) where
  -- whether the entry at i stands before the next one
  pub before-one : {x y : Entry} → i + 1 < s.count → x ≡ row_at s i → y ≡ row_at s (i + 1)
      → precedes x y ≡ before_at s i
  unfolding before_at before_next
  before-one {x} {y} h q p =
      ap (λ (a : Entry). precedes a y) q
      ∙ ap (λ (a : Entry). precedes (row_at s i) a) p
      ∙ ap (before_next (row_at s i))
      (sym (ap (λ (k : ℕ). drop k (contents s)) (sym (add-one i)) ∙ contents-cons s r (i + 1) h))

  pub before-none : s.count ≤ i + 1 → true ≡ before_at s i
  unfolding before_at before_next
  before-none h = rw (contents-end s r (suc i) (omega arith))

  -- whether it is kept
  pub kept-good : {x : Entry} → x ≡ row_at s i → good_days x ≡ false → false ≡ kept_at s i
  unfolding kept_at kept_first pick
  kept-good {x} q t = let u = sym (ap good_days q) ∙ t in rw u

  pub kept-before : {x : Entry} → x ≡ row_at s i → good_days x ≡ true → before_at s i ≡ false → false ≡ kept_at s i
  unfolding kept_at kept_first before_at pick
  kept-before {x} q t b = let u = sym (ap good_days q) ∙ t in rw (u, b)

  pub kept_next : i < s.count → kept_at s i ≡ true → well_kept (drop i (contents s)) ≡ well_kept (drop (i + 1) (contents s))
  unfolding kept_at
  kept_next h t =
      ap well_kept (contents-cons s r i h) ∙ kept_on _ _ t ∙ ap (λ (k : ℕ). well_kept (drop k (contents s))) (sym (add-one i))

  pub kept-stop : i < s.count → kept_at s i ≡ false → well_kept (drop i (contents s)) ≡ false
  unfolding kept_at
  kept-stop h t = ap well_kept (contents-cons s r i h) ∙ kept-not _ _ t

  pub kept-end : s.count ≤ i → well_kept (drop i (contents s)) ≡ true
  unfolding well_kept
  kept-end h = rw (contents-end s r i h)

-- a list that is put behind another is put with it
sets-append : {A : Type 0} (l : List A) (i : ℕ) (a b : List A) → sets l i (a ++ b) ≡ sets (sets l i a) (i + length a) b
sets-append l i [] b = ap (λ (j : ℕ). sets l j b) (sym (add-zero i))
sets-append l i (x ∷ a) b = sets-append (set l i x) (suc i) a b ∙ ap (λ (j : ℕ). sets (sets (set l i x) (suc i) a) j b) (omega arith)

pub next-entry : (out : List ℤ) (i : ℕ) (e : Entry) (l : List Entry) → sets (sets out (3 * i) (listed (e ∷ []))) (3 * (i + 1)) (listed l) ≡ sets out (3 * i) (listed (e ∷ l))
unfolding listed
next-entry out i e l =
    let k : 3 * (i + 1) ≡ 3 * i + 3 = omega arith in
    ap (λ (j : ℕ). sets (sets out (3 * i) (listed (e ∷ []))) j (listed l)) k ∙ sym (sets-append out (3 * i) (listed (e ∷ [])) (listed l))

pub listed-length : (l : List Entry) → length (listed l) ≡ 3 * length l
unfolding listed
listed-length [] = refl
listed-length (e ∷ l) = let h = listed-length l in omega arith

-- a loop that lists the entries: one is put, and what is still to come
module _ (s : Store) (r : Room s) (i : ℕ) where
  pub listed_next : {x : Entry} (out : List ℤ) → i < s.count → x ≡ row_at s i
      → sets (sets out (3 * i) (listed (x ∷ []))) (3 * (i + 1)) (listed (drop (i + 1) (contents s))) ≡ sets out (3 * i) (listed (drop i (contents s)))
  listed_next {x} out h q =
      next-entry out i x (drop (i + 1) (contents s))
      ∙ ap (λ (l : List Entry). sets out (3 * i) (listed l))
      (ap {B = List Entry} (λ (k : ℕ). x ∷ drop k (contents s)) (add-one i)
      ∙ ap {B = List Entry} (λ (y : Entry). y ∷ drop (suc i) (contents s)) q
      ∙ sym (contents-cons s r i h))

  pub listed-end : (out : List ℤ) → s.count ≤ i → sets out (3 * i) (listed (drop i (contents s))) ≡ out
  unfolding listed
  listed-end out h = rw (contents-end s r i h)

-- the whole list at the front
pub listed-front : (s : Store) → Room s → (out : List ℤ) → 3 * s.count ≤ length out → sets out 0 (listed (contents s)) ≡ listed (contents s) ++ drop (3 * s.count) out
listed-front s r out h =
    let e : length (listed (contents s)) ≡ 3 * s.count = listed-length (contents s) ∙ ap (λ (k : ℕ). 3 * k) (contents-length s r) in
    sets-eq (listed (contents s)) out 0 (omega arith) ∙ ap (λ (k : ℕ). listed (contents s) ++ drop k out) (let z : 0 + length (listed (contents s)) ≡ 3 * s.count = omega arith in z)
