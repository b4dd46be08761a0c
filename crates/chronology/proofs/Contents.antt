-- What a store holds after an add or a removal: its entries with one more in its place, or with one less. Assumes nothing.
use mathlib.Core.Path.{◌≡◌, refl, sym, ap, ◌∙◌, subst}
use mathlib.Core.Bool.{Bool, true, false, not}
use mathlib.Core.List.{List, [], ◌∷◌, ◌++◌}
use Prim.Native.Nat.{ℕ, zero, suc, ◌-◌, ◌≤◌, ◌<◌}
use native.Mathlib.Nat.{le_of_suc-le-suc, not-suc-le-zero}
use native.Mathlib.Numerals.{add-one}
use native.Mathlib.Omega.{arith}
use lib.Dec.{eqb}
use lib.IntN.{ℤ}
use lib.ListN.{length, take, drop, length-append, length-drop}
use lib.Seq.{take_at, length-take-le}
use borrow.Author.Tests.{eqb-true, eqb-false}
use Rattle.chronology.specs.declared.Entry.{Entry}
use Rattle.chronology.specs.Entries.{entry, precedes, ids_of, insert, without}
use Rattle.chronology.specs.Store.{Store, rows, contents, index_of, first_where, rank, inserted, removed}
use Rattle.chronology.specs.Calls.{with_entry, without_at}
use Rattle.chronology.proofs.Columns.{Room, contents-length, here, on, where-in, rank-here, rank-on}
use Rattle.chronology.proofs.Order.{insert-on, insert-here, without-here, without_on}

-- a value put at a place of a list, and the one at a place taken out
put_at : {A : Type 0} → ℕ → A → List A → List A
put_at zero v l = v ∷ l
put_at (suc i) v [] = v ∷ []
put_at (suc i) v (x ∷ l) = x ∷ put_at i v l

cut_at : {A : Type 0} → ℕ → List A → List A
cut_at i [] = []
cut_at zero (x ∷ l) = l
cut_at (suc i) (x ∷ l) = x ∷ cut_at i l

-- the first of a column after an insertion, or after a removal
take_inserted : {A : Type 0} (l : List A) (n i : ℕ) (v : A) → i ≤ n → n < length l → take (suc n) (inserted l n i v) ≡ put_at i v (take n l)
unfolding inserted put_at
take_inserted [] n i v h g = absurd (not-suc-le-zero g)
take_inserted (x ∷ l) n zero v h g =
    let e : n - 0 ≡ n = omega arith in
    rw e (ap (λ m. v ∷ m) (take_at (take n (x ∷ l)) (drop n l) n (length-take-le n (x ∷ l) (omega arith))))
take_inserted (x ∷ l) zero (suc i) v h g = absurd (not-suc-le-zero h)
take_inserted (x ∷ l) (suc n) (suc i) v h g =
    let e : suc n - suc i ≡ n - i = omega arith in
    rw e (ap (λ m. x ∷ m) (take_inserted l n i v (le_of_suc-le-suc h) (le_of_suc-le-suc g)))

take-removed : {A : Type 0} (l : List A) (n i : ℕ) → i ≤ n → n < length l → take n (removed l (suc n) i) ≡ cut_at i (take (suc n) l)
unfolding removed cut_at
take-removed [] n i h g = absurd (not-suc-le-zero g)
take-removed (x ∷ l) n zero h g =
    let e : suc n - 1 ≡ n = omega arith in
    rw e (take_at (take n l) (drop n (x ∷ l)) n (length-take-le n l (le_of_suc-le-suc g)))
take-removed (x ∷ l) zero (suc i) h g = absurd (not-suc-le-zero h)
take-removed (x ∷ l) (suc n) (suc i) h g =
    let a : suc (suc n) - suc (suc i) ≡ suc n - suc i = omega arith in
    let b : suc (suc n) - 1 ≡ suc n = omega arith in
    let d : suc n - 1 ≡ n = omega arith in
    rw (a, b) (ap (λ m. x ∷ m) ((rw d refl) ∙ take-removed l n i (le_of_suc-le-suc h) (le_of_suc-le-suc g)))

-- columns keep their lengths
inserted-length : {A : Type 0} (l : List A) (n i : ℕ) (v : A) → i ≤ n → n < length l → length (inserted l n i v) ≡ length l
unfolding inserted
inserted-length l n i v h g =
    let a = length-append (take i l) (v ∷ (take (n - i) (drop i l) ++ drop (suc n) l)) in
    let b = length-append (take (n - i) (drop i l)) (drop (suc n) l) in
    let p = length-take-le i l (omega arith) in
    let q = length-take-le (n - i) (drop i l) (rw (length-drop i l) (omega arith)) in
    let r = length-drop (suc n) l in
    omega arith

removed-length : {A : Type 0} (l : List A) (n i : ℕ) → i < n → n ≤ length l → length (removed l n i) ≡ length l
unfolding removed
removed-length l n i h g =
    let a = length-append (take i l) (take (n - suc i) (drop (suc i) l) ++ drop (n - 1) l) in
    let b = length-append (take (n - suc i) (drop (suc i) l)) (drop (n - 1) l) in
    let p = length-take-le i l (omega arith) in
    let q = length-take-le (n - suc i) (drop (suc i) l) (rw (length-drop (suc i) l) (omega arith)) in
    let r = length-drop (n - 1) l in
    omega arith

-- three columns, cut at a place, or changed at it
rows_take : (n : ℕ) (fs ls : List ℤ) (ds : List ℕ) → take n (rows fs ls ds) ≡ rows (take n fs) (take n ls) (take n ds)
unfolding rows
rows_take zero fs ls ds = refl
rows_take (suc n) [] ls ds = refl
rows_take (suc n) (f ∷ fs) [] ds = refl
rows_take (suc n) (f ∷ fs) (e ∷ ls) [] = refl
rows_take (suc n) (f ∷ fs) (e ∷ ls) (d ∷ ds) = ap {B = List Entry} (λ (l : List Entry). entry f e d ∷ l) (rows_take n fs ls ds)

rows-put : (i : ℕ) (fs ls : List ℤ) (ds : List ℕ) (x : Entry) → length fs ≡ length ls → length fs ≡ length ds
    → rows (put_at i x.first fs) (put_at i x.last ls) (put_at i x.id ds) ≡ put_at i x (rows fs ls ds)
unfolding rows put_at
rows-put zero fs ls ds x p q = refl
rows-put (suc i) [] [] [] x p q = refl
rows-put (suc i) [] (e ∷ ls) ds x p q = absurd (let z : 0 ≡ suc (length ls) = p in omega arith)
rows-put (suc i) [] [] (d ∷ ds) x p q = absurd (let z : 0 ≡ suc (length ds) = q in omega arith)
rows-put (suc i) (f ∷ fs) [] ds x p q = absurd (let z : suc (length fs) ≡ 0 = p in omega arith)
rows-put (suc i) (f ∷ fs) (e ∷ ls) [] x p q = absurd (let z : suc (length fs) ≡ 0 = q in omega arith)
rows-put (suc i) (f ∷ fs) (e ∷ ls) (d ∷ ds) x p q =
    let a : length fs ≡ length ls = (let z : suc (length fs) ≡ suc (length ls) = p in omega arith) in
    let b : length fs ≡ length ds = (let z : suc (length fs) ≡ suc (length ds) = q in omega arith) in
    ap {B = List Entry} (λ (l : List Entry). entry f e d ∷ l) (rows-put i fs ls ds x a b)

rows_cut : (i : ℕ) (fs ls : List ℤ) (ds : List ℕ) → rows (cut_at i fs) (cut_at i ls) (cut_at i ds) ≡ cut_at i (rows fs ls ds)
unfolding rows cut_at
rows_cut i [] ls ds = refl
rows_cut zero (f ∷ fs) [] ds = no_lasts fs ds
  where
    no_lasts : (fs : List ℤ) (ds : List ℕ) → rows fs [] (cut_at zero ds) ≡ []
    no_lasts [] ds = refl
    no_lasts (f ∷ fs) ds = refl
rows_cut (suc i) (f ∷ fs) [] ds = refl
rows_cut zero (f ∷ fs) (e ∷ ls) [] = no-ids fs ls
  where
    no-ids : (fs ls : List ℤ) → rows fs ls [] ≡ []
    no-ids [] ls = refl
    no-ids (f ∷ fs) [] = refl
    no-ids (f ∷ fs) (e ∷ ls) = refl
rows_cut (suc i) (f ∷ fs) (e ∷ ls) [] = refl
rows_cut zero (f ∷ fs) (e ∷ ls) (d ∷ ds) = refl
rows_cut (suc i) (f ∷ fs) (e ∷ ls) (d ∷ ds) = ap {B = List Entry} (λ (l : List Entry). entry f e d ∷ l) (rows_cut i fs ls ds)

-- at the place that list order says, at the place of an identifier
put-ranked : (e : Entry) (l : List Entry) → put_at (rank e l) e l ≡ insert e l
unfolding put_at rank first_where insert
put-ranked e [] = refl
put-ranked e (x ∷ l) = go (precedes x e) refl (put-ranked e l)
  where
    go : (t : Bool) → precedes x e ≡ t → put_at (rank e l) e l ≡ insert e l → put_at (rank e (x ∷ l)) e (x ∷ l) ≡ insert e (x ∷ l)
    go true p i =
        ap (λ (k : ℕ). put_at k e (x ∷ l)) (rank-on e x l p) ∙ ap {B = List Entry} (λ (z : List Entry). x ∷ z) i ∙ sym (insert-on e x l p)
    go false p i = ap (λ (k : ℕ). put_at k e (x ∷ l)) (rank-here e x l p) ∙ sym (insert-here e x l p)

cut-found : (d : ℕ) (l : List Entry) → cut_at (index_of d (ids_of l)) l ≡ without d l
unfolding cut_at index_of ids_of without
cut-found d [] = refl
cut-found d (x ∷ l) = go (eqb x.id d) refl (cut-found d l)
  where
    go : (t : Bool) → eqb x.id d ≡ t → cut_at (index_of d (ids_of l)) l ≡ without d l → cut_at (index_of d (ids_of (x ∷ l))) (x ∷ l) ≡ without d (x ∷ l)
    go true p i =
        let q = eqb-true x.id d p in
        ap (λ (k : ℕ). cut_at k (x ∷ l)) (here d x.id (ids_of l) q) ∙ sym (without-here d x l q)
    go false p i =
        let q = eqb-false x.id d p in
        ap (λ (k : ℕ). cut_at k (x ∷ l)) (on d x.id (ids_of l) q) ∙ ap {B = List Entry} (λ (z : List Entry). x ∷ z) i ∙ sym (without_on d x l q)

rank-in : (e : Entry) (l : List Entry) → rank e l ≤ length l
unfolding rank
rank-in e l = where-in (λ x. not (precedes x e)) l

-- an entry more
module _ (s : Store) (r : Room s) (e : Entry) (less : s.count < 512) where
  rank-count : rank e (contents s) ≤ s.count
  rank-count = subst (λ (k : ℕ). rank e (contents s) ≤ k) (contents-length s r) (rank-in e (contents s))

  pub more_room : Room (with_entry s e)
  unfolding with_entry
  more_room =
      let i = rank e (contents s) in
      let n = s.count in
      let f = r.of_firsts in
      let l = r.of_lasts in
      let d = r.of_ids in
      let a = inserted-length s.firsts n i e.first rank-count (omega arith) in
      let b = inserted-length s.lasts n i e.last rank-count (omega arith) in
      let c = inserted-length s.ids n i e.id rank-count (omega arith) in
      record { few = omega arith; of_firsts = omega arith; of_lasts = omega arith; of_ids = omega arith }

  pub contents-more : contents (with_entry s e) ≡ insert e (contents s)
  unfolding with_entry contents
  contents-more =
      let i = rank e (contents s) in
      let n = s.count in
      let f = r.of_firsts in
      let l = r.of_lasts in
      let d = r.of_ids in
      let fs = take n s.firsts in
      let ls = take n s.lasts in
      let ds = take n s.ids in
      let p = length-take-le n s.firsts (omega arith) in
      let q = length-take-le n s.lasts (omega arith) in
      let o = length-take-le n s.ids (omega arith) in
      let c : contents s ≡ rows fs ls ds = rows_take n s.firsts s.lasts s.ids in
      ap (λ (k : ℕ). take k (rows (inserted s.firsts n i e.first) (inserted s.lasts n i e.last) (inserted s.ids n i e.id))) (add-one n)
      ∙ rows_take (suc n) (inserted s.firsts n i e.first) (inserted s.lasts n i e.last) (inserted s.ids n i e.id)
      ∙ rw (take_inserted s.firsts n i e.first rank-count (omega arith), take_inserted s.lasts n i e.last rank-count (omega arith), take_inserted s.ids n i e.id rank-count (omega arith)) refl
      ∙ rows-put i fs ls ds e (p ∙ sym q) (p ∙ sym o)
      ∙ ap (put_at i e) (sym c)
      ∙ put-ranked e (contents s)

-- an entry less
module _ (s : Store) (r : Room s) (d : ℕ) (there : index_of d (ids_of (contents s)) < s.count) where
  pub less-room : Room (without_at s (index_of d (ids_of (contents s))))
  unfolding without_at
  less-room =
      let i = index_of d (ids_of (contents s)) in
      let n = s.count in
      let m = r.few in
      let f = r.of_firsts in
      let l = r.of_lasts in
      let o = r.of_ids in
      let a = removed-length s.firsts n i there (omega arith) in
      let b = removed-length s.lasts n i there (omega arith) in
      let c = removed-length s.ids n i there (omega arith) in
      record { few = omega arith; of_firsts = omega arith; of_lasts = omega arith; of_ids = omega arith }

  cut-column : {A : Type 0} (l : List A) (n i : ℕ) → i < n → n ≤ length l → take (n - 1) (removed l n i) ≡ cut_at i (take n l)
  cut-column l zero i h g = absurd (not-suc-le-zero h)
  cut-column l (suc n) i h g = let e : suc n - 1 ≡ n = omega arith in rw e (take-removed l n i (le_of_suc-le-suc h) g)

  pub contents-less : contents (without_at s (index_of d (ids_of (contents s)))) ≡ without d (contents s)
  unfolding without_at contents
  contents-less =
      let i = index_of d (ids_of (contents s)) in
      let n = s.count in
      let m = r.few in
      let f = r.of_firsts in
      let l = r.of_lasts in
      let o = r.of_ids in
      let c : contents s ≡ rows (take n s.firsts) (take n s.lasts) (take n s.ids) = rows_take n s.firsts s.lasts s.ids in
      rows_take (n - 1) (removed s.firsts n i) (removed s.lasts n i) (removed s.ids n i)
      ∙ rw (cut-column s.firsts n i there (omega arith), cut-column s.lasts n i there (omega arith), cut-column s.ids n i there (omega arith)) refl
      ∙ rows_cut i (take n s.firsts) (take n s.lasts) (take n s.ids)
      ∙ ap (cut_at i) (sym c)
      ∙ cut-found d (contents s)
