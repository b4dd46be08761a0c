-- List order, and entries that are well kept: one more in its place, or one less. Assumes nothing.
use mathlib.Core.Path.{◌≡◌, refl, sym, ap, ◌∙◌, subst}
use mathlib.Core.Bool.{Bool, true, false, false≢true}
use mathlib.Core.List.{List, [], ◌∷◌}
use Prim.Native.Nat.{ℕ, suc, ◌<◌}
use native.Mathlib.Omega.{arith}
use lib.Dec.{eqb, ltb}
use lib.IntN.{ℤ}
use lib.Signed.{lt_z}
use lib.ListN.{length}
use borrow.Author.Tests.{lt-ltb, ltb-true, ltb-false, eq-eqb, ne_eqb, eqb-true, eqb-false, not-true}
use Rattle.chars.specs.Pick.{pick}
use Rattle.dates.proofs.Less.{lt_trans, lt_same, irrefl}
use Rattle.chronology.specs.declared.Entry.{Entry}
use Rattle.chronology.specs.Entries.{sooner, precedes, good_days, ids_of, among, has, before_next, kept_first, well_kept, insert, without}
use Rattle.chronology.specs.Order.{Before, by_first, by_last, by_id}
use Rattle.chronology.proofs.Tests.{both}

-- one day before another, or the same day
data Sooner (a b : ℤ) (yes no : Bool) : Type 0 where
  earlier : lt_z a b ≡ true → Sooner a b yes no
  tied : a ≡ b → yes ≡ no → Sooner a b yes no

sooner-yes : (a b : ℤ) (o : Bool) → sooner a b o ≡ true → Sooner a b o true
unfolding sooner pick
sooner-yes a b o t = go (lt_z a b) (lt_z b a) refl refl t
  where
    go : (x y : Bool) → lt_z a b ≡ x → lt_z b a ≡ y → pick x true (pick y false o) ≡ true → Sooner a b o true
    go true y p q z = earlier p
    go false true p q z = absurd (false≢true z)
    go false false p q z = tied (lt_same a b p q) z

sooner-no : (a b : ℤ) (o : Bool) → sooner a b o ≡ false → Sooner b a o false
unfolding sooner pick
sooner-no a b o t = go (lt_z a b) (lt_z b a) refl refl t
  where
    go : (x y : Bool) → lt_z a b ≡ x → lt_z b a ≡ y → pick x true (pick y false o) ≡ false → Sooner b a o false
    go true y p q z = absurd (false≢true (sym z))
    go false true p q z = earlier q
    go false false p q z = tied (sym (lt_same a b p q)) z

pub sooner-first : (a b : ℤ) (o : Bool) → lt_z a b ≡ true → sooner a b o ≡ true
unfolding sooner pick
sooner-first a b o h = rw h

pub sooner-later : (a b : ℤ) (o : Bool) → lt_z a b ≡ false → lt_z b a ≡ true → sooner a b o ≡ false
unfolding sooner pick
sooner-later a b o h k = rw (h, k)

pub sooner-neither : (a b : ℤ) (o : Bool) → lt_z a b ≡ false → lt_z b a ≡ false → sooner a b o ≡ o
unfolding sooner pick
sooner-neither a b o h k = rw (h, k)

sooner-tie : (a b : ℤ) (o : Bool) → a ≡ b → sooner a b o ≡ o
unfolding sooner pick
sooner-tie a b o e = rw (e, irrefl b)

-- an entry stands before another where the test says so
pub before-yes : (a b : Entry) → precedes a b ≡ true → Before a b
unfolding precedes
before-yes a b t = go (sooner-yes a.first b.first _ t)
  where
    on : a.first ≡ b.first → Sooner a.last b.last (ltb a.id b.id) true → Before a b
    on e (earlier h) = by_last e h
    on e (tied f v) = by_id e f (ltb-true a.id b.id v)

    go : Sooner a.first b.first (sooner a.last b.last (ltb a.id b.id)) true → Before a b
    go (earlier h) = by_first h
    go (tied e u) = on e (sooner-yes a.last b.last _ u)

pub before-test : (a b : Entry) → Before a b → precedes a b ≡ true
unfolding precedes
before-test a b (by_first h) = sooner-first a.first b.first _ h
before-test a b (by_last p h) = sooner-tie a.first b.first _ p ∙ sooner-first a.last b.last _ h
before-test a b (by_id p q h) =
    sooner-tie a.first b.first _ p ∙ sooner-tie a.last b.last _ q ∙ lt-ltb a.id b.id h

-- of two entries with different identifiers one stands before the other
pub before-no : (a b : Entry) → (a.id ≡ b.id → ⊥) → precedes a b ≡ false → Before b a
unfolding precedes
before-no a b n t = go (sooner-no a.first b.first _ t)
  where
    on : b.first ≡ a.first → Sooner b.last a.last (ltb a.id b.id) false → Before b a
    on e (earlier h) = by_last e h
    on e (tied f v) = let h = ltb-false a.id b.id v in by_id e f (omega arith)

    go : Sooner b.first a.first (sooner a.last b.last (ltb a.id b.id)) false → Before b a
    go (earlier h) = by_first h
    go (tied e u) = on e (sooner-no a.last b.last _ u)

-- a day that is before another is before the same
on-right : (a b c : ℤ) → lt_z a b ≡ true → b ≡ c → lt_z a c ≡ true
on-right a b c h e = subst (λ (z : ℤ). lt_z a z ≡ true) e h

on-left : (a b c : ℤ) → a ≡ b → lt_z b c ≡ true → lt_z a c ≡ true
on-left a b c e h = subst (λ (z : ℤ). lt_z z c ≡ true) (sym e) h

pub before-then : {a b c : Entry} → Before a b → Before b c → Before a c
before-then {a} {b} {c} f g = go f g
  where
    first : lt_z a.first b.first ≡ true → Before b c → Before a c
    first h (by_first g) = by_first (lt_trans a.first b.first c.first h g)
    first h (by_last p g) = by_first (on-right a.first b.first c.first h p)
    first h (by_id p q g) = by_first (on-right a.first b.first c.first h p)

    last : a.first ≡ b.first → lt_z a.last b.last ≡ true → Before b c → Before a c
    last p h (by_first g) = by_first (on-left a.first b.first c.first p g)
    last p h (by_last q g) = by_last (p ∙ q) (lt_trans a.last b.last c.last h g)
    last p h (by_id q r g) = by_last (p ∙ q) (on-right a.last b.last c.last h r)

    id : a.first ≡ b.first → a.last ≡ b.last → a.id < b.id → Before b c → Before a c
    id p q h (by_first g) = by_first (on-left a.first b.first c.first p g)
    id p q h (by_last r g) = by_last (p ∙ r) (on-left a.last b.last c.last q g)
    id p q h (by_id r s g) = by_id (p ∙ r) (q ∙ s) (omega arith)

    go : Before a b → Before b c → Before a c
    go (by_first h) g = first h g
    go (by_last p h) g = last p h g
    go (by_id p q h) g = id p q h g

-- what is before the first day of one is before that of the next
pub first-after : (z : ℤ) (a b : Entry) → Before a b → lt_z z a.first ≡ true → lt_z z b.first ≡ true
first-after z a b (by_first h) k = lt_trans z a.first b.first k h
first-after z a b (by_last p h) k = on-right z a.first b.first k p
first-after z a b (by_id p q h) k = on-right z a.first b.first k p

-- not both ways
pub before-once : (a b : Entry) → Before a b → precedes b a ≡ false
before-once a b f = go (precedes b a) refl
  where
    never : {x : Entry} → Before x x → ⊥
    never {x} (by_first h) = false≢true (sym (irrefl x.first) ∙ h)
    never {x} (by_last p h) = false≢true (sym (irrefl x.last) ∙ h)
    never (by_id p q h) = omega arith

    go : (t : Bool) → precedes b a ≡ t → t ≡ false
    go true e = absurd (never (before-then f (before-yes b a e)))
    go false e = refl

-- what entries that are well kept say of the first
pub record Kept (e : Entry) (l : List Entry) : Type 0 where
  pub good : good_days e ≡ true
  pub next : before_next e l ≡ true
  pub alone : has e.id l ≡ false
  pub rest : well_kept l ≡ true

pub kept : (e : Entry) (l : List Entry) → well_kept (e ∷ l) ≡ true → Kept e l
unfolding well_kept kept_first
kept e l t =
    let a = both (kept_first e l) _ t in
    let b = both (good_days e) _ a.0 in
    let c = both (before_next e l) _ b.1 in
    record { good = b.0; next = c.0; alone = not-true _ c.1; rest = a.1 }

pub keep : (e : Entry) (l : List Entry) → Kept e l → well_kept (e ∷ l) ≡ true
unfolding well_kept kept_first pick
keep e l k = rw (k.good, k.next, k.alone, k.rest)

-- identifiers of a longer list
pub has_here : (d : ℕ) (x : Entry) (l : List Entry) → x.id ≡ d → has d (x ∷ l) ≡ true
unfolding has among ids_of pick
has_here d x l q = rw (eq-eqb x.id d q)

pub has_on : (d : ℕ) (x : Entry) (l : List Entry) → (x.id ≡ d → ⊥) → has d (x ∷ l) ≡ has d l
unfolding has among ids_of pick
has_on d x l q = rw (ne_eqb x.id d q)

-- where an identifier is not, it is not the first one's, and not behind
pub has_none : (d : ℕ) (x : Entry) (l : List Entry) → has d (x ∷ l) ≡ false → (x.id ≡ d → ⊥) × (has d l ≡ false)
has_none d x l t = go (eqb x.id d) refl
  where
    go : (b : Bool) → eqb x.id d ≡ b → (x.id ≡ d → ⊥) × (has d l ≡ false)
    go true e = absurd (false≢true (sym t ∙ has_here d x l (eqb-true x.id d e)))
    go false e = let n = eqb-false x.id d e in (n, sym (has_on d x l n) ∙ t)

-- an entry goes behind one that precedes it, or before one that does not
pub insert-on : (e x : Entry) (l : List Entry) → precedes x e ≡ true → insert e (x ∷ l) ≡ x ∷ insert e l
unfolding insert pick
insert-on e x l t = rw t

pub insert-here : (e x : Entry) (l : List Entry) → precedes x e ≡ false → insert e (x ∷ l) ≡ e ∷ x ∷ l
unfolding insert pick
insert-here e x l t = rw t

-- an entry is taken, or stays
pub without-here : (d : ℕ) (x : Entry) (l : List Entry) → x.id ≡ d → without d (x ∷ l) ≡ l
unfolding without pick
without-here d x l q = rw (eq-eqb x.id d q)

pub without_on : (d : ℕ) (x : Entry) (l : List Entry) → (x.id ≡ d → ⊥) → without d (x ∷ l) ≡ x ∷ without d l
unfolding without pick
without_on d x l q = rw (ne_eqb x.id d q)

-- identifiers after an insertion
pub has-insert : (d : ℕ) (e : Entry) (l : List Entry) → has d (insert e l) ≡ has d (e ∷ l)
unfolding insert
has-insert d e [] = refl
has-insert d e (x ∷ l) = go (precedes x e) refl (has-insert d e l)
  where
    swap : (s t : Bool) → eqb x.id d ≡ s → eqb e.id d ≡ t → has d (x ∷ e ∷ l) ≡ has d (e ∷ x ∷ l)
    swap true true p q = has_here d x (e ∷ l) (eqb-true x.id d p) ∙ sym (has_here d e (x ∷ l) (eqb-true e.id d q))
    swap true false p q =
        has_here d x (e ∷ l) (eqb-true x.id d p)
        ∙ sym (has_on d e (x ∷ l) (eqb-false e.id d q) ∙ has_here d x l (eqb-true x.id d p))
    swap false true p q =
        has_on d x (e ∷ l) (eqb-false x.id d p) ∙ has_here d e l (eqb-true e.id d q) ∙ sym (has_here d e (x ∷ l) (eqb-true e.id d q))
    swap false false p q =
        has_on d x (e ∷ l) (eqb-false x.id d p) ∙ has_on d e l (eqb-false e.id d q)
        ∙ sym (has_on d e (x ∷ l) (eqb-false e.id d q) ∙ has_on d x l (eqb-false x.id d p))

    under : (t : Bool) → eqb x.id d ≡ t → has d (insert e l) ≡ has d (e ∷ l) → has d (x ∷ insert e l) ≡ has d (x ∷ e ∷ l)
    under true p i = has_here d x (insert e l) (eqb-true x.id d p) ∙ sym (has_here d x (e ∷ l) (eqb-true x.id d p))
    under false p i =
        has_on d x (insert e l) (eqb-false x.id d p) ∙ i ∙ sym (has_on d x (e ∷ l) (eqb-false x.id d p))

    go : (t : Bool) → precedes x e ≡ t → has d (insert e l) ≡ has d (e ∷ l) → has d (insert e (x ∷ l)) ≡ has d (e ∷ x ∷ l)
    go true p i =
        ap (has d) (insert-on e x l p) ∙ under (eqb x.id d) refl i ∙ swap (eqb x.id d) (eqb e.id d) refl refl
    go false p i = ap (has d) (insert-here e x l p)

-- what stands before the next still does after an insertion behind it
next-insert : (x e : Entry) (l : List Entry) → precedes x e ≡ true → before_next x l ≡ true → before_next x (insert e l) ≡ true
unfolding before_next insert
next-insert x e [] p n = p
next-insert x e (y ∷ l) p n = go (precedes y e) refl
  where
    go : (t : Bool) → precedes y e ≡ t → before_next x (insert e (y ∷ l)) ≡ true
    go true q = ap (before_next x) (insert-on e y l q) ∙ n
    go false q = ap (before_next x) (insert-here e y l q) ∙ p

last-next : (e : Entry) → before_next e [] ≡ true
unfolding before_next
last-next e = refl

-- an entry more
pub insert-keeps : (e : Entry) (l : List Entry) → well_kept l ≡ true → good_days e ≡ true → has e.id l ≡ false → well_kept (insert e l) ≡ true
unfolding insert before_next
insert-keeps e [] w g n = keep e [] (record { good = g; next = last-next e; alone = n; rest = w })
insert-keeps e (x ∷ l) w g n =
    let k = kept x l w in
    let m = has_none e.id x l n in
    go (precedes x e) refl k m (insert-keeps e l k.rest g m.1)
  where
    go : (t : Bool) → precedes x e ≡ t → Kept x l → (x.id ≡ e.id → ⊥) × (has e.id l ≡ false) → well_kept (insert e l) ≡ true → well_kept (insert e (x ∷ l)) ≡ true
    go true p k m i =
        ap well_kept (insert-on e x l p)
        ∙ keep x (insert e l)
        (record {
          good = k.good;
          next = next-insert x e l p k.next;
          alone = has-insert x.id e l ∙ has_on x.id e l (λ (q : e.id ≡ x.id). m.0 (sym q)) ∙ k.alone;
          rest = i;
        })
    go false p k m i =
        ap well_kept (insert-here e x l p)
        ∙ keep e (x ∷ l) (record { good = g; next = before-test e x (before-no x e m.0 p); alone = n; rest = w })

-- identifiers after a removal
pub has-without : (d c : ℕ) (l : List Entry) → has c l ≡ false → has c (without d l) ≡ false
unfolding without
has-without d c [] n = n
has-without d c (x ∷ l) n = let m = has_none c x l n in go (eqb x.id d) refl m (has-without d c l m.1)
  where
    go : (t : Bool) → eqb x.id d ≡ t → (x.id ≡ c → ⊥) × (has c l ≡ false) → has c (without d l) ≡ false → has c (without d (x ∷ l)) ≡ false
    go true q m i = ap (has c) (without-here d x l (eqb-true x.id d q)) ∙ m.1
    go false q m i = ap (has c) (without_on d x l (eqb-false x.id d q)) ∙ has_on c x (without d l) m.0 ∙ i

-- what stands before the next stands before the one behind it
next-next : (x y : Entry) (l : List Entry) → precedes x y ≡ true → before_next y l ≡ true → before_next x l ≡ true
unfolding before_next
next-next x y [] p n = refl
next-next x y (z ∷ l) p n = before-test x z (before-then (before-yes x y p) (before-yes y z n))

next-without : (x : Entry) (d : ℕ) (l : List Entry) → before_next x l ≡ true → well_kept l ≡ true → before_next x (without d l) ≡ true
unfolding before_next without
next-without x d [] n w = refl
next-without x d (y ∷ l) n w = go (eqb y.id d) refl
  where
    go : (t : Bool) → eqb y.id d ≡ t → before_next x (without d (y ∷ l)) ≡ true
    go true q = ap (before_next x) (without-here d y l (eqb-true y.id d q)) ∙ next-next x y l n (kept y l w).next
    go false q = ap (before_next x) (without_on d y l (eqb-false y.id d q)) ∙ n

-- an entry less
pub without-keeps : (d : ℕ) (l : List Entry) → well_kept l ≡ true → well_kept (without d l) ≡ true
unfolding without
without-keeps d [] w = w
without-keeps d (x ∷ l) w = let k = kept x l w in go (eqb x.id d) refl k (without-keeps d l k.rest)
  where
    go : (t : Bool) → eqb x.id d ≡ t → Kept x l → well_kept (without d l) ≡ true → well_kept (without d (x ∷ l)) ≡ true
    go true q k i = ap well_kept (without-here d x l (eqb-true x.id d q)) ∙ k.rest
    go false q k i =
        ap well_kept (without_on d x l (eqb-false x.id d q))
        ∙ keep x (without d l)
        (record {
          good = k.good;
          next = next-without x d l k.next k.rest;
          alone = has-without d x.id l k.alone;
          rest = i;
        })

-- an entry that was put in and is taken out
pub without-insert : (d : ℕ) (e : Entry) (l : List Entry) → e.id ≡ d → has d l ≡ false → without d (insert e l) ≡ l
unfolding insert
without-insert d e [] q n = without-here d e [] q
without-insert d e (x ∷ l) q n = let m = has_none d x l n in go (precedes x e) refl m (without-insert d e l q m.1)
  where
    go : (t : Bool) → precedes x e ≡ t → (x.id ≡ d → ⊥) × (has d l ≡ false) → without d (insert e l) ≡ l → without d (insert e (x ∷ l)) ≡ x ∷ l
    go true p m i =
        ap (without d) (insert-on e x l p) ∙ without_on d x (insert e l) m.0 ∙ ap {B = List Entry} (λ (z : List Entry). x ∷ z) i
    go false p m i = ap (without d) (insert-here e x l p) ∙ without-here d e (x ∷ l) q

-- behind what does not precede an entry nothing precedes it
insert-front : (e x : Entry) (l : List Entry) → Before e x → before_next x l ≡ true → insert e l ≡ e ∷ l
unfolding insert before_next
insert-front e x [] f n = refl
insert-front e x (y ∷ l) f n = insert-here e y l (before-once e y (before-then f (before-yes x y n)))

alone-without : (d : ℕ) (e : Entry) → e ∷ without d [] ≡ insert e (without d [])
unfolding insert without
alone-without d e = refl

-- an insertion and a removal of another come out the same in any order
pub without_other : (d : ℕ) (e : Entry) (l : List Entry) → (e.id ≡ d → ⊥) → well_kept l ≡ true → has e.id l ≡ false
    → without d (insert e l) ≡ insert e (without d l)
unfolding insert
without_other d e [] q w n = without_on d e [] q ∙ alone-without d e
without_other d e (x ∷ l) q w n =
    let k = kept x l w in
    let m = has_none e.id x l n in
    go (precedes x e) (eqb x.id d) refl refl k m (without_other d e l q k.rest m.1)
  where
    go : (t u : Bool) → precedes x e ≡ t → eqb x.id d ≡ u → Kept x l → (x.id ≡ e.id → ⊥) × (has e.id l ≡ false)
        → without d (insert e l) ≡ insert e (without d l) → without d (insert e (x ∷ l)) ≡ insert e (without d (x ∷ l))
    go true true p r k m i =
        let s = eqb-true x.id d r in
        ap (without d) (insert-on e x l p) ∙ without-here d x (insert e l) s ∙ sym (ap (insert e) (without-here d x l s))
    go true false p r k m i =
        let s = eqb-false x.id d r in
        ap (without d) (insert-on e x l p) ∙ without_on d x (insert e l) s ∙ ap {B = List Entry} (λ (z : List Entry). x ∷ z) i
        ∙ sym (ap (insert e) (without_on d x l s) ∙ insert-on e x (without d l) p)
    go false true p r k m i =
        let s = eqb-true x.id d r in
        ap (without d) (insert-here e x l p) ∙ without_on d e (x ∷ l) q ∙ ap {B = List Entry} (λ (z : List Entry). e ∷ z) (without-here d x l s)
        ∙ sym (ap (insert e) (without-here d x l s) ∙ insert-front e x l (before-no x e m.0 p) k.next)
    go false false p r k m i =
        let s = eqb-false x.id d r in
        ap (without d) (insert-here e x l p) ∙ without_on d e (x ∷ l) q ∙ ap {B = List Entry} (λ (z : List Entry). e ∷ z) (without_on d x l s)
        ∙ sym (ap (insert e) (without_on d x l s) ∙ insert-here e x (without d l) p)

pub insert-length : (e : Entry) (l : List Entry) → length (insert e l) ≡ suc (length l)
unfolding insert
insert-length e [] = refl
insert-length e (x ∷ l) = go (precedes x e) refl (insert-length e l)
  where
    go : (t : Bool) → precedes x e ≡ t → length (insert e l) ≡ suc (length l) → length (insert e (x ∷ l)) ≡ suc (suc (length l))
    go true p i = ap length (insert-on e x l p) ∙ ap suc i
    go false p i = ap length (insert-here e x l p)
