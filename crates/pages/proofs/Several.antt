-- Several pieces are each piece by itself: what is answered, and what the lent table holds then. Assumes nothing.
use mathlib.Core.Path.{◌≡◌, refl, sym, ap, ◌∙◌}
use mathlib.Core.Bool.{true, false≢true}
use mathlib.Core.List.{List, [], ◌∷◌}
use mathlib.Core.Logic.{◌↔◌}
use Prim.Native.Nat.{ℕ, zero, suc, ◌+◌, ◌*◌, ◌≤◌, ◌<◌}
use native.Mathlib.Nat.{add-zero, zero-add}
use native.Mathlib.Omega.{arith}
use borrow.Author.Tests.{eq-eqb, eqb-true}
use lib.Dec.{eqb}
use lib.ListN.{length, get_or, take, drop, set, length-drop}
use lib.Seq.{take-take, length-take-le, sets, length-sets, get_or-set_same, get_or-set_other}
use Rattle.chars.proofs.Cases.{and-true}
use Rattle.refusals.specs.declared.Refusal.{Refusal}
use Rattle.chunks.specs.Chunks.{chunks_of, lengths}
use Rattle.std.specs.Prelude.{Result, Ok, Err}
use Rattle.chunks.specs.Lent.{Lent}
use Rattle.pages.specs.Pieces.{total, adds_up, size_of, first_of, pieces_of, piece_at, said, is_range, on_range, judged, numbers_of, put, PiecesFit, pages_answer, table_after, pages_afterwards}
use Rattle.pages.proofs.Sums.{split}
use Rattle.pages.proofs.Answers.{is_ranges, fitting, by-pieces}

abbrev none : Lent
none = record { bytes = []; table = [] }

counted : Result ℕ Refusal → ℕ
counted (Ok n) = n
counted (Err e) = 0

on-range : (r : Result (ℕ × ℕ) Refusal) (a : Result ℕ Refusal) → is_range r ≡ true → on_range r a ≡ a
unfolding is_range on_range
on-range (Ok (x, y)) a e = refl
on-range (Err f) a e = absurd (false≢true e)

went_on : (r : Result (ℕ × ℕ) Refusal) (a : Result ℕ Refusal) {n : ℕ} → on_range r a ≡ Ok n → (is_range r ≡ true) × (a ≡ Ok n)
unfolding is_range on_range
went_on (Ok (x, y)) a e = (refl, e)
went_on (Err f) a e = absurd (false≢true (ap is_ranges e))

-- each of a list of pieces is a range
abbrev Each : List Lent → Type 0
Each ps = (i : ℕ) → i < length ps → is_range (said (get_or ps i none)) ≡ true

each-judged : (all : ℕ) (ps : List Lent) → Each ps → judged all ps ≡ Ok all
unfolding judged
each-judged all [] f = refl
each-judged all (p ∷ ps) f =
    on-range (said p) (judged all ps) (f 0 (omega arith)) ∙ each-judged all ps (λ i h. f (suc i) (omega arith))

judged-each : (all : ℕ) {n : ℕ} (ps : List Lent) → judged all ps ≡ Ok n → (n ≡ all) × Each ps
unfolding judged counted
judged-each all [] e = (sym (ap counted e), λ i h. absurd (omega arith))
judged-each all (p ∷ ps) e =
    let q = went_on (said p) (judged all ps) e in let r = judged-each all ps q.1 in (r.0, each q.0 r.1)
  where
    each : is_range (said p) ≡ true → Each ps → Each (p ∷ ps)
    each y f zero h = y
    each y f (suc i) h = f i (omega arith)

judged-first : (all : ℕ) (ps : List Lent) (i : ℕ) → i < length ps → ((j : ℕ) → j < i → is_range (said (get_or ps j none)) ≡ true) → {e : Refusal} → said (get_or ps i none) ≡ Err e → judged all ps ≡ Err e
unfolding judged on_range
judged-first all [] i h f e = absurd (omega arith)
judged-first all (p ∷ ps) zero h f e = rw e refl
judged-first all (p ∷ ps) (suc i) h f e =
    on-range (said p) (judged all ps) (f 0 (omega arith)) ∙ judged-first all ps i (omega arith) (λ j g. f (suc j) (omega arith)) e

-- what is stored for one piece
store_other : (r : Result (ℕ × ℕ) Refusal) (out : List ℕ) (k j : ℕ) → (j ≡ k → ⊥) → (j ≡ suc k → ⊥) → get_or (sets out k (numbers_of r)) j 0 ≡ get_or out j 0
unfolding numbers_of
store_other (Ok (x, y)) out k j g h = get_or-set_other (set out k x) (suc k) j y 0 h ∙ get_or-set_other out k j x 0 g
store_other (Err e) out k j g h = refl

put-before : (k : ℕ) (ps : List Lent) (out : List ℕ) (j : ℕ) → j < 2 * k → get_or (put k ps out) j 0 ≡ get_or out j 0
unfolding put
put-before k [] out j h = refl
put-before k (p ∷ ps) out j h =
    put-before (k + 1) ps (sets out (2 * k) (numbers_of (said p))) j (omega arith)
    ∙ store_other (said p) out (2 * k) j (λ (e : j ≡ 2 * k). omega arith) (λ (e : j ≡ suc (2 * k)). omega arith)

put-behind : (k : ℕ) (ps : List Lent) (out : List ℕ) (j : ℕ) → 2 * (k + length ps) ≤ j → get_or (put k ps out) j 0 ≡ get_or out j 0
unfolding put
put-behind k [] out j h = refl
put-behind k (p ∷ ps) out j h =
    put-behind (k + 1) ps (sets out (2 * k) (numbers_of (said p))) j (omega arith)
    ∙ store_other (said p) out (2 * k) j (λ (e : j ≡ 2 * k). omega arith) (λ (e : j ≡ suc (2 * k)). omega arith)

put-length : (k : ℕ) (ps : List Lent) (out : List ℕ) → length (put k ps out) ≡ length out
unfolding put
put-length k [] out = refl
put-length k (p ∷ ps) out =
    put-length (k + 1) ps (sets out (2 * k) (numbers_of (said p))) ∙ length-sets out (2 * k) (numbers_of (said p))

-- the two numbers of one piece
record Holds (l : List ℕ) (k x y : ℕ) : Type 0 where
  first : get_or l k 0 ≡ x
  second : get_or l (suc k) 0 ≡ y

stored : (out : List ℕ) (k x y : ℕ) → suc k < length out → Holds (sets out k (numbers_of (Ok (x, y)))) k x y
unfolding numbers_of
stored out k x y h =
    record {
      first = get_or-set_other (set out k x) (suc k) k y 0 (λ (e : k ≡ suc k). omega arith) ∙ get_or-set_same out k x 0 (omega arith);
      second = get_or-set_same (set out k x) (suc k) y 0 (omega (arith, length-sets out k (x ∷ [])));
    }

put-at : (k : ℕ) (ps : List Lent) (out : List ℕ) (i : ℕ) {x y : ℕ} → i < length ps → 2 * (k + length ps) ≤ length out → said (get_or ps i none) ≡ Ok (x, y) → Holds (put k ps out) (2 * (k + i)) x y
unfolding put
put-at k [] out i h l e = absurd (omega arith)
put-at k (p ∷ ps) out zero {x} {y} h l e =
    let new = sets out (2 * k) (numbers_of (said p)) in
    let s : Holds new (2 * k) x y = rw e (stored out (2 * k) x y (omega arith)) in
    rw (add-zero k)
    (record {
      first = put-before (k + 1) ps new (2 * k) (omega arith) ∙ s.first;
      second = put-before (k + 1) ps new (suc (2 * k)) (omega arith) ∙ s.second;
    })
put-at k (p ∷ ps) out (suc i) {x} {y} h l e =
    let new = sets out (2 * k) (numbers_of (said p)) in
    let m : k + suc i ≡ k + 1 + i = omega arith in
    rw m (put-at (k + 1) ps new i (omega arith) (omega (arith, length-sets out (2 * k) (numbers_of (said p)))) e)

length-pieces : (b t cs : List ℕ) → length (pieces_of b t cs) ≡ length cs
unfolding pieces_of
length-pieces b t [] = refl
length-pieces b t (n ∷ ns) = ap suc (length-pieces (drop (size_of n t) b) (drop (4 * n) t) ns)

module _ (b t cs : List ℕ) where
  abbrev ps : List Lent
  ps = pieces_of b t cs

  -- the answer counts ranges exactly if all fits and each piece by itself is a range; and it counts them all
  pub ranges-exactly : (room n : ℕ) → (pages_answer b t cs room ≡ Ok n) ↔ (PiecesFit b t cs room × (n ≡ length cs) × ((i : ℕ) → i < length cs → is_range (said (piece_at b t cs i)) ≡ true))
  unfolding piece_at
  ranges-exactly room n = (
    λ e. let f = fitting b t cs room e in
        let r = judged-each (length cs) ps (by-pieces b t cs room f.0 f.1 f.2 ∙ e) in
        (f, r.0, λ i h. r.1 i (omega (arith, length-pieces b t cs))),
    λ e. let f = e.0 in
        sym (by-pieces b t cs room f.0 f.1 f.2) ∙ each-judged (length cs) ps (λ i h. e.2 i (omega (arith, length-pieces b t cs))) ∙ ap Ok (sym e.1),
  )

  -- where all fits, the refusal of the first refused piece is the answer
  pub first-refused : (room : ℕ) → PiecesFit b t cs room → (i : ℕ) → i < length cs → ((j : ℕ) → j < i → is_range (said (piece_at b t cs j)) ≡ true) → {e : Refusal} → said (piece_at b t cs i) ≡ Err e → pages_answer b t cs room ≡ Err e
  unfolding piece_at
  first-refused room f i h g e =
      sym (by-pieces b t cs room f.0 f.1 f.2) ∙ judged-first (length cs) ps i (omega (arith, length-pieces b t cs)) g e

  module _ (out : List ℕ) {n : ℕ} (e : pages_answer b t cs (length out) ≡ Ok n) where
    after : pages_afterwards b t cs out ≡ put 0 ps out
    unfolding pages_afterwards table_after
    after = rw e refl

    -- the lent table holds the two numbers of each piece, in the order of the pieces
    pub numbers-held : (i : ℕ) {x y : ℕ} → i < length cs → said (piece_at b t cs i) ≡ Ok (x, y) → (get_or (pages_afterwards b t cs out) (2 * i) 0 ≡ x) × (get_or (pages_afterwards b t cs out) (suc (2 * i)) 0 ≡ y)
    unfolding piece_at
    numbers-held i {x} {y} h r =
        let f = fitting b t cs (length out) e in
        let q : Holds (put 0 ps out) (2 * i) x y = rw (← zero-add i) (put-at 0 ps out i (omega (arith, length-pieces b t cs)) (omega (arith, f.2, length-pieces b t cs)) r) in
        rw after (q.first, q.second)

    -- and behind them it is as it was
    pub rest-kept : (j : ℕ) → 2 * length cs ≤ j → get_or (pages_afterwards b t cs out) j 0 ≡ get_or out j 0
    rest-kept j h = rw after (put-behind 0 ps out j (omega (arith, length-pieces b t cs)))

    -- it is as long as it was
    pub length-kept : length (pages_afterwards b t cs out) ≡ length out
    length-kept = rw after (put-length 0 ps out)

-- a piece lent alone

size_is : (n : ℕ) (t : List ℕ) → lengths (chunks_of (take (4 * n) t)) ≡ size_of n t
unfolding size_of
size_is n t = refl

judged-one : (p : Lent) → judged 1 (p ∷ []) ≡ on_range (said p) (Ok 1)
unfolding judged
judged-one p = refl

module _ (b t : List ℕ) (n : ℕ) (ns : List ℕ) (e : adds_up b t (n ∷ ns) ≡ true) where
  rows : 4 * (n + total ns) ≡ length t
  unfolding adds_up total
  rows = eqb-true _ _ (and-true (eqb (4 * (n + total ns)) (length t)) (eqb (lengths (chunks_of t)) (length b)) e).0

  sizes : size_of n t + lengths (chunks_of (drop (4 * n) t)) ≡ length b
  unfolding adds_up total
  sizes =
      sym (split n t (omega (arith, rows)))
      ∙ eqb-true _ _ (and-true (eqb (4 * (n + total ns)) (length t)) (eqb (lengths (chunks_of t)) (length b)) e).1

  adds-rest : adds_up (drop (size_of n t) b) (drop (4 * n) t) ns ≡ true
  unfolding adds_up
  adds-rest =
      rw (
        eq-eqb (4 * total ns) (length (drop (4 * n) t)) (omega (arith, rows, length-drop (4 * n) t)),
        eq-eqb (lengths (chunks_of (drop (4 * n) t))) (length (drop (size_of n t) b)) (omega (arith, sizes, length-drop (size_of n t) b)),
      )

  same_size : size_of n (take (4 * n) t) ≡ size_of n t
  unfolding size_of
  same_size = rw (take-take (4 * n) (4 * n) t (omega arith))

  adds-alone : adds_up (take (size_of n t) b) (take (4 * n) t) (n ∷ []) ≡ true
  unfolding adds_up total
  adds-alone =
      rw (
        eq-eqb (4 * (n + 0)) (length (take (4 * n) t)) (omega (arith, length-take-le (4 * n) t (omega (arith, rows)))),
        eq-eqb (lengths (chunks_of (take (4 * n) t))) (length (take (size_of n t) b)) (size_is n t ∙ sym (length-take-le (size_of n t) b (omega (arith, sizes)))),
      )

  first-again : pieces_of (take (size_of n t) b) (take (4 * n) t) (n ∷ []) ≡ first_of n b t ∷ []
  unfolding pieces_of first_of
  first-again =
      rw (same_size, take-take (4 * n) (4 * n) t (omega arith), take-take (size_of n t) (size_of n t) b (omega arith))

  alone : pages_answer (first_of n b t).bytes (first_of n b t).table (n ∷ []) 2 ≡ on_range (said (first_of n b t)) (Ok 1)
  unfolding first_of
  alone =
      sym (by-pieces (take (size_of n t) b) (take (4 * n) t) (n ∷ []) 2 (omega arith) adds-alone (omega arith)) ∙ ap (judged 1) first-again ∙ judged-one (first_of n b t)

-- each piece by itself: lent alone, it is one range, or refused as it is among the others
pub by_itself : (b t cs : List ℕ) → adds_up b t cs ≡ true → (i : ℕ) → i < length cs → pages_answer (piece_at b t cs i).bytes (piece_at b t cs i).table (get_or cs i 0 ∷ []) 2 ≡ on_range (said (piece_at b t cs i)) (Ok 1)
unfolding piece_at pieces_of
by_itself b t [] e i h = absurd (omega arith)
by_itself b t (n ∷ ns) e zero h = alone b t n ns e
by_itself b t (n ∷ ns) e (suc i) h = by_itself (drop (size_of n t) b) (drop (4 * n) t) ns (adds-rest b t n ns e) i (omega arith)
