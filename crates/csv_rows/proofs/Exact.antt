-- The line at the front of a file given whole: its cells are read without a fault exactly if the grammar derives a row there, and with this
-- fault exactly if this fault is derived. Assumes nothing.
use mathlib.Core.Path.{◌≡◌, refl, sym, ap, ◌∙◌, subst}
use mathlib.Core.Bool.{Bool, true, false}
use mathlib.Core.Logic.{◌↔◌, ⊎_elim}
use mathlib.Core.List.{List, [], ◌∷◌, ◌++◌, append_assoc}
use Prim.Native.Nat.{ℕ, suc, ◌+◌, ◌-◌}
use native.Mathlib.Omega.{arith}
use borrow.Author.Tests.{eq-eqb, ne_eqb, eqb-true, eqb-false}
use lib.Dec.{eqb}
use lib.ListN.{length, drop, length-append}
use lib.Seq.{drop-append_seam}
use Rattle.chars.specs.Pick.{pick}
use Rattle.chars.proofs.Cases.{of_test}
use Rattle.csv_rows.specs.declared.Separator.{Separator}
use Rattle.csv_rows.specs.declared.Fault.{Fault}
use Rattle.csv_rows.specs.declared.Stop.TheVariants.{Ends}
use Rattle.csv_rows.specs.declared.Ending.TheVariants.{Through, Fails, Open}
use Rattle.csv_rows.specs.Reader.{byte_of, is_stop, is, return_of, stop_of, Place, Line, line_from, line}
use Rattle.csv_rows.specs.Grammar.{Cells, one, more, LineEnd, feed, return_feed, file_end, RowAt, row}
use Rattle.csv_rows.specs.Faults.{Leading, no_cells, and_cell, WrongCell, FaultAt, fault, OpenCell, OpenAt, unended}
use Rattle.csv_rows.proofs.Places.{line-more, line-last, line-wrong, line-open}
use Rattle.csv_rows.proofs.Views.{Steps, and_more, at_last, at_fault, at_open, steps}
use Rattle.csv_rows.proofs.Pieces.{Apart, apart, stop_is, is-cons}
use Rattle.csv_rows.proofs.Found.{Taken, taken, wrongly, opened, one-read, wrong-read, open-read}

-- what a line's derivation is: a row and its end; good cells and a wrong one; or, where the file goes on, good cells and one whose end is not seen
pub data Derived (over : Bool) (sep at : ℕ) (t : List ℕ) (l : Line) : Type 0 where
  a_row : (s e r : List ℕ) (ts : List (List ℕ)) → Cells sep at s l.cells ts → LineEnd e r → t ≡ s ++ e → l.ending ≡ Through (at + length s) → Derived over sep at t l
  a_fault : (s u : List ℕ) (f : Fault) → Leading sep at s l.cells → WrongCell sep (at + length s) u f → t ≡ s ++ u → l.ending ≡ Fails f → Derived over sep at t l
  an_open : (s u : List ℕ) → Leading sep at s l.cells → OpenCell sep (at + length s) u → over ≡ false → t ≡ s ++ u → l.ending ≡ Open (at + length s) → Derived over sep at t l

-- what stands behind a last cell is a line end
return-end : (over : Bool) (v : List ℕ) → return_of over v ≡ Ends → (r : List ℕ) × (v ≡ 10 ∷ r)
unfolding return_of pick
return-end over [] h = of_test over (λ o. let g = rw o at h in absurd (let z : ◌≡◌ {A = ℕ} 0 1 = cc in omega arith)) (λ o. let g = rw o at h in absurd (let z : ◌≡◌ {A = ℕ} 0 1 = cc in omega arith))
return-end over (b ∷ v) h = of_test (eqb b 10) (λ q. (v, rw (eqb-true b 10 q))) (λ q. let g = rw q at h in absurd (let z : ◌≡◌ {A = ℕ} 0 1 = cc in omega arith))

by-feed : (b : ℕ) (u : List ℕ) → b ≡ 10 → LineEnd (b ∷ u) u
by-feed b u p = rw p feed

by-return : (b : ℕ) (u r : List ℕ) → b ≡ 13 → u ≡ 10 ∷ r → LineEnd (b ∷ u) r
by-return b u r p q = rw (p, q) return_feed

line-end : (over : Bool) (sep : ℕ) (u : List ℕ) → stop_of over sep u ≡ Ends → is sep u ≡ false → (r : List ℕ) × LineEnd u r
unfolding stop_of is pick
line-end over sep [] h n = ([], file_end)
line-end over sep (b ∷ u) h n =
    of_test (is_stop sep b)
    (λ q. ⊎_elim (λ (p : b ≡ sep). absurd (eqb-false b sep n p)) (λ (p : b ≡ 10). (u, by-feed b u p)) (stop_is sep b q))
    (λ q. of_test (eqb b 13)
    (λ p. let r = return-end over u (rw (q, p) at h) in (r.0, by-return b u r.0 (eqb-true b 13 p) r.1))
    (λ p. let g = rw (q, p) at h in absurd (let z : ◌≡◌ {A = ℕ} 0 1 = cc in omega arith)))

past_one : (s : List ℕ) (q : ℕ) (u : List ℕ) → drop (suc (length s)) (s ++ q ∷ u) ≡ u
past_one [] q u = refl
past_one (b ∷ s) q u = past_one s q u

module _ {over : Bool} {sep at : ℕ} {t : List ℕ} {a e n : ℕ} (k : Taken over sep at t a e n) where
  behind-taken : drop (n - at) t ≡ k.rest
  behind-taken = let g = k.next_is in let d : n - at ≡ length k.raw = omega arith in rw (d, k.split) (drop-append_seam k.raw k.rest)

  sep-taken : (v : List ℕ) → k.rest ≡ sep ∷ v → drop (suc (n - at)) t ≡ v
  sep-taken v h = let g = k.next_is in let d : n - at ≡ length k.raw = omega arith in rw (d, k.split, h) (past_one k.raw sep v)

  last-derived : is sep (drop (n - at) t) ≡ false → Derived over sep at t (record { cells = record { start = a; stop = e } ∷ []; ending = Through n })
  last-derived q =
      let l = line-end over sep k.rest k.behind (rw behind-taken at q) in
      a_row k.raw k.rest l.0 (k.text ∷ []) (one k.derived) l.1 k.split (ap Through k.next_is)

  more-derived : (v : List ℕ) (l : Line) → k.rest ≡ sep ∷ v → Derived over sep (n + 1) v l → Derived over sep at t (record { cells = record { start = a; stop = e } ∷ l.cells; ending = l.ending })
  more-derived v l h (a_row s u r ts d x p q) =
      let g = k.next_is in
      let m = length-append k.raw (sep ∷ s) in
      let y : n + 1 + length s ≡ at + length (k.raw ++ sep ∷ s) = omega arith in
      a_row (k.raw ++ sep ∷ s) u r (k.text ∷ ts) (more k.derived (subst (λ (i : ℕ). Cells sep (i + 1) s l.cells ts) g d)) x
      (k.split ∙ rw (h, p) (sym (append_assoc k.raw (sep ∷ s) u)))
      (q ∙ ap Through y)
  more-derived v l h (a_fault s u f d x p q) =
      let g = k.next_is in
      let m = length-append k.raw (sep ∷ s) in
      let y : n + 1 + length s ≡ at + length (k.raw ++ sep ∷ s) = omega arith in
      a_fault (k.raw ++ sep ∷ s) u f (and_cell k.derived (subst (λ (i : ℕ). Leading sep (i + 1) s l.cells) g d)) (subst (λ (i : ℕ). WrongCell sep i u f) y x)
      (k.split ∙ rw (h, p) (sym (append_assoc k.raw (sep ∷ s) u)))
      q
  more-derived v l h (an_open s u d x o p q) =
      let g = k.next_is in
      let m = length-append k.raw (sep ∷ s) in
      let y : n + 1 + length s ≡ at + length (k.raw ++ sep ∷ s) = omega arith in
      an_open (k.raw ++ sep ∷ s) u (and_cell k.derived (subst (λ (i : ℕ). Leading sep (i + 1) s l.cells) g d)) (subst (λ (i : ℕ). OpenCell sep i u) y x) o
      (k.split ∙ rw (h, p) (sym (append_assoc k.raw (sep ∷ s) u)))
      (q ∙ ap Open y)

-- what is read is derived
pub derive : {over : Bool} {sep at : ℕ} {t : List ℕ} {l : Line} → Steps over sep at t l → Derived over sep at t l
derive {over} {sep} {at} {t} (and_more {n = n} {l = l} g w q r) =
    let k = taken over sep at t g in
    let u = is-cons sep k.rest (rw (behind-taken k) at q) in
    let e = sep-taken k u.0 u.1 in
    more-derived k u.0 l u.1 (subst (λ (v : List ℕ). Derived over sep (n + 1) v l) e (derive r))
derive {over} {sep} {at} {t} (at_last g w q) = last-derived (taken over sep at t g) q
derive {over} {sep} {at} {t} (at_fault {f = f} g w) =
    let z : at ≡ at + length {A = ℕ} [] = omega arith in a_fault [] t f no_cells (subst (λ (i : ℕ). WrongCell sep i t f) z (wrongly over sep at t g)) refl refl
derive {over} {sep} {at} {t} (at_open g) =
    let o = opened over sep at t g in
    let z : at ≡ at + length {A = ℕ} [] = omega arith in
    an_open [] t no_cells (subst (λ (i : ℕ). OpenCell sep i t) z o.1) o.0 refl (ap Open z)

-- what is derived is read
sep-ends : (over : Bool) (sep : ℕ) (u : List ℕ) → stop_of over sep (sep ∷ u) ≡ Ends
unfolding stop_of is_stop pick
sep-ends over sep u = rw (eq-eqb sep sep refl)

is_front : (c : ℕ) (u : List ℕ) → is c (c ∷ u) ≡ true
unfolding is
is_front c u = eq-eqb c c refl

back : (at n : ℕ) → at + n - at ≡ n
back at n = omega arith

module _ {sep : ℕ} (a : Apart sep) where
  pub cells-read : (over : Bool) {at : ℕ} {s : List ℕ} {cs : List Place} {ts : List (List ℕ)} → Cells sep at s cs ts → (e : List ℕ) → stop_of over sep e ≡ Ends → is sep e ≡ false
      → line_from over sep 0 at (s ++ e) ≡ record { cells = cs; ending = Through (at + length s) }
  cells-read over {at} {s} (one o) e h n = line-last over sep at (s ++ e) (one-read a over e o h) (rw (back at (length s), drop-append_seam s e) n)
  cells-read over {at} (more {s = s} {u = u} o d) e h n =
      let f = append_assoc s (sep ∷ u) e in
      let m = length-append s (sep ∷ u) in
      let y : at + length s + 1 + length u ≡ at + length (s ++ sep ∷ u) = omega arith in
      rw f
      (line-more over sep at (s ++ sep ∷ (u ++ e)) (one-read a over (sep ∷ (u ++ e)) o (sep-ends over sep (u ++ e))) (rw (back at (length s), drop-append_seam s (sep ∷ (u ++ e))) (is_front sep (u ++ e)))
      ∙ rw (back at (length s), past_one s sep (u ++ e), cells-read over d e h n, y))

  pub fault-read : {at : ℕ} {s u : List ℕ} {cs : List Place} {f : Fault} → Leading sep at s cs → WrongCell sep (at + length s) u f → line_from true sep 0 at (s ++ u) ≡ record { cells = cs; ending = Fails f }
  fault-read {at} {u = u} {f = f} no_cells w = let z : at + length {A = ℕ} [] ≡ at = omega arith in line-wrong true sep at u (wrong-read a (subst (λ (i : ℕ). WrongCell sep i u f) z w))
  fault-read {at} {u = u} {f = f} (and_cell {s = s} {u = v} o d) w =
      let g = append_assoc s (sep ∷ v) u in
      let m = length-append s (sep ∷ v) in
      let y : at + length (s ++ sep ∷ v) ≡ at + length s + 1 + length v = omega arith in
      rw g
      (line-more true sep at (s ++ sep ∷ (v ++ u)) (one-read a true (sep ∷ (v ++ u)) o (sep-ends true sep (v ++ u))) (rw (back at (length s), drop-append_seam s (sep ∷ (v ++ u))) (is_front sep (v ++ u)))
      ∙ rw (back at (length s), past_one s sep (v ++ u), fault-read d (subst (λ (i : ℕ). WrongCell sep i u f) y w)))

-- a line end ends a cell, and is no separator
pub feed-ends : (over : Bool) (sep : ℕ) (r : List ℕ) → stop_of over sep (10 ∷ r) ≡ Ends
unfolding stop_of is_stop pick
feed-ends over sep r = of_test (eqb 10 sep) (λ q. rw q) (λ q. rw q)

pub return-ends : (over : Bool) (sep : ℕ) (r : List ℕ) → stop_of over sep (13 ∷ 10 ∷ r) ≡ Ends
unfolding stop_of return_of is_stop pick
return-ends over sep r = of_test (eqb 13 sep) (λ q. rw q) (λ q. rw q)

pub end-no-sep : {sep : ℕ} {e r : List ℕ} → Apart sep → LineEnd e r → is sep e ≡ false
unfolding is
end-no-sep {sep} a feed = ne_eqb 10 sep (λ z. eqb-false sep 10 a.feed (sym z))
end-no-sep {sep} a return_feed = ne_eqb 13 sep (λ z. eqb-false sep 13 a.return (sym z))
end-no-sep a file_end = refl

pub end-ends : (sep : ℕ) {e r : List ℕ} → LineEnd e r → stop_of true sep e ≡ Ends
unfolding stop_of pick
end-ends sep (feed {r}) = feed-ends true sep r
end-ends sep (return_feed {r}) = return-ends true sep r
end-ends sep file_end = refl

-- a row is derived with some rest and texts
pub record SomeRow (sep : ℕ) (s : List ℕ) (cs : List Place) : Type 0 where
  pub rest : List ℕ
  pub texts : List (List ℕ)
  pub is_row : RowAt sep s rest cs texts

-- a line is read through, with these cells
pub record ReadThrough (sep : ℕ) (s : List ℕ) (cs : List Place) : Type 0 where
  pub next : ℕ
  pub reads : line true sep s ≡ record { cells = cs; ending = Through next }

pub row_read : {sep : ℕ} {s r : List ℕ} {cs : List Place} {ts : List (List ℕ)} → Apart sep → RowAt sep s r cs ts → ReadThrough sep s cs
unfolding line
row_read {sep} a (row {s} {e} d l) = record { next = 0 + length s; reads = cells-read a true d e (end-ends sep l) (end-no-sep a l) }

by-derived : (sep : ℕ) (s : List ℕ) {cs : List Place} {n : ℕ} → Derived true sep 0 s (record { cells = cs; ending = Through n }) → SomeRow sep s cs
by-derived sep s {cs} (a_row t e r ts d l p q) = record { rest = r; texts = ts; is_row = subst (λ (v : List ℕ). RowAt sep v r cs ts) (sym p) (row d l) }
by-derived sep s (a_fault t u f d w p q) = absurd (let z : ◌≡◌ {A = ℕ} 0 1 = cc in omega arith)
by-derived sep s (an_open t u d w o p q) = absurd (let z : ◌≡◌ {A = ℕ} 0 1 = cc in omega arith)

pub row-taken : (sep : ℕ) (s : List ℕ) {cs : List Place} → ReadThrough sep s cs → SomeRow sep s cs
unfolding line
row-taken sep s r = by-derived sep s (rw r.reads at (derive (steps true sep 0 s)))

-- a line is read through with these cells exactly if the grammar derives a row with them
pub exact : (k : Separator) (s : List ℕ) (cs : List Place) → ReadThrough (byte_of k) s cs ↔ SomeRow (byte_of k) s cs
exact k s cs = (row-taken (byte_of k) s, λ r. row_read (apart k) r.is_row)

fault-derived : (sep : ℕ) (s : List ℕ) {cs : List Place} {f : Fault} → Derived true sep 0 s (record { cells = cs; ending = Fails f }) → FaultAt sep s cs f
fault-derived sep s (a_row t e r ts d l p q) = absurd (let z : ◌≡◌ {A = ℕ} 0 1 = cc in omega arith)
fault-derived sep s (an_open t u d w o p q) = absurd (let z : ◌≡◌ {A = ℕ} 0 1 = cc in omega arith)
fault-derived sep s {cs} {f} (a_fault t u g d w p q) =
    let z : 0 + length t ≡ length t = omega arith in
    let y : g ≡ f = cc in
    subst (λ (v : List ℕ). FaultAt sep v cs f) (sym p) (fault d (subst (λ (h : Fault). WrongCell sep (length t) u h) y (subst (λ (i : ℕ). WrongCell sep i u g) z w)))

pub fault-of : {sep : ℕ} {s : List ℕ} {cs : List Place} {f : Fault} → Apart sep → FaultAt sep s cs f → line true sep s ≡ record { cells = cs; ending = Fails f }
unfolding line
fault-of {sep} a (fault {s} {u} {f = f} d w) = let z : length s ≡ 0 + length s = omega arith in fault-read a d (subst (λ (i : ℕ). WrongCell sep i u f) z w)

pub fault-taken : (sep : ℕ) (s : List ℕ) {cs : List Place} {f : Fault} → line true sep s ≡ record { cells = cs; ending = Fails f } → FaultAt sep s cs f
unfolding line
fault-taken sep s e = fault-derived sep s (rw e at (derive (steps true sep 0 s)))

-- a line is read with this fault behind these cells exactly if that is derived
pub exact-fault : (k : Separator) (s : List ℕ) (cs : List Place) (f : Fault) → (line true (byte_of k) s ≡ record { cells = cs; ending = Fails f }) ↔ FaultAt (byte_of k) s cs f
exact-fault k s cs f = (fault-taken (byte_of k) s, fault-of (apart k))

-- a line of bytes that the file goes on behind
module _ {sep : ℕ} (a : Apart sep) where
  lead-open : {at : ℕ} {s u : List ℕ} {cs : List Place} → Leading sep at s cs → OpenCell sep (at + length s) u → line_from false sep 0 at (s ++ u) ≡ record { cells = cs; ending = Open (at + length s) }
  lead-open {at} {u = u} no_cells w = let z : at + length {A = ℕ} [] ≡ at = omega arith in line-open false sep at u (open-read a (subst (λ (i : ℕ). OpenCell sep i u) z w)) ∙ rw z
  lead-open {at} {u = u} (and_cell {s = s} {u = v} o d) w =
      let g = append_assoc s (sep ∷ v) u in
      let m = length-append s (sep ∷ v) in
      let y : at + length (s ++ sep ∷ v) ≡ at + length s + 1 + length v = omega arith in
      rw g
      (line-more false sep at (s ++ sep ∷ (v ++ u)) (one-read a false (sep ∷ (v ++ u)) o (sep-ends false sep (v ++ u))) (rw (back at (length s), drop-append_seam s (sep ∷ (v ++ u))) (is_front sep (v ++ u)))
      ∙ rw (back at (length s), past_one s sep (v ++ u), lead-open d (subst (λ (i : ℕ). OpenCell sep i u) y w), y))

pub open_of : {sep : ℕ} {s : List ℕ} {cs : List Place} {p : ℕ} → Apart sep → OpenAt sep s cs p → line false sep s ≡ record { cells = cs; ending = Open p }
unfolding line
open_of {sep} a (unended {s} {u} d w) = let z : length s ≡ 0 + length s = omega arith in lead-open a d (subst (λ (i : ℕ). OpenCell sep i u) z w) ∙ rw (← z)

open-derived : (sep : ℕ) (s : List ℕ) {cs : List Place} {p : ℕ} → Derived false sep 0 s (record { cells = cs; ending = Open p }) → OpenAt sep s cs p
open-derived sep s (a_row t e r ts d l p q) = absurd (let z : ◌≡◌ {A = ℕ} 0 1 = cc in omega arith)
open-derived sep s (a_fault t u f d w p q) = absurd (let z : ◌≡◌ {A = ℕ} 0 1 = cc in omega arith)
open-derived sep s {cs} {p = m} (an_open t u d w o p q) =
    let z : 0 + length t ≡ length t = omega arith in
    let y : m ≡ 0 + length t = cc in
    let x : length t ≡ m = omega arith in
    subst (λ (v : List ℕ). OpenAt sep v cs m) (sym p) (subst (λ (i : ℕ). OpenAt sep (t ++ u) cs i) x (unended d (subst (λ (i : ℕ). OpenCell sep i u) z w)))

-- a line that the file goes on behind is open from a place on exactly if it has neither ended nor met a fault, and its last cell begins there
pub exact-open : (k : Separator) (s : List ℕ) (cs : List Place) (p : ℕ) → (line false (byte_of k) s ≡ record { cells = cs; ending = Open p }) ↔ OpenAt (byte_of k) s cs p
unfolding line
exact-open k s cs p = (λ e. open-derived (byte_of k) s (rw e at (derive (steps false (byte_of k) 0 s))), open_of (apart k))
