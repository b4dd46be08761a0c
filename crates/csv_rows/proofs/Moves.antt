-- Every answer moves on and not past the block; more is asked for only of a short block that is not the last; cells stand in their row, in order.
-- Assumes nothing.
use mathlib.Core.Path.{◌≡◌, refl, sym, ap, ◌∙◌}
use mathlib.Core.Bool.{Bool, true, false, false≢true, ◌||◌}
use mathlib.Core.List.{List, [], ◌∷◌}
use Prim.Native.Nat.{ℕ, suc, ◌+◌, ◌-◌, ◌≤◌, ◌<◌}
use native.Mathlib.Omega.{arith}
use borrow.Author.Tests.{ltb-true, ltb-false, eqb-true, eqb-false, leb-true}
use lib.Dec.{eqb, ltb, leb}
use lib.ListN.{length, take, drop, length-drop, length-take}
use lib.Seq.{drop-drop, length-take-le}
use Rattle.chars.specs.Pick.{pick}
use Rattle.chars.proofs.Cases.{of_test, by-test}
use Rattle.csv_rows.specs.declared.Fault.{Fault}
use Rattle.csv_rows.specs.declared.Fault.TheVariants.{QuoteInside, TextBehind, TooLong}
use Rattle.csv_rows.specs.declared.Stop.{Stop}
use Rattle.csv_rows.specs.declared.Stop.TheVariants.{Ends, Lone, Other, Unsure}
use Rattle.csv_rows.specs.declared.CellRead.TheVariants.{Wrong, Unclear}
use Rattle.csv_rows.specs.declared.Ending.{Ending}
use Rattle.csv_rows.specs.declared.Ending.TheVariants.{Through, Fails, Open}
use Rattle.csv_rows.specs.declared.RowRead.{RowRead}
use Rattle.csv_rows.specs.declared.RowRead.TheVariants.{Row, Faulty, Endless, More, Nothing}
use Rattle.csv_rows.specs.Reader.{is_stop, is_special, is, up_to, inner_len, return_of, stop_of, closed, plain_by, quoted_by, cell_of, Place, Line, line_by, line_from, line}
use Rattle.csv_rows.specs.Answers.{window, is_cut, is_over, place_of, end_len, feed_from, counted, row_by, refused, answer_by, answer_of, line_of, answer, InOrder, no_cell, then_cell}
use Rattle.csv_rows.proofs.Laws.{is-inside}
use Rattle.csv_rows.proofs.Stable.{answer-whole}
use Rattle.csv_rows.proofs.Views.{good-ends, Steps, and_more, at_last, at_fault, at_open, steps}

-- at the end of the file nothing is left open
return-sure : (v : List ℕ) → return_of true v ≡ Unsure → ⊥
unfolding return_of pick
return-sure [] h = let z : ◌≡◌ {A = ℕ} 0 1 = cc in omega arith
return-sure (b ∷ v) h =
    of_test (eqb b 10) (λ q. let g = rw q at h in let z : ◌≡◌ {A = ℕ} 0 1 = cc in omega arith) (λ q. let g = rw q at h in let z : ◌≡◌ {A = ℕ} 0 1 = cc in omega arith)

pub stop-sure : (sep : ℕ) (v : List ℕ) → stop_of true sep v ≡ Unsure → ⊥
unfolding stop_of pick
stop-sure sep [] h = let z : ◌≡◌ {A = ℕ} 0 1 = cc in omega arith
stop-sure sep (b ∷ v) h =
    of_test (is_stop sep b) (λ q. let g = rw q at h in let z : ◌≡◌ {A = ℕ} 0 1 = cc in omega arith)
    (λ q. of_test (eqb b 13) (λ p. return-sure v (rw (q, p) at h)) (λ p. let g = rw (q, p) at h in let z : ◌≡◌ {A = ℕ} 0 1 = cc in omega arith))

closed-unclear : (st : Stop) (a e n : ℕ) (f : Fault) → closed st a e n f ≡ Unclear → st ≡ Unsure
unfolding closed
closed-unclear Ends a e n f h = absurd (let z : ◌≡◌ {A = ℕ} 0 1 = cc in omega arith)
closed-unclear Lone a e n f h = absurd (let z : ◌≡◌ {A = ℕ} 0 1 = cc in omega arith)
closed-unclear Other a e n f h = absurd (let z : ◌≡◌ {A = ℕ} 0 1 = cc in omega arith)
closed-unclear Unsure a e n f h = refl

module _ (sep at : ℕ) where
  plain-sure : (t : List ℕ) (n : ℕ) → plain_by true sep at t n ≡ Unclear → ⊥
  unfolding plain_by
  plain-sure t n h = stop-sure sep (drop n t) (closed-unclear (stop_of true sep (drop n t)) at (at + n) (at + n) (QuoteInside (at + n)) h)

  quoted-sure : (t : List ℕ) (n : ℕ) → quoted_by true sep at t n ≡ Unclear → ⊥
  unfolding quoted_by pick
  quoted-sure t n h =
      of_test (ltb n (length t))
      (λ q. stop-sure sep (drop (suc n) t) (closed-unclear (stop_of true sep (drop (suc n) t)) (at + 1) (at + 1 + n) (at + 1 + n + 1) (TextBehind (at + 1 + n + 1)) (rw q at h)))
      (λ q. let g = rw q at h in let z : ◌≡◌ {A = ℕ} 0 1 = cc in omega arith)

  cell-sure : (t : List ℕ) → cell_of true sep at t ≡ Unclear → ⊥
  unfolding cell_of pick
  cell-sure [] h = plain-sure [] 0 h
  cell-sure (b ∷ t) h = of_test (eqb b 34) (λ q. quoted-sure t (inner_len t) (rw q at h)) (λ q. plain-sure (b ∷ t) (up_to (is_special sep) (b ∷ t)) (rw q at h))

pub never-open : {sep at p : ℕ} {t : List ℕ} {l : Line} → Steps true sep at t l → l.ending ≡ Open p → ⊥
never-open (and_more g w q r) e = never-open r e
never-open (at_last g w q) e = let z : ◌≡◌ {A = ℕ} 0 1 = cc in omega arith
never-open (at_fault g w) e = let z : ◌≡◌ {A = ℕ} 0 1 = cc in omega arith
never-open {sep} {at} {t = t} (at_open g) e = cell-sure sep at t g

-- what stands behind the last cell, and where it ends
pub record Done (over : Bool) (sep at : ℕ) (t : List ℕ) (n : ℕ) : Type 0 where
  pub from : at ≤ n
  pub upto : n ≤ at + length t
  pub ended : stop_of over sep (drop (n - at) t) ≡ Ends
  pub no_sep : is sep (drop (n - at) t) ≡ false

pub done : {over : Bool} {sep at n : ℕ} {t : List ℕ} {l : Line} → Steps over sep at t l → l.ending ≡ Through n → Done over sep at t n
done {over} {sep} {at} {n = m} {t} (and_more {n = n} g w q r) e =
    let d = done r e in
    let i = is-inside sep t (n - at) q in
    let l = length-drop (suc (n - at)) t in
    let p = d.from in
    let u = d.upto in
    let f : suc (n - at) + (m - (n + 1)) ≡ m - at = omega arith in
    let s : drop (m - (n + 1)) (drop (suc (n - at)) t) ≡ drop (m - at) t = drop-drop (m - (n + 1)) (suc (n - at)) t ∙ ap (λ (k : ℕ). drop k t) f in
    record { from = omega arith; upto = omega arith; ended = rw (← s) d.ended; no_sep = rw (← s) d.no_sep }
done {over} {sep} {at} {n = m} {t} (at_last {n = n} g w q) e =
    let z : n ≡ m = cc in
    rw (← z) (record { from = omega arith; upto = w.3; ended = good-ends over sep at t g; no_sep = q })
done (at_fault g w) e = absurd (let z : ◌≡◌ {A = ℕ} 0 1 = cc in omega arith)
done (at_open g) e = absurd (let z : ◌≡◌ {A = ℕ} 0 1 = cc in omega arith)

-- a line end lies within what is left, and moves on
return-feeds : (over : Bool) (v : List ℕ) → return_of over v ≡ Ends → 1 ≤ length v
unfolding return_of pick
return-feeds over [] h =
    of_test over (λ q. let g = rw q at h in absurd (let z : ◌≡◌ {A = ℕ} 0 1 = cc in omega arith)) (λ q. let g = rw q at h in absurd (let z : ◌≡◌ {A = ℕ} 0 1 = cc in omega arith))
return-feeds over (b ∷ v) h = omega arith

pub end-inside : (over : Bool) (sep : ℕ) (v : List ℕ) → stop_of over sep v ≡ Ends → is sep v ≡ false → (end_len v ≤ length v) × (0 < length v → 0 < end_len v)
unfolding stop_of is end_len is_stop pick
end-inside over sep [] h n = (omega arith, λ z. omega arith)
end-inside over sep (b ∷ v) h n =
    of_test (eqb b 10) (λ q. rw q (omega arith, λ z. omega arith))
    (λ q. of_test (eqb b 13)
    (λ p. let g : return_of over v ≡ Ends = rw (n, q, p) at h in let i = return-feeds over v g in rw q (omega arith, λ z. omega arith))
    (λ p. let g : ◌≡◌ {A = Stop} Other Ends = rw (n, q, p) at h in absurd (let z : ◌≡◌ {A = ℕ} 0 1 = cc in omega arith)))

-- a fault lies within, and no fault is met where there is nothing
pub record Met (at : ℕ) (t : List ℕ) (f : Fault) : Type 0 where
  pub from : at ≤ place_of f
  pub upto : place_of f ≤ at + length t

none-wrong : (over : Bool) (sep at : ℕ) {f : Fault} → cell_of over sep at [] ≡ Wrong f → ⊥
unfolding cell_of plain_by closed stop_of pick
none-wrong true sep at h = let z : ◌≡◌ {A = ℕ} 0 1 = cc in omega arith
none-wrong false sep at h = let z : ◌≡◌ {A = ℕ} 0 1 = cc in omega arith

some-wrong : (over : Bool) (sep at : ℕ) (t : List ℕ) {f : Fault} → cell_of over sep at t ≡ Wrong f → 0 < length t
some-wrong over sep at [] g = absurd (none-wrong over sep at g)
some-wrong over sep at (b ∷ t) g = omega arith

pub met : {over : Bool} {sep at : ℕ} {t : List ℕ} {l : Line} {f : Fault} → Steps over sep at t l → l.ending ≡ Fails f → Met at t f × (0 < length t)
met {over} {sep} {at} {t} (and_more {n = n} g w q r) e =
    let d = (met r e).0 in
    let i = is-inside sep t (n - at) q in
    let l = length-drop (suc (n - at)) t in
    let p = d.from in
    let u = d.upto in
    (record { from = omega arith; upto = omega arith }, omega arith)
met (at_last g w q) e = absurd (let z : ◌≡◌ {A = ℕ} 0 1 = cc in omega arith)
met {over} {sep} {at} {t} {f = k} (at_fault {f = f} g w) e = let z : f ≡ k = cc in rw (← z) (record { from = w.0; upto = w.1 }, some-wrong over sep at t g)
met (at_open g) e = absurd (let z : ◌≡◌ {A = ℕ} 0 1 = cc in omega arith)

-- an answer moves on, within so many bytes
pub data Moves (size : ℕ) (cut : Bool) : RowRead → Type 0 where
  by_row : {end count : ℕ} → 0 < end → end ≤ size → Moves size cut (Row end count)
  by_fault : {end : ℕ} {f : Fault} → 0 < end → end ≤ size → Moves size cut (Faulty end f)
  by_window : {f : Fault} → cut ≡ true → Moves size cut (Endless f)
  by_more : Moves size cut More
  by_nothing : size ≡ 0 → Moves size cut Nothing

counted-moves : {size : ℕ} {cut : Bool} (count end : ℕ) → 0 < end → end ≤ size → Moves size cut (counted count end)
unfolding counted
counted-moves {size} {cut} count end p q = by-test (Moves size cut) (leb count 256) (λ _. by_row p q) (λ _. by_fault p q)

some : (n m k : ℕ) → m ≤ n → (m ≡ 0 → ⊥) → 0 < n + k
some n m k h g = omega arith

row-moves : {over : Bool} {sep n : ℕ} {w : List ℕ} (cut : Bool) (count : ℕ) → Done over sep 0 w n → Moves (length w) cut (row_by w count n)
unfolding row_by
row-moves {over} {sep} {n} {w} cut count d =
    let z : n - 0 ≡ n = omega arith in
    let e = end-inside over sep (drop n w) (rw z at d.ended) (rw z at d.no_sep) in
    let l = length-drop n w in
    let u = d.upto in
    let e0 = e.0 in
    by-test (Moves (length w) cut) (eqb (length w) 0)
    (λ q. by_nothing (eqb-true (length w) 0 q))
    (λ q.
    let k = eqb-false (length w) 0 q in
    counted-moves count (n + end_len (drop n w))
    (of_test (ltb n (length w)) (λ t. let i = ltb-true n (length w) t in let j = e.1 (omega arith) in omega arith) (λ t. let i = ltb-false n (length w) t in some n (length w) (end_len (drop n w)) i k))
    (omega arith))

refused-moves : (last cut : Bool) (w : List ℕ) (f : Fault) → 0 < length w → Moves (length w) cut (refused last cut w f)
unfolding refused
refused-moves last cut w f h =
    by-test (Moves (length w) cut) (ltb (feed_from (place_of f) w) (length w))
    (λ q. let i = ltb-true (feed_from (place_of f) w) (length w) q in by_fault (omega arith) (omega arith))
    (λ q. by-test (Moves (length w) cut) cut (λ c. by_window c) (λ c. by-test (Moves (length w) cut) last (λ d. by_fault h (omega arith)) (λ d. by_more)))

moves : (last cut : Bool) {over : Bool} {sep : ℕ} {w : List ℕ} {l : Line} (count : ℕ) (e : Ending) → Steps over sep 0 w l → l.ending ≡ e → (cut ≡ true → 0 < length w) → Moves (length w) cut (answer_by last cut w count e)
unfolding answer_by
moves last cut count (Through n) r e h = row-moves cut count (done r e)
moves last cut {w = w} count (Fails f) r e h = refused-moves last cut w f (met r e).1
moves last cut {w = w} count (Open p) r e h = by-test (Moves (length w) cut) cut (λ c. refused-moves last cut w (TooLong p) (h c)) (λ c. by_more)

pub answer-moves : (sep : ℕ) (last : Bool) (s : List ℕ) → Moves (length (window s)) (is_cut s) (answer sep last s)
unfolding answer answer_of line_of line is_cut window
answer-moves sep last s =
    moves last (ltb 65536 (length s)) _ _ (steps (is_over last (ltb 65536 (length s))) sep 0 (take 65536 s)) refl
    (λ c. let h = ltb-true 65536 (length s) c in let l = length-take-le 65536 s (omega arith) in omega arith)

window-short : (s : List ℕ) → (length (window s) ≤ length s) × (length (window s) ≤ 65536)
unfolding window
window-short s = let l = length-take 65536 s in (omega arith, omega arith)

row-inv : {size : ℕ} {cut : Bool} {end count : ℕ} → Moves size cut (Row end count) → (0 < end) × (end ≤ size)
row-inv (by_row p q) = (p, q)

fault-inv : {size : ℕ} {cut : Bool} {end : ℕ} {f : Fault} → Moves size cut (Faulty end f) → (0 < end) × (end ≤ size)
fault-inv (by_fault p q) = (p, q)

window-inv : {size : ℕ} {cut : Bool} {f : Fault} → Moves size cut (Endless f) → cut ≡ true
window-inv (by_window c) = c

nothing-inv : {size : ℕ} {cut : Bool} → Moves size cut Nothing → size ≡ 0
nothing-inv (by_nothing e) = e

empty-window : (s : List ℕ) → length (window s) ≡ 0 → s ≡ []
unfolding window
empty-window [] h = refl
empty-window (b ∷ s) h = absurd (omega arith)

waits : (sep : ℕ) → answer sep false [] ≡ Nothing → ⊥
unfolding answer answer_of answer_by line_of line line_from line_by is_over is_cut window cell_of plain_by closed stop_of pick
waits sep h = let z : ◌≡◌ {A = ℕ} 0 1 = cc in omega arith

module _ (sep : ℕ) (last : Bool) (s : List ℕ) where
  -- a row has bytes, and lies within the block and the limit
  pub row-advances : {end count : ℕ} → answer sep last s ≡ Row end count → (0 < end) × (end ≤ length s) × (end ≤ 65536)
  row-advances e = let m = row-inv (rw e at (answer-moves sep last s)) in let w = window-short s in (m.0, omega (arith, m.1), omega (arith, m.1))

  -- so does a refused one
  pub fault-advances : {end : ℕ} {f : Fault} → answer sep last s ≡ Faulty end f → (0 < end) × (end ≤ length s) × (end ≤ 65536)
  fault-advances e = let m = fault-inv (rw e at (answer-moves sep last s)) in let w = window-short s in (m.0, omega (arith, m.1), omega (arith, m.1))

  -- an endless one only where the block is longer than the window
  pub endless-long : {f : Fault} → answer sep last s ≡ Endless f → 65536 < length s
  unfolding is_cut
  endless-long e = ltb-true 65536 (length s) (window-inv (rw e at (answer-moves sep last s)))

  -- nothing only where nothing is left of the file
  pub nothing-over : answer sep last s ≡ Nothing → (last ≡ true) × (s ≡ [])
  nothing-over e =
      let m = nothing-inv (rw e at (answer-moves sep last s)) in
      let n : s ≡ [] = empty-window s m in
      (of_test last (λ q. q) (λ q. absurd (waits sep (rw (n, q) at e))), n)

-- more is not asked for where the window is full, nor at the end of the file
row-not-more : (w : List ℕ) (count n : ℕ) → row_by w count n ≡ More → ⊥
unfolding row_by counted pick
row-not-more w count n h =
    of_test (eqb (length w) 0) (λ q. let g = rw q at h in let z : ◌≡◌ {A = ℕ} 0 1 = cc in omega arith)
    (λ q. of_test (leb count 256) (λ p. let g = rw (q, p) at h in let z : ◌≡◌ {A = ℕ} 0 1 = cc in omega arith) (λ p. let g = rw (q, p) at h in let z : ◌≡◌ {A = ℕ} 0 1 = cc in omega arith))

refused-not-more : (last cut : Bool) (w : List ℕ) (f : Fault) → last || cut ≡ true → refused last cut w f ≡ More → ⊥
unfolding refused pick
refused-not-more last cut w f o h =
    of_test (ltb (feed_from (place_of f) w) (length w)) (λ q. let g = rw q at h in let z : ◌≡◌ {A = ℕ} 0 1 = cc in omega arith) (λ q. go last cut o (rw q at h))
  where
    go : (last cut : Bool) → last || cut ≡ true → pick cut (Endless f) (pick last (Faulty (length w) f) More) ≡ More → ⊥
    go last true o h = let z : ◌≡◌ {A = ℕ} 0 1 = cc in omega arith
    go true false o h = let z : ◌≡◌ {A = ℕ} 0 1 = cc in omega arith
    go false false o h = false≢true o

or-true : (last : Bool) → last || true ≡ true
or-true true = refl
or-true false = refl

cut-not-more : (last : Bool) (w : List ℕ) (count : ℕ) (e : Ending) → answer_by last true w count e ≡ More → ⊥
unfolding answer_by pick
cut-not-more last w count (Through n) h = row-not-more w count n h
cut-not-more last w count (Fails f) h = refused-not-more last true w f (or-true last) h
cut-not-more last w count (Open p) h = refused-not-more last true w (TooLong p) (or-true last) h

last-not-more : (w : List ℕ) (count : ℕ) (e : Ending) → ((p : ℕ) → e ≡ Open p → ⊥) → answer_by true false w count e ≡ More → ⊥
unfolding answer_by
last-not-more w count (Through n) o h = row-not-more w count n h
last-not-more w count (Fails f) o h = refused-not-more true false w f refl h
last-not-more w count (Open p) o h = o p refl

cut-answer : (sep : ℕ) (last : Bool) (s : List ℕ) → ltb 65536 (length s) ≡ true → answer_by last true (window s) (length (line_of sep last s).cells) (line_of sep last s).ending ≡ answer sep last s
unfolding answer answer_of is_cut
cut-answer sep last s q = rw q

last-answer : (sep : ℕ) (s : List ℕ) → length s ≤ 65536 → answer sep true s ≡ More → ⊥
unfolding answer_of line is_over
last-answer sep s l h =
    let r = steps true sep 0 s in
    last-not-more s (length (line_from true sep 0 0 s).cells) (line_from true sep 0 0 s).ending (λ p q. never-open r q) (sym (answer-whole sep true s l) ∙ h)

pub more-short : (sep : ℕ) (last : Bool) (s : List ℕ) → answer sep last s ≡ More → (last ≡ false) × (length s ≤ 65536)
more-short sep last s h =
    of_test (ltb 65536 (length s))
    (λ q. absurd (cut-not-more last (window s) (length (line_of sep last s).cells) (line_of sep last s).ending (cut-answer sep last s q ∙ h)))
    (λ q. let l = ltb-false 65536 (length s) q in (of_test last (λ z. absurd (last-answer sep s l (rw z at h))) (λ z. z), l))

-- the cells of a line stand in order, from its front on
later : {low low' high : ℕ} {cs : List Place} → low' ≤ low → InOrder low high cs → InOrder low' high cs
later h no_cell = no_cell
later {low' = k} h (then_cell {c = c} p q r i) = let z : k ≤ c.start = omega arith in then_cell z q r i

wider : {low high high' : ℕ} {cs : List Place} → high ≤ high' → InOrder low high cs → InOrder low high' cs
wider h no_cell = no_cell
wider {high' = k} h (then_cell {c = c} p q r i) = let z : c.stop ≤ k = omega arith in then_cell p q z (wider h i)

pub in_order : {over : Bool} {sep at : ℕ} {t : List ℕ} {l : Line} → Steps over sep at t l → InOrder at (at + length t) l.cells
in_order {sep = sep} {at} {t} (and_more {a = a} {e = e} {n = n} g w q r) =
    let i = is-inside sep t (n - at) q in
    let d = length-drop (suc (n - at)) t in
    let z : e ≤ at + length t = omega (arith, w.2, w.3) in
    let y : n + 1 + length (drop (suc (n - at)) t) ≤ at + length t = omega (arith, w.3) in
    let x : e + 1 ≤ n + 1 = omega (arith, w.2) in
    then_cell {c = record { start = a; stop = e }} w.0 w.1 z (later x (wider y (in_order r)))
in_order {at = at} {t} (at_last {a = a} {e = e} g w q) = let z : e ≤ at + length t = omega (arith, w.2, w.3) in then_cell {c = record { start = a; stop = e }} w.0 w.1 z no_cell
in_order (at_fault g w) = no_cell
in_order (at_open g) = no_cell

pub through-order : {over : Bool} {sep at n : ℕ} {t : List ℕ} {l : Line} → Steps over sep at t l → l.ending ≡ Through n → InOrder at n l.cells
through-order {n = m} (and_more {a = a} {e = e} {n = n} g w q r) f =
    let d = done r f in
    let p = d.from in
    let z : e ≤ m = omega (arith, w.2, p) in
    let x : e + 1 ≤ n + 1 = omega (arith, w.2) in
    then_cell {c = record { start = a; stop = e }} w.0 w.1 z (later x (through-order r f))
through-order {n = m} (at_last {a = a} {e = e} {n = n} g w q) f = let z : n ≡ m = cc in let y : e ≤ m = omega (arith, w.2, z) in then_cell {c = record { start = a; stop = e }} w.0 w.1 y no_cell
through-order (at_fault g w) e = absurd (let z : ◌≡◌ {A = ℕ} 0 1 = cc in omega arith)
through-order (at_open g) e = absurd (let z : ◌≡◌ {A = ℕ} 0 1 = cc in omega arith)

counted-inv : (m : ℕ) (e : ℕ) {end count : ℕ} → counted m e ≡ Row end count → (m ≡ count) × (e ≡ end) × (m ≤ 256)
unfolding counted pick
counted-inv m e h =
    of_test (leb m 256) (λ q. let g = rw q at h in (cc, cc, leb-true m 256 q)) (λ q. let g = rw q at h in absurd (let z : ◌≡◌ {A = ℕ} 0 1 = cc in omega arith))

row-by-inv : (w : List ℕ) (m n : ℕ) {end count : ℕ} → row_by w m n ≡ Row end count → (m ≡ count) × (n + end_len (drop n w) ≡ end) × (m ≤ 256)
unfolding row_by pick
row-by-inv w m n h =
    of_test (eqb (length w) 0) (λ q. let g = rw q at h in absurd (let z : ◌≡◌ {A = ℕ} 0 1 = cc in omega arith)) (λ q. counted-inv m (n + end_len (drop n w)) (rw q at h))

refused-no-row : (last cut : Bool) (w : List ℕ) (f : Fault) {end count : ℕ} → refused last cut w f ≡ Row end count → ⊥
unfolding refused pick
refused-no-row last cut w f h =
    of_test (ltb (feed_from (place_of f) w) (length w)) (λ q. let g = rw q at h in let z : ◌≡◌ {A = ℕ} 0 1 = cc in omega arith)
    (λ q. of_test cut (λ c. let g = rw (q, c) at h in let z : ◌≡◌ {A = ℕ} 0 1 = cc in omega arith)
    (λ c. of_test last (λ d. let g = rw (q, c, d) at h in let z : ◌≡◌ {A = ℕ} 0 1 = cc in omega arith) (λ d. let g = rw (q, c, d) at h in let z : ◌≡◌ {A = ℕ} 0 1 = cc in omega arith)))

-- what a row that is answered says of its line
pub record RowOf (sep : ℕ) (last : Bool) (s : List ℕ) (end count : ℕ) : Type 0 where
  pub next : ℕ
  pub through : (line_of sep last s).ending ≡ Through next
  pub ends_at : next + end_len (drop next (window s)) ≡ end
  pub counted_is : length (line_of sep last s).cells ≡ count
  pub few : count ≤ 256

by-ending : (sep : ℕ) (last cut : Bool) (s : List ℕ) (e : Ending) {end count : ℕ} → (line_of sep last s).ending ≡ e → answer_by last cut (window s) (length (line_of sep last s).cells) e ≡ Row end count → RowOf sep last s end count
unfolding answer_by pick
by-ending sep last cut s (Through n) q h =
    let i = row-by-inv (window s) (length (line_of sep last s).cells) n h in
    record { next = n; through = q; ends_at = i.1; counted_is = i.0; few = omega (arith, i.0, i.2) }
by-ending sep last cut s (Fails f) q h = absurd (refused-no-row last cut (window s) f h)
by-ending sep last cut s (Open p) q h =
    of_test cut (λ c. absurd (refused-no-row last true (window s) (TooLong p) (rw c at h))) (λ c. let g = rw c at h in absurd (let z : ◌≡◌ {A = ℕ} 0 1 = cc in omega arith))

pub row_of : (sep : ℕ) (last : Bool) (s : List ℕ) {end count : ℕ} → answer sep last s ≡ Row end count → RowOf sep last s end count
unfolding answer answer_of
row_of sep last s h = by-ending sep last (is_cut s) s (line_of sep last s).ending refl h

-- the cells of a row that is answered: as many as it says, at most 256, one behind the other within the row
pub places-inside : (sep : ℕ) (last : Bool) (s : List ℕ) {end count : ℕ} → answer sep last s ≡ Row end count
    → (length (line_of sep last s).cells ≡ count) × (count ≤ 256) × InOrder 0 end (line_of sep last s).cells
unfolding line_of line
places-inside sep last s h =
    let r = row_of sep last s h in
    let e = r.ends_at in
    (r.counted_is, r.few, wider (omega arith) (through-order (steps (is_over last (is_cut s)) sep 0 (window s)) r.through))

-- the cells that are before a fault too stand within the block, one behind the other
pub cells-inside : (sep : ℕ) (last : Bool) (s : List ℕ) → InOrder 0 (length s) (line_of sep last s).cells
unfolding line_of line
cells-inside sep last s = let w = window-short s in wider (omega (arith, w.0)) (in_order (steps (is_over last (is_cut s)) sep 0 (window s)))
