-- An answer other than that more is needed stays as it is, whatever follows the block. Assumes nothing.
use mathlib.Core.Path.{◌≡◌, refl, sym, ap, ◌∙◌}
use mathlib.Core.Bool.{Bool, true, false}
use mathlib.Core.List.{List, [], ◌∷◌, ◌++◌}
use Prim.Native.Nat.{ℕ, suc, ◌+◌, ◌-◌, ◌≤◌, ◌<◌}
use native.Mathlib.Omega.{arith}
use borrow.Author.Tests.{lt-ltb, le-ltb, ltb-true, ltb-false, ne_eqb}
use lib.Dec.{eqb, ltb}
use lib.ListN.{length, take, drop, length-append, length-drop}
use lib.Seq.{take-append-le, take-append-add, drop-append-le, take_all}
use Rattle.chars.specs.Pick.{pick}
use Rattle.chars.proofs.Cases.{of_test}
use Rattle.csv_rows.specs.declared.Fault.{Fault}
use Rattle.csv_rows.specs.declared.Fault.TheVariants.{QuoteInside, TextBehind}
use Rattle.csv_rows.specs.declared.Stop.{Stop}
use Rattle.csv_rows.specs.declared.Stop.TheVariants.{Unsure}
use Rattle.csv_rows.specs.declared.CellRead.TheVariants.{Unclear}
use Rattle.csv_rows.specs.declared.Ending.{Ending}
use Rattle.csv_rows.specs.declared.Ending.TheVariants.{Through, Fails, Open}
use Rattle.csv_rows.specs.declared.RowRead.{RowRead}
use Rattle.csv_rows.specs.declared.RowRead.TheVariants.{More}
use Rattle.csv_rows.specs.Reader.{is_stop, is_special, is, equal, up_to, inner_len, return_of, stop_of, closed, plain_by, quoted_by, cell_of, Line, line_from, line}
use Rattle.csv_rows.specs.Answers.{window, is_cut, is_over, place_of, end_len, feed_from, row_by, refused, answer_by, answer_of, line_of, answer, table_after}
use Rattle.csv_rows.proofs.Laws.{is-inside}
use Rattle.csv_rows.proofs.Places.{line-more, line-last, line-wrong}
use Rattle.csv_rows.proofs.Views.{good-ends, ends_some, Steps, and_more, at_last, at_fault, at_open, steps}

-- what stands at the front of some bytes
pub is-append : (c : ℕ) (v u : List ℕ) → 0 < length v → is c (v ++ u) ≡ is c v
unfolding is
is-append c [] u h = absurd (omega arith)
is-append c (b ∷ v) u h = refl

pub run-append : (p : ℕ → Bool) (t u : List ℕ) → up_to p t < length t → up_to p (t ++ u) ≡ up_to p t
unfolding up_to pick
run-append p [] u h = absurd (omega arith)
run-append p (b ∷ t) u h = of_test (p b) (λ q. rw q) (λ q. let g : suc (up_to p t) < suc (length t) = rw q at h in rw (q, run-append p t u (omega arith)))

inner-append : (t u : List ℕ) → suc (inner_len t) < length t → inner_len (t ++ u) ≡ inner_len t
unfolding inner_len pick
inner-append [] u h = absurd (omega arith)
inner-append (b ∷ []) u h = absurd (omega arith)
inner-append (b ∷ c ∷ t) u h =
    of_test (eqb b 34)
    (λ q. of_test (eqb c 34) (λ p. let g : suc (suc (suc (inner_len t))) < suc (suc (length t)) = rw (q, p) at h in rw (q, p, inner-append t u (omega arith))) (λ p. rw (q, p)))
    (λ q. let g : suc (suc (inner_len (c ∷ t))) < suc (suc (length t)) = rw q at h in rw q (ap suc (inner-append (c ∷ t) u (omega arith))))

stop-append : (over : Bool) (sep : ℕ) (v u : List ℕ) → (stop_of false sep v ≡ Unsure → ⊥) → stop_of over sep (v ++ u) ≡ stop_of false sep v
unfolding stop_of return_of pick
stop-append over sep [] u h = absurd (h refl)
stop-append over sep (b ∷ []) u h = of_test (is_stop sep b) (λ q. rw q) (λ q. of_test (eqb b 13) (λ p. absurd (h (rw (q, p)))) (λ p. rw (q, p)))
stop-append over sep (b ∷ c ∷ v) u h = refl

-- what is known stands before the end
stop-some : (sep : ℕ) (v : List ℕ) → (stop_of false sep v ≡ Unsure → ⊥) → 0 < length v
unfolding stop_of pick
stop-some sep [] h = absurd (h refl)
stop-some sep (b ∷ v) h = omega arith

closed-sure : (st : Stop) (a e n : ℕ) (f : Fault) → (closed st a e n f ≡ Unclear → ⊥) → st ≡ Unsure → ⊥
unfolding closed
closed-sure st a e n f h q = h (rw q)

none_yet : (sep at : ℕ) → plain_by false sep at [] 0 ≡ Unclear
unfolding plain_by closed stop_of pick
none_yet sep at = refl

module _ (over : Bool) (sep at : ℕ) (u : List ℕ) where
  plain_stable : (t : List ℕ) → (plain_by false sep at t (up_to (is_special sep) t) ≡ Unclear → ⊥) → plain_by over sep at (t ++ u) (up_to (is_special sep) (t ++ u)) ≡ plain_by false sep at t (up_to (is_special sep) t)
  unfolding plain_by
  plain_stable t h =
      let n = up_to (is_special sep) t in
      let k = closed-sure (stop_of false sep (drop n t)) at (at + n) (at + n) (QuoteInside (at + n)) h in
      let i = stop-some sep (drop n t) k in
      let d = length-drop n t in
      rw (run-append (is_special sep) t u (omega arith), drop-append-le n t u (omega arith), stop-append over sep (drop n t) u k)

  quoted-stable : (t : List ℕ) → (quoted_by false sep at t (inner_len t) ≡ Unclear → ⊥) → quoted_by over sep at (t ++ u) (inner_len (t ++ u)) ≡ quoted_by false sep at t (inner_len t)
  unfolding quoted_by pick
  quoted-stable t h =
      let n = inner_len t in
      let f = TextBehind (at + 1 + n + 1) in
      of_test (ltb n (length t))
      (λ q.
      let k = closed-sure (stop_of false sep (drop (suc n) t)) (at + 1) (at + 1 + n) (at + 1 + n + 1) f (λ z. h (rw q z)) in
      let i = stop-some sep (drop (suc n) t) k in
      let d = length-drop (suc n) t in
      let l = length-append t u in
      rw (inner-append t u (omega arith), q, lt-ltb n (length (t ++ u)) (omega arith), drop-append-le (suc n) t u (omega arith), stop-append over sep (drop (suc n) t) u k))
      (λ q. absurd (h (rw q)))

  -- a cell that is read though the file goes on is the same whatever follows
  pub cell-stable : (t : List ℕ) → (cell_of false sep at t ≡ Unclear → ⊥) → cell_of over sep at (t ++ u) ≡ cell_of false sep at t
  unfolding cell_of pick
  cell-stable [] h = absurd (h (none_yet sep at))
  cell-stable (b ∷ t) h =
      of_test (eqb b 34)
      (λ q. rw q (quoted-stable t (λ z. h (rw q z))))
      (λ q. rw q (plain_stable (b ∷ t) (λ z. h (rw q z))))

-- a line that ends within the bytes
pub line-stable : (over : Bool) {sep at : ℕ} {t : List ℕ} {l : Line} (u : List ℕ) → Steps false sep at t l → ((p : ℕ) → l.ending ≡ Open p → ⊥) → line_from over sep 0 at (t ++ u) ≡ l
line-stable over {sep} {at} {t} u (and_more {n = n} g w q r) h =
    let i = is-inside sep t (n - at) q in
    let d = length-drop (n - at) t in
    let c = cell-stable over sep at u t (λ z. let y : ◌≡◌ {A = ℕ} 0 1 = cc in omega arith) ∙ g in
    let k : is sep (drop (n - at) (t ++ u)) ≡ true = rw (drop-append-le (n - at) t u (omega arith)) (is-append sep (drop (n - at) t) u (omega arith) ∙ q) in
    line-more over sep at (t ++ u) c k ∙ rw (drop-append-le (suc (n - at)) t u (omega arith), line-stable over u r h)
line-stable over {sep} {at} {t} u (at_last {n = n} g w q) h =
    let i = ends_some sep (drop (n - at) t) (good-ends false sep at t g) in
    let d = length-drop (n - at) t in
    let c = cell-stable over sep at u t (λ z. let y : ◌≡◌ {A = ℕ} 0 1 = cc in omega arith) ∙ g in
    let k : is sep (drop (n - at) (t ++ u)) ≡ false = rw (drop-append-le (n - at) t u (omega arith)) (is-append sep (drop (n - at) t) u (omega arith) ∙ q) in
    line-last over sep at (t ++ u) c k
line-stable over {sep} {at} {t} u (at_fault g w) h =
    line-wrong over sep at (t ++ u) (cell-stable over sep at u t (λ z. let y : ◌≡◌ {A = ℕ} 0 1 = cc in omega arith) ∙ g)
line-stable over {sep} {at} {t} u (at_open g) h = absurd (h at refl)

-- the last cell of such a line ends before its bytes do
pub through-inside : {sep at : ℕ} {t : List ℕ} {l : Line} {n : ℕ} → Steps false sep at t l → l.ending ≡ Through n → n < at + length t
through-inside {sep} {at} {t} (and_more {n = n} g w q r) e =
    let i = is-inside sep t (n - at) q in let d = length-drop (suc (n - at)) t in let k = through-inside r e in omega arith
through-inside {sep} {at} {t} {n = m} (at_last {n = n} g w q) e =
    let i = ends_some sep (drop (n - at) t) (good-ends false sep at t g) in let d = length-drop (n - at) t in let z : n ≡ m = cc in omega arith
through-inside (at_fault g w) e = absurd (let z : ◌≡◌ {A = ℕ} 0 1 = cc in omega arith)
through-inside (at_open g) e = absurd (let z : ◌≡◌ {A = ℕ} 0 1 = cc in omega arith)

-- the answers by a window that another part follows
pub end-append : (v u : List ℕ) → 0 < length v → end_len (v ++ u) ≡ end_len v
unfolding end_len
end-append [] u h = absurd (omega arith)
end-append (b ∷ v) u h = refl

row-stable : (w u : List ℕ) (count n : ℕ) → n < length w → row_by (w ++ u) count n ≡ row_by w count n
unfolding row_by pick
row-stable w u count n h =
    let l = length-append w u in
    let d = length-drop n w in
    rw (ne_eqb (length (w ++ u)) 0 (λ z. omega arith), ne_eqb (length w) 0 (λ z. omega arith), drop-append-le n w u (omega arith), end-append (drop n w) u (omega arith))

feed-append : (w u : List ℕ) (p : ℕ) → feed_from p w < length w → feed_from p (w ++ u) ≡ feed_from p w
feed-append w u p h =
    let d = length-drop p w in
    rw (drop-append-le p w u (omega arith), run-append (equal 10) (drop p w) u (omega arith))

refused-stable : (last cut : Bool) (w u : List ℕ) (f : Fault) → (refused false false w f ≡ More → ⊥) → refused last cut (w ++ u) f ≡ refused false false w f
unfolding refused pick
refused-stable last cut w u f h =
    let l = length-append w u in
    let p = place_of f in
    of_test (ltb (feed_from p w) (length w))
    (λ q. let i = ltb-true (feed_from p w) (length w) q in rw (feed-append w u p i, q, lt-ltb (feed_from p w) (length (w ++ u)) (omega arith)))
    (λ q. absurd (h (rw q)))

ending-stable : (last cut : Bool) (w u : List ℕ) (count : ℕ) (e : Ending) → ((n : ℕ) → e ≡ Through n → n < length w) → (answer_by false false w count e ≡ More → ⊥)
    → answer_by last cut (w ++ u) count e ≡ answer_by false false w count e
unfolding answer_by pick
ending-stable last cut w u count (Through n) i h = row-stable w u count n (i n refl)
ending-stable last cut w u count (Fails f) i h = refused-stable last cut w u f h
ending-stable last cut w u count (Open p) i h = absurd (h refl)

not-open : (w : List ℕ) (count : ℕ) (e : Ending) → (answer_by false false w count e ≡ More → ⊥) → (p : ℕ) → e ≡ Open p → ⊥
unfolding answer_by pick
not-open w count e h p q = h (rw q)

-- the windows
pub window-append : (s t : List ℕ) → length s ≤ 65536 → window (s ++ t) ≡ s ++ take (65536 - length s) t
unfolding window
window-append s t h = let e : length s + (65536 - length s) ≡ 65536 = omega arith in ap (λ (n : ℕ). take n (s ++ t)) (sym e) ∙ take-append-add s t (65536 - length s)

cut-window : (s t : List ℕ) → 65536 ≤ length s → window (s ++ t) ≡ window s
unfolding window
cut-window s t h = take-append-le 65536 s t h

pub whole-window : (s : List ℕ) → length s ≤ 65536 → window s ≡ s
unfolding window
whole-window s h = take_all 65536 s h

cut-over : (last : Bool) → is_over last true ≡ is_over false true
unfolding is_over
cut-over true = refl
cut-over false = refl

cut_by : (last : Bool) (w : List ℕ) (count : ℕ) (e : Ending) → answer_by last true w count e ≡ answer_by false true w count e
unfolding answer_by refused pick
cut_by last w count (Through n) = refl
cut_by last w count (Fails f) = refl
cut_by last w count (Open p) = refl

cut-same : (last : Bool) (w : List ℕ) (l : Line) → answer_of last true w l ≡ answer_of false true w l
unfolding answer_of
cut-same last w l = cut_by last w (length l.cells) l.ending

-- an answer other than `More` is the answer whatever follows, and wherever the file ends; and so is the line
pub record Same (sep : ℕ) (s : List ℕ) (last : Bool) (t : List ℕ) : Type 0 where
  pub same_answer : answer sep last (s ++ t) ≡ answer sep false s
  pub same_line : line_of sep last (s ++ t) ≡ line_of sep false s

same-cut : (sep : ℕ) (s : List ℕ) (last : Bool) (t : List ℕ) → 65536 < length s → Same sep s last t
unfolding answer line_of is_cut
same-cut sep s last t h =
    let j = length-append s t in
    let w = cut-window s t (omega arith) in
    let c = lt-ltb 65536 (length (s ++ t)) (omega arith) in
    let d = lt-ltb 65536 (length s) h in
    record {
      same_answer = rw (c, d, w, cut-over last) (cut-same last (window s) (line (is_over false true) sep (window s)));
      same_line = rw (c, d, w, cut-over last);
    }

pub line-whole : (sep : ℕ) (last : Bool) (s : List ℕ) → length s ≤ 65536 → line_of sep last s ≡ line (is_over last false) sep s
unfolding line_of is_cut
line-whole sep last s h = rw (le-ltb 65536 (length s) h, whole-window s h)

pub answer-whole : (sep : ℕ) (last : Bool) (s : List ℕ) → length s ≤ 65536 → answer sep last s ≡ answer_of last false s (line (is_over last false) sep s)
unfolding answer is_cut
answer-whole sep last s h = rw (line-whole sep last s h, le-ltb 65536 (length s) h, whole-window s h)

module _ (sep : ℕ) (s : List ℕ) (last : Bool) (t : List ℕ) (h : length s ≤ 65536) (n : answer sep false s ≡ More → ⊥) where
  same_lines : (line (is_over last (is_cut (s ++ t))) sep (s ++ take (65536 - length s) t) ≡ line false sep s)
      × (answer_of last (is_cut (s ++ t)) (s ++ take (65536 - length s) t) (line false sep s) ≡ answer_of false false s (line false sep s))
  unfolding line answer_of is_over
  same_lines =
      let u = take (65536 - length s) t in
      let l = line_from false sep 0 0 s in
      let r = steps false sep 0 s in
      let m = length l.cells in
      let k : answer_by false false s m l.ending ≡ More → ⊥ = λ q. n (answer-whole sep false s h ∙ q) in
      let o = not-open s m l.ending k in
      let cut = is_cut (s ++ t) in
      (line-stable (is_over last cut) u r o, ending-stable last cut s u m l.ending (λ i q. let p = through-inside r q in omega arith) k)

  same-all : Same sep s last t
  unfolding answer line_of is_over
  same-all =
      let w = window-append s t h in
      let p = same_lines in
      record {
        same_answer = rw (w, p.0) p.1 ∙ sym (answer-whole sep false s h);
        same_line = rw (w, p.0) (sym (line-whole sep false s h));
      }

pub stays : (sep : ℕ) (s : List ℕ) → (answer sep false s ≡ More → ⊥) → (last : Bool) (t : List ℕ) → Same sep s last t
stays sep s n last t = of_test (ltb 65536 (length s)) (λ q. same-cut sep s last t (ltb-true 65536 (length s) q)) (λ q. same-all sep s last t (ltb-false 65536 (length s) q) n)

pub stable : (sep : ℕ) (s : List ℕ) (a : RowRead) → answer sep false s ≡ a → (a ≡ More → ⊥) → (last : Bool) (t : List ℕ) → answer sep last (s ++ t) ≡ a
stable sep s a e n last t = (stays sep s (λ z. n (sym e ∙ z)) last t).same_answer ∙ e

-- and so is the table
pub table-stable : (sep : ℕ) (s : List ℕ) → (answer sep false s ≡ More → ⊥) → (last : Bool) (t table : List ℕ) → table_after sep last (s ++ t) table ≡ table_after sep false s table
unfolding table_after
table-stable sep s n last t table = rw (stays sep s n last t).same_line
