-- The answers for a file given whole: a row exactly if the grammar derives one that is within the limits; a fault as it is derived.
-- Assumes nothing.
use mathlib.Core.Path.{◌≡◌, refl, sym, ap, ◌∙◌, subst}
use mathlib.Core.Bool.{Bool, true, false, ◌&&◌, not}
use mathlib.Core.Logic.{◌↔◌}
use mathlib.Core.List.{List, [], ◌∷◌, ◌++◌}
use Prim.Native.Nat.{ℕ, zero, suc, ◌+◌, ◌-◌, ◌≤◌, ◌<◌}
use native.Mathlib.Omega.{arith}
use borrow.Author.Tests.{lt-ltb, le-ltb, ltb-true, ltb-false, le-leb, lt-leb, leb-false, ne_eqb}
use lib.Dec.{eqb, ltb, leb}
use lib.ListN.{length, take, drop, length-append, length-drop, length-take, take-append-drop}
use lib.Seq.{take-nil, drop-append_seam, drop-append-le}
use Rattle.chars.specs.Pick.{pick}
use Rattle.chars.proofs.Cases.{of_test}
use Rattle.csv_rows.specs.declared.Separator.{Separator}
use Rattle.csv_rows.specs.declared.Fault.{Fault}
use Rattle.csv_rows.specs.declared.Fault.TheVariants.{TooLong, TooMany}
use Rattle.csv_rows.specs.declared.Stop.TheVariants.{Ends}
use Rattle.csv_rows.specs.declared.Ending.{Ending}
use Rattle.csv_rows.specs.declared.Ending.TheVariants.{Through, Fails, Open}
use Rattle.csv_rows.specs.declared.RowRead.{RowRead}
use Rattle.csv_rows.specs.declared.RowRead.TheVariants.{Row, Faulty, Endless, More}
use Rattle.csv_rows.specs.Reader.{byte_of, is, stop_of, Place, Line, line_from, line}
use Rattle.csv_rows.specs.Answers.{window, is_cut, is_over, place_of, end_len, feed_from, counted, row_by, refused, answer_by, answer_of, line_of, answer, Says, says_faulty, says_endless}
use Rattle.csv_rows.specs.Grammar.{Cells, one, more, LineEnd, feed, return_feed, file_end, RowAt, row, Limited}
use Rattle.csv_rows.specs.Faults.{FaultAt, TooFar, Reason, by_length, by_fault, by_count}
use Rattle.csv_rows.proofs.Views.{steps}
use Rattle.csv_rows.proofs.Stable.{line-stable, through-inside, end-append, window-append, whole-window, line-whole}
use Rattle.csv_rows.proofs.Moves.{row_of, row-advances, never-open, done, end-inside}
use Rattle.csv_rows.proofs.Pieces.{Apart, apart}
use Rattle.csv_rows.proofs.Exact.{Derived, a_row, a_fault, an_open, derive, cells-read, feed-ends, return-ends, end-no-sep, fault-of, fault-taken, open_of, exact-open}

-- the window and what is behind it
pub window-split : (s : List ℕ) → window s ++ drop 65536 s ≡ s
unfolding window
window-split s = take-append-drop 65536 s

cut-over : (last : Bool) → last && not true ≡ false
cut-over true = refl
cut-over false = refl

cut_line : (sep : ℕ) (last : Bool) (s : List ℕ) → 65536 < length s → line_of sep last s ≡ line false sep (window s)
unfolding line_of is_cut is_over
cut_line sep last s h = rw (lt-ltb 65536 (length s) h, cut-over last)

-- the line of the window is that of the file, unless it is open
pub whole-line : (sep : ℕ) (s : List ℕ) → ((p : ℕ) → (line_of sep true s).ending ≡ Open p → ⊥) → line true sep s ≡ line_of sep true s
unfolding line is_over
whole-line sep s o =
    of_test (ltb 65536 (length s))
    (λ q.
    let e = cut_line sep true s (ltb-true 65536 (length s) q) in
    ap (λ (l : List ℕ). line_from true sep 0 0 l) (sym (window-split s)) ∙ line-stable true (drop 65536 s) (steps false sep 0 (window s)) (λ p z. o p (rw e z)) ∙ sym e)
    (λ q. sym (line-whole sep true s (ltb-false 65536 (length s) q)))

-- the line end that the window shows is that of the file
end-window : (sep : ℕ) (s : List ℕ) (n : ℕ) → (line_of sep true s).ending ≡ Through n → end_len (drop n (window s)) ≡ end_len (drop n s)
unfolding line
end-window sep s n h =
    of_test (ltb 65536 (length s))
    (λ q.
    let e = cut_line sep true s (ltb-true 65536 (length s) q) in
    let i = through-inside (steps false sep 0 (window s)) (rw e at h) in
    let d = length-drop n (window s) in
    sym (ap (λ (l : List ℕ). end_len (drop n l)) (sym (window-split s)) ∙ rw (drop-append-le n (window s) (drop 65536 s) (omega arith)) (end-append (drop n (window s)) (drop 65536 s) (omega arith))))
    (λ q. rw (whole-window s (ltb-false 65536 (length s) q)))

-- how long a line end is
pub end-long : {e r : List ℕ} → LineEnd e r → end_len e + length r ≡ length e
unfolding end_len pick
end-long feed = omega arith
end-long return_feed = omega arith
end-long file_end = omega arith

-- a line that is read through is a row, of so many bytes
pub record ThroughRow (sep : ℕ) (s : List ℕ) (cs : List Place) (end : ℕ) : Type 0 where
  pub rest : List ℕ
  pub texts : List (List ℕ)
  pub is_row : RowAt sep s rest cs texts
  pub measured : end + length rest ≡ length s

by-through : (sep : ℕ) (s : List ℕ) (next end : ℕ) → next + end_len (drop next s) ≡ end → (l : Line) → l.ending ≡ Through next → Derived true sep 0 s l → ThroughRow sep s l.cells end
by-through sep s next end ends l q (a_row t e r ts d x p z) =
    let n : next ≡ length t = let y : next ≡ 0 + length t = cc in omega arith in
    let f : drop next s ≡ e = rw (n, p) (drop-append_seam t e) in
    let g : next + end_len e ≡ end = rw f at ends in
    let m = end-long x in
    let k : length s ≡ length t + length e = ap length p ∙ length-append t e in
    record { rest = r; texts = ts; is_row = subst (λ (v : List ℕ). RowAt sep v r l.cells ts) (sym p) (row d x); measured = omega arith }
by-through sep s next end ends l q (a_fault t u f d x p z) = absurd (let y : ◌≡◌ {A = ℕ} 0 1 = cc in omega arith)
by-through sep s next end ends l q (an_open t u d x o p z) = absurd (let y : ◌≡◌ {A = ℕ} 0 1 = cc in omega arith)

through-row : (sep : ℕ) (s : List ℕ) (next : ℕ) → (line_of sep true s).ending ≡ Through next → ThroughRow sep s (line_of sep true s).cells (next + end_len (drop next (window s)))
unfolding line
through-row sep s next q =
    let e = whole-line sep s (λ p z. let y : ◌≡◌ {A = ℕ} 0 1 = cc in omega arith) in
    let w = by-through sep s next (next + end_len (drop next s)) refl (line true sep s) (rw e q) (derive (steps true sep 0 s)) in
    rw (end-window sep s next q, ← e) w

through-inside-window : (sep : ℕ) (s : List ℕ) (next : ℕ) → (line_of sep true s).ending ≡ Through next → next + end_len (drop next (window s)) ≤ 65536
unfolding line_of line window
through-inside-window sep s next q =
    let d = done (steps (is_over true (is_cut s)) sep 0 (take 65536 s)) q in
    let z : next - 0 ≡ next = omega arith in
    let i = (end-inside (is_over true (is_cut s)) sep (drop next (take 65536 s)) (rw z at d.ended) (rw z at d.no_sep)).0 in
    let l = length-drop next (take 65536 s) in
    let m = length-take 65536 s in
    let u = d.upto in
    omega arith

-- what is answered is derived
pub row-limited : (sep : ℕ) (s : List ℕ) {end count : ℕ} → answer sep true s ≡ Row end count → Limited sep s end count
row-limited sep s h =
    let r = row_of sep true s h in
    let a = row-advances sep true s h in
    let w = through-row sep s r.next r.through in
    record {
      rest = w.rest;
      places = (line_of sep true s).cells;
      texts = w.texts;
      is_row = w.is_row;
      some = omega (arith, a.0, a.1);
      counted = r.counted_is;
      few = r.few;
      measured = rw r.ends_at at w.measured;
      short = a.2;
    }

-- a derived row is answered
pub record Kept (over : Bool) (sep : ℕ) (e v : List ℕ) : Type 0 where
  pub ended : stop_of over sep v ≡ Ends
  pub no_sep : is sep v ≡ false
  pub same : end_len v ≡ end_len e

nil-ends : (sep : ℕ) → stop_of true sep [] ≡ Ends
unfolding stop_of pick
nil-ends sep = refl

kept : {sep : ℕ} (a : Apart sep) (over : Bool) {e r : List ℕ} (m : ℕ) → LineEnd e r → end_len e ≤ m → (length e ≡ 0 → over ≡ true) → Kept over sep e (take m e)
unfolding end_len pick
kept a over zero feed h o = absurd (omega arith)
kept {sep} a over (suc m) (feed {r}) h o = record { ended = feed-ends over sep (take m r); no_sep = end-no-sep a (feed {r = take m r}); same = refl }
kept a over zero return_feed h o = absurd (omega arith)
kept a over (suc zero) return_feed h o = absurd (omega arith)
kept {sep} a over (suc (suc m)) (return_feed {r}) h o = record { ended = return-ends over sep (take m r); no_sep = end-no-sep a (return_feed {r = take m r}); same = refl }
kept {sep} a over m file_end h o = rw (take-nil {A = ℕ} m) (record { ended = rw (o refl) (nil-ends sep); no_sep = end-no-sep a file_end; same = refl })

row-counted : (w : List ℕ) (count next : ℕ) → 0 < length w → count ≤ 256 → row_by w count next ≡ Row (next + end_len (drop next w)) count
unfolding row_by counted pick
row-counted w count next h l = rw (ne_eqb (length w) 0 (λ z. omega arith), le-leb count 256 l)

module _ {sep : ℕ} (a : Apart sep) {text e r : List ℕ} {cs : List Place} {ts : List (List ℕ)} (d : Cells sep 0 text cs ts) (x : LineEnd e r) (h : 0 < length (text ++ e)) (l : length text + end_len e ≤ 65536) where
  kept_here : Kept (is_over true (is_cut (text ++ e))) sep e (take (65536 - length text) e)
  unfolding is_over is_cut
  kept_here =
      kept a (is_over true (is_cut (text ++ e))) (65536 - length text) x (omega arith)
      (λ z. let g = length-append text e in rw (le-ltb 65536 (length (text ++ e)) (omega arith)))

  pub row_line : line_of sep true (text ++ e) ≡ record { cells = cs; ending = Through (0 + length text) }
  unfolding line_of line
  row_line = let k = kept_here in rw (window-append text e (omega arith)) (cells-read a (is_over true (is_cut (text ++ e))) d (take (65536 - length text) e) k.ended k.no_sep)

  row-answer : length cs ≤ 256 → answer sep true (text ++ e) ≡ Row (length text + end_len e) (length cs)
  unfolding answer answer_of answer_by
  row-answer g =
      let k = kept_here in
      let v = take (65536 - length text) e in
      let m = length-append text v in
      let n = length-append text e in
      let t = length-take (65536 - length text) e in
      let z : 0 + length text ≡ length text = omega arith in
      rw (row_line, window-append text e (omega arith), z) (row-counted (text ++ v) (length cs) (length text) (omega arith) g ∙ rw (drop-append_seam text v, k.same))

limited-read : {sep : ℕ} → Apart sep → {s r : List ℕ} {cs : List Place} {ts : List (List ℕ)} (end : ℕ) → RowAt sep s r cs ts → 0 < length s → length cs ≤ 256 → end + length r ≡ length s → end ≤ 65536
    → (answer sep true s ≡ Row end (length cs)) × ((line_of sep true s).cells ≡ cs)
limited-read a end (row {s} {e} d x) p h m l =
    let z = length-append s e in
    let k = end-long x in
    let g : length s + end_len e ≡ end = omega arith in
    (row-answer a d x p (omega arith) h ∙ rw g, ap (λ (i : Line). i.cells) (row_line a d x p (omega arith)))

-- the reader answers a row exactly if the grammar derives one within the limits
pub accepted : (k : Separator) (s : List ℕ) (end count : ℕ) → (answer (byte_of k) true s ≡ Row end count) ↔ Limited (byte_of k) s end count
accepted k s end count = (
  row-limited (byte_of k) s,
  λ (l : Limited (byte_of k) s end count). (limited-read (apart k) end l.is_row l.some (omega (arith, l.counted, l.few)) l.measured l.short).0 ∙ ap (λ (n : ℕ). Row end n) l.counted,
)

-- and its cells are those that are derived
pub accepted-cells : (k : Separator) (s : List ℕ) {end count : ℕ} (l : Limited (byte_of k) s end count) → (line_of (byte_of k) true s).cells ≡ l.places
accepted-cells k s {end} l = (limited-read (apart k) end l.is_row l.some (omega (arith, l.counted, l.few)) l.measured l.short).1

counted-fault : (m e : ℕ) {end : ℕ} {f : Fault} → counted m e ≡ Faulty end f → (256 < m) × (TooMany ≡ f)
unfolding counted pick
counted-fault m e h =
    of_test (leb m 256) (λ q. let g = rw q at h in absurd (let z : ◌≡◌ {A = ℕ} 0 1 = cc in omega arith)) (λ q. let g = rw q at h in (leb-false m 256 q, cc))

row-by-fault : (w : List ℕ) (m n : ℕ) {end : ℕ} {f : Fault} → row_by w m n ≡ Faulty end f → (256 < m) × (TooMany ≡ f)
unfolding row_by pick
row-by-fault w m n h =
    of_test (eqb (length w) 0) (λ q. let g = rw q at h in absurd (let z : ◌≡◌ {A = ℕ} 0 1 = cc in omega arith)) (λ q. counted-fault m (n + end_len (drop n w)) (rw q at h))

not-endless : (w : List ℕ) (m n : ℕ) {f : Fault} → row_by w m n ≡ Endless f → ⊥
unfolding row_by counted pick
not-endless w m n h =
    of_test (eqb (length w) 0) (λ q. let g = rw q at h in let z : ◌≡◌ {A = ℕ} 0 1 = cc in omega arith)
    (λ q. of_test (leb m 256) (λ p. let g = rw (q, p) at h in let z : ◌≡◌ {A = ℕ} 0 1 = cc in omega arith) (λ p. let g = rw (q, p) at h in let z : ◌≡◌ {A = ℕ} 0 1 = cc in omega arith))

same-fault : {end : ℕ} {g f : Fault} {r : RowRead} → Faulty end g ≡ r → Says f r → g ≡ f
same-fault e says_faulty = cc
same-fault e says_endless = absurd (let z : ◌≡◌ {A = ℕ} 0 1 = cc in omega arith)

same-endless : {g f : Fault} {r : RowRead} → Endless g ≡ r → Says f r → g ≡ f
same-endless e says_faulty = absurd (let z : ◌≡◌ {A = ℕ} 0 1 = cc in omega arith)
same-endless e says_endless = cc

more-none : {f : Fault} {r : RowRead} → More ≡ r → Says f r → ⊥
more-none e says_faulty = let z : ◌≡◌ {A = ℕ} 0 1 = cc in omega arith
more-none e says_endless = let z : ◌≡◌ {A = ℕ} 0 1 = cc in omega arith

row-says : (w : List ℕ) (m n : ℕ) {f : Fault} {r : RowRead} → row_by w m n ≡ r → Says f r → (256 < m) × (TooMany ≡ f)
row-says w m n e says_faulty = row-by-fault w m n e
row-says w m n e says_endless = absurd (not-endless w m n e)

refused_says : (last cut : Bool) (w : List ℕ) (g : Fault) {f : Fault} {r : RowRead} → refused last cut w g ≡ r → Says f r → g ≡ f
unfolding refused pick
refused_says last cut w g e s =
    of_test (ltb (feed_from (place_of g) w) (length w)) (λ q. same-fault (rw q at e) s)
    (λ q. of_test cut (λ c. same-endless (rw (q, c) at e) s) (λ c. of_test last (λ d. same-fault (rw (q, c, d) at e) s) (λ d. absurd (more-none (rw (q, c, d) at e) s))))

-- a row that goes on behind the window
pub far-line : {sep : ℕ} (a : Apart sep) {s : List ℕ} {p : ℕ} (t : TooFar sep s p) → line_of sep true s ≡ record { cells = t.cells; ending = Open p }
unfolding window
far-line {sep} a {s} t = cut_line sep true s t.long ∙ open_of a t.unended_in

far-of : (k : Separator) (s : List ℕ) {p : ℕ} → 65536 < length s → (line_of (byte_of k) true s).ending ≡ Open p → TooFar (byte_of k) s p
unfolding window
far-of k s {p} h q =
    let l = line_of (byte_of k) true s in
    record {
      cells = l.cells;
      long = h;
      unended_in = (exact-open k (window s) l.cells p).0 (sym (cut_line (byte_of k) true s h) ∙ ap (λ (e : Ending). record { cells = l.cells; ending = e }) q);
    }

module _ (k : Separator) (s : List ℕ) {f : Fault} {r : RowRead} (y : Says f r) where
  reason-by : (cut : Bool) (e : Ending) → is_cut s ≡ cut → (line_of (byte_of k) true s).ending ≡ e → answer_by true cut (window s) (length (line_of (byte_of k) true s).cells) e ≡ r → Reason (byte_of k) s f
  unfolding answer_by is_cut pick
  reason-by cut (Through n) c q h =
      let i = row-says (window s) (length (line_of (byte_of k) true s).cells) n h y in
      let w = through-row (byte_of k) s n q in
      let m = w.measured in
      let b = through-inside-window (byte_of k) s n q in
      subst (λ (g : Fault). Reason (byte_of k) s g) i.1 (by_count w.is_row i.0 (omega arith))
  reason-by cut (Fails g) c q h =
      let e = refused_says true cut (window s) g h y in
      let w = whole-line (byte_of k) s (λ p z. let x : ◌≡◌ {A = ℕ} 0 1 = cc in omega arith) in
      let l = line_of (byte_of k) true s in
      subst (λ (i : Fault). Reason (byte_of k) s i) e
      (by_fault (fault-taken (byte_of k) s (w ∙ ap (λ (i : Ending). record { cells = l.cells; ending = i }) q))
      (λ p t. let x = ap (λ (i : Line). i.ending) (far-line (apart k) t) in let z : ◌≡◌ {A = ℕ} 0 1 = cc in omega arith))
  reason-by true (Open p) c q h = subst (λ (i : Fault). Reason (byte_of k) s i) (refused_says true true (window s) (TooLong p) h y) (by_length (far-of k s (ltb-true 65536 (length s) c) q))
  reason-by false (Open p) c q h = absurd (more-none h y)

told-by : (cut : Bool) (w : List ℕ) (f : Fault) → Says f (refused true cut w f)
unfolding refused pick
told-by cut w f = of_test (ltb (feed_from (place_of f) w) (length w)) (λ q. rw q says_faulty) (λ q. of_test cut (λ c. rw (q, c) says_endless) (λ c. rw (q, c) says_faulty))

counted-told : (w : List ℕ) (m n : ℕ) → 0 < length w → 256 < m → Says TooMany (row_by w m n)
unfolding row_by counted pick
counted-told w m n h l = rw (ne_eqb (length w) 0 (λ z. omega arith), lt-leb m 256 l) says_faulty

few-cells : {sep at : ℕ} {s : List ℕ} {cs : List Place} {ts : List (List ℕ)} → Cells sep at s cs ts → length cs ≤ suc (length s)
few-cells (one o) = omega arith
few-cells {sep} (more {s = s} {u = u} o d) = let l = length-append s (sep ∷ u) in let i = few-cells d in omega arith

-- a file that fits the window leaves nothing open
fits-closed : (sep : ℕ) (s : List ℕ) {p : ℕ} → length s ≤ 65536 → (line_of sep true s).ending ≡ Open p → ⊥
unfolding line is_over
fits-closed sep s h q = never-open (steps true sep 0 s) (rw (line-whole sep true s h) at q)

count-told : {sep : ℕ} (a : Apart sep) {s r : List ℕ} {cs : List Place} {ts : List (List ℕ)} → RowAt sep s r cs ts → 256 < length cs → length s ≤ 65536 + length r → Says TooMany (answer sep true s)
unfolding answer answer_of answer_by window
count-told {sep} a {cs = cs} (row {s} {e} d x) h l =
    let n = length-append s e in
    let m = end-long x in
    let i = few-cells d in
    let t = length-take 65536 (s ++ e) in
    rw (row_line a d x (omega arith) (omega arith)) (counted-told (take 65536 (s ++ e)) (length cs) (0 + length s) (omega arith) h)

-- a derived fault is answered, and the row ends by the rule: behind the first line feed from the fault on that the window shows
pub fault-answered : (k : Separator) (s : List ℕ) {cs : List Place} {f : Fault} → FaultAt (byte_of k) s cs f → ((p : ℕ) → TooFar (byte_of k) s p → ⊥)
    → (answer (byte_of k) true s ≡ refused true (is_cut s) (window s) f) × ((line_of (byte_of k) true s).cells ≡ cs)
unfolding answer answer_of answer_by
fault-answered k s {cs} {f} d n =
    let o : (p : ℕ) → (line_of (byte_of k) true s).ending ≡ Open p → ⊥ = λ p z. of_test (ltb 65536 (length s)) (λ q. n p (far-of k s (ltb-true 65536 (length s) q) z)) (λ q. fits-closed (byte_of k) s (ltb-false 65536 (length s) q) z) in
    let e : line_of (byte_of k) true s ≡ record { cells = cs; ending = Fails f } = sym (whole-line (byte_of k) s o) ∙ fault-of (apart k) d in
    (rw e, ap (λ (l : Line). l.cells) e)

told : (k : Separator) (s : List ℕ) {f : Fault} → Reason (byte_of k) s f → Says f (answer (byte_of k) true s)
unfolding answer answer_of answer_by is_cut pick
told k s (by_length {p} t) = rw (far-line (apart k) t, lt-ltb 65536 (length s) t.long) (told-by true (window s) (TooLong p))
told k s (by_fault {f = f} d n) = rw (fault-answered k s d n).0 (told-by (is_cut s) (window s) f)
told k s (by_count d h l) = count-told (apart k) d h l

-- a file's first row is refused with a fault exactly if there is that reason
pub refused-exactly : (k : Separator) (s : List ℕ) (f : Fault) → Says f (answer (byte_of k) true s) ↔ Reason (byte_of k) s f
unfolding answer answer_of
refused-exactly k s f = (λ y. reason-by k s y (is_cut s) (line_of (byte_of k) true s).ending refl refl refl, told k s)
