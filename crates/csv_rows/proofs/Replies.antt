-- The answer by how the reading of cells ended. Assumes nothing.
use mathlib.Core.Path.{◌≡◌}
use mathlib.Core.Bool.{Bool, true, false}
use mathlib.Core.List.{List, [], ◌∷◌}
use Prim.Native.Nat.{ℕ, ◌+◌, ◌≤◌, ◌<◌}
use native.Mathlib.Omega.{arith}
use borrow.Author.Tests.{lt-ltb, le-ltb, le-leb, lt-leb, eq-eqb, ne_eqb}
use lib.Dec.{eqb}
use lib.ListN.{length, take, drop}
use lib.Seq.{length-take-le, take_all}
use Rattle.chars.specs.Pick.{pick}
use Rattle.chars.proofs.Cases.{by-test}
use Rattle.csv_rows.specs.declared.Fault.{Fault}
use Rattle.csv_rows.specs.declared.RowRead.{RowRead}
use Rattle.csv_rows.specs.declared.RowRead.TheVariants.{Faulty, Endless, More}
use Rattle.csv_rows.specs.declared.Skipped.TheVariants.{Ended, On, Wait, Over}
use Rattle.csv_rows.specs.declared.Scan.{Scan}
use Rattle.csv_rows.specs.Reader.{equal, up_to, Line, line}
use Rattle.csv_rows.specs.Answers.{window, is_cut, is_over, place_of, end_len, feed_from, refused, answer_by, answer_of, listed, line_of, answer, table_after, skipped}
use Rattle.csv_rows.specs.Scans.{Scanned}

-- a line end has two bytes at most
pub end-most : (t : List ℕ) (n : ℕ) → n ≡ end_len t → n ≤ 2
unfolding end_len
end-most [] n e = omega arith
end-most (b ∷ t) n e = rw e (by-test (λ (m : ℕ). m ≤ 2) (eqb b 10) (λ _. omega arith) (λ _. omega arith))

-- a row with a fault, by the first line feed from there on
module _ (last cut : Bool) (w : List ℕ) (f : Fault) (p e : ℕ) (h : p ≡ place_of f) (g : e ≡ p + up_to (equal 10) (drop p w)) where
  at-feed : e ≡ feed_from (place_of f) w
  at-feed = rw (← h) g

  pub refused-at : e < length w → Faulty (e + 1) f ≡ refused last cut w f
  unfolding refused pick
  refused-at l = rw (← at-feed, lt-ltb e (length w) l)

  pub refused-cut : length w ≤ e → cut ≡ true → Endless f ≡ refused last cut w f
  unfolding refused pick
  refused-cut l c = rw (← at-feed, le-ltb e (length w) l, c)

  pub refused-last : length w ≤ e → cut ≡ false → last ≡ true → Faulty (length w) f ≡ refused last cut w f
  unfolding refused pick
  refused-last l c d = rw (← at-feed, le-ltb e (length w) l, c, d)

  pub refused-more : length w ≤ e → cut ≡ false → last ≡ false → More ≡ refused last cut w f
  unfolding refused pick
  refused-more l c d = rw (← at-feed, le-ltb e (length w) l, c, d)

-- the rest of a line
module _ (last : Bool) (s : List ℕ) (e : ℕ) where
  pub skip-window : 65536 ≤ length s → e ≡ 0 + up_to (equal 10) (drop 0 (take 65536 s)) → e < 65536 → Ended (e + 1) ≡ skipped last s
  unfolding skipped window pick
  skip-window h g l = rw (← g, length-take-le 65536 s h, lt-ltb e 65536 l)

  pub skip-on : 65536 ≤ length s → e ≡ 0 + up_to (equal 10) (drop 0 (take 65536 s)) → 65536 ≤ e → On ≡ skipped last s
  unfolding skipped window pick
  skip-on h g l = rw (← g, length-take-le 65536 s h, le-ltb e 65536 l, le-leb 65536 (length s) h)

  module _ (h : length s < 65536) (g : e ≡ 0 + up_to (equal 10) (drop 0 s)) where
    pub skip_at : e < length s → Ended (e + 1) ≡ skipped last s
    unfolding skipped window pick
    skip_at l = rw (take_all 65536 s (omega arith), ← g, lt-ltb e (length s) l)

    pub skip-over : length s ≤ e → last ≡ true → length s ≡ 0 → Over ≡ skipped last s
    unfolding skipped window pick
    skip-over l d z = rw (take_all 65536 s (omega arith), ← g, le-ltb e (length s) l, lt-leb 65536 (length s) h, d, eq-eqb (length s) 0 z)

    pub skip-end : length s ≤ e → last ≡ true → (length s ≡ 0 → ⊥) → Ended (length s) ≡ skipped last s
    unfolding skipped window pick
    skip-end l d z = rw (take_all 65536 s (omega arith), ← g, le-ltb e (length s) l, lt-leb 65536 (length s) h, d, ne_eqb (length s) 0 z)

    pub skip-wait : length s ≤ e → last ≡ false → Wait ≡ skipped last s
    unfolding skipped window pick
    skip-wait l d = rw (take_all 65536 s (omega arith), ← g, le-ltb e (length s) l, lt-leb 65536 (length s) h, d)

-- the answer by a scan, and by the window
pub by-scan : (last cut : Bool) (w : List ℕ) (l : Line) {f : Scan} {size : ℕ} {before after : List ℕ} → Scanned l f size before after → answer_by last cut w f.count f.ending ≡ answer_of last cut w l
unfolding answer_of
by-scan last cut w l e = rw (e.count_is, e.ending_is)

module _ (sep : ℕ) (last : Bool) (s : List ℕ) where
  pub answer-cut : 65536 < length s → {r : RowRead} → r ≡ answer_of last true (take 65536 s) (line (is_over last true) sep (take 65536 s)) → r ≡ answer sep last s
  unfolding answer line_of is_cut window
  answer-cut h q = rw (lt-ltb 65536 (length s) h) q

  pub table-cut : 65536 < length s → (before : List ℕ) {t : List ℕ} → t ≡ listed (line (is_over last true) sep (take 65536 s)) before → t ≡ table_after sep last s before
  unfolding table_after line_of is_cut window
  table-cut h before q = rw (lt-ltb 65536 (length s) h) q

  pub answer-all : length s ≤ 65536 → {r : RowRead} → r ≡ answer_of last false s (line (is_over last false) sep s) → r ≡ answer sep last s
  unfolding answer line_of is_cut window
  answer-all h q = rw (le-ltb 65536 (length s) h, take_all 65536 s h) q

  pub table-all : length s ≤ 65536 → (before : List ℕ) {t : List ℕ} → t ≡ listed (line (is_over last false) sep s) before → t ≡ table_after sep last s before
  unfolding table_after line_of is_cut window
  table-all h before q = rw (le-ltb 65536 (length s) h, take_all 65536 s h) q
