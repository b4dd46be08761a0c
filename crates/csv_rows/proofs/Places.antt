-- The cell at a place: where it ends, and what follows it. Assumes nothing.
use mathlib.Core.Path.{◌≡◌, refl, ap, ◌∙◌}
use mathlib.Core.Bool.{Bool, true, false, false≢true}
use mathlib.Core.List.{List, [], ◌∷◌}
use Prim.Native.Nat.{ℕ, zero, suc, ◌+◌, ◌-◌, ◌≤◌, ◌<◌}
use native.Mathlib.Omega.{arith}
use borrow.Author.Tests.{lt-ltb, le-ltb, ltb-true}
use lib.Dec.{eqb, ltb}
use lib.ListN.{length, get_or, drop, length-drop}
use lib.Seq.{drop-drop, drop-nil}
use Rattle.chars.specs.Pick.{pick}
use Rattle.chars.proofs.Cases.{by-test}
use Rattle.csv_rows.specs.declared.Fault.{Fault}
use Rattle.csv_rows.specs.declared.Fault.TheVariants.{QuoteInside, TextBehind, LoneReturn, NeverClosed}
use Rattle.csv_rows.specs.declared.Stop.{Stop}
use Rattle.csv_rows.specs.declared.Stop.TheVariants.{Ends, Lone, Other, Unsure}
use Rattle.csv_rows.specs.declared.CellRead.{CellRead}
use Rattle.csv_rows.specs.declared.CellRead.TheVariants.{Good, Wrong, Unclear}
use Rattle.csv_rows.specs.declared.Ending.TheVariants.{Through, Fails, Open}
use Rattle.csv_rows.specs.Reader.{is_special, is, up_to, inner_len, stop_of, closed, plain_by, quoted_by, cell_of, Line, line_by, line_from}
use Rattle.csv_rows.specs.Answers.{place_of}
use Rattle.csv_rows.proofs.Laws.{front, past, run-within}

module _ (over : Bool) (sep at : ℕ) (s : List ℕ) (e : ℕ) where
  pub plain_at : e ≡ at + up_to (is_special sep) (drop at s)
      → closed (stop_of over sep (drop e s)) at e e (QuoteInside e) ≡ plain_by over sep at (drop at s) (up_to (is_special sep) (drop at s))
  unfolding plain_by
  plain_at h = rw (drop-drop (up_to (is_special sep) (drop at s)) at s, h)

  pub quoted-at : e ≡ at + 1 + inner_len (drop (at + 1) s) → e < length s
      → closed (stop_of over sep (drop (e + 1) s)) (at + 1) e (e + 1) (TextBehind (e + 1)) ≡ quoted_by over sep at (drop (at + 1) s) (inner_len (drop (at + 1) s))
  unfolding quoted_by pick
  quoted-at h l =
      let n = inner_len (drop (at + 1) s) in
      let t : ltb n (length (drop (at + 1) s)) ≡ true = lt-ltb n (length (drop (at + 1) s)) (omega (arith, length-drop (at + 1) s)) in
      let f : at + 1 + suc n ≡ at + 1 + n + 1 = omega arith in
      let q : drop (suc n) (drop (at + 1) s) ≡ drop (at + 1 + n + 1) s = drop-drop (suc n) (at + 1) s ∙ ap (λ (k : ℕ). drop k s) f in
      rw (t, q, h)

  not-shut : e ≡ at + 1 + inner_len (drop (at + 1) s) → length s ≤ e → ltb (inner_len (drop (at + 1) s)) (length (drop (at + 1) s)) ≡ false
  not-shut h l = le-ltb (inner_len (drop (at + 1) s)) (length (drop (at + 1) s)) (omega (arith, length-drop (at + 1) s))

  pub quoted-never : e ≡ at + 1 + inner_len (drop (at + 1) s) → length s ≤ e → over ≡ true → Wrong (NeverClosed at) ≡ quoted_by over sep at (drop (at + 1) s) (inner_len (drop (at + 1) s))
  unfolding quoted_by pick
  quoted-never h l o = rw (not-shut h l, o)

  pub quoted-unclear : e ≡ at + 1 + inner_len (drop (at + 1) s) → length s ≤ e → over ≡ false → Unclear ≡ quoted_by over sep at (drop (at + 1) s) (inner_len (drop (at + 1) s))
  unfolding quoted_by pick
  quoted-unclear h l o = rw (not-shut h l, o)

module _ (over : Bool) (sep at : ℕ) (s : List ℕ) where
  pub cell-quoted : at < length s → eqb (get_or s at 0) 34 ≡ true → quoted_by over sep at (drop (at + 1) s) (inner_len (drop (at + 1) s)) ≡ cell_of over sep at (drop at s)
  unfolding cell_of pick
  cell-quoted h t = rw (front s at h, t)

  pub cell-plain : at < length s → eqb (get_or s at 0) 34 ≡ false → plain_by over sep at (drop at s) (up_to (is_special sep) (drop at s)) ≡ cell_of over sep at (drop at s)
  unfolding cell_of pick
  cell-plain h t = rw (front s at h, t)

  pub cell-none : length s ≤ at → plain_by over sep at (drop at s) (up_to (is_special sep) (drop at s)) ≡ cell_of over sep at (drop at s)
  unfolding cell_of up_to
  cell-none h = rw (past s at h)

pub inner-within : (t : List ℕ) → inner_len t ≤ length t
unfolding inner_len
inner-within [] = omega arith
inner-within (b ∷ []) = by-test (λ (n : ℕ). n ≤ 1) _ (λ _. omega arith) (λ _. omega arith)
inner-within (b ∷ c ∷ t) =
    let h = inner-within t in
    let g = inner-within (c ∷ t) in
    by-test (λ (n : ℕ). n ≤ suc (suc (length t))) _
    (λ _. by-test (λ (n : ℕ). n ≤ suc (suc (length t))) _ (λ _. omega arith) (λ _. omega arith))
    (λ _. omega arith)

-- the places of a cell are in order, from its front on and within what is left
pub data Within (low high : ℕ) : CellRead → Type 0 where
  good_in : {a e n : ℕ} → low ≤ a → a ≤ e → e ≤ n → n ≤ high → Within low high (Good a e n)
  wrong_in : {f : Fault} → low ≤ place_of f → place_of f ≤ high → Within low high (Wrong f)
  unclear_in : Within low high Unclear

pub good-within : {low high a e n : ℕ} → Within low high (Good a e n) → (low ≤ a) × (a ≤ e) × (e ≤ n) × (n ≤ high)
good-within (good_in p q r s) = (p, q, r, s)

pub wrong-within : {low high : ℕ} {f : Fault} → Within low high (Wrong f) → (low ≤ place_of f) × (place_of f ≤ high)
wrong-within (wrong_in p q) = (p, q)

closed-within : {low high : ℕ} (st : Stop) {a e n : ℕ} (f : Fault) → low ≤ a → a ≤ e → e ≤ n → n ≤ high → low ≤ place_of f → place_of f ≤ high → Within low high (closed st a e n f)
unfolding closed place_of
closed-within Ends f p q r s t u = good_in p q r s
closed-within Lone {n = n} f p q r s t u = wrong_in {f = LoneReturn n} (omega arith) s
closed-within Other f p q r s t u = wrong_in t u
closed-within Unsure f p q r s t u = unclear_in

module _ (over : Bool) (sep at : ℕ) where
  plain-by-within : (t : List ℕ) (n : ℕ) → n ≤ length t → Within at (at + length t) (plain_by over sep at t n)
  unfolding plain_by place_of
  plain-by-within t n h = closed-within (stop_of over sep (drop n t)) (QuoteInside (at + n)) (omega arith) (omega arith) (omega arith) (omega arith) (omega arith) (omega arith)

  quoted-by-within : (t : List ℕ) (n : ℕ) → n ≤ length t → Within at (at + suc (length t)) (quoted_by over sep at t n)
  unfolding quoted_by place_of
  quoted-by-within t n h =
      by-test (Within at (at + suc (length t))) (ltb n (length t))
      (λ q. let m = ltb-true n (length t) q in closed-within (stop_of over sep (drop (suc n) t)) (TextBehind (at + 1 + n + 1)) (omega arith) (omega arith) (omega arith) (omega arith) (omega arith) (omega arith))
      (λ q. by-test (Within at (at + suc (length t))) over (λ _. wrong_in {f = NeverClosed at} (omega arith) (omega arith)) (λ _. unclear_in))

  pub cell-within : (t : List ℕ) → Within at (at + length t) (cell_of over sep at t)
  unfolding cell_of
  cell-within [] = plain-by-within [] 0 (omega arith)
  cell-within (b ∷ t) =
      by-test (Within at (at + suc (length t))) (eqb b 34) (λ _. quoted-by-within t (inner_len t) (inner-within t)) (λ _. plain-by-within (b ∷ t) _ (run-within (is_special sep) (b ∷ t)))

-- the line behind so many bytes
line-by-false : (c : CellRead) (at : ℕ) (l m : Line) → line_by c false at l ≡ line_by c false at m
unfolding line_by
line-by-false (Good a e n) at l m = refl
line-by-false (Wrong f) at l m = refl
line-by-false Unclear at l m = refl

pub unskip : (over : Bool) (sep k at : ℕ) (t : List ℕ) → line_from over sep k at t ≡ line_from over sep 0 (at + k) (drop k t)
unfolding line_from
unskip over sep k at [] = let e : at + k + 0 ≡ at + k = omega arith in rw (drop-nil {A = ℕ} k, e) (line-by-false (cell_of over sep (at + k) []) (at + k) _ _)
unskip over sep zero at (b ∷ t) = let e : at + 0 ≡ at = omega arith in rw e
unskip over sep (suc k) at (b ∷ t) = let e : at + 1 + k ≡ at + suc k = omega arith in unskip over sep k (at + 1) t ∙ rw e

module _ (over : Bool) (sep at : ℕ) where
  -- a cell and, behind a separator, the others
  pub line-more : (t : List ℕ) {a e n : ℕ} → cell_of over sep at t ≡ Good a e n → is sep (drop (n - at) t) ≡ true
      → line_from over sep 0 at t
      ≡ record { cells = record { start = a; stop = e } ∷ (line_from over sep 0 (n + 1) (drop (suc (n - at)) t)).cells; ending = (line_from over sep 0 (n + 1) (drop (suc (n - at)) t)).ending }
  unfolding line_from line_by is
  line-more [] {a} {e} {n} g h = absurd (false≢true (rw (drop-nil {A = ℕ} (n - at)) at h))
  line-more (b ∷ t) {a} {e} {n} g h =
      let w = good-within (rw g at (cell-within over sep at (b ∷ t))) in
      let f : at + 1 + (n - at) ≡ n + 1 = omega arith in
      rw (g, h, unskip over sep (n - at) (at + 1) t, f)

  pub line-last : (t : List ℕ) {a e n : ℕ} → cell_of over sep at t ≡ Good a e n → is sep (drop (n - at) t) ≡ false
      → line_from over sep 0 at t ≡ record { cells = record { start = a; stop = e } ∷ []; ending = Through n }
  unfolding line_from line_by
  line-last [] g h = let f : at + 0 ≡ at = omega arith in rw (f, g)
  line-last (b ∷ t) g h = rw (g, h)

  pub line-wrong : (t : List ℕ) {f : Fault} → cell_of over sep at t ≡ Wrong f → line_from over sep 0 at t ≡ record { cells = []; ending = Fails f }
  unfolding line_from line_by
  line-wrong [] g = let f : at + 0 ≡ at = omega arith in rw (f, g)
  line-wrong (b ∷ t) g = rw g

  pub line-open : (t : List ℕ) → cell_of over sep at t ≡ Unclear → line_from over sep 0 at t ≡ record { cells = []; ending = Open at }
  unfolding line_from line_by
  line-open [] g = let f : at + 0 ≡ at = omega arith in rw (f, g)
  line-open (b ∷ t) g = rw g

-- the same at a place of the bytes
module _ (over : Bool) (sep at : ℕ) (s : List ℕ) (h : at ≤ length s) where
  pub good-bounds : {a e n : ℕ} → cell_of over sep at (drop at s) ≡ Good a e n → (at ≤ a) × (a ≤ e) × (e ≤ n) × (n ≤ length s)
  good-bounds g =
      let w = good-within (rw g at (cell-within over sep at (drop at s))) in
      let d = length-drop at s in
      (omega (arith, w.0), omega (arith, w.1), omega (arith, w.2), omega (arith, w.3))

  pub wrong-bounds : {f : Fault} → cell_of over sep at (drop at s) ≡ Wrong f → (at ≤ place_of f) × (place_of f ≤ length s)
  wrong-bounds g =
      let w = wrong-within (rw g at (cell-within over sep at (drop at s))) in
      let d = length-drop at s in
      (omega (arith, w.0), omega (arith, w.1))

  pub more-at : {a e n : ℕ} → cell_of over sep at (drop at s) ≡ Good a e n → is sep (drop n s) ≡ true
      → line_from over sep 0 at (drop at s)
      ≡ record { cells = record { start = a; stop = e } ∷ (line_from over sep 0 (n + 1) (drop (n + 1) s)).cells; ending = (line_from over sep 0 (n + 1) (drop (n + 1) s)).ending }
  more-at {a} {e} {n} g t =
      let b = good-bounds g in
      let f : at + (n - at) ≡ n = omega arith in
      let f' : at + suc (n - at) ≡ n + 1 = omega arith in
      let q : drop (n - at) (drop at s) ≡ drop n s = drop-drop (n - at) at s ∙ ap (λ (k : ℕ). drop k s) f in
      let r : drop (suc (n - at)) (drop at s) ≡ drop (n + 1) s = drop-drop (suc (n - at)) at s ∙ ap (λ (k : ℕ). drop k s) f' in
      rw r at (line-more over sep at (drop at s) g (rw q t))

  pub last-at : {a e n : ℕ} → cell_of over sep at (drop at s) ≡ Good a e n → is sep (drop n s) ≡ false
      → line_from over sep 0 at (drop at s) ≡ record { cells = record { start = a; stop = e } ∷ []; ending = Through n }
  last-at {a} {e} {n} g t =
      let b = good-bounds g in
      let f : at + (n - at) ≡ n = omega arith in
      let q : drop (n - at) (drop at s) ≡ drop n s = drop-drop (n - at) at s ∙ ap (λ (k : ℕ). drop k s) f in
      line-last over sep at (drop at s) g (rw q t)
