-- The walk over the pieces: where it stands, and what the next piece is. Assumes nothing.
use mathlib.Core.Path.{◌≡◌, sym, ap, ◌∙◌}
use mathlib.Core.Bool.{Bool, true}
use mathlib.Core.List.{List, [], ◌∷◌}
use Prim.Native.Nat.{ℕ, ◌+◌, ◌-◌, ◌*◌, ◌%◌, ◌≤◌, ◌<◌}
use native.Mathlib.Nat.{add-sub_cancel_left}
use native.Mathlib.Numerals.{add-one}
use native.Mathlib.Omega.{arith}
use borrow.Author.Tests.{eqb-true}
use lib.Dec.{eqb}
use lib.ListN.{length, get_or, take, drop, set, length-drop, drop_of_length-le}
use lib.Seq.{drop-cons, drop-drop, sets, length-take-le}
use Rattle.chars.proofs.Cases.{and-true}
use Rattle.chunks.specs.Chunks.{chunks_of, lengths}
use Rattle.std.specs.Prelude.{Result, Ok, Err}
use Rattle.pages.specs.declared.Taken.{Taken}
use Rattle.refusals.specs.declared.Refusal.{Refusal}
use Rattle.pages.specs.Piece.{piece}
use Rattle.pages.specs.Pieces.{total, adds_up, size_of, first_of, pieces_of, said, step_of, on_range, judged, numbers_of, put}
use Rattle.pages.proofs.Sums.{total-at, split}

-- what is left of counts, table and bytes adds up
pub record At (b t cs : List ℕ) (at row i : ℕ) : Type 0 where
  pub rows : row + 4 * total (drop i cs) ≡ length t
  pub sizes : at + lengths (chunks_of (drop row t)) ≡ length b
  pub inside : i ≤ length cs

pub starts : (b t cs : List ℕ) → adds_up b t cs ≡ true → At b t cs 0 0 0
unfolding adds_up
starts b t cs e =
    let p = and-true (eqb (4 * total cs) (length t)) (eqb (lengths (chunks_of t)) (length b)) e in
    let r = eqb-true (4 * total cs) (length t) p.0 in
    let s = eqb-true (lengths (chunks_of t)) (length b) p.1 in
    record { rows = omega arith; sizes = omega arith; inside = omega arith }

module _ (b t cs : List ℕ) (at row i : ℕ) (w : At b t cs at row i) (h : i < length cs) where
  -- the piece's numbers of the table are there
  pub row_fits : row + 4 * get_or cs i 0 ≤ length t
  row_fits = omega (arith, total-at cs i h, w.rows)

  here : lengths (chunks_of (drop row t)) ≡ size_of (get_or cs i 0) (drop row t) + lengths (chunks_of (drop (row + 4 * get_or cs i 0) t))
  here =
      split (get_or cs i 0) (drop row t) (omega (arith, row_fits, length-drop row t))
      ∙ ap (λ (l : List ℕ). size_of (get_or cs i 0) (drop row t) + lengths (chunks_of l)) (drop-drop (4 * get_or cs i 0) row t)

  -- and its bytes
  pub size_fits : at + size_of (get_or cs i 0) (drop row t) ≤ length b
  size_fits = omega (arith, here, w.sizes)

  pub goes_on : At b t cs (at + size_of (get_or cs i 0) (drop row t)) (row + 4 * get_or cs i 0) (i + 1)
  goes_on =
      record { rows = omega (arith, total-at cs i h, w.rows); sizes = omega (arith, here, w.sizes); inside = omega arith }

  -- the next piece, and those behind it
  pub pieces-at : pieces_of (drop at b) (drop row t) (drop i cs) ≡ first_of (get_or cs i 0) (drop at b) (drop row t) ∷ pieces_of (drop (at + size_of (get_or cs i 0) (drop row t)) b) (drop (row + 4 * get_or cs i 0) t) (drop (i + 1) cs)
  unfolding pieces_of
  pieces-at = rw (add-one, drop-cons cs i 0 h, drop-drop, drop-drop)

-- no piece is left
pub pieces_end : (b t cs : List ℕ) (i : ℕ) → length cs ≤ i → pieces_of b t (drop i cs) ≡ []
unfolding pieces_of
pieces_end b t cs i h = rw (drop_of_length-le cs h)

pub judged-end : (all : ℕ) (b t cs : List ℕ) (i : ℕ) → length cs ≤ i → Ok all ≡ judged all (pieces_of b t (drop i cs))
unfolding judged
judged-end all b t cs i h = rw (pieces_end b t cs i h)

pub put-end : (i : ℕ) (b t cs out : List ℕ) (k : ℕ) → length cs ≤ k → out ≡ put i (pieces_of b t (drop k cs)) out
unfolding put
put-end i b t cs out k h = rw (pieces_end b t cs k h)

pub step-len : (n : ℕ) (b t : List ℕ) {k : Taken} → k ≡ step_of n b t → k.len ≡ size_of n t
unfolding step_of
step-len n b t e = ap (λ (x : Taken). x.len) e

pub step-read : (n : ℕ) (b t : List ℕ) {k : Taken} → k ≡ step_of n b t → k.read ≡ said (first_of n b t)
unfolding step_of
step-read n b t e = ap (λ (x : Taken). x.read) e

-- the piece was read
module _ (b t cs : List ℕ) (at row i : ℕ) (w : At b t cs at row i) (h : i < length cs) {k : Taken} (e : k ≡ step_of (get_or cs i 0) (drop at b) (drop row t)) where
  pub len-fits : at + k.len ≤ length b
  len-fits = omega (arith, step-len (get_or cs i 0) (drop at b) (drop row t) e, size_fits b t cs at row i w h)

  pub at_next : At b t cs (at + k.len) (row + 4 * get_or cs i 0) (i + 1)
  at_next = rw (step-len (get_or cs i 0) (drop at b) (drop row t) e) (goes_on b t cs at row i w h)

  pub refuses : (all : ℕ) {f : Refusal} → k.read ≡ Err f → Err f ≡ judged all (pieces_of (drop at b) (drop row t) (drop i cs))
  unfolding judged on_range
  refuses all g = let q = sym (step-read (get_or cs i 0) (drop at b) (drop row t) e) ∙ g in rw (pieces-at b t cs at row i w h, q)

  pub judged-next : (all : ℕ) {x y : ℕ} → k.read ≡ Ok (x, y) → judged all (pieces_of (drop (at + k.len) b) (drop (row + 4 * get_or cs i 0) t) (drop (i + 1) cs)) ≡ judged all (pieces_of (drop at b) (drop row t) (drop i cs))
  unfolding judged on_range
  judged-next all g = let q = sym (step-read (get_or cs i 0) (drop at b) (drop row t) e) ∙ g in rw (step-len (get_or cs i 0) (drop at b) (drop row t) e, pieces-at b t cs at row i w h, q)

  pub put_next : (out : List ℕ) {new : List ℕ} → new ≡ sets out (2 * i) (numbers_of k.read) → put (i + 1) (pieces_of (drop (at + k.len) b) (drop (row + 4 * get_or cs i 0) t) (drop (i + 1) cs)) new ≡ put i (pieces_of (drop at b) (drop row t) (drop i cs)) out
  unfolding put
  put_next out g = rw (g, step-read (get_or cs i 0) (drop at b) (drop row t) e, step-len (get_or cs i 0) (drop at b) (drop row t) e, pieces-at b t cs at row i w h)

-- the part of the table that is a piece's
pub rows-size : (t : List ℕ) (row n : ℕ) → lengths (chunks_of (take (row + 4 * n - row) (drop row t))) ≡ size_of n (drop row t)
unfolding size_of
rows-size t row n = rw add-sub_cancel_left

pub rows_four : (t : List ℕ) (row n : ℕ) → row + 4 * n ≤ length t → length (take (row + 4 * n - row) (drop row t)) % 4 ≡ 0
rows_four t row n h = rw add-sub_cancel_left (omega (arith, length-take-le (4 * n) (drop row t) (omega (arith, length-drop row t))))

pub step_is : (b t : List ℕ) (at row n : ℕ) {len : ℕ} {r : Result (ℕ × ℕ) Refusal} → len ≡ lengths (chunks_of (take (row + 4 * n - row) (drop row t))) → r ≡ piece (take (at + len - at) (drop at b)) (take (row + 4 * n - row) (drop row t)) → ◌≡◌ {A = Taken} (record { read = r; len = len }) (step_of n (drop at b) (drop row t))
unfolding step_of said first_of size_of
step_is b t at row n {len} {r} e f =
    let g : len ≡ lengths (chunks_of (take (4 * n) (drop row t))) = e ∙ rw add-sub_cancel_left in
    rw (f, add-sub_cancel_left, add-sub_cancel_left, g)

pub two-numbers : (out : List ℕ) (at x y : ℕ) {r : Result (ℕ × ℕ) Refusal} → r ≡ Ok (x, y) → set (set out at x) (at + 1) y ≡ sets out at (numbers_of r)
unfolding numbers_of
two-numbers out at x y e = rw (e, add-one at)

pub fours : (n m : ℕ) {r : Bool} → r ≡ eqb (4 * n) m → r ≡ true → m % 4 ≡ 0
fours n m e g = let q = eqb-true (4 * n) m (sym e ∙ g) in omega arith
