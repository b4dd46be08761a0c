-- The lists of a frame chunk by chunk: places, and what is put. Assumes nothing.
use mathlib.Core.Path.{◌≡◌, refl, sym, ◌∙◌}
use mathlib.Core.Bool.{true, false}
use mathlib.Core.List.{List, [], ◌∷◌}
use Prim.Native.Nat.{ℕ, zero, suc, ◌+◌, ◌-◌, ◌*◌, ◌≤◌, ◌<◌}
use native.Mathlib.Omega.{arith}
use lib.ListN.{length, get_or, drop, set, length-append, length-drop}
use lib.Seq.{sets, drop-cons, length-take-le}
use Rattle.puts.specs.Answers.{Put}
use Rattle.chars.specs.Pick.{pick}
use Rattle.puts.proofs.Puts.{sets-append, as-text, nothing}
use Rattle.frames.specs.Lists.{byte_at, behind, end_of, row_at, table_of, part_at, text_at, text_of, list_end, list_table, list_text, has_list, optional_end, optional_table, optional_text}
use Rattle.frames.specs.Room.{Room}

-- one chunk, and those behind it
pub end-next : (f : List ℕ) (p k : ℕ) → 0 < k → end_of f p k ≡ end_of f (behind f p) (k - 1)
unfolding end_of
end-next f p zero h = absurd (omega arith)
end-next f p (suc k) h = let e : suc k - 1 ≡ k = omega arith in rw e

pub end_none : (f : List ℕ) (p k : ℕ) → k ≤ 0 → end_of f p k ≡ p
unfolding end_of
end_none f p zero h = refl
end_none f p (suc k) h = absurd (omega arith)

-- each chunk has ten bytes at least
pub end-above : (f : List ℕ) (at n : ℕ) → at + 10 * n ≤ end_of f at n
unfolding end_of
end-above f at zero = omega arith
end-above f at (suc n) = let h = end-above f (behind f at) n in omega arith

pub length-row : (f : List ℕ) (at : ℕ) → length (row_at f at) ≡ 4
unfolding row_at
length-row f at = refl

-- four numbers a chunk
pub length-table : (f : List ℕ) (at n : ℕ) → length (table_of f at n) ≡ 4 * n
unfolding table_of
length-table f at zero = refl
length-table f at (suc n) =
    length-append (row_at f at) (table_of f (behind f at) n) ∙ let e = length-row f at in let g = length-table f (behind f at) n in omega arith

-- the part of a frame that has it
pub length_part : (f : List ℕ) (from n : ℕ) → from + n ≤ length f → length (part_at f from n) ≡ n
length_part f from n h = length-take-le n (drop from f) (rw length-drop (omega arith))

-- ten bytes of each chunk are no text
pub length-text : (f : List ℕ) (at n : ℕ) → end_of f at n ≤ length f → length (text_of f at n) + (at + 10 * n) ≡ end_of f at n
unfolding text_of end_of
length-text f at zero h = omega arith
length-text f at (suc n) h =
    let a = end-above f (behind f at) n in
    let e = length-append (text_at f at) (text_of f (behind f at) n) in
    let l = length_part f (at + 10) (byte_at f (at + 1)) (omega arith) in
    let g = length-text f (behind f at) n h in
    omega arith

-- one row, and those behind it
pub next_row : (f t : List ℕ) (p k j : ℕ) → 0 < k → sets (sets t j (row_at f p)) (j + length (row_at f p)) (table_of f (behind f p) (k - 1)) ≡ sets t j (table_of f p k)
unfolding table_of
next_row f t p zero j h = absurd (omega arith)
next_row f t p (suc k) j h = let e : suc k - 1 ≡ k = omega arith in rw e (sym (sets-append t j (row_at f p) (table_of f (behind f p) k)))

pub no_rows : (f : List ℕ) (p k : ℕ) → k ≤ 0 → table_of f p k ≡ []
unfolding table_of
no_rows f p zero h = refl
no_rows f p (suc k) h = absurd (omega arith)

-- one text, and those behind it
pub next-text : (f t : List ℕ) (p k j : ℕ) → 0 < k → sets (sets t j (text_at f p)) (j + length (text_at f p)) (text_of f (behind f p) (k - 1)) ≡ sets t j (text_of f p k)
unfolding text_of
next-text f t p zero j h = absurd (omega arith)
next-text f t p (suc k) j h = let e : suc k - 1 ≡ k = omega arith in rw e (sym (sets-append t j (text_at f p) (text_of f (behind f p) k)))

pub text-more : (f : List ℕ) (p k : ℕ) → 0 < k → length (text_of f p k) ≡ length (text_at f p) + length (text_of f (behind f p) (k - 1))
unfolding text_of
text-more f p zero h = absurd (omega arith)
text-more f p (suc k) h = let e : suc k - 1 ≡ k = omega arith in rw e (length-append (text_at f p) (text_of f (behind f p) k))

pub no-texts : (f : List ℕ) (p k : ℕ) → k ≤ 0 → text_of f p k ≡ []
unfolding text_of
no-texts f p zero h = refl
no-texts f p (suc k) h = absurd (omega arith)

-- one byte of a part, and those behind it
pub part-next : (f : List ℕ) (from n i : ℕ) → from + n ≤ length f → i < n → part_at f (from + i) (n - i) ≡ get_or f (from + i) 0 ∷ part_at f (from + (i + 1)) (n - (i + 1))
part-next f from n i h l =
    let e : n - i ≡ suc (n - (i + 1)) = omega arith in
    let g : suc (from + i) ≡ from + (i + 1) = omega arith in
    rw (drop-cons f (from + i) 0 (omega arith), e, g)

pub part_none : (f : List ℕ) (from n i : ℕ) → n ≤ i → part_at f (from + i) (n - i) ≡ []
part_none f from n i h = let e : n - i ≡ 0 = omega arith in rw e

pub next-byte : (f t : List ℕ) (from n m i : ℕ) → from + n ≤ length f → i < n
    → sets (set t (m + i) (get_or f (from + i) 0)) (m + (i + 1)) (part_at f (from + (i + 1)) (n - (i + 1))) ≡ sets t (m + i) (part_at f (from + i) (n - i))
next-byte f t from n m i h l = let e : m + (i + 1) ≡ suc (m + i) = omega arith in rw (part-next f from n i h l, e)

-- a chunk lies before the end of them all
pub chunk_inside : (f : List ℕ) (p k : ℕ) → 0 < k → behind f p ≤ end_of f p k
chunk_inside f p k h = let e = end-next f p k h in let a = end-above f (behind f p) (k - 1) in omega arith

-- a list within a frame that has room for it: each buffer takes less than the frame does
module _ {f text table : List ℕ} (w : Room f text table) (at m k : ℕ) (inside : list_end f at ≤ length f) (hm : m ≤ at) (hk : 2 * k ≤ at) where
  pub list-starts : at < 8192
  list-starts = let a = end-above f (at + 1) (byte_at f at) in omega (arith, w.small)

  pub rows_fit : k + 4 * byte_at f at ≤ length table
  rows_fit = let a = end-above f (at + 1) (byte_at f at) in omega (arith, w.for_table)

  pub text_behind : m + length (list_text f at) ≤ list_end f at
  text_behind = let e = length-text f (at + 1) (byte_at f at) inside in omega arith

  pub table-behind : 2 * (k + length (list_table f at)) ≤ list_end f at
  table-behind =
      let a = end-above f (at + 1) (byte_at f at) in
      let e = length-table f (at + 1) (byte_at f at) in
      omega arith

-- a list that may be absent: it is present
module _ (f : List ℕ) (at : ℕ) (h : has_list f at ≡ true) where
  pub present : optional_end f at ≡ list_end f (at + 1)
  unfolding optional_end pick
  present = rw h

  present-text : optional_text f at ≡ list_text f (at + 1)
  unfolding optional_text pick
  present-text = rw h

  present-table : optional_table f at ≡ list_table f (at + 1)
  unfolding optional_table pick
  present-table = rw h

  pub present-puts : {b b' t t' : List ℕ} {m k j i : ℕ} → Put (list_text f (at + 1)) b m b' j → Put (list_table f (at + 1)) t k t' i
      → j ≤ list_end f (at + 1) → 2 * i ≤ list_end f (at + 1)
      → Put (optional_text f at) b m b' j × (Put (optional_table f at) t k t' i × ((j ≤ optional_end f at) × (2 * i ≤ optional_end f at)))
  present-puts p q l r = (as-text present-text p, (as-text present-table q, (rw present l, rw present r)))

-- it is absent
module _ (f : List ℕ) (at : ℕ) (h : has_list f at ≡ false) where
  absent-text : optional_text f at ≡ []
  unfolding optional_text pick
  absent-text = rw h

  absent-table : optional_table f at ≡ []
  unfolding optional_table pick
  absent-table = rw h

  absent : optional_end f at ≡ at + 1
  unfolding optional_end pick
  absent = rw h

  pub absent-puts : (b t : List ℕ) {m k : ℕ} → m ≤ at → 2 * k ≤ at
      → Put (optional_text f at) b m b m × (Put (optional_table f at) t k t k × ((m ≤ optional_end f at) × (2 * k ≤ optional_end f at)))
  absent-puts b t {m} {k} l r = (as-text absent-text (nothing b m), (as-text absent-table (nothing t k), (omega (arith, absent), omega (arith, absent))))
