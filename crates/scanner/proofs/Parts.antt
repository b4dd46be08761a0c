-- The part of a text from a place to another: where the places lie past the text's end or in the wrong order, and how parts join.
-- Assumes nothing.
use mathlib.Core.Path.{◌≡◌, sym, ap, ◌∙◌}
use mathlib.Core.List.{List, [], ◌++◌}
use Prim.Native.Nat.{ℕ, ◌+◌, ◌-◌, ◌≤◌}
use native.Mathlib.Nat.{min-le_left}
use native.Mathlib.Omega.{arith}
use lib.ListN.{length, take, drop, drop_of_length-le, length-take, length-drop, take-append-drop}
use lib.Seq.{take-nil, take_all, take-add, drop-drop}
use Rattle.scanner.specs.Scan.{part}

-- all of a text from a place on, as a slice has it
pub rest : (s : List ℕ) (n : ℕ) → take (length s - n) (drop n s) ≡ drop n s
rest s n = take_all (length s - n) (drop n s) (omega (arith, length-drop n s))

-- from a place to itself there is nothing
pub part-empty : (s : List ℕ) (i : ℕ) → part s i i ≡ []
unfolding part
part-empty s i = let z : i - i ≡ 0 = omega arith in ap (λ (n : ℕ). take n (drop i s)) z

module _ (s : List ℕ) (a e : ℕ) where
  -- it is no longer than the places say
  pub part-short : length (part s a e) ≤ e - a
  unfolding part
  part-short = rw (length-take (e - a) (drop a s)) (min-le_left (e - a) (length (drop a s)))

  -- the first place is past the end
  pub part-past : (n m : ℕ) → length s ≤ n → length s ≤ a → take m (drop n s) ≡ part s a e
  unfolding part
  part-past n m h l = rw (drop_of_length-le s h, drop_of_length-le s l) (take-nil m ∙ sym (take-nil (e - a)))

  -- the second place is before the first
  pub part_none : (n : ℕ) → n ≡ 0 → e ≤ a → take n (drop a s) ≡ part s a e
  unfolding part
  part_none n z h = let same : n ≡ e - a = omega arith in ap (λ (m : ℕ). take m (drop a s)) same

  -- the second place is past the end
  pub part-rest : length s ≤ e → take (length s - a) (drop a s) ≡ part s a e
  unfolding part
  part-rest h = rest s a ∙ sym (take_all (e - a) (drop a s) (omega (arith, length-drop a s)))

-- a part that goes on behind its end
pub part-grown : (s : List ℕ) (a e n : ℕ) → a ≤ e → part s a (e + n) ≡ part s a e ++ take n (drop e s)
unfolding part
part-grown s a e n h =
    let f : e + n - a ≡ (e - a) + n = omega arith in
    let g : a + (e - a) ≡ e = omega arith in
    ap (λ (m : ℕ). take m (drop a s)) f ∙ take-add (e - a) n (drop a s)
    ∙ ap (λ (t : List ℕ). take (e - a) (drop a s) ++ t) (ap (take n) (drop-drop (e - a) a s ∙ ap (λ (m : ℕ). drop m s) g))

-- a part, and the part behind it
pub part-joined : (s : List ℕ) (a e f : ℕ) → a ≤ e → e ≤ f → part s a f ≡ part s a e ++ part s e f
unfolding part
part-joined s a e f h l = let g : e + (f - e) ≡ f = omega arith in ap (part s a) (sym g) ∙ part-grown s a e (f - e) h

-- a text from a place on is a part of it, and the rest
pub part_cut : (s : List ℕ) (a e : ℕ) → a ≤ e → drop a s ≡ part s a e ++ drop e s
unfolding part
part_cut s a e h =
    let f : a + (e - a) ≡ e = omega arith in
    sym (take-append-drop (e - a) (drop a s)) ∙ ap (λ (t : List ℕ). take (e - a) (drop a s) ++ t) (drop-drop (e - a) a s ∙ ap (λ (m : ℕ). drop m s) f)
