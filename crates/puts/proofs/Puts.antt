-- Texts that are put one behind the other into a buffer, and into a part of it that is lent on. Assumes nothing.
use mathlib.Core.Path.{◌≡◌, refl, sym, ap, ◌∙◌, subst}
use mathlib.Core.Bool.{Bool}
use mathlib.Core.List.{List, [], ◌∷◌, ◌++◌, append-nil, append_assoc}
use Prim.Native.Nat.{ℕ, suc, ◌+◌, ◌-◌, ◌/◌, ◌%◌, ◌≤◌, ◌<◌}
use native.Mathlib.Nat.{add-zero, zero-add}
use native.Mathlib.Numerals.{add-one}
use native.Mathlib.Omega.{arith}
use lib.ListN.{length, get_or, take, drop, set, length-append, length-drop, drop_of_length-le}
use lib.Seq.{drop-cons, sets, length-sets, sets-eq, set_comm, take_all, drop-drop}
use borrow.Rule.Slice.PartMut.{put_mid}
use Rattle.puts.specs.Numbers.{digits}
use Rattle.puts.specs.Answers.{Put, Tried}
use Rattle.puts.specs.Marks.{mark_text}
use Rattle.puts.proofs.Counts.{length_digits}

-- one text, then another, are their join
pub sets-append : (l : List ℕ) (i : ℕ) (a b : List ℕ) → sets l i (a ++ b) ≡ sets (sets l i a) (i + length a) b
sets-append l i [] b = ap (λ (j : ℕ). sets l j b) (sym (add-zero i))
sets-append l i (x ∷ a) b = sets-append (set l i x) (suc i) a b ∙ ap (λ (j : ℕ). sets (sets (set l i x) (suc i) a) j b) (omega arith)

-- a store behind a text may come before it
pub sets-set : (l : List ℕ) (i j : ℕ) (a : List ℕ) (v : ℕ) → i + length a ≤ j → sets (set l j v) i a ≡ set (sets l i a) j v
sets-set l i j [] v h = refl
sets-set l i j (x ∷ a) v h =
    ap (λ (m : List ℕ). sets m (suc i) a) (set_comm l j i v x (λ (e : j ≡ i). omega arith))
    ∙ sets-set (set l i x) (suc i) j a v (omega arith)

-- a loop that copies a text: one byte is stored, and what is still to come
pub next-byte : (out t : List ℕ) (at i : ℕ) → i < length t → sets (set out (at + i) (get_or t i 0)) (at + (i + 1)) (drop (i + 1) t) ≡ sets out (at + i) (drop i t)
next-byte out t at i h =
    rw (drop-cons t i 0 h, add-one i) (ap (λ (j : ℕ). sets (set out (at + i) (get_or t i 0)) j (drop (suc i) t)) (omega arith))

-- a loop that stores digits from the right
pub next-digit : (out : List ℕ) (at k rest : ℕ) → sets (set out (at + k) (48 + rest % 10)) at (digits k (rest / 10)) ≡ sets out at (digits (suc k) rest)
next-digit out at k rest =
    let ds = digits k (rest / 10) in
    sets-set out at (at + k) ds (48 + rest % 10) (omega (arith, length_digits k (rest / 10)))
    ∙ sym (sets-append out at ds ((48 + rest % 10) ∷ []) ∙ ap (λ (j : ℕ). set (sets out at ds) (at + j) (48 + rest % 10)) (length_digits k (rest / 10)))

-- nothing
pub nothing : (l : List ℕ) (i : ℕ) → Put [] l i l i
nothing l i = record { behind = sym (add-zero i); bytes = refl }

-- a text that is known by another name
pub as-text : {t u before after : List ℕ} {at next : ℕ} → t ≡ u → Put u before at after next → Put t before at after next
as-text {before} {after} {at} {next} e p = subst (λ (x : List ℕ). Put x before at after next) (sym e) p

-- where a text fits, it fits by another name
pub fits-as : {t u : List ℕ} (l : List ℕ) (i : ℕ) → t ≡ u → i + length t ≤ length l → i + length u ≤ length l
fits-as l i e h = subst (λ (x : List ℕ). i + length x ≤ length l) e h

-- at the front
pub front : (t l : List ℕ) → length t ≤ length l → 0 + length t ≤ length l
front t l h = omega arith

pub front-as : {t u : List ℕ} (l : List ℕ) → t ≡ u → length t ≤ length l → 0 + length u ≤ length l
front-as {t} {u} l e h = fits-as l 0 e (front t l h)

-- the first of two texts fits where both do
pub first_fits : (a b l : List ℕ) (i : ℕ) → i + length (a ++ b) ≤ length l → i + length a ≤ length l
first_fits a b l i h = let g = length-append a b in omega arith

-- a was put into l, which became m
module _ {a l m : List ℕ} {i j : ℕ} (first : Put a l i m j) where
  pub kept : length m ≡ length l
  kept = ap length first.bytes ∙ length-sets l i a

  -- what is behind it has the room that is left
  pub room : (b : List ℕ) → i + length (a ++ b) ≤ length l → j + length b ≤ length m
  room b h = let g = length-append a b in let k = kept in omega (arith, first.behind)

  pub both : {b p : List ℕ} {k : ℕ} → Put b m j p k → Put (a ++ b) l i p k
  both {b} {p} {k} second =
      record {
        behind = let g = length-append a b in omega (arith, first.behind, second.behind);
        bytes = second.bytes ∙ rw (first.bytes, first.behind) (sym (sets-append l i a b));
      }

-- the part `m[k..]` as it is lent
part : (m : List ℕ) (k : ℕ) → take (length m - k) (drop k m) ≡ drop k m
part m k = take_all (length m - k) (drop k m) (rw length-drop (omega arith))

-- the room of the part
pub lent-room : (b m : List ℕ) (k : ℕ) → k + length b ≤ length m → length b ≤ length (take (length m - k) (drop k m))
lent-room b m k h = rw (part m k, length-drop) (omega arith)

-- b was put at the front of the part, which came back as p: it was put at k into the whole
pub lent : (b m p : List ℕ) (k r : ℕ) → k + length b ≤ length m → Put b (take (length m - k) (drop k m)) 0 p r → Put b m k (put_mid k (length m - k) m p) (k + r)
lent b m p k r h q =
    record {
      behind = let e = q.behind in omega arith;
      bytes =
          rw (drop_of_length-le (drop k m) {i = length m - k} (rw length-drop (omega arith)), append-nil, q.bytes, part m k, sets-eq b (drop k m) 0 (rw length-drop (omega arith)), sets-eq b m k h, drop-drop, zero-add) (sym (append_assoc (take k m) b (drop (k + length b) m)));
    }

-- a text at the front of a buffer, and what was behind it
pub at_front : {t l m : List ℕ} {n : ℕ} → length t ≤ length l → Put t l 0 m n → m ≡ t ++ drop (length t) l
at_front {t} {l} h p = p.bytes ∙ sets-eq t l 0 (omega arith) ∙ ap (λ (j : ℕ). t ++ drop j l) (zero-add (length t))

-- what is tried: with the room it is put
pub with-room : {t l m : List ℕ} {at next : ℕ} → at + length t ≤ length l → Put t l at m next → Tried t l at m next
with-room h p = record { put = λ _. p; not_put = λ k. absurd (omega (arith, h)) }

-- and without it nothing is
pub without-room : (t l : List ℕ) (at : ℕ) → length l < at + length t → Tried t l at l at
without-room t l at h = record { put = λ k. absurd (omega (arith, h)); not_put = λ _. (refl, refl) }

-- a text that is another's
pub tried-as : {t u before after : List ℕ} {at next : ℕ} → t ≡ u → Tried u before at after next → Tried t before at after next
tried-as {before = l} {after = m} {at = i} {next = j} e p = subst (λ (x : List ℕ). Tried x l i m j) (sym e) p

pub tried-nothing : (l : List ℕ) (i : ℕ) → Tried [] l i l i
tried-nothing l i = record { put = λ _. nothing l i; not_put = λ _. (refl, refl) }

-- the mark of a date whose tests are known
pub marked : {u a v b : Bool} → u ≡ v → a ≡ b → mark_text u a ≡ mark_text v b
marked e f = rw (e, f)
