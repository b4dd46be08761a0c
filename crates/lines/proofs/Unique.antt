-- The contracts of a step and of the end leave no choice: what is answered and what is left in the output is determined. And where there is
-- room for each answer, a step that stops for room took a line. Assumes nothing.
use mathlib.Core.Path.{◌≡◌, refl, sym, ap, ◌∙◌}
use mathlib.Core.Bool.{Bool, true, false}
use mathlib.Core.List.{List, [], ◌∷◌, ◌++◌, append-nil}
use Prim.Native.Nat.{ℕ, zero, suc, ◌+◌, ◌-◌, ◌≤◌, ◌<◌}
use native.Mathlib.Omega.{arith}
use borrow.Author.Tests.{ltb-true, ltb-false}
use lib.Dec.{eqb, ltb}
use lib.ListN.{length, take, drop, length-append, length-drop, take-append-drop}
use lib.Seq.{sets, take-add, length-take-le}
use Rattle.chars.specs.Pick.{pick}
use Rattle.chars.proofs.Cases.{of_test}
use Rattle.lines.specs.declared.Taken.{Taken}
use Rattle.lines.specs.Lines.{lines_from, rest_from, answers_to, line_length, NoFeed}
use Rattle.lines.specs.Steps.{Way, Before, Replied, Stepped, Finished}
use Rattle.lines.specs.Steps.Replied.{was_put, no_room}
use Rattle.lines.proofs.Feeds.{at_most}
use Rattle.lines.proofs.Cuts.{lines_cut, rest-cut, answers-both, all_rest, lines_next, lines_end, rest_end}
use Rattle.lines.proofs.Moves.{is-long, is_none, sample, sample-before}

-- before the next line feed there is none
front-free : (s : List ℕ) (n : ℕ) → n ≤ line_length s → NoFeed (take n s)
unfolding line_length pick
front-free s zero h = refl
front-free [] (suc n) h = refl
front-free (x ∷ s) (suc n) h =
    of_test (eqb x 10)
    (λ q. absurd (let e = rw q at h in omega arith))
    (λ q. let e = rw q at h in rw q (ap suc (front-free s n (omega arith))))

same_flag : {limit : ℕ} {l m : Bool} {k : List ℕ} → Before limit l k → Before limit m k → l ≡ m
same_flag {l} {m} x y =
    of_test l
    (λ e. of_test m (λ g. e ∙ sym g) (λ g. absurd (let a = is-long x e in let b = is_none y g in omega arith)))
    (λ e. of_test m (λ g. absurd (let a = is_none x e in let b = is-long y g in omega arith)) (λ g. e ∙ sym g))

same_taken : {r q : Taken} → r.bytes ≡ q.bytes → r.long ≡ q.long → r.put ≡ q.put → r.full ≡ q.full → r ≡ q
same_taken b l p f = λ i. record { bytes = b i; long = l i; put = p i; full = f i }

module _ (answer : List ℕ → List ℕ) (limit : ℕ) (long : Bool) (b out : List ℕ) where
  abbrev k : List ℕ
  k = sample limit long

  before : Before limit long k
  before = sample-before limit long

  abbrev answers : List ℕ → List ℕ
  answers s = answers_to answer (lines_from k s)

  module _ {r : Taken} {out' : List ℕ} (s : Stepped answer limit long b out r out') where
    -- the bytes that are left, and the place behind the next line feed
    abbrev left : List ℕ
    left = drop r.bytes b

    abbrev behind : ℕ
    behind = r.bytes + suc (line_length left)

    put_is : r.put ≡ length (answers (take r.bytes b))
    put_is = let e = (s.answered k before).behind in omega arith

    -- where it stopped for room, whoever goes on past the next line has no room for the answers
    passed : r.full ≡ true → (t : List ℕ) → length out < length (answers (take behind b ++ t))
    unfolding answers_to
    passed e t =
        let h = s.short e in
        let gone = lines_from k (take r.bytes b) in
        let line = rest_from k (take r.bytes b) ++ take (line_length left) left in
        let more = lines_from (rest_from k (take behind b)) t in
        let all : answers (take behind b ++ t) ≡ (answers_to answer gone ++ answers_to answer (line ∷ [])) ++ answers_to answer more =
        ap (answers_to answer) (lines_cut k (take behind b) t ∙ ap (λ (l : List (List ℕ)). l ++ more) (lines_next k b r.bytes h.0))
        ∙ answers-both answer (gone ++ (line ∷ [])) more
        ∙ ap (λ (l : List ℕ). l ++ answers_to answer more) (answers-both answer gone (line ∷ [])) in
        omega
        (arith, ap length all, length-append (answers_to answer gone ++ answers_to answer (line ∷ [])) (answers_to answer more), length-append (answers_to answer gone) (answers_to answer (line ∷ [])), ap length (append-nil (answer line)), put_is, h.1 (rest_from k (take r.bytes b)) (s.kept k before))

    module _ {q : Taken} {out₂ : List ℕ} (u : Stepped answer limit long b out q out₂) where
      room_for : length (answers (take q.bytes b)) ≤ length out
      room_for = let e = (u.answered k before).behind in let h = u.room in omega arith

      -- so that one that did not stop did not come by here
      one-stops : r.full ≡ true → q.full ≡ false → ⊥
      one-stops e g =
          let all : answers b ≡ answers (take q.bytes b) = ap (answers_to answer) (lines_end k b q.bytes (u.over g).0) in
          let h = rw (take-append-drop behind b) at (passed e (drop behind b)) in
          omega (arith, room_for, ap length all)

      -- nor one that stopped further on
      further : r.full ≡ true → q.full ≡ true → r.bytes < q.bytes → ⊥
      unfolding pick
      further e g h =
          let x = r.bytes in
          let y = q.bytes in
          of_test (ltb y behind)
          (λ t.
          let l = ltb-true y behind t in
          let part = take (y - x) left in
          let n = u.inside in
          let there : x + (y - x) ≡ y = omega arith in
          let rest : rest_from k (take y b) ≡ rest_from k (take x b) ++ part =
          rw there at (ap (rest_from k) (take-add x (y - x) b))
          ∙ rest-cut k (take x b) part
          ∙ all_rest (rest_from k (take x b)) part (front-free left (y - x) (omega arith)) in
          let size : length part ≡ y - x = length-take-le (y - x) left (omega (arith, length-drop x b)) in
          let short : q.long ≡ false = of_test q.long (λ z. absurd (let w = rw g at (u.all_or_none z) in omega arith)) (λ z. z) in
          let none = is_none (u.kept k before) short in
          omega (arith, ap length rest, length-append (rest_from k (take x b)) part))
          (λ t.
          let l = ltb-false y behind t in
          let there : behind + (y - behind) ≡ y = omega arith in
          let all : take y b ≡ take behind b ++ take (y - behind) (drop behind b) = rw there at (take-add behind (y - behind) b) in
          omega (arith, room_for, passed e (take (y - behind) (drop behind b)), ap (λ (l : List ℕ). length (answers l)) all))

      -- where both went on to the end, they kept the same
      to_the_end : r.full ≡ false → q.full ≡ false → r.bytes ≡ q.bytes
      unfolding pick
      to_the_end e g =
          let x = r.bytes in
          let y = q.bytes in
          let i = s.inside in
          let j = u.inside in
          let v = s.over e in
          let w = u.over g in
          let one = length-append (rest_from k (take x b)) (drop x b) in
          let two = length-append (rest_from k (take y b)) (drop y b) in
          let rests = ap length (sym (rest_end k b x v.0) ∙ rest_end k b y w.0) in
          of_test r.long
          (λ z.
          let xb : x ≡ length b = rw e at (s.all_or_none z) in
          of_test q.long
          (λ t. xb ∙ sym (rw g at (u.all_or_none t)))
          (λ t. let m = is-long (s.kept k before) z in let n = is_none (u.kept k before) t in absurd (omega (arith, v.1, w.1))))
          (λ z.
          let m = is_none (s.kept k before) z in
          of_test q.long
          (λ t. let n = is-long (u.kept k before) t in absurd (omega (arith, v.1, w.1)))
          (λ t. let n = is_none (u.kept k before) t in omega (arith, length-drop x b, length-drop y b)))

  module _ {r q : Taken} {out' out₂ : List ℕ} (s : Stepped answer limit long b out r out') (u : Stepped answer limit long b out q out₂) where
    same_full : r.full ≡ q.full
    same_full =
        of_test r.full
        (λ e. of_test q.full (λ g. e ∙ sym g) (λ g. absurd (one-stops s u e g)))
        (λ e. of_test q.full (λ g. absurd (one-stops u s g e)) (λ g. e ∙ sym g))

    same_place : r.bytes ≡ q.bytes
    same_place =
        of_test r.full
        (λ e. let g = sym same_full ∙ e in omega (arith, further s u e g, further u s g e))
        (λ e. to_the_end s u e (sym same_full ∙ e))

    same_outcome : (r ≡ q) × (out' ≡ out₂)
    same_outcome =
        let texts : answers (take r.bytes b) ≡ answers (take q.bytes b) = ap (λ (n : ℕ). answers (take n b)) same_place in
        let flags = same_flag (s.kept k before) (rw (sym same_place) at (u.kept k before)) in
        let a = s.answered k before in
        let c = u.answered k before in (
          same_taken same_place flags (put_is s ∙ ap length texts ∙ sym (put_is u)) same_full,
          a.bytes ∙ ap (λ (t : List ℕ). sets out 0 t) texts ∙ sym c.bytes,
        )

-- two outcomes of a step over the same block are one
pub step-unique : {answer : List ℕ → List ℕ} {limit : ℕ} {long : Bool} {b out out' out₂ : List ℕ} {r q : Taken}
    → Stepped answer limit long b out r out' → Stepped answer limit long b out q out₂ → (r ≡ q) × (out' ≡ out₂)
step-unique {answer} {limit} {long} {b} {out} s u = same_outcome answer limit long b out s u

-- ---- the end of the stream

same-reply : {t out a c : List ℕ} {p m n : ℕ} → Replied t out p a m → Replied t out p c n → (m ≡ n) × (a ≡ c)
same-reply (was_put h x) (was_put g y) = (x.behind ∙ sym y.behind, x.bytes ∙ sym y.bytes)
same-reply (was_put h x) (no_room g) = absurd (omega arith)
same-reply (no_room h) (was_put g y) = absurd (omega arith)
same-reply (no_room h) (no_room g) = (refl, refl)

-- two outcomes of the end are one
pub finish-unique : {answer : List ℕ → List ℕ} {limit : ℕ} {long : Bool} {b out out' out₂ : List ℕ} {m n : ℕ}
    → Finished answer limit long b out m out' → Finished answer limit long b out n out₂ → (m ≡ n) × (out' ≡ out₂)
finish-unique {limit} {long} s u = same-reply (s.answered (sample limit long) (sample-before limit long)) (u.answered (sample limit long) (sample-before limit long))

-- ---- room for each answer

-- a step that stopped for room took a line, and whole lines only
pub goes_on : {answer : List ℕ → List ℕ} {limit most : ℕ} {refused : List ℕ} {long : Bool} {b out out' : List ℕ} {r : Taken}
    → Way answer limit most refused → most ≤ length out → Stepped answer limit long b out r out' → r.full ≡ true → (0 < r.bytes) × (r.long ≡ false)
unfolding lines_from answers_to pick
goes_on {answer} {limit} {long} {b} {out} {r} y fit s e =
    let k = sample limit long in
    let x = sample-before limit long in
    let h = s.short e in
    let line = rest_from k (take r.bytes b) ++ take (line_length (drop r.bytes b)) (drop r.bytes b) in
    let some : 0 < r.bytes =
    of_test (ltb 0 r.bytes) (λ t. ltb-true 0 r.bytes t)
    (λ t.
    let l = ltb-false 0 r.bytes t in
    let z : r.bytes ≡ 0 = omega arith in
    absurd
    (omega
    (arith, (s.answered k x).behind, ap (λ (n : ℕ). length (answers_to answer (lines_from k (take n b)))) z, h.1 (rest_from k (take r.bytes b)) (s.kept k x), y.at_most line))) in
    (some, of_test r.long (λ t. absurd (let n = rw e at (s.all_or_none t) in omega arith)) (λ t. t))
