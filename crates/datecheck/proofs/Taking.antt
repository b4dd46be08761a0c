-- What a step over the rest of a block, into the rest of the output, comes to. Assumes nothing.
use mathlib.Core.Path.{◌≡◌, refl, sym, ap, ◌∙◌, subst}
use mathlib.Core.Bool.{Bool, true, false}
use mathlib.Core.List.{List, ◌++◌}
use Prim.Native.Nat.{ℕ, ◌+◌, ◌-◌, ◌≤◌, ◌<◌}
use native.Mathlib.Omega.{arith}
use borrow.Rule.Slice.PartMut.{put_mid, take_put}
use lib.Dec.{ltb}
use lib.ListN.{length, take, drop, length-append, length-drop}
use lib.Seq.{take_all, take_at, drop-drop}
use Rattle.chars.specs.Pick.{pick}
use Rattle.runs.specs.Steps.{Outcome}
use Rattle.runs.specs.Steps.Outcome.{wait, took, over}
use Rattle.runs.specs.Runs.{Onward}
use Rattle.runs.proofs.Onwards.{onward-step}
use Rattle.sheets.specs.declared.State.{State}
use Rattle.sheets.specs.declared.Taken.{Taken}
use Rattle.sheets.specs.declared.Taken.TheVariants.{More, NoRoom, Took, Over}
use Rattle.sheets.specs.Steps.{next}
use Rattle.sheets.specs.Reports.{said, answered, answer_with, out_after}
use Rattle.sheets.proofs.Steady.{steady}
use Rattle.datecheck.specs.Goes.{Went}
use Rattle.datecheck.specs.Goes.Went.{waits, full, ends}
use Rattle.datecheck.specs.declared.Stop.TheVariants.{Waits, Full, Over as Ends}
use Rattle.datecheck.proofs.Filled.{filled}

-- a text of so many bytes stands at the front of the output
record Says (o : Outcome State) (whole : List ℕ → Outcome State) (k : ℕ) (s s' : List ℕ) : Type 0 where
  text : List ℕ
  is : o ≡ whole text
  size : k ≡ length text
  front : take k s' ≡ text
  fits : k ≤ length s

-- what an answer tells
abbrev Shown : Outcome State → List ℕ → List ℕ → Taken → Type 0
Shown o s s' More = o ≡ wait
Shown o s s' NoRoom = Unit {0}
Shown o s s' (Took n k kept) = Says o (λ (t : List ℕ). took n t kept) k s s'
Shown o s s' (Over k) = Says o over k s s'

module _ (s s' : List ℕ) (l : length s' ≡ length s) where
  fitting : (text rest : List ℕ) → s' ≡ text ++ rest → length text ≤ length s
  fitting text rest e = omega (arith, l, ap length e, length-append text rest)

  by-outcome : (o : Outcome State) → s' ≡ said o ++ drop (length (said o)) s → Shown o s s' (answered o)
  unfolding said answered
  by-outcome wait e = refl
  by-outcome (took n text kept) e =
      record { text = text; is = refl; size = refl; front = ap (take (length text)) e ∙ take_at text _ (length text) refl; fits = fitting text _ e }
  by-outcome (over text) e =
      record { text = text; is = refl; size = refl; front = ap (take (length text)) e ∙ take_at text _ (length text) refl; fits = fitting text _ e }

  by-room : (o : Outcome State) (t : Bool) → s' ≡ pick t s (said o ++ drop (length (said o)) s) → Shown o s s' (pick t NoRoom (answered o))
  unfolding pick
  by-room o true e = tt
  by-room o false e = by-outcome o e

  shown : (o : Outcome State) → s' ≡ out_after s o → Shown o s s' (answer_with (length s) o)
  unfolding answer_with out_after
  shown o e = by-room o (ltb (length s) 262144) e

-- the part of a list from a place on
part-is : (b : List ℕ) (at : ℕ) → take (length b - at) (drop at b) ≡ drop at b
part-is b at = take_all (length b - at) (drop at b) (omega (arith, length-drop at b))

module _ (block out : List ℕ) (at put : ℕ) (ha : at ≤ length block) (hp : put ≤ length out) (last : Bool) {st₀ st : State} {s' : List ℕ} {r : Taken}
    (e : r ≡ answer_with (length (take (length out - put) (drop put out))) (next last (take (length block - at) (drop at block)) st))
    (f : s' ≡ out_after (take (length out - put) (drop put out)) (next last (take (length block - at) (drop at block)) st))
    (l : length s' ≡ length (take (length out - put) (drop put out))) (m : length (put_mid put (length out - put) out s') ≡ length out)
    (o : Onward next last block st₀ (drop at block) st (take put out)) where
  tells : {x : Taken} → r ≡ x → Shown (next last (drop at block) st) (drop put out) s' x
  tells {x} g =
      subst (Shown (next last (drop at block) st) (drop put out) s') (sym (rw (part-is out put, part-is block at) at e) ∙ g)
      (shown (drop put out) s' (rw (part-is out put) at l) (next last (drop at block) st) (rw (part-is out put, part-is block at) at f))

  same : take put (put_mid put (length out - put) out s') ≡ take put out
  same = take_put put (length out - put) out s' hp

  more : (n : ℕ) → n ≤ length s' → take (put + n) (put_mid put (length out - put) out s') ≡ take put out ++ take n s'
  more n h = filled out s' put n hp h

  sized : length s' ≡ length out - put
  sized = l ∙ ap length (part-is out put) ∙ length-drop put out

  -- it takes bytes
  pub goes : {bytes n : ℕ} {kept : State} → r ≡ Took bytes n kept
      → ((0 < bytes) × (at + bytes ≤ length block))
      × ((put + n ≤ length out)
      × ((put + n ≤ length (put_mid put (length out - put) out s')) × Onward next last block st₀ (drop (at + bytes) block) kept (take (put + n) (put_mid put (length out - put) out s'))))
  goes {bytes} {n} {kept} g =
      let t = tells g in
      let b = steady.moves last (drop at block) st t.is in
      let h : n ≤ length s' = omega (arith, t.fits, sized, length-drop put out) in (
        (b.0, omega (arith, b.1, length-drop at block, ha)),
        (
          omega (arith, h, sized, hp),
          (omega (arith, h, sized, m, hp), rw (more n h, t.front, ← drop-drop bytes at block) (onward-step o t.is)),
        ),
      )

  -- it waits
  pub went-waits : r ≡ More → (put ≤ length (put_mid put (length out - put) out s')) × Went last block st₀ Waits (drop at block) st (take put (put_mid put (length out - put) out s'))
  went-waits g = (omega (arith, m, hp), rw same (waits o (tells g)))

  -- there is no room
  pub went-full : (put ≤ length (put_mid put (length out - put) out s')) × Went last block st₀ Full (drop at block) st (take put (put_mid put (length out - put) out s'))
  went-full = (omega (arith, m, hp), rw same (full o))

  -- the report is over
  pub went-ends : {n : ℕ} → r ≡ Over n
      → (put + n ≤ length (put_mid put (length out - put) out s')) × Went last block st₀ Ends (drop at block) st (take (put + n) (put_mid put (length out - put) out s'))
  went-ends {n} g =
      let t = tells g in
      let h : n ≤ length s' = omega (arith, t.fits, sized, length-drop put out) in
      (omega (arith, h, sized, m, hp), rw (more n h, t.front) (ends o t.is))
