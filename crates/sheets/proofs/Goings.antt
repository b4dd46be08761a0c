-- Texts that are put one behind the other into the output, and what is counted with them. Assumes nothing.
use mathlib.Core.Path.{◌≡◌, refl, ap, ◌∙◌}
use mathlib.Core.Bool.{false}
use mathlib.Core.List.{List, [], ◌++◌}
use Prim.Native.Nat.{ℕ, ◌+◌, ◌-◌, ◌≤◌, ◌<◌}
use native.Mathlib.Nat.{zero-add}
use native.Mathlib.Omega.{arith}
use borrow.Rule.Slice.PartMut.{put_mid}
use lib.ListN.{length, take, drop}
use Rattle.refusals.specs.declared.Refusal.{Refusal}
use Rattle.std.specs.Prelude.{Result, Ok, Err}
use Rattle.puts.specs.Answers.{answer, afterwards, Put}
use Rattle.puts.proofs.Puts.{nothing, first_fits, kept, room, both, at_front}
use Rattle.puts.proofs.Lent.{in-range, put-done, put-none}
use Rattle.sheets.specs.declared.Tally.{Tally}
use Rattle.sheets.specs.declared.Said.{Said}
use Rattle.sheets.specs.Inside.{Going, Told, advanced_by, InRange}

-- a text was put, and one for which there was no room was not
put_going : {t out out' : List ℕ} {p r : ℕ} → r ≤ length out → Put t out p out' r → Going t out p out' r
put_going h q = record { put = λ _. q; within = let e = kept q in omega arith; same = kept q }

none_going : {t out out' : List ℕ} {p : ℕ} → p ≤ length out → length out < p + length t → out' ≡ out → Going t out p out' p
none_going h k e = record { put = λ g. absurd (omega (arith, g, k)); within = rw e h; same = ap length e }

-- what a writer put into the output from a place on
module _ (t out : List ℕ) (p : ℕ) (h : p ≤ length out) {l' : List ℕ} {w : Result ℕ Refusal}
    (ew : w ≡ answer false t (length (take (length out - p) (drop p out)))) (el : l' ≡ afterwards false t (take (length out - p) (drop p out))) where
  pub in-64 : length out ≤ 18446744073709551615 → InRange p w
  in-64 k = λ n e. omega (arith, in-range t out p h ew el e)

  pub going : {r : ℕ} → r ≡ advanced_by p w → Going t out p (put_mid p (length out - p) out l') r
  unfolding advanced_by
  going {r} e = by-writer w refl where
    by-writer : (x : Result ℕ Refusal) → w ≡ x → Going t out p (put_mid p (length out - p) out l') r
    by-writer (Ok n) q = let k : r ≡ p + n = e ∙ ap (advanced_by p) q in rw k (put_going (in-range t out p h ew el q) (put-done t out p h ew el q))
    by-writer (Err x) q = let k : r ≡ p = e ∙ ap (advanced_by p) q in let z = put-none t out p h ew el q in rw k (none_going h z.0 z.1)

-- nothing is put
pub going-none : (out : List ℕ) (p : ℕ) → p ≤ length out → Going [] out p out p
going-none out p h = record { put = λ _. nothing out p; within = h; same = refl }

-- one text, then another
pub going-both : {a b out m out' : List ℕ} {p q r : ℕ} → Going a out p m q → Going b m q out' r → Going (a ++ b) out p out' r
going-both {a} {b} {out} {p} g k =
    record {
      put = λ h. let x = g.put (first_fits a b out p h) in both x (k.put (room x b h));
      within = k.within;
      same = k.same ∙ g.same;
    }

pub told-both : {a b out m out' : List ℕ} {f g : Tally → Tally} {s q r : Said} → Told a f out s m q → Told b g m q out' r → Told (a ++ b) (λ (t : Tally). g (f t)) out s out' r
told-both {g} x y = record { text = going-both x.text y.text; tally = y.tally ∙ ap g x.tally }

-- all of it at the front of the output
pub at_start : {t out out' : List ℕ} {r : ℕ} → Going t out 0 out' r → length t ≤ length out → (r ≡ length t) × (out' ≡ t ++ drop (length t) out)
at_start {t} g h = let p = g.put (omega arith) in (p.behind ∙ zero-add (length t), at_front h p)
