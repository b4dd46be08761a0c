-- A line whose length is given, or 0 where there is no room for it; and that no line is empty. Assumes nothing.
use mathlib.Core.Path.{◌≡◌, refl, ◌∙◌}
use mathlib.Core.Bool.{Bool, false}
use mathlib.Core.List.{List, [], ◌∷◌}
use Prim.Native.Nat.{ℕ, ◌<◌}
use native.Mathlib.Omega.{arith}
use lib.Dec.{leb}
use lib.ListN.{length, length-append}
use borrow.Author.Tests.{leb-true, leb-false, eq-eqb, ne_eqb}
use Rattle.chars.specs.Pick.{pick}
use Rattle.chars.proofs.Cases.{of_test, by-test}
use Rattle.dates.specs.declared.Date.{Date}
use Rattle.refusals.specs.declared.Refusal.{Refusal}
use Rattle.std.specs.Prelude.{Result, Ok, Err}
use Rattle.codes.specs.declared.Words.{Words}
use Rattle.puts.specs.Answers.{decided, answer, afterwards, Tried}
use Rattle.answers.specs.Answer.{line_of, hex_text, measured_line, answer_line, level_line}
use Rattle.answers.specs.Coded.{words_line}
use Rattle.answers.specs.Lengths.{answered}
use Rattle.answers.proofs.Lines.{no_line, line-done}

-- what is answered by the length
pub tried-answer : (t l : List ℕ) → 0 < length t → {m : List ℕ} {n : ℕ} → Tried t l 0 m n → {w : Result ℕ Refusal} → w ≡ answered n
    → (w ≡ answer false t (length l)) × (m ≡ afterwards false t l)
unfolding answered decided pick
tried-answer t l g {m} {n} p {w} e =
    of_test (leb (length t) (length l))
    (λ q.
    let h = leb-true (length t) (length l) q in
    let u = p.put (omega arith) in
    let b = u.behind in
    let d = line-done t l h u in
    let k : w ≡ Ok n = e ∙ rw (ne_eqb n 0 (λ z. omega arith)) refl in
    (k ∙ d.0, d.1))
    (λ q.
    let h = leb-false (length t) (length l) q in
    let u = p.not_put (omega arith) in
    let k : w ≡ decided (Ok 1) 0 = e ∙ rw (eq-eqb n 0 u.1) refl in
    let d = no_line t l h k in
    (d.0, u.0 ∙ d.1))

-- each line has its line feed
line-some : (bytes : List ℕ) → 0 < length (line_of bytes)
line-some bytes = omega (arith, length-append (hex_text bytes) (10 ∷ []))

pub words-some : (w : Words) (text : List ℕ) → 0 < length (words_line w text)
unfolding words_line
words-some w text = by-test (λ (l : List ℕ). 0 < length l) _ (λ _. line-some _) (λ _. line-some _)

measured-some : (level : Bool) (d : Date) (t : List ℕ) (m : Result ℕ Refusal) → 0 < length (measured_line level d t m)
unfolding measured_line
measured-some level d t (Ok n) = line-some _
measured-some level d t (Err e) = line-some _

pub answer-some : (r : Result Date Refusal) → 0 < length (answer_line r)
unfolding answer_line
answer-some (Ok d) = measured-some _ d _ _
answer-some (Err e) = line-some _

pub level-some : (r : Result Date Refusal) → 0 < length (level_line r)
unfolding level_line
level-some (Ok d) = measured-some _ d _ _
level-some (Err e) = line-some _
