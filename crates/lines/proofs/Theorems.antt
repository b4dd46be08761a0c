-- However a stream is cut into blocks, what is written is the answers to it. Assumes nothing.
use mathlib.Core.Path.{◌≡◌, refl, sym, ap, ◌∙◌, subst}
use mathlib.Core.Bool.{Bool}
use mathlib.Core.List.{List, [], ◌∷◌, ◌++◌, append-nil, append_assoc}
use Prim.Native.Nat.{ℕ, ◌≤◌}
use native.Mathlib.Omega.{arith}
use lib.ListN.{length, take, drop, take-append-drop}
use Rattle.puts.specs.Answers.{Put}
use Rattle.frames.proofs.Parts.{first-is}
use Rattle.lines.specs.declared.Taken.{Taken}
use Rattle.lines.specs.Lines.{lines_from, rest_from, answers_to, last_answer, answers_of, NoFeed}
use Rattle.lines.specs.Steps.{Way, Before, Stepped, Finished}
use Rattle.lines.specs.Steps.Before.{nothing as none_before}
use Rattle.lines.specs.Runs.{Run}
use Rattle.lines.specs.Runs.Run.{start, read, step}
use Rattle.lines.proofs.Cuts.{lines_cut, rest-cut, answers-both, no_lines, all_rest}
use Rattle.lines.proofs.Replies.{fitting}

-- what was put is the front of the output
put_is : {t out out' : List ℕ} {r : ℕ} → Put t out 0 out' r → r ≤ length out → take r out' ≡ t
put_is {t} p h = first-is p (let e = p.behind in omega arith)

-- what was read is what has gone through the block and what is in it; written are the answers to the lines that are gone
record Known (answer : List ℕ → List ℕ) (limit : ℕ) (s b : List ℕ) (long : Bool) (w : List ℕ) : Type 0 where
  gone : List ℕ
  split : s ≡ gone ++ b
  before : Before limit long (rest_from [] gone)
  written : w ≡ answers_to answer (lines_from [] gone)

module _ {answer : List ℕ → List ℕ} {limit : ℕ} where
  known_step : {s b w out out' : List ℕ} {long : Bool} {r : Taken} → Known answer limit s b long w → Stepped answer limit long b out r out'
      → Known answer limit s (drop r.bytes b) r.long (w ++ take r.put out')
  known_step {b} {out'} {r} n t =
      let g = n.gone in
      let a = take r.bytes b in
      record {
        gone = g ++ a;
        split = n.split ∙ ap (λ (l : List ℕ). g ++ l) (sym (take-append-drop r.bytes b)) ∙ sym (append_assoc g a (drop r.bytes b));
        before = subst (Before limit r.long) (sym (rest-cut [] g a)) (t.kept (rest_from [] g) n.before);
        written =
            ap (λ (l : List ℕ). l ++ take r.put out') n.written
            ∙ ap (λ (l : List ℕ). answers_to answer (lines_from [] g) ++ l) (put_is (t.answered (rest_from [] g) n.before) t.room)
            ∙ sym (ap (answers_to answer) (lines_cut [] g a) ∙ answers-both answer (lines_from [] g) (lines_from (rest_from [] g) a));
      }

  known : {s b w : List ℕ} {long : Bool} → Run answer limit s b long w → Known answer limit s b long w
  unfolding lines_from rest_from answers_to
  known start = record { gone = []; split = refl; before = none_before; written = refl }
  known (read {b = b} new r) =
      let n = known r in
      record { gone = n.gone; split = ap (λ (l : List ℕ). l ++ new) n.split ∙ append_assoc n.gone b new; before = n.before; written = n.written }
  known (step r t) = known_step (known r) t

-- the last answer is no longer than any other
last-most : {answer : List ℕ → List ℕ} {limit most : ℕ} {refused : List ℕ} → Way answer limit most refused → (l : List ℕ) → length (last_answer answer l) ≤ most
unfolding last_answer
last-most y [] = omega arith
last-most y (x ∷ l) = y.at_most (x ∷ l)

module _ {answer : List ℕ → List ℕ} {limit : ℕ} {s b w : List ℕ} {long : Bool} (r : Run answer limit s b long w) (h : NoFeed b) where
  -- where no line feed is left in the block, every complete line that was read is answered, and nothing else is written: so before each read
  pub all-answered : w ≡ answers_to answer (lines_from [] s)
  all-answered =
      let n = known r in
      n.written
      ∙ sym (ap (answers_to answer)
      (ap (lines_from []) n.split
      ∙ lines_cut [] n.gone b
      ∙ ap (λ (l : List (List ℕ)). lines_from [] n.gone ++ l) (no_lines (rest_from [] n.gone) b h)
      ∙ append-nil (lines_from [] n.gone)))

  rest-is : rest_from [] s ≡ rest_from [] (known r).gone ++ b
  rest-is = let n = known r in ap (rest_from []) n.split ∙ rest-cut [] n.gone b ∙ all_rest (rest_from [] n.gone) b h

  -- and at the end of the stream, with the last line, all that was written is the answers to the stream
  pub all-of-it : {most : ℕ} {refused out out' : List ℕ} {m : ℕ} → Way answer limit most refused → most ≤ length out → Finished answer limit long b out m out'
      → w ++ take m out' ≡ answers_of answer s
  unfolding answers_of
  all-of-it {out} {out'} {m} y fit f =
      let n = known r in
      let l = rest_from [] n.gone ++ b in
      let p = fitting (f.answered (rest_from [] n.gone) n.before) (let g = last-most y l in omega arith) in
      ap (λ (x : List ℕ). x ++ take m out') all-answered
      ∙ ap (λ (x : List ℕ). answers_to answer (lines_from [] s) ++ x)
      (first-is p (let g = last-most y l in omega arith) ∙ ap (last_answer answer) (sym rest-is))
