-- What a step has done so far, and what it comes to at its end; the end of the stream. Assumes nothing.
use mathlib.Core.Path.{◌≡◌, refl, sym, ap, ◌∙◌, subst}
use mathlib.Core.Bool.{Bool, true, false, ◌&&◌, not, false≢true}
use mathlib.Core.List.{List, [], ◌∷◌, ◌++◌, append-nil}
use Prim.Native.Nat.{ℕ, suc, ◌+◌, ◌-◌, ◌≤◌, ◌<◌}
use native.Mathlib.Omega.{arith}
use borrow.Author.Tests.{ltb-true, ltb-false, eqb-true, not-true}
use lib.Dec.{ltb, eqb}
use lib.ListN.{length, take, drop, replicate, length-append, length-drop, length-replicate}
use lib.Seq.{take-length, drop-length}
use Rattle.chars.specs.Pick.{pick}
use Rattle.chars.proofs.Cases.{by-test, and-true}
use Rattle.puts.specs.Answers.{Put}
use Rattle.puts.proofs.Puts.{nothing, as-text, kept, both}
use Rattle.lines.specs.declared.Taken.{Taken}
use Rattle.lines.specs.Lines.{lines_from, rest_from, answers_to, last_answer, line_length, NoFeed}
use Rattle.lines.specs.Steps.{Before, next_answer, Replied, taken_at, Stepped, Finished}
use Rattle.lines.specs.Steps.Before.{nothing as none_before, too_long}
use Rattle.lines.specs.Steps.Replied.{was_put}
use Rattle.lines.proofs.Feeds.{at_most}
use Rattle.lines.proofs.Cuts.{answers-both, lines_next, rest-next, lines_end, rest_end}
use Rattle.lines.proofs.Replies.{moved, not-moved, replied-as}

-- ---- what stood before a block

pub is-long : {limit : ℕ} {l : Bool} {k : List ℕ} → Before limit l k → l ≡ true → limit < length k
is-long none_before e = absurd (false≢true e)
is-long (too_long h) e = h

pub is_none : {limit : ℕ} {l : Bool} {k : List ℕ} → Before limit l k → l ≡ false → length k ≡ 0
is_none none_before e = refl
is_none (too_long h) e = absurd (false≢true (sym e))

-- for each flag there is such a beginning
abbrev pub sample : ℕ → Bool → List ℕ
sample limit true = replicate (suc limit) 0
sample limit false = []

pub sample-before : (limit : ℕ) (l : Bool) → Before limit l (sample limit l)
sample-before limit true = too_long {k = replicate (suc limit) 0} (omega (arith, length-replicate {A = ℕ} (suc limit) 0))
sample-before limit false = none_before

-- ---- the answer to the next line

module _ {answer : List ℕ → List ℕ} {limit : ℕ} {refused : List ℕ} (alike : (line : List ℕ) → limit < length line → answer line ≡ refused) where
  -- it is the answer to the whole line
  whole-line : {l : Bool} {k : List ℕ} (line : List ℕ) → Before limit l k → next_answer answer refused l line ≡ answer (k ++ line)
  unfolding next_answer
  whole-line line none_before = refl
  whole-line {k} line (too_long h) = sym (alike (k ++ line) (omega (arith, length-append k line)))

  -- and not empty, as no answer is
  next-some : ((line : List ℕ) → 0 < length (answer line)) → (l : Bool) (line : List ℕ) → 0 < length (next_answer answer refused l line)
  next-some some l line =
      let h = some (sample limit l ++ line) in
      omega (arith, ap length (whole-line line (sample-before limit l)))

-- ---- a step so far

pub record Sofar (answer : List ℕ → List ℕ) (limit : ℕ) (long : Bool) (b out₀ : List ℕ) (out : List ℕ) (at : ℕ) (l : Bool) (p : ℕ) : Type 0 where
  pub inside : at ≤ length b
  pub room : p ≤ length out
  pub size : length out ≡ length out₀
  pub answered : (k : List ℕ) → Before limit long k → Put (answers_to answer (lines_from k (take at b))) out₀ 0 out p
  pub kept : (k : List ℕ) → Before limit long k → Before limit l (rest_from k (take at b))
  -- only the first line may be too long already
  pub first : l ≡ true → at ≡ 0

pub begun : (answer : List ℕ → List ℕ) (limit : ℕ) (long : Bool) (b out : List ℕ) → Sofar answer limit long b out out 0 long 0
unfolding lines_from rest_from answers_to
begun answer limit long b out =
    record {
      inside = omega arith;
      room = omega arith;
      size = refl;
      answered = λ k h. nothing out 0;
      kept = λ k h. h;
      first = λ _. refl;
    }

module _ {answer : List ℕ → List ℕ} {limit : ℕ} {long : Bool} {b out₀ out : List ℕ} {at : ℕ} {l : Bool} {p : ℕ} (s : Sofar answer limit long b out₀ out at l p) where
  abbrev rest : List ℕ
  rest = drop at b

  rest-length : length rest ≡ length b - at
  rest-length = length-drop at b

  pub end_in : {e : ℕ} → e ≡ at + line_length rest → e ≤ length b
  end_in g = let i = s.inside in omega (arith, at_most rest, rest-length)

  -- no line feed is left
  pub no_feed : {e : ℕ} → e ≡ at + line_length rest → e ≡ length b → NoFeed rest
  no_feed g h = let i = s.inside in omega (arith, rest-length)

  module _ {e : ℕ} (g : e ≡ at + line_length rest) (n : e ≡ length b → ⊥) where
    feed-left : line_length rest < length rest
    feed-left = let i = s.inside in omega (arith, at_most rest, rest-length, n)

    line-is : take (e - at) rest ≡ take (line_length rest) rest
    line-is = let m : e - at ≡ line_length rest = omega arith in ap (λ (i : ℕ). take i rest) m

    module _ {refused : List ℕ} (alike : (line : List ℕ) → limit < length line → answer line ≡ refused)
        {out' : List ℕ} {q : ℕ} (r : Replied (next_answer answer refused l (take (e - at) rest)) out p out' q) where
      -- the answer to the line as a whole
      line-answer : {k : List ℕ} → Before limit l k → next_answer answer refused l (take (e - at) rest) ≡ answer (k ++ take (line_length rest) rest)
      line-answer {k} h = whole-line alike (take (e - at) rest) h ∙ ap (λ (t : List ℕ). answer (k ++ t)) line-is

      -- the next line is answered
      pub next : (q ≡ p → ⊥) → Sofar answer limit long b out₀ out' (e + 1) false q
      unfolding answers_to
      next m =
          let d = moved r m in
          let there : at + suc (line_length rest) ≡ e + 1 = omega arith in
          record {
            inside = omega (arith, feed-left, rest-length);
            room = let x = kept d.1 in omega (arith, d.0, d.1.behind);
            size = kept d.1 ∙ s.size;
            answered = λ k h.
                as-text
                (rw there at (ap (answers_to answer) (lines_next k b at feed-left))
                ∙ answers-both answer (lines_from k (take at b)) ((rest_from k (take at b) ++ take (line_length rest) rest) ∷ [])
                ∙ ap (λ (t : List ℕ). answers_to answer (lines_from k (take at b)) ++ t)
                (append-nil (answer (rest_from k (take at b) ++ take (line_length rest) rest)) ∙ sym (line-answer (s.kept k h))))
                (both (s.answered k h) d.1);
            kept = λ k h. subst (Before limit false) (sym (rw there at (rest-next k b at feed-left))) none_before;
            first = λ x. absurd (false≢true x);
          }

      -- or there is no room for its answer
      pub stopped : ((line : List ℕ) → 0 < length (answer line)) → q ≡ p → Stepped answer limit long b out₀ (record { bytes = at; long = l; put = p; full = true }) out'
      unfolding pick
      stopped some m =
          let d = not-moved r (next-some alike some l (take (e - at) rest)) m in
          record {
            inside = s.inside;
            room = let i = s.room in omega (arith, s.size);
            answered = λ k h. subst (λ (o : List ℕ). Put (answers_to answer (lines_from k (take at b))) out₀ 0 o p) (sym d.1) (s.answered k h);
            kept = s.kept;
            all_or_none = s.first;
            over = λ x. absurd (false≢true (sym x));
            short = λ x. (feed-left, λ k h. omega (arith, d.0, s.size, ap length (line-answer h)));
          }

  -- no line feed is left: the rest is taken if its line is too long
  module _ (h : NoFeed rest) where
    all-taken : ((k : List ℕ) → Before limit long k → limit < length (rest_from k (take at b) ++ rest))
        → Stepped answer limit long b out₀ (record { bytes = length b; long = true; put = p; full = false }) out
    unfolding line_length pick
    all-taken g =
        record {
          inside = omega arith;
          room = let i = s.room in omega (arith, s.size);
          answered = λ k x.
              as-text
              (ap (λ (t : List ℕ). answers_to answer (lines_from k t)) (take-length b) ∙ ap (answers_to answer) (lines_end k b at h))
              (s.answered k x);
          kept = λ k x. too_long {k = rest_from k (take (length b) b)} (rw (take-length b, rest_end k b at h) (g k x));
          all_or_none = λ _. refl;
          over = λ _. rw (drop-length b) (refl, omega arith);
          short = λ x. absurd (false≢true x);
        }

    pub ended : Stepped answer limit long b out₀ (taken_at limit (length b) at l p) out
    unfolding taken_at
    ended =
        by-test (λ (r : Taken). Stepped answer limit long b out₀ r out) l
        (λ e. all-taken (λ k x. let g = is-long (s.kept k x) e in omega (arith, length-append (rest_from k (take at b)) rest)))
        (λ e.
        by-test (λ (r : Taken). Stepped answer limit long b out₀ r out) (ltb limit (length b - at))
        (λ q. all-taken (λ k x. let g = ltb-true limit (length b - at) q in omega (arith, length-append (rest_from k (take at b)) rest, rest-length)))
        (λ q.
        record {
          inside = s.inside;
          room = let i = s.room in omega (arith, s.size);
          answered = s.answered;
          kept = λ k x. subst (λ (y : Bool). Before limit y (rest_from k (take at b))) e (s.kept k x);
          all_or_none = λ x. absurd (false≢true x);
          over = λ _. (h, let g = ltb-false limit (length b - at) q in omega (arith, rest-length));
          short = λ x. absurd (false≢true x);
        }))

-- ---- the end of the stream

module _ (answer : List ℕ → List ℕ) where
  last_some : (l : List ℕ) → 0 < length l → last_answer answer l ≡ answer l
  unfolding last_answer
  last_some [] h = absurd (omega arith)
  last_some (x ∷ l) h = refl

  last_none : (l : List ℕ) → length l ≡ 0 → last_answer answer l ≡ []
  unfolding last_answer
  last_none [] h = refl
  last_none (x ∷ l) h = absurd (omega arith)

-- there is a last line if some bytes of one are left, or went before
some_left : {limit : ℕ} {long : Bool} {k : List ℕ} (b : List ℕ) → eqb (length b) 0 && not long ≡ false → Before limit long k → 0 < length (k ++ b)
some_left [] e none_before = absurd (false≢true (sym e))
some_left (x ∷ b) e none_before = omega arith
some_left {k} b e (too_long h) = omega (arith, length-append k b)

-- it is answered
pub finished : {answer : List ℕ → List ℕ} {limit : ℕ} {refused : List ℕ} → ((line : List ℕ) → limit < length line → answer line ≡ refused)
    → (long : Bool) (b out : List ℕ) {out' : List ℕ} {r : ℕ}
    → eqb (length b) 0 && not long ≡ false → Replied (next_answer answer refused long b) out 0 out' r → Finished answer limit long b out r out'
finished {answer} alike long b out e r =
    record { answered = λ k x. replied-as (last_some answer (k ++ b) (some_left b e x) ∙ sym (whole-line alike b x)) r }

-- or there is none
pub nothing_left : (answer : List ℕ → List ℕ) (limit : ℕ) (long : Bool) (b out : List ℕ) → eqb (length b) 0 && not long ≡ true → Finished answer limit long b out 0 out
nothing_left answer limit long b out e =
    let t = and-true (eqb (length b) 0) (not long) e in
    let n = eqb-true (length b) 0 t.0 in
    record {
      answered = λ k x.
          let z = is_none x (not-true long t.1) in
          replied-as (last_none answer (k ++ b) (omega (arith, length-append k b))) (was_put (omega arith) (nothing out 0));
    }
