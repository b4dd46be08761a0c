-- The lines of words, by the operation. Assumes nothing.
use mathlib.Core.Path.{◌≡◌, refl, sym, ap, subst, ◌∙◌}
use mathlib.Core.Bool.{true, false, false≢true}
use Prim.Native.Nat.{◌≤◌}
use Rattle.refusals.specs.declared.Refusal.{Refusal}
use Rattle.dates.specs.declared.Date.{Date}
use Rattle.std.specs.Prelude.{Result, Err}
use Rattle.codes.specs.declared.Words.{Words}
use Rattle.codes.specs.Words.{words_of}
use Rattle.codes.specs.Typed.{Typed}
use Rattle.codes.proofs.Laws.{last-refused}
use Rattle.answers.specs.Answer.{refused_line, answer_line, level_line}
use Rattle.answers.specs.Coded.{refused_words}
use Rattle.answers.proofs.Coded.{refused-coded}
use Rattle.frames.specs.declared.Operation.{Operation}
use Rattle.frames.specs.declared.Operation.TheVariants.{Ported, Strict, LevelOne, ThreeFields, Unknown}
use Rattle.frames.specs.Frame.{bad_frame, line_by}
use Rattle.frames.specs.Room.{by_level}

-- the words of an answer, and that its numbers are of their types
abbrev pub Says : Words → Result Date Refusal → Type 0
Says w x = (w ≡ words_of x) × Typed x

-- of the same answer
pub carried : {w : Words} {x y : Result Date Refusal} → x ≡ y → Says w x → Says w y
carried {w} e h = subst (Says w) e h

-- a refusal has the same line by each operation
same-refusal : (op : Operation) (e : Refusal) → refused_line e ≡ line_by op (Err e)
unfolding line_by answer_line level_line
same-refusal Ported e = refl
same-refusal Strict e = refl
same-refusal LevelOne e = refl
same-refusal ThreeFields e = refl
same-refusal Unknown e = refl

-- words that say one
pub refusal-line : (op : Operation) {w : Words} → 4294967296 ≤ w.last → (x : Result Date Refusal) → w ≡ words_of x → refused_words w ≡ line_by op x
refusal-line op h x e =
    let r = last-refused x (rw e at h) in
    refused-coded r.0 (e ∙ ap words_of r.1) ∙ same-refusal op r.0 ∙ ap (line_by op) (sym r.1)

-- the line of each operation
pub level-line : (op : Operation) → by_level op ≡ true → (x : Result Date Refusal) → level_line x ≡ line_by op x
unfolding by_level line_by
level-line Ported e x = absurd (false≢true e)
level-line Strict e x = absurd (false≢true e)
level-line LevelOne e x = refl
level-line ThreeFields e x = absurd (false≢true e)
level-line Unknown e x = absurd (false≢true e)

pub other-line : (op : Operation) → by_level op ≡ false → (x : Result Date Refusal) → answer_line x ≡ line_by op x
unfolding by_level line_by
other-line Ported e x = refl
other-line Strict e x = refl
other-line LevelOne e x = absurd (false≢true (sym e))
other-line ThreeFields e x = refl
other-line Unknown e x = refl

-- no frame
pub bad-line : {w : Words} → w ≡ words_of bad_frame → refused_words w ≡ answer_line bad_frame
unfolding answer_line
bad-line e = refused-coded _ e
