-- The answer to a line by its length: 0 where there is no room for it, since none is empty. Assumes nothing.
use mathlib.Core.Path.{◌≡◌, sym, ap, ◌∙◌}
use mathlib.Core.Bool.{false}
use mathlib.Core.List.{List, ◌++◌}
use Prim.Native.Nat.{ℕ, ◌<◌}
use native.Mathlib.Nat.{zero-add}
use native.Mathlib.Omega.{arith}
use lib.Dec.{leb}
use lib.ListN.{length, drop}
use borrow.Author.Tests.{leb-true, leb-false}
use Rattle.chars.specs.Pick.{pick}
use Rattle.chars.proofs.Cases.{of_test, by-test}
use Rattle.chunks.proofs.Fill.{stored-front}
use Rattle.dates.specs.declared.Date.{Date}
use Rattle.refusals.specs.declared.Refusal.{Refusal}
use Rattle.std.specs.Prelude.{Result}
use Rattle.hexes.specs.Hex.{is_hex, bytes_of}
use Rattle.puts.specs.Answers.{measured, decided, answer, left, afterwards, Tried}
use Rattle.puts.proofs.Puts.{with-room, without-room}
use Rattle.answers.proofs.Lengths.{answer-some, level-some}
use Rattle.frames.specs.declared.Operation.{Operation}
use Rattle.frames.specs.declared.Operation.TheVariants.{Ported, Strict, LevelOne, ThreeFields, Unknown}
use Rattle.frames.specs.Frame.{bad_frame, frame_read, line_by, frame_answer, line_answer}
use Rattle.frames.specs.Room.{operation_of, length_in}

-- what was answered, by its length
pub answer-tried : (t l : List ℕ) {m : List ℕ} {w : Result ℕ Refusal} → w ≡ answer false t (length l) → m ≡ afterwards false t l → {n : ℕ} → n ≡ length_in w → Tried t l 0 m n
unfolding answer decided measured afterwards left pick length_in
answer-tried t l {m} {w} ew em {n} en =
    of_test (leb (length t) (length l))
    (λ q.
    let h = leb-true (length t) (length l) q in
    let c : n ≡ length t = en ∙ ap length_in (rw q at ew) in
    let o : m ≡ t ++ drop (length t) l = rw q at em in
    with-room (omega arith) (record { behind = c ∙ sym (zero-add (length t)); bytes = o ∙ sym (stored-front l t h) }))
    (λ q.
    let h = leb-false (length t) (length l) q in
    let c : n ≡ 0 = en ∙ ap length_in (rw q at ew) in
    let o : m ≡ l = rw q at em in
    rw (c, o) (without-room t l 0 (omega arith)))

by-some : (op : Operation) (r : Result Date Refusal) → 0 < length (line_by op r)
unfolding line_by
by-some Ported r = answer-some r
by-some Strict r = answer-some r
by-some LevelOne r = level-some r
by-some ThreeFields r = answer-some r
by-some Unknown r = answer-some r

-- no answer is empty
pub frames-some : (line : List ℕ) → 0 < length (line_answer line)
unfolding line_answer frame_answer
frames-some line =
    by-test (λ (l : List ℕ). 0 < length l) (is_hex line 8192) (λ _. by-some (operation_of (bytes_of line)) (frame_read (bytes_of line))) (λ _. answer-some bad_frame)
