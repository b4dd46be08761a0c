-- What was kept of a block and what was read behind it; a turn of steps and a read; and that steps that wait leave room to read.
-- Assumes nothing.
use mathlib.Core.Path.{◌≡◌, refl, ap, ◌∙◌}
use mathlib.Core.Bool.{Bool, true, false}
use mathlib.Core.List.{List, [], ◌∷◌, ◌++◌, append-nil}
use Prim.Native.Nat.{ℕ, ◌+◌, ◌-◌, ◌≤◌, ◌<◌}
use native.Mathlib.Omega.{arith}
use borrow.Author.Tests.{eqb-true, eqb-false}
use borrow.Rule.Slice.PartMut.{put_mid}
use lib.Dec.{eqb}
use lib.ListN.{length, take, drop, length-drop}
use lib.Seq.{length-take-le, drop-drop}
use Rattle.std.specs.Prelude.{Option, Some, None, IfSome}
use Rattle.runs.specs.Runs.{Onward}
use Rattle.runs.specs.Runs.Run.{read, end}
use Rattle.blocks.specs.Moves.{moved_down}
use Rattle.blocks.proofs.Laws.{part-is, moved-kept}
use Rattle.sheets.specs.declared.State.{State}
use Rattle.sheets.specs.Steps.{next}
use Rattle.sheets.proofs.Waits.{waits-short}
use Rattle.blocks.specs.Reads.{MayRead}
use Rattle.datecheck.specs.Goes.{Went, Refilled, Turned}
use Rattle.datecheck.specs.Goes.Went.{waits, full}
use Rattle.datecheck.specs.Goes.Refilled.{bytes, none}
use Rattle.datecheck.specs.declared.Progress.{Progress}
use Rattle.datecheck.specs.declared.Stop.{Stop}
use Rattle.datecheck.specs.declared.Stop.TheVariants.{Waits, Full}
use Rattle.datecheck.proofs.Filled.{filled}

nil-of : (s : List ℕ) → length s ≡ 0 → s ≡ []
nil-of [] h = refl
nil-of (b ∷ s) h = absurd (omega arith)

-- what was read stands behind what was kept, as many bytes as are counted; none is the end
module _ (b new : List ℕ) where
  read_some : (k : ℕ) → length new ≡ k → (t : Bool) → eqb k 0 ≡ t → Refilled b t (b ++ new)
  read_some k l true q =
      let z : length new ≡ 0 = l ∙ eqb-true k 0 q in
      rw (nil-of new z, append-nil b) none
  read_some k l false q =
      let e = eqb-false k 0 q in
      let z : 0 < length new = omega arith in
      bytes new z

  read-in : (r : Option ℕ) {k : ℕ} → r ≡ Some k → length new ≡ k → Refilled b (eqb k 0) (b ++ new)
  read-in r {k} e l = read_some k l (eqb k 0) refl

-- what is no failure counts no more bytes than were lent
within : (r : Option ℕ) {k : ℕ} (lent : ℕ) → r ≡ Some k → MayRead lent r → k ≤ lent
within r lent e m = rw e at m

-- in the buffer to whose front it was moved
module _ (buf m part : List ℕ) (from have : ℕ) (h : from ≤ have) (g : have ≤ length buf) (e : m ≡ moved_down from have buf) (l : length m ≡ length buf)
    (p : length part ≡ length buf - (have - from)) where
  abbrev after : List ℕ
  after = put_mid (have - from) (length m - (have - from)) m part

  front-is : (count : ℕ) → count ≤ length part → take (have - from + count) after ≡ drop from (take have buf) ++ take count part
  front-is count k =
      filled m part (have - from) count (omega arith) k
      ∙ ap (λ (x : List ℕ). x ++ take count part) (ap (take (have - from)) e ∙ moved-kept from have buf h g)

  -- the part that was lent
  rest-long : length (take (length m - (have - from)) (drop (have - from) m)) ≡ length part
  rest-long = let d = length-drop (have - from) m in length-take-le (length m - (have - from)) (drop (have - from) m) (omega arith) ∙ omega arith

  pub refilled : (n : ℕ) → n ≤ length (take (length m - (have - from)) (drop (have - from) m))
      → Refilled (drop from (take have buf)) (eqb n 0) (take (have - from + n) after)
  refilled n r =
      let k = within (Some n) (length part) refl (rw rest-long at r) in
      rw (front-is n k) (read-in (drop from (take have buf)) (take n part) (Some n) refl (length-take-le n part k))

-- steps that wait do so before the file's end, and have left little
pub waits-little : {last : Bool} {b b' put : List ℕ} {st st' : State} → Went last b st Waits b' st' put → (last ≡ false) × (length b' ≤ 65539)
waits-little {last} {b'} {st'} (waits o e) = waits-short last b' st' e

-- a run goes on to where they ended
pub went-onward : {last : Bool} {b b' put : List ℕ} {st st' : State} → Went last b st Waits b' st' put → Onward next last b st b' st' put
went-onward (waits o e) = o

pub full-onward : {last : Bool} {b b' put : List ℕ} {st st' : State} → Went last b st Full b' st' put → Onward next last b st b' st' put
full-onward (full o) = o

-- a turn that stopped for room
pub full-turned : {last : Bool} {b b' out : List ℕ} {st st' : State} {put : ℕ} → put ≤ length out → Went last b st Full b' st' (take put out) → Turned last b st out last b' st'
full-turned {put} h g = record { new = []; put = put; fits = h; run = λ {s} r. rw (append-nil s) ((full-onward g).run r) }

-- a turn that waited, and then read
pub wait-turned : {last last' : Bool} {b b' b'' out : List ℕ} {st st' : State} {put : ℕ} → put ≤ length out → Went last b st Waits b' st' (take put out)
    → Refilled b' last' b'' → Turned last b st out last' b'' st'
wait-turned {put} h g (bytes more k) = record { new = more; put = put; fits = h; run = λ r. read more (rw (waits-little g).0 at ((went-onward g).run r)) }
wait-turned {put} h g none = record { new = []; put = put; fits = h; run = λ {s} r. rw (append-nil s) (end (rw (waits-little g).0 at ((went-onward g).run r))) }

-- the steps over the bytes of a buffer from a place to another
module _ (buf out : List ℕ) (from have at put : ℕ) (h : from ≤ have) (g : have ≤ length buf) (i : at ≤ length (take (have - from) (drop from buf)))
    {last : Bool} {st st' : State} {stop : Stop} (w : Went last (take (have - from) (drop from buf)) st stop (drop at (take (have - from) (drop from buf))) st' (take put out)) where
  part-long : length (take (have - from) (drop from buf)) ≡ have - from
  part-long = length-take-le (have - from) (drop from buf) (omega (arith, length-drop from buf))

  went : {x : Stop} → stop ≡ x → Went last (drop from (take have buf)) st x (drop (from + at) (take have buf)) st' (take put out)
  went e = rw (part-is from have buf h g, drop-drop at from (take have buf), e) at w

  pub stays-in : from + at ≤ have
  stays-in = omega (arith, i, part-long)

  pub leaves-room : stop ≡ Waits → have - (from + at) ≤ 65539
  leaves-room e = omega (arith, (waits-little (went e)).1, length-drop (from + at) (take have buf), length-take-le have buf g)

  pub turned-full : put ≤ length out → stop ≡ Full → Turned last (drop from (take have buf)) st out last (drop (from + at) (take have buf)) st'
  turned-full k e = full-turned k (went e)

  pub turned-waits : (after : List ℕ) (r : Option Progress) → put ≤ length out → stop ≡ Waits
      → IfSome r (λ q. (q.state ≡ st') × Refilled (drop (from + at) (take have buf)) q.last (drop q.from (take q.have after)))
      → IfSome r (λ q. Turned last (drop from (take have buf)) st out q.last (drop q.from (take q.have after)) q.state)
  turned-waits after None k e n = n
  turned-waits after (Some q) k e n = rw n.0 (wait-turned k (went e) n.1)
