use Rattle.chunks.proofs.Lengths.{ascii-on}
use Rattle.chunks.specs.Plain.{plain_out, all_ascii, plain_text}
use Rattle.chunks.proofs.Fill.{fill-put, fill_end}
use Rattle.chars.specs.Classes.{is_whitespace}
use Rattle.chunks.proofs.Plains.{front_low, plain-short}
use mathlib.Core.Bool.{Bool}
use mathlib.Core.List.{List, ◌++◌}
use native.Mathlib.Numerals.{add-one}
use lib.Seq.{drop-cons}
use lib.ListN.{drop, get_or, drop_of_length-le}
use Prim.Native.Nat.{◌+◌, ◌<◌, ℕ, suc}
use native.Mathlib.Omega.{arith}
use mathlib.Core.Path.{sym, ap, ◌∙◌, ◌≡◌}
use Rattle.chunks.proofs.put_plain_each.Goals as goal
use Rattle.chunks.proofs.put_plain_each.Goals.{In-loop-b}

-- in a turn: the byte is ASCII, and what is put out goes on behind it
module _ (c : In-loop-b) where
  abbrev t : List ℕ
  t = c.args.t.now

  abbrev u : Bool
  u = c.args.upper

  abbrev i : ℕ
  i = c.loop-b.b-index

  low : get_or t i 0 < 0x80
  low =
      front_low (get_or t i 0) (drop (suc i) t)
      (ap all_ascii (sym (drop-cons t i 0 c.loop-b-test.true)) ∙ c.loop-b.invariant.1 ∙ c.requires.1)

  on : (w : Bool) → plain_text u w (drop i t) ≡ plain_out u w (get_or t i 0) ++ plain_text u (is_whitespace (get_or t i 0)) (drop (i + 1) t)
  unfolding plain_text
  on w = rw (add-one, drop-cons t i 0 c.loop-b-test.true)

pub put_plain_byte-p-requires : goal.put_plain_byte-p-requires
put_plain_byte-p-requires c =
    (omega (arith, c.loop-b.invariant.2), low (goal.at.put_plain_byte-p-requires c).In-loop-b)

pub loop-b-preserved : goal.loop-b-preserved
loop-b-preserved c =
    let v = c.loop-b.invariant in
    let e = c.put_plain_byte-p.ensures in
    let b : ℕ = get_or (t (goal.at.loop-b-preserved c).In-loop-b) (i (goal.at.loop-b-preserved c).In-loop-b) 0 in (
      rw e.1 (fill-put (plain_out (u (goal.at.loop-b-preserved c).In-loop-b) c.loop-b.w b) (rw (on (goal.at.loop-b-preserved c).In-loop-b c.loop-b.w) at v.0) e.0 e.2),
      sym (ascii-on (t (goal.at.loop-b-preserved c).In-loop-b) (i (goal.at.loop-b-preserved c).In-loop-b) c.loop-b-test.true (low (goal.at.loop-b-preserved c).In-loop-b)) ∙ v.1,
      omega (arith, v.2, e.0, plain-short (u (goal.at.loop-b-preserved c).In-loop-b) c.loop-b.w b, c.put_plain_byte-p.auto.buf),
    )

pub returns : goal.returns
unfolding plain_text
returns c =
    let f = rw (drop_of_length-le c.args.t.now c.loop-b-test.false) at c.loop-b.invariant.0 in
    (omega (arith, fill_end f), f.same)
