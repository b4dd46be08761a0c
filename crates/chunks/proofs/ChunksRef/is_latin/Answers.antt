use Rattle.chunks.specs.Check.{fault_of, or_else}
use Rattle.chunks.proofs.Tables.{chunks-over}
use Rattle.chunks.proofs.Turn.{standing_on, fault-turn, standing-start, sums, Standing}
use Rattle.chunks.proofs.Latins.{latin-clean}
use lib.ListN.{length}
use Prim.Native.Nat.{◌+◌, ◌*◌, ◌<◌}
use native.Mathlib.Omega.{arith}
use mathlib.Core.Path.{sym, ◌∙◌, refl, ◌≡◌}
use Rattle.chunks.proofs.ChunksRef.is_latin.Goals as goal
use Rattle.chunks.proofs.ChunksRef.is_latin.Goals.{In-loop-k}

-- in a turn
module _ (c : In-loop-k) where
  abbrev st : Standing c.args.self.bytes.now c.args.self.table.now c.loop-k.at (4 * c.loop-k.k)
  st = c.loop-k.invariant.stands

  more : 4 * c.loop-k.k < length c.args.self.table.now
  more = omega arith

pub loop-k-init : goal.loop-k-init
loop-k-init c = record { same = refl; stands = standing-start _ _ c.requires }

pub overflow_add-at : goal.overflow_add-at
overflow_add-at c = let q = (goal.at.overflow_add-at c).In-loop-k in omega (arith, sums (st q) (more q))

pub slice_bounds-all_latin-end : goal.slice_bounds-all_latin-end
slice_bounds-all_latin-end c = let q = (goal.at.slice_bounds-all_latin-end c).In-loop-k in omega (arith, sums (st q) (more q))

pub loop-k-preserved : goal.loop-k-preserved
unfolding or_else
loop-k-preserved c =
    let q = (goal.at.loop-k-preserved c).In-loop-k in
    let clean = latin-clean c.loop-k.at _ (sym c.all_latin.ensures ∙ c.if-not-all_latin.false) in
    let next : 4 * (c.loop-k.k + 1) ≡ 4 * c.loop-k.k + 4 = omega arith in
    rw next (record { same = rw clean at (fault-turn (st q) (more q)) ∙ c.loop-k.invariant.same; stands = standing_on (st q) (more q) })

pub returns : goal.returns
unfolding fault_of
returns c = λ _.
    let v = c.loop-k.invariant in
    sym (rw (chunks-over c.args.self.table.now (4 * c.loop-k.k) (omega (arith, v.stands.fours))) at v.same)
