use mathlib.Core.Path.{◌≡◌, refl, sym, ◌∙◌}
use native.Mathlib.Omega.{arith}
use lib.ListN.{set, length-set, replicate}
use Rattle.chronology.proofs.Columns.{room, kept-end}
use Rattle.chronology.proofs.Marks.{marked-end, marked-here, pass-stops, pass-goes, pass-marks}
use Rattle.chronology.proofs.well_kept.Goals as goal

pub loop-i-init : goal.loop-i-init
loop-i-init c =
    let n = c.args.count.now in
    let r = room _ c.requires.1 c.requires.0 in
    (kept-end _ r n (omega arith), marked-end (replicate 4096 0) c.args.ids.now n n (omega arith) (omega (arith, c.requires.0, c.requires.1.of_ids)), refl)

pub kept_at-requires : goal.kept_at-requires
kept_at-requires c =
    (omega arith, c.requires.0, c.requires.1, marked-here _ (room _ c.requires.1 c.requires.0) c.loop-i.marks c.loop-i.i c.loop-i-test.true (omega arith) c.loop-i.invariant.1)

pub returns-then-not-kept_at : goal.returns-then-not-kept_at
returns-then-not-kept_at c =
    pass-stops _ (room _ c.requires.1 c.requires.0) c.loop-i.marks c.loop-i.i c.loop-i-test.true (omega arith) (sym c.kept_at.ensures ∙ c.if-not-kept_at.true)

pub loop-i-preserved : goal.loop-i-preserved
loop-i-preserved c =
    let l = c.loop-i in
    let r = room _ c.requires.1 c.requires.0 in
    let h = c.loop-i-test.true in
    let at = c.mark_of-at.ensures in
    let other = c.other_mark_of-other.ensures in (
      pass-goes _ r l.marks l.i h (omega arith) (sym c.kept_at.ensures ∙ c.if-not-kept_at.false) l.invariant.0,
      pass-marks _ r l.marks l.i h (omega arith) at.0 other.0 (omega (arith, at.1, l.invariant.2)) (omega (arith, other.1, l.invariant.2)) l.invariant.1,
      length-set (set l.marks _ 1) _ _ ∙ length-set l.marks _ _ ∙ l.invariant.2,
    )

pub returns : goal.returns
returns c =
    let z : c.loop-i.i ≡ 0 = omega arith in
    sym (rw z at c.loop-i.invariant.0)
