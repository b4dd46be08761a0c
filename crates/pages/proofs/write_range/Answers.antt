use Rattle.pages.proofs.Written.{length-range, no_room, done}
use Rattle.pages.specs.Text.{written_range}
use Rattle.std.specs.Prelude.{Err}
use native.Mathlib.Omega.{arith}
use mathlib.Core.Path.{ap, ◌∙◌}
use borrow.Author.Rules.{rules}
use Rattle.pages.proofs.write_range.Goals as goal

pub overflow_add-first : goal.overflow_add-first
overflow_add-first c = omega (arith, c.width-first.ensures.upper_bound (omega arith), c.width-second.ensures.upper_bound (omega arith))

pub overflow_add-first-2 : goal.overflow_add-first-2
overflow_add-first-2 c = omega (arith, c.width-first.ensures.upper_bound (omega arith), c.width-second.ensures.upper_bound (omega arith))

pub returns-then-out-first : goal.returns-then-out-first
returns-then-out-first c =
    let t = written_range c.args.start c.args.end in
    let g = length-range c.args.start c.args.end in
    let q = no_room t c.args.out.now (omega (arith, c.width-first.ensures.value, c.width-second.ensures.value, g, c.if-out-first.true)) in
    record { value = ap Err c.nowhere.ensures ∙ q.0; out_after = q.1; end_len_bound = omega (arith, c.width-first.ensures.value, c.width-first.ensures.upper_bound (omega arith), c.width-second.ensures.value, c.width-second.ensures.upper_bound (omega arith), g) }

pub put_text-requires : goal.put_text-requires
put_text-requires c =
    let g = length-range c.args.start c.args.end in
    (c.width-first.ensures.value, c.width-second.ensures.value, omega (arith, c.width-first.ensures.value, c.width-second.ensures.value, g, c.if-out-first.false))

pub returns : goal.returns
returns c =
    let t = written_range c.args.start c.args.end in
    let g = length-range c.args.start c.args.end in
    let q = done t c.args.out.now (omega (arith, c.width-first.ensures.value, c.width-second.ensures.value, g, c.if-out-first.false)) c.put_text.ensures in
    record { value = q.0; out_after = q.1; end_len_bound = omega (arith, c.width-first.ensures.value, c.width-first.ensures.upper_bound (omega arith), c.width-second.ensures.value, c.width-second.ensures.upper_bound (omega arith), g) }
