use Rattle.answers.proofs.Digits.{at-line, after_line, before-line, between-line}
use borrow.Author.Rules.{rules}
use Rattle.answers.proofs.write_accepted.Goals as goal

-- src/lib.rt:297:1
pub returns-in-At : goal.returns-in-At
returns-in-At c =
    let a = c.args in
    let e = at-line a.level a.d a.text.now c.marks-m.ensures c.in-At.is in
    record { value = rw e at c.write_one.ensures.value; out_after = rw e at c.write_one.ensures.out_after }

-- src/lib.rt:297:1
pub returns-in-After : goal.returns-in-After
returns-in-After c =
    let a = c.args in
    let e = after_line a.level a.d a.text.now c.marks-m.ensures c.in-After.is in
    record { value = rw e at c.write_one-in-After.ensures.value; out_after = rw e at c.write_one-in-After.ensures.out_after }

-- src/lib.rt:297:1
pub returns-in-Before : goal.returns-in-Before
returns-in-Before c =
    let a = c.args in
    let e = before-line a.level a.d a.text.now c.marks-m.ensures c.in-Before.is in
    record { value = rw e at c.write_one-in-Before.ensures.value; out_after = rw e at c.write_one-in-Before.ensures.out_after }

-- src/lib.rt:297:1
pub returns-in-Between : goal.returns-in-Between
returns-in-Between c =
    let a = c.args in
    let e = between-line a.level a.d a.text.now c.marks-m.ensures c.in-Between.is in
    record { value = rw e at c.write_two.ensures.value; out_after = rw e at c.write_two.ensures.out_after }
