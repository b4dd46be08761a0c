use mathlib.Core.Path.{◌∙◌}
use Rattle.codes.proofs.Laws.{timed-is}
use borrow.Author.Rules.{rules}
use Rattle.codes.proofs.timed.Goals as goal

pub returns-then-d : goal.returns-then-d
returns-then-d c =
    let a = c.args in
    let t = timed-is a.s.now a.marks c.day_word-d.ensures c.clock-c.ensures c.zone-z.ensures in
    c.no_words.ensures ∙ t.no_day c.if-d.true

pub returns-then-c : goal.returns-then-c
returns-then-c c =
    let a = c.args in
    let t = timed-is a.s.now a.marks c.day_word-d.ensures c.clock-c.ensures c.zone-z.ensures in
    c.no_words-then-c.ensures ∙ t.no_clock c.if-c.true

pub returns-then-z : goal.returns-then-z
returns-then-z c =
    let a = c.args in
    let t = timed-is a.s.now a.marks c.day_word-d.ensures c.clock-c.ensures c.zone-z.ensures in
    c.no_words-then-z.ensures ∙ t.no_zone c.if-z.true

pub overflow_add-result : goal.overflow_add-result
overflow_add-result c =
    let a = c.args in
    let t = timed-is a.s.now a.marks c.day_word-d.ensures c.clock-c.ensures c.zone-z.ensures in
    record { fits = t.room c.if-c.false c.if-z.false }

pub returns : goal.returns
returns c =
    let a = c.args in
    let t = timed-is a.s.now a.marks c.day_word-d.ensures c.clock-c.ensures c.zone-z.ensures in
    t.said c.if-d.false c.if-c.false c.if-z.false
