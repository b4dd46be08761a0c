use Rattle.knobstream.proofs.Direct.{no-season, text-of, written-at-once, nothing_put, written-into}
use native.Mathlib.Omega.{arith}
use Rattle.knobstream.specs.Plain.{parts}
use Rattle.knobstream.specs.Back.{date_of}
use borrow.Author.Rules.{rules}
use Rattle.knobstream.proofs.knobstream_write_date.Goals as goal

pub returns-then-n-eq0 : goal.returns-then-n-eq0
returns-then-n-eq0 c =
    let a = c.args in
    let e = nothing_put c.day_word-a.result c.day_word-b.result c.four_bytes.result a.out.now c.put_text-n.ensures.value c.put_text-n.ensures.out_after c.if-n-eq0.true in
    let both = written-into (date_of (parts a.shape a.uncertain a.approximate a.first a.second)) e (c.write_far-then-n-eq0.ensures.value, c.write_far-then-n-eq0.ensures.out_after) in record { value = both.0; out_after = both.1 }

pub returns : goal.returns
returns c =
    let a = c.args in
    let v = c.day_word-a in
    let w = c.day_word-b in
    let l = c.four_bytes in
    let t = text-of a.shape a.uncertain a.approximate a.first a.second v.ensures.value w.ensures.value l.ensures.0 (omega arith) (omega arith) (omega arith) v.ensures.datetime_fits w.ensures.datetime_fits in
    let s = no-season a.shape a.uncertain a.approximate a.first a.second (c.seasoned.ensures c.if-seasoned.false) in
    let both = written-at-once v.result w.result l.result (date_of (parts a.shape a.uncertain a.approximate a.first a.second)) t s a.out.now c.put_text-n.ensures.value c.put_text-n.ensures.out_after c.if-n-eq0.false in record { value = both.0; out_after = both.1 }
