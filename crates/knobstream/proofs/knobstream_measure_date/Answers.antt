use Rattle.knobstream.proofs.Direct.{no-season, text-of, measured-at-once}
use native.Mathlib.Omega.{arith}
use Rattle.knobstream.specs.Plain.{parts}
use Rattle.knobstream.specs.Back.{date_of}
use borrow.Author.Rules.{rules}
use Rattle.knobstream.proofs.knobstream_measure_date.Goals as goal

pub returns : goal.returns
returns c =
    let a = c.args in
    let v = c.day_word-a in
    let w = c.day_word-b in
    let l = c.four_bytes in
    let t = text-of a.shape a.uncertain a.approximate a.first a.second v.ensures.value w.ensures.value l.ensures.0 (omega arith) (omega arith) (omega arith) v.ensures.datetime_fits w.ensures.datetime_fits in
    let s = no-season a.shape a.uncertain a.approximate a.first a.second (c.seasoned.ensures c.if-seasoned.false) in
    measured-at-once v.result w.result l.result (date_of (parts a.shape a.uncertain a.approximate a.first a.second)) t s c.text_length-n.ensures.0 c.if-n-eq0.false
