use mathlib.Core.Path.{sym, ap, ◌∙◌}
use mathlib.Core.Bool.{Bool, ◌&&◌}
use Prim.Native.Nat.{◌+◌}
use lib.ListN.{drop}
use Rattle.codes.specs.Ported.{are_word_bytes}
use Rattle.codes.proofs.Loops.{and_assoc, and_one, words_step, words-end}
use Rattle.codes.proofs.all_words.Goals as goal

pub loop-b-preserved : goal.loop-b-preserved
loop-b-preserved c =
    let t = c.args.t.now in
    let l = c.loop-b in
    let k = l.ok in
    let rest = are_word_bytes (drop (l.b-index + 1) t) in
    and_assoc k _ _ ∙ ap (λ (r : Bool). k && (r && rest)) c.is_word_byte-ok.ensures ∙ ap (λ (r : Bool). k && r) (sym (words_step t l.b-index c.loop-b-test.true)) ∙ l.invariant

pub returns : goal.returns
returns c =
    let t = c.args.t.now in
    let l = c.loop-b in
    let k = l.ok in
    and_one k ∙ ap (λ (r : Bool). k && r) (sym (words-end t l.b-index c.loop-b-test.false)) ∙ l.invariant
