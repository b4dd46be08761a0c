use Rattle.codes.proofs.Writing.{shaped-fits, all-put, no_room, not_plain}
use Rattle.codes.specs.Back.{is_set, words_text}
use Rattle.puts.proofs.Puts.{both, room, front}
use mathlib.Core.Path.{sym, ◌∙◌}
use native.Mathlib.Omega.{arith}
use lib.ListN.{length}
use Rattle.puts.specs.Marks.{mark_text}
use Prim.Native.Nat.{◌/◌, ◌%◌, ◌≤◌}
use borrow.Author.Rules.{rules}
use Rattle.codes.proofs.put_text.Goals as goal

pub put_shaped-k-requires : goal.put_shaped-k-requires
put_shaped-k-requires c =
    (sym c.is_plain.ensures ∙ c.if-is_plain.true, shaped-fits c.args.first c.args.second c.args.last c.args.out.now (omega (arith, c.words_length.ensures.0)))

pub returns-then-words_length-out : goal.returns-then-words_length-out
unfolding words_text
returns-then-words_length-out c =
    let h : length (words_text c.args.first c.args.second c.args.last) ≤ length c.args.out.now = omega (arith, c.words_length.ensures.0) in let p = c.put_shaped-k.ensures in let q = c.put_mark.ensures.put (room p (mark_text (is_set (c.args.last / 256 % 256)) (is_set (c.args.last / 65536 % 256))) (front (words_text c.args.first c.args.second c.args.last) c.args.out.now h)) in let both = all-put c.args.first c.args.second c.args.last (sym c.is_plain.ensures ∙ c.if-is_plain.true) h (both p q) in record { value = both.0; out_after = both.1 }

pub returns-else-words_length-out : goal.returns-else-words_length-out
returns-else-words_length-out c =
    let both = no_room c.args.first c.args.second c.args.last (sym c.is_plain.ensures ∙ c.if-is_plain.true) (omega (arith, c.words_length.ensures.0)) in record { value = both.0; out_after = both.1 }

pub returns-else-is_plain : goal.returns-else-is_plain
returns-else-is_plain c =
    let both = not_plain c.args.first c.args.second c.args.last (sym c.is_plain.ensures ∙ c.if-is_plain.false) in record { value = both.0; out_after = both.1 }
