use Rattle.puts.specs.Marks.{mark_text}
use Rattle.puts.proofs.Puts.{marked, tried-as, tried-nothing}
use borrow.Author.Rules.{rules}
use Rattle.puts.proofs.put_mark.Goals as goal

pub returns-then-approximate : goal.returns-then-approximate
unfolding mark_text
returns-then-approximate c =
    tried-as (marked c.if-uncertain.true c.if-approximate.true) c.put_bytes.ensures

pub returns-then-uncertain : goal.returns-then-uncertain
unfolding mark_text
returns-then-uncertain c =
    tried-as (marked c.if-uncertain.true c.if-approximate.false) c.put_bytes-then-uncertain.ensures

pub returns-then-approximate-2 : goal.returns-then-approximate-2
unfolding mark_text
returns-then-approximate-2 c =
    tried-as (marked c.if-uncertain.false c.if-approximate-2.true) c.put_bytes-then-approximate-2.ensures

pub returns : goal.returns
unfolding mark_text
returns c =
    tried-as (marked c.if-uncertain.false c.if-approximate-2.false) (tried-nothing c.args.out.now c.args.at)
