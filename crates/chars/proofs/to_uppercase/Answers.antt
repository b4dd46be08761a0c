use mathlib.Core.Path.{sym, ◌∙◌}
use native.Mathlib.Omega.{arith}
use Rattle.chars.proofs.Uppers.{loses-above}
use Rattle.chars.specs.Pick.{pick}
use Rattle.chars.specs.Upper.{upper_of}
use borrow.Author.Tests.{eq-eqb, ne_eqb}
use borrow.Author.Rules.{rules}
use Rattle.chars.proofs.to_uppercase.Goals as goal

pub overflow_sub-result : goal.overflow_sub-result
overflow_sub-result c = omega (arith, loses-above c.args.code (sym c.loses_32.ensures ∙ c.if-loses_32.true))

pub returns-then-loses_32 : goal.returns-then-loses_32
unfolding upper_of pick
returns-then-loses_32 c =
    simp (← c.loses_32.ensures, c.if-loses_32.true)

pub returns-then-code-eq255 : goal.returns-then-code-eq255
unfolding upper_of pick
returns-then-code-eq255 c =
    simp (← c.loses_32.ensures, c.if-loses_32.false, eq-eqb _ _ c.if-code-eq255.true)

pub returns-then-code-eq181 : goal.returns-then-code-eq181
unfolding upper_of pick
returns-then-code-eq181 c =
    simp (← c.loses_32.ensures, c.if-loses_32.false, ne_eqb _ _ c.if-code-eq255.false, eq-eqb _ _ c.if-code-eq181.true)

pub returns-then-code-eq223 : goal.returns-then-code-eq223
unfolding upper_of pick
returns-then-code-eq223 c =
    simp (← c.loses_32.ensures, c.if-loses_32.false, ne_eqb _ _ c.if-code-eq255.false, ne_eqb _ _ c.if-code-eq181.false, eq-eqb _ _ c.if-code-eq223.true)

pub returns : goal.returns
unfolding upper_of pick
returns c =
    simp (← c.loses_32.ensures, c.if-loses_32.false, ne_eqb _ _ c.if-code-eq255.false, ne_eqb _ _ c.if-code-eq181.false, ne_eqb _ _ c.if-code-eq223.false)
