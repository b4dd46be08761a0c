use native.Mathlib.Omega.{arith}
use Rattle.chunks.proofs.Plains.{other-out, plain-high, break-space, break-dropped, is-break-of, break-white}
use native.Mathlib.Nat.{add-zero}
use mathlib.Core.Path.{sym, ap, ◌∙◌, refl}
use Rattle.chars.specs.Classes.{is_whitespace}
use borrow.Author.Rules.{rules}
use Rattle.chunks.proofs.put_plain_byte.Goals as goal

pub returns-then-b-gt32 : goal.returns-then-b-gt32
returns-then-b-gt32 c =
    let a = c.args in
    let h = plain-high a.upper a.white a.b c.if-b-gt32.true c.requires.1 in
    rw (h.0, h.1) (refl, refl, rw c.plain_byte-u.ensures refl)

pub returns-then-white : goal.returns-then-white
returns-then-white c =
    let a = c.args in
    let k = is-break-of a.b c.wide-code.ensures c.is_break.ensures c.if-is_break.true in
    rw (break-dropped a.upper a.white a.b k c.if-white.true, break-white a.b k) (sym (add-zero _), refl, refl)

pub returns-then-is_break : goal.returns-then-is_break
returns-then-is_break c =
    let a = c.args in
    let k = is-break-of a.b c.wide-code.ensures c.is_break.ensures c.if-is_break.true in
    rw (break-space a.upper a.white a.b k c.if-white.false, break-white a.b k) (refl, refl, refl)

pub returns : goal.returns
returns c =
    let a = c.args in
    let k = is-break-of a.b c.wide-code.ensures c.is_break.ensures c.if-is_break.false in
    rw (other-out a.upper a.white a.b k)
    (refl, c.is_whitespace-w.ensures ∙ ap is_whitespace c.wide-code.ensures, rw c.plain_byte-u.ensures refl)
