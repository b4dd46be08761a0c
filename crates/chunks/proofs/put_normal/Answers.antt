use mathlib.Core.Path.{◌≡◌, sym, ap, ◌∙◌}
use Rattle.chunks.specs.Characters.{codes}
use Rattle.chunks.specs.Format.{normal}
use Rattle.chunks.specs.Plain.{all_unbroken}
use Rattle.chunks.proofs.Whole.{unbroken-codes}
use borrow.Author.Rules.{rules}
use Rattle.chunks.proofs.put_normal.Goals as goal

pub returns-then-all_unbroken : goal.returns-then-all_unbroken
returns-then-all_unbroken c =
    let t = c.args.t.now in
    let w = c.args.white in
    let h = sym c.all_unbroken.ensures ∙ c.if-all_unbroken.true in
    let out : normal w (codes t) ≡ t = unbroken-codes w (codes t) (ap all_unbroken c.requires.t_value ∙ h) ∙ c.requires.t_value in
    let e = c.put_bytes-m.ensures in
    rw out (e.0, c.last_white-w.ensures, e.1)
