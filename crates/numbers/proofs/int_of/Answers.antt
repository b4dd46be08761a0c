use Rattle.numbers.proofs.Laws.{run-value, most-four}
use native.Mathlib.Omega.{arith}
use mathlib.Core.Path.{sym, ◌∙◌}
use mir.ValLaws.{to_z-of_z}
use mir.Syntax.{w32}
use Rattle.std.proofs.lemmas.Result.{err_from_is_err_and}
use Rattle.numbers.specs.Number.{int_of, with_sign}
use Rattle.numbers.proofs.int_of.Goals as goal

pub returns-in_err-value : goal.returns-in_err-value
unfolding int_of with_sign
returns-in_err-value c =
    let p = err_from_is_err_and c.from_residual.result c.from_residual.ensures.1 in
    rw (p.1, p.2) (simp (← c.number_of.ensures, c.in_err-value.was))

pub signed-requires : goal.signed-requires
signed-requires c =
    let g = c.args.digits in
    omega (arith, run-value _ _ _ g (sym c.number_of.ensures ∙ c.in_ok-value.was), most-four g)

pub returns : goal.returns
unfolding int_of with_sign
returns c =
    simp (← c.number_of.ensures, c.in_ok-value.was, ← c.signed.ensures, to_z-of_z w32 c.signed.result (record { sfits = c.signed.type_inv }))
