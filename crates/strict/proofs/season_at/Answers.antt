use mathlib.Core.Path.{◌≡◌, refl, sym, ap}
use Prim.Native.Nat.{ℕ, zero, suc}
use Rattle.dates.specs.declared.Season.TheVariants.{Winter}
use Rattle.std.specs.Prelude.{Some}
use Rattle.strict.specs.Level.{season_at}
use Rattle.strict.proofs.season_at.Goals as goal

-- the seasons behind the third
fourth : (n : ℕ) → (n ≡ 0 → ⊥) → (n ≡ 1 → ⊥) → (n ≡ 2 → ⊥) → Some Winter ≡ season_at n
unfolding season_at
fourth zero a b c = absurd (a refl)
fourth (suc zero) a b c = absurd (b refl)
fourth (suc (suc zero)) a b c = absurd (c refl)
fourth (suc (suc (suc n))) a b c = refl

pub returns-in-0 : goal.returns-in-0
unfolding season_at
returns-in-0 c = ap season_at (sym c.in-0.is)

pub returns-in-1 : goal.returns-in-1
unfolding season_at
returns-in-1 c = ap season_at (sym c.in-1.is)

pub returns-in-2 : goal.returns-in-2
unfolding season_at
returns-in-2 c = ap season_at (sym c.in-2.is)

pub returns-in_default : goal.returns-in_default
returns-in_default c = fourth c.args.n c.in_default.in_default-own.rest.0.0.1 c.in_default.in_default-own.rest.0.1 c.in_default.in_default-own.rest.1
