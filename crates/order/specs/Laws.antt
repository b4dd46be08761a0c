-- The laws of a comparison: less and greater mirror each other, less is transitive, and equals answer alike.
use Rattle.std.specs.Prelude.{◌≡◌, Option, Some, None, Result, Ok, Err}
use Rattle.std.specs.declared.cmp.Ordering.{Ordering}
use Rattle.std.specs.declared.cmp.Ordering.TheVariants.{Equal, Greater, Less}
use Rattle.refusals.specs.declared.Refusal.{Refusal}

-- the answer with the two operands exchanged
abbrev pub mirror : Option Ordering → Option Ordering
mirror (Some Less) = Some Greater
mirror (Some Equal) = Some Equal
mirror (Some Greater) = Some Less
mirror None = None

-- the same of a comparison that may be refused; a refusal stays
abbrev pub turned : Result (Option Ordering) Refusal → Result (Option Ordering) Refusal
turned (Ok o) = Ok (mirror o)
turned (Err e) = Err e

-- a comparison that keeps the three laws
pub record Lawful {A : Type 0} (cmp : A → A → Option Ordering) : Type 0 where
  -- exchanged operands give the mirrored answer
  pub mirrors : (a b : A) → cmp b a ≡ mirror (cmp a b)
  -- less is transitive
  pub passes : (a b c : A) → cmp a b ≡ Some Less → cmp b c ≡ Some Less → cmp a c ≡ (Some Less)
  -- two that compare equal get the same answer against any third
  pub answers : (a b c : A) → cmp a b ≡ Some Equal → cmp a c ≡ cmp b c
