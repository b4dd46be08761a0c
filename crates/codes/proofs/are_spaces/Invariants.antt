use mathlib.Core.Path.{◌≡◌}
use mathlib.Core.Bool.{true}
use mathlib.Core.List.{List}
use Prim.Native.Nat.{ℕ, ◌+◌}
use lib.ListN.{take}
use Rattle.codes.specs.Texts.{unspaced}
use Rattle.codes.proofs.are_spaces.Given as goal

-- the bytes before a place, without the spaces at their end
abbrev pub before : List ℕ → ℕ → List ℕ
before s i = unspaced (take i s)

abbrev pub invariant-loop-i : goal.invariant-loop-i
invariant-loop-i l = l.ok ≡ true → before l.s (l.at + l.i) ≡ before l.s l.at
