use Rattle.chunks.specs.Plain.{all_ascii, plain_text}
use Rattle.chunks.proofs.Fill.{Filling}
use mathlib.Core.Bool.{false}
use lib.ListN.{length, drop}
use Prim.Native.Nat.{◌+◌, ◌-◌, ◌≤◌}
use mathlib.Core.Path.{◌≡◌}
use Rattle.chunks.proofs.put_plain_each.Given as goal

abbrev pub invariant-loop-b : goal.invariant-loop-b
invariant-loop-b l =
    Filling l.initial.buf 0 (plain_text l.upper false l.t) l.buf l.m (plain_text l.upper l.w (drop l.b-index l.t))
    × (all_ascii (drop l.b-index l.t) ≡ all_ascii l.t)
    × (l.m + (length l.t - l.b-index) ≤ length l.buf)
