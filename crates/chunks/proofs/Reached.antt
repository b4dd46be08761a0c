-- The bound of 4,224 bytes is reached: by 64 Math chunks of 64 letters each.
-- Assumes nothing.
use mathlib.Core.Path.{◌≡◌, refl}
use mathlib.Core.List.{List, [], ◌∷◌}
use Prim.Native.Nat.{ℕ, zero, suc}
use lib.ListN.{length, replicate}
use Rattle.chars.specs.Pick.{pick}
use Rattle.chars.specs.Utf8.{len_of, decode, first}
use Rattle.chars.specs.Classes.{is_admitted}
use Rattle.std.specs.Prelude.{Ok}
use Rattle.chunks.specs.Characters.{and_then, up_to, characters}
use Rattle.chunks.specs.Chunks.{chunks_of, kinds_known, lengths, fits, is_short}
use Rattle.chunks.specs.Check.{fault_in, or_else, fault_of, checked}
use Rattle.chunks.specs.Format.{chunk_out, chunk_flag, chunks_out, formatted}

-- so many Math chunks of 64 bytes
pub maths : ℕ → List ℕ
maths zero = []
maths (suc n) = 2 ∷ 64 ∷ 0 ∷ 0 ∷ maths n

pub letters : List ℕ
letters = replicate 4096 0x61

pub reached-clean : checked letters (maths 64) ≡ (Ok tt)
unfolding maths letters checked fits is_short chunks_of kinds_known lengths fault_of or_else fault_in characters up_to and_then first decode len_of is_admitted pick
reached-clean = refl

pub reached : length (formatted letters (maths 64)) ≡ 4224
unfolding maths letters formatted chunks_out chunk_out chunk_flag chunks_of pick
reached = refl
