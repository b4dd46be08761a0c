-- Frames' answers are a way to answer lines. Assumes nothing.
use mathlib.Core.Path.{◌≡◌}
use mathlib.Core.List.{List}
use Prim.Native.Nat.{ℕ, ◌<◌}
use lib.ListN.{length}
use Rattle.frames.specs.Frame.{line_answer}
use Rattle.frames.proofs.Parts.{long-bad}
use Rattle.frames.proofs.Most.{answer-most}
use Rattle.frames.proofs.Lengths.{frames-some}
use Rattle.lines.specs.Steps.{Way}
use Rattle.lines.specs.Frames.{long_answer}

-- a line that is too long is no frame
pub frames-long : (line : List ℕ) → 16384 < length line → line_answer line ≡ long_answer
frames-long line h = long-bad line h

-- no answer is longer than 147 bytes, so they are a way
pub frames-way : Way line_answer 16384 147 long_answer
frames-way = record { too_long = frames-long; some = frames-some; at_most = answer-most }
