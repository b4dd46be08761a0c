-- The lines that this program answers: frames.
use Rattle.std.specs.Prelude.{ℕ, List}
use Rattle.answers.specs.Answer.{answer_line}
use Rattle.frames.specs.Frame.{bad_frame}

-- the answer to a line that is too long to be a frame
abbrev pub long_answer : List ℕ
long_answer = answer_line bad_frame
