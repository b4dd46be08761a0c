-- The pieces of a file: what each step takes of it, and what it says of that.
use Rattle.std.specs.Prelude.{◌≡◌, true, List, [], ◌∷◌, ◌++◌, ℕ, take, drop}
use Rattle.runs.specs.Steps.{Way}
use Rattle.runs.specs.Steps.Outcome.{took, over}

-- a piece of a file: its bytes, what is said of it, and what was kept before it and behind it
pub record Piece (State : Type 0) : Type 0 where
  -- its bytes
  pub bytes : List ℕ
  -- what is said of it
  pub text : List ℕ
  -- what was kept before it
  pub before : State
  -- what is kept behind it
  pub behind : State

-- the bytes of pieces, one behind the other
abbrev pub all_bytes : {State : Type 0} → List (Piece State) → List ℕ
all_bytes [] = []
all_bytes (p ∷ ps) = p.bytes ++ all_bytes ps

-- what is said of them
abbrev pub all_texts : {State : Type 0} → List (Piece State) → List ℕ
all_texts [] = []
all_texts (p ∷ ps) = p.text ++ all_texts ps

-- a file given whole is read from a state: its pieces in order, the state behind them, what is not looked at, and what the report ends with
pub data Reading {State : Type 0} (next : Way State) : State → List ℕ → List (Piece State) → State → List ℕ → List ℕ → Type 0 where
  -- the report ends
  ends : {st : State} {s text : List ℕ} → next true s st ≡ over text → Reading next st s [] st s text
  -- a piece, then others
  piece : {st kept at : State} {s text left lastly : List ℕ} {n : ℕ} {ps : List (Piece State)} → next true s st ≡ took n text kept
      → Reading next kept (drop n s) ps at left lastly
      → Reading next st s (record { bytes = take n s; text = text; before = st; behind = kept } ∷ ps) at left lastly
