-- What a caller that formats a list into a buffer learns from the answer, and which buffers have the room. Assumes nothing.
use mathlib.Core.Path.{◌≡◌, sym, ap, ◌∙◌}
use mathlib.Core.Bool.{Bool, true}
use mathlib.Core.List.{List}
use Prim.Native.Nat.{ℕ, ◌≤◌}
use native.Mathlib.Omega.{arith}
use lib.ListN.{length}
use Rattle.refusals.specs.declared.Refusal.{Refusal}
use Rattle.std.specs.Prelude.{Result, Ok, Err}
use Rattle.chunks.specs.Chunks.{is_short}
use Rattle.chunks.specs.Check.{checked}
use Rattle.chunks.specs.Answer.{text_of, room_of, format_answer, buffer_after}
use Rattle.chunks.proofs.Answers.{Given, given, not_given, room-is}
use Rattle.chunks.proofs.Room.{room_bound}

-- a short list has room in a small array, and any list within the limits in the large one
pub small-room : (b table : List ℕ) → length b ≤ 56 → length table ≤ 16 → is_short b table ≡ true → room_of b table ≤ 64
small-room b table h l e = omega (arith, room-is b table)

pub large-room : (b table : List ℕ) → is_short b table ≡ true → room_of b table ≤ 4224
large-room b table e = room_bound b table e

module _ (u : Bool) (b table buf : List ℕ) {r : Result ℕ Refusal} {last : List ℕ} (e : r ≡ format_answer u b table buf) (g : last ≡ buffer_after r (text_of u b table) buf) where
  -- the answer is a text
  pub is-text : {n : ℕ} → r ≡ Ok n → Given u b table buf n last
  is-text {n} t = given u b table buf n last (sym t ∙ e) (g ∙ ap (λ (f : Result ℕ Refusal). buffer_after f (text_of u b table) buf) t)

  -- the answer is a refusal
  pub is-fault : {f : Refusal} → r ≡ Err f → (is_short b table ≡ true → room_of b table ≤ length buf) → checked b table ≡ Err f
  is-fault t h = not_given u b table buf (sym t ∙ e) h
