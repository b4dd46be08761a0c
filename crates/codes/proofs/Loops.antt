-- Texts byte by byte: what holds of each byte, from a place on.
-- Assumes nothing.
use mathlib.Core.Path.{◌≡◌, refl}
use mathlib.Core.Bool.{Bool, true, false, ◌&&◌}
use mathlib.Core.List.{List}
use Prim.Native.Nat.{ℕ, ◌+◌, ◌≤◌, ◌<◌}
use native.Mathlib.Numerals.{add-one}
use lib.ListN.{length, get_or, drop, drop_of_length-le}
use lib.Seq.{drop-cons}
use Rattle.codes.specs.Ported.{is_word_byte, are_word_bytes}
use Rattle.codes.specs.Parts.{is_letter, are_letters}

pub and_assoc : (a b c : Bool) → ((a && b) && c) ≡ (a && (b && c))
and_assoc true b c = refl
and_assoc false b c = refl

pub and_one : (a : Bool) → a ≡ (a && true)
and_one true = refl
and_one false = refl

module _ (t : List ℕ) (i : ℕ) (h : i < length t) where
  pub words_step : are_word_bytes (drop i t) ≡ (is_word_byte (get_or t i 0) && are_word_bytes (drop (i + 1) t))
  unfolding are_word_bytes
  words_step = rw (add-one, drop-cons t i 0 h)

  pub letters-step : are_letters (drop i t) ≡ (is_letter (get_or t i 0) && are_letters (drop (i + 1) t))
  unfolding are_letters
  letters-step = rw (add-one, drop-cons t i 0 h)

module _ (t : List ℕ) (i : ℕ) (h : length t ≤ i) where
  pub words-end : are_word_bytes (drop i t) ≡ true
  unfolding are_word_bytes
  words-end = rw (drop_of_length-le t h)

  pub letters-end : are_letters (drop i t) ≡ true
  unfolding are_letters
  letters-end = rw (drop_of_length-le t h)
