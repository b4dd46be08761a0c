-- What an end year list that was formatted comes to.
-- Assumes nothing.
use mathlib.Core.Path.{◌≡◌, refl}
use mathlib.Core.Bool.{Bool, true, false, not}
use mathlib.Core.List.{List}
use Prim.Native.Nat.{ℕ}
use Rattle.chars.specs.Pick.{pick}
use Rattle.refusals.specs.declared.Refusal.{Refusal}
use Rattle.std.specs.Prelude.{Result, Ok, Err}
use Rattle.chunks.specs.Check.{checked}
use Rattle.chunks.specs.Answer.{text_of}
use Rattle.datefield.specs.Text.{is_blank}
use Rattle.chunks.specs.Lent.{lent}
use Rattle.reader.proofs.Lists.{as_is}
use Rattle.sixfields.specs.Six.{blank, judged, end_year_of}

by-white : (w : Bool) → ◌≡◌ {A = Result Bool Refusal} (Ok (not w)) (pick w (Ok false) (Ok true))
unfolding pick
by-white true = refl
by-white false = refl

module _ (b table : List ℕ) where
  -- a text: it is filled unless it is white space alone
  pub is-judged : checked b table ≡ (Ok tt) → {t : List ℕ} → t ≡ text_of false b table → {w : Bool} → w ≡ is_blank t → Ok (not w) ≡ end_year_of (lent b table)
  unfolding end_year_of judged blank
  is-judged c e {w} k = rw (c, ← as_is b table e, ← k) (by-white w)

  -- no text
  pub is-faulty : {f : Refusal} → checked b table ≡ Err f → Err f ≡ end_year_of (lent b table)
  unfolding end_year_of judged
  is-faulty c = rw c
