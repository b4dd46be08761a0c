-- What a piece that is formatted into a buffer with room enough comes to. Assumes nothing.
use mathlib.Core.Path.{◌≡◌, refl}
use mathlib.Core.Bool.{false}
use mathlib.Core.List.{List}
use Prim.Native.Nat.{ℕ}
use Rattle.refusals.specs.declared.Refusal.{Refusal}
use Rattle.std.specs.Prelude.{Ok, Err}
use Rattle.chunks.specs.Chunks.{chunks_of, span_of}
use Rattle.chunks.specs.Check.{checked}
use Rattle.chunks.specs.Answer.{text_of}
use Rattle.chunks.proofs.Answers.{plain-as-is}
use Rattle.pages.specs.Piece.{range_text, on_clean, piece}

module _ (b table : List ℕ) where
  pub piece-clean : checked b table ≡ (Ok tt) → {t : List ℕ} → t ≡ text_of false b table → range_text t (span_of (chunks_of table)) ≡ piece b table
  unfolding piece on_clean
  piece-clean c e = rw (c, e, plain-as-is b table {u = false} refl)

  pub piece-faulty : {f : Refusal} → checked b table ≡ Err f → Err f ≡ piece b table
  unfolding piece on_clean
  piece-faulty c = rw c
