-- What an answer says of the pieces and of the lent table; and a number by its run. Assumes nothing.
use mathlib.Core.Path.{◌≡◌, sym, ap, ◌∙◌}
use mathlib.Core.Bool.{Bool, true, false, false≢true}
use mathlib.Core.List.{List}
use Prim.Native.Nat.{ℕ, ◌*◌, ◌≤◌, ◌<◌}
use borrow.Author.Tests.{le-leb, lt-leb, leb-true}
use lib.Dec.{leb}
use lib.ListN.{length}
use Rattle.chars.specs.Pick.{pick}
use Rattle.chars.proofs.Cases.{of_test}
use Rattle.std.specs.Prelude.{Option, Some, None, Result, Ok, Err}
use Rattle.scanner.specs.declared.Run.{Run}
use Rattle.scanner.specs.declared.Class.TheVariants.{AsciiDigit}
use Rattle.scanner.specs.Scan.{part, next_run}
use Rattle.numbers.specs.Parse.{parse}
use Rattle.refusals.specs.declared.Refusal.{Refusal}
use Rattle.refusals.specs.declared.TextRefusal.{TextRefusal}
use Rattle.refusals.specs.Offset.{text_refusal, offset_number}
use Rattle.refusals.specs.declared.Kind.TheVariants.{InvalidNumber, TooLong, BadChunks, NoRoom}
use Rattle.pages.specs.Piece.{numbered, number_of, number_at}
use Rattle.pages.specs.Pieces.{adds_up, pieces_of, judged, refused_pages, PiecesFit, pages_answer, put, table_after, pages_afterwards}

module _ (s : List ℕ) (start at : ℕ) {run : Run} {t : List ℕ} {p : Option ℕ} (r : run ≡ next_run AsciiDigit s at) (f : t ≡ part s run.start.0 run.end.0) (q : p ≡ parse 4294967295 t) where
  by-run : numbered start run p ≡ number_at s start at
  unfolding number_at number_of
  by-run = rw (q, f) (ap (λ (x : Run). numbered start x (parse 4294967295 (part s x.start.0 x.end.0))) r)

  pub is_number : {v : ℕ} → p ≡ Some v → Ok (v, run.end) ≡ number_at s start at
  unfolding numbered
  is_number e = sym (ap (numbered start run) e) ∙ by-run

  pub is_none : {e : TextRefusal} {f : Refusal} → p ≡ None → e ≡ text_refusal InvalidNumber run.start.0 run.end.0 → f ≡ offset_number e start → Err f ≡ number_at s start at
  unfolding numbered
  is_none e m g = ap Err (g ∙ ap (λ (x : TextRefusal). offset_number x start) m) ∙ sym (ap (numbered start run) e) ∙ by-run

abbrev pub is_ranges : Result ℕ Refusal → Bool
is_ranges (Ok n) = true
is_ranges (Err e) = false

-- an answer that counts ranges: there are not too many pieces, all adds up, and there is room
pub fitting : (b t cs : List ℕ) (room : ℕ) {n : ℕ} → pages_answer b t cs room ≡ Ok n → PiecesFit b t cs room
unfolding pages_answer refused_pages pick
fitting b t cs room e =
    of_test (leb (length cs) 64)
    (λ p. of_test (adds_up b t cs)
    (λ q. of_test (leb (2 * length cs) room) (λ r. (leb-true (length cs) 64 p, q, leb-true (2 * length cs) room r)) (λ r. absurd (false≢true (ap is_ranges (rw (p, q, r) at e)))))
    (λ q. absurd (false≢true (ap is_ranges (rw (p, q) at e)))))
    (λ p. absurd (false≢true (ap is_ranges (rw p at e))))

pub leaves : (b t cs out : List ℕ) {n : ℕ} {new : List ℕ} → pages_answer b t cs (length out) ≡ Ok n → new ≡ put 0 (pieces_of b t cs) out → new ≡ pages_afterwards b t cs out
unfolding pages_afterwards table_after
leaves b t cs out e g = rw e g

pub keeps : (b t cs out : List ℕ) {e : Refusal} → pages_answer b t cs (length out) ≡ Err e → out ≡ pages_afterwards b t cs out
unfolding pages_afterwards table_after
keeps b t cs out e = rw e

-- the answers in their order
module _ (b t cs : List ℕ) (room : ℕ) where
  pub too_many : 64 < length cs → refused_pages TooLong ≡ pages_answer b t cs room
  unfolding pages_answer pick
  too_many h = rw (lt-leb (length cs) 64 h)

  module _ (h : length cs ≤ 64) where
    pub bad-shape : adds_up b t cs ≡ false → refused_pages BadChunks ≡ pages_answer b t cs room
    unfolding pages_answer pick
    bad-shape e = rw (le-leb (length cs) 64 h, e)

    pub no-space : adds_up b t cs ≡ true → room < 2 * length cs → refused_pages NoRoom ≡ pages_answer b t cs room
    unfolding pages_answer pick
    no-space e g = rw (le-leb (length cs) 64 h, e, lt-leb (2 * length cs) room g)

    pub by-pieces : adds_up b t cs ≡ true → 2 * length cs ≤ room → judged (length cs) (pieces_of b t cs) ≡ pages_answer b t cs room
    unfolding pages_answer pick
    by-pieces e g = rw (le-leb (length cs) 64 h, e, le-leb (2 * length cs) room g)
