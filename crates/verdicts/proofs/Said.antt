-- What the code says is what the definitions say: of words, of cells that are empty, of halves of a text. Assumes nothing.
use mathlib.Core.Path.{◌≡◌, refl, sym, subst, ap, ◌∙◌}
use mathlib.Core.Bool.{false}
use mathlib.Core.List.{List, [], ◌∷◌}
use Prim.Native.Nat.{ℕ, ◌≤◌, ◌<◌, ◌%◌}
use native.Mathlib.Omega.{arith}
use lib.Dec.{eqb}
use lib.ListN.{length, drop, drop_of_length-le}
use borrow.Author.Tests.{ne_eqb}
use Rattle.chars.specs.Pick.{pick}
use Rattle.chars.specs.Utf8.{first, decode_at}
use Rattle.chars.proofs.Cases.{by-test}
use Rattle.scanner.specs.Scan.{len_in, match_len, walk, eat_while, eat_if, part, run_at as scanned_at, next_run}
use Rattle.dates.specs.declared.Date.{Date}
use Rattle.refusals.specs.declared.Refusal.{Refusal}
use Rattle.std.specs.Prelude.{Result, Ok}
use Rattle.codes.specs.declared.Words.{Words}
use Rattle.codes.specs.Words.{words_of}
use Rattle.codes.specs.Typed.{Typed}
use Rattle.codes.specs.Unpacked.{read_in}
use Rattle.codes.proofs.Laws.{last-accepted}
use Rattle.codes.proofs.Unpacking.{read_back}
use Rattle.numbers.specs.Number.{admits, run_of, or_kept, behind_sign, with_sign, signed_at, signed_run, int_of, parse_int}
use Rattle.datefield.specs.Text.{first_of}
use Rattle.reading_laws.specs.Field.{parsed, parsed_strict}
use Rattle.verdicts.specs.declared.Verdict.{Verdict}
use Rattle.verdicts.specs.declared.Verdict.TheVariants.{Full}
use Rattle.verdicts.specs.Dates.{cell_table, by_readers, date_verdict}
use Rattle.verdicts.specs.Windows.{is_int, begins_two}
use Rattle.verdicts.proofs.Both.{point-full}

-- the first byte of a value is within the text, or its end
pub first-within : (b : ℕ) (s : List ℕ) → first_of b s ≤ length s
unfolding first_of
first-within b [] = omega arith
first-within b (x ∷ t) =
    by-test (λ (n : ℕ). n ≤ length (x ∷ t)) (eqb x b) (λ _. omega arith) (λ _. let h = first-within b t in omega arith)

-- no text begins with a number where there is none
none-two : begins_two [] ≡ false
unfolding begins_two is_int parse_int int_of signed_run signed_at next_run scanned_at with_sign run_of admits behind_sign or_kept eat_while walk eat_if match_len len_in part decode_at first pick
none-two = refl

pub past_two : (s : List ℕ) (i : ℕ) → length s ≤ i → begins_two (drop i s) ≡ false
past_two s i h = ap begins_two (drop_of_length-le s h) ∙ none-two

-- of a cell that is not empty the readers are asked
module _ (s : List ℕ) (n : length s ≡ 0 → ⊥) where
  pub asked : date_verdict s ≡ by_readers (parsed_strict s (cell_table s)) (parsed s (cell_table s))
  unfolding date_verdict pick
  asked = rw (ne_eqb (length s) 0 n)

  -- that it is accepted, and no range with both ends, is seen from its words
  pub full-said : {w : Words} → w ≡ words_of (parsed_strict s (cell_table s)) → w.last < 4294967296 → w.last % 256 < 3 → Full ≡ date_verdict s
  full-said {w} e h k =
      let l : w.last ≡ (words_of (parsed_strict s (cell_table s))).last = ap (λ (v : Words). v.last) e in
      let a = last-accepted (parsed_strict s (cell_table s)) (omega (arith, h, l)) in
      let m : w.last ≡ (words_of (Ok a.0)).last = l ∙ ap (λ (r : Result Date Refusal). (words_of r).last) a.1 in
      sym (asked ∙ point-full s a.1 (subst (λ (n : ℕ). n % 256 < 3) m k))

  pub readers-said : {w : Words} {x y : Result Date Refusal} {v : Verdict} → w ≡ words_of (parsed_strict s (cell_table s)) → Typed (parsed_strict s (cell_table s))
      → x ≡ read_in w → y ≡ parsed s (cell_table s) → v ≡ by_readers x y → v ≡ date_verdict s
  readers-said e t f g h = h ∙ rw (f, e, read_back (parsed_strict s (cell_table s)) t, g) (sym asked)
