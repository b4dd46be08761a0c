-- What an entry that formats a list into a buffer with room enough comes to: the text is read, or the fault is the answer.
-- Assumes nothing.
use mathlib.Core.Path.{◌≡◌, refl}
use mathlib.Core.Bool.{Bool, true, false}
use mathlib.Core.List.{List}
use Prim.Native.Nat.{ℕ}
use Rattle.refusals.specs.declared.Refusal.{Refusal}
use Rattle.std.specs.Prelude.{Ok, Err}
use Rattle.chunks.specs.Chunks.{chunks_of, span_of}
use Rattle.chunks.specs.Check.{checked}
use Rattle.chunks.specs.Answer.{text_of}
use Rattle.chunks.proofs.Answers.{raised-text, plain-as-is}
use Rattle.datefield.specs.Value.{parse_text}
use Rattle.strict.specs.Matcher.{strict}
use Rattle.strict.specs.LevelMatcher.{level}
use Rattle.reading_laws.specs.Field.{on_clean, parsed, strictly, parsed_strict, leveled, parsed_level_one, match_by, parsed_by}

module _ (b table : List ℕ) where
  pub parsed-clean : checked b table ≡ (Ok tt) → {t : List ℕ} → t ≡ text_of true b table → parse_text (span_of (chunks_of table)) t ≡ parsed b table
  unfolding parsed on_clean
  parsed-clean c e = rw (c, e, raised-text b table {u = true} refl)

  pub parsed-faulty : {f : Refusal} → checked b table ≡ Err f → Err f ≡ parsed b table
  unfolding parsed on_clean
  parsed-faulty c = rw c

  pub exact-clean : (one : Bool) → checked b table ≡ (Ok tt) → {t : List ℕ} → t ≡ text_of false b table → match_by one t ≡ parsed_by one b table
  unfolding parsed_by on_clean
  exact-clean one c e = rw (c, e, plain-as-is b table {u = false} refl)

  pub exact-faulty : (one : Bool) {f : Refusal} → checked b table ≡ Err f → Err f ≡ parsed_by one b table
  unfolding parsed_by on_clean
  exact-faulty one c = rw c

  -- by each of the two grammars
  pub strict-clean : checked b table ≡ (Ok tt) → {t : List ℕ} → t ≡ text_of false b table → strictly (strict t) ≡ parsed_strict b table
  unfolding match_by parsed_by parsed_strict
  strict-clean c e = exact-clean false c e

  pub level-clean : checked b table ≡ (Ok tt) → {t : List ℕ} → t ≡ text_of false b table → leveled (level t) ≡ parsed_level_one b table
  unfolding match_by parsed_by parsed_level_one
  level-clean c e = exact-clean true c e
