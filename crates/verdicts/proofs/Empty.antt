-- No reader reads the empty cell. Assumes nothing.
use mathlib.Core.Path.{◌≡◌, refl, sym, ◌∙◌}
use mathlib.Core.List.{[]}
use Prim.Native.Nat.{ℕ}
use native.Mathlib.Omega.{arith}
use Rattle.chars.specs.Pick.{pick}
use Rattle.chars.specs.Classes.{within, is_ascii_digit}
use Rattle.chars.specs.Utf8.{decode_at, first, encode_all}
use Rattle.scanner.specs.Scan.{len_in, match_len, walk, eat_while, eat_if, stands_at, part, run_at as scanned_at, next_run}
use Rattle.dates.specs.declared.Date.{Date}
use Rattle.refusals.specs.declared.Kind.TheVariants.{NotStrict, InvalidFormat}
use Rattle.std.specs.Prelude.{Ok, Err}
use Rattle.refusals.specs.Offset.{saturating_add, offset}
use Rattle.refusals.specs.Refusal.{nowhere, refusal}
use Rattle.chunks.specs.Characters.{up_to, characters, codes_of, codes}
use Rattle.chunks.specs.Check.{fault_in, or_else, fault_of, checked}
use Rattle.chunks.specs.Chunks.{chunks_of, kinds_known, lengths, fits, is_short, last_end, span_of}
use Rattle.chunks.specs.Format.{normal, chunk_out, chunks_out, formatted}
use Rattle.chunks.specs.Upper.{uppers, uppercase}
use Rattle.strict.specs.Matcher as matcher
use Rattle.numbers.specs.Number.{admits, run_of, or_kept, behind_sign, with_sign, signed_at, signed_run, int_of, parse_int}
use Rattle.numbers.specs.Trim.{step_by, step_over, trim_step, trim_from, trim_end}
use Rattle.points.specs.Point.{windowed_int, short_year, long_of, long_year, short_or, year_at, on_year, point}
use Rattle.points.specs.Step.{refuse_number}
use Rattle.datefield.specs.Text.{trimmed, last_byte, is_uncertain, is_approximate, unmarked, first_of}
use Rattle.datefield.specs.Value.{moved, on_half, value, marked, trimmed_date, parse_text}
use Rattle.reading_laws.specs.Field.{on_clean, parsed, strictly, parsed_strict}
use Rattle.verdicts.specs.Dates.{cell_table}

-- the strict reader refuses it
pub strict_none : parsed_strict [] (cell_table []) ≡ Err (nowhere NotStrict)
unfolding parsed_strict strictly on_clean checked fits is_short chunks_of kinds_known lengths fault_of or_else fault_in characters up_to formatted chunks_out chunk_out normal codes codes_of pick within is_ascii_digit matcher.two matcher.on matcher.on_four matcher.four matcher.point_at matcher.point matcher.unknown matcher.is_open matcher.on_point matcher.from_point matcher.of_points matcher.on_unknown matcher.text_of matcher.strict
strict_none = refl

pub empty-strict : {d : Date} → parsed_strict [] (cell_table []) ≡ Ok d → ⊥
empty-strict {d} e =
    let h : Err (nowhere NotStrict) ≡ Ok d = sym strict_none ∙ e in
    let z : ◌≡◌ {A = ℕ} 0 1 = cc in
    omega arith

ported-none : parsed [] (cell_table []) ≡ Err (nowhere InvalidFormat)
unfolding parsed on_clean checked fits is_short chunks_of kinds_known lengths last_end span_of fault_of or_else fault_in characters up_to formatted chunks_out chunk_out normal codes codes_of uppercase uppers encode_all pick parse_text trimmed_date trimmed trim_end trim_from trim_step step_over step_by walk eat_while match_len len_in decode_at first last_byte is_uncertain is_approximate unmarked first_of value marked on_half moved point on_year year_at short_or short_year windowed_int long_year long_of parse_int int_of signed_run signed_at next_run scanned_at with_sign run_of admits behind_sign or_kept eat_if stands_at part offset saturating_add refusal refuse_number
ported-none = refl

pub empty-ported : {d : Date} → parsed [] (cell_table []) ≡ Ok d → ⊥
empty-ported {d} e =
    let h : Err (nowhere InvalidFormat) ≡ Ok d = sym ported-none ∙ e in
    let z : ◌≡◌ {A = ℕ} 0 1 = cc in
    omega arith
