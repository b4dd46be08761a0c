use mathlib.Core.Path.{◌≡◌, sym, ap, ◌∙◌}
use native.Mathlib.Nat.{le_refl}
use Rattle.std.proofs.Common.{rules, slice_range, ◌==◌}
use lib.ListN.{length}
use Rattle.std.specs.List.{count_by}
use Rattle.std.proofs.lemmas.Slice.{between_to_end}
use Rattle.csv_rows.specs.Bytes.{feeds}
use Rattle.csv_rows.proofs.Utf8.{feeds-count}
use Rattle.csv_rows.proofs.feeds_from.Goals as goal

pub returns : goal.returns
returns c =
    let s = c.args.s.now in
    let e : c.count.result ≡ count_by (λ b. b == 10) (slice_range s c.args.at (length s)) = search rules in
    e ∙ sym (feeds-count _) ∙ ap feeds (between_to_end s c.args.at (length s) (le_refl _))
