use mathlib.Core.Path.{◌≡◌, sym, ap, ◌∙◌}
use native.Mathlib.Omega.{arith}
use Rattle.frames.specs.declared.Operation.{Operation}
use Rattle.frames.specs.Frame.{read_of}
use Rattle.frames.specs.Lists.{optional_end}
use Rattle.frames.proofs.Parts.{three-formed, optional-above}
use Rattle.frames.proofs.Said.{carried}
use borrow.Author.Rules.{rules}
use Rattle.frames.proofs.three_at.Goals as goal

pub is_single-requires : goal.is_single-requires
is_single-requires c =
    let above = optional-above c.args.f.now c.args.month_at in
    let day : c.args.day_at ≡ optional_end c.args.f.now c.args.month_at = rw c.requires.month_at_value.0 c.requires.month_at_value.1 in
    omega (arith, c.requires.month_at_value.2)

pub three_there-requires : goal.three_there-requires
three_there-requires c =
    record {
      small = c.requires.f_len_bound.0;
      fills = c.requires.f_len_bound.1;
      month_there = c.requires.month_at_value.0;
      day_there = rw c.requires.month_at_value.0 c.requires.month_at_value.1;
      one_year = sym c.byte_at.ensures ∙ c.if-byte_at-eq1.true;
      one_month = sym c.is_single.ensures ∙ c.if-is_single.true;
      one_day = sym c.is_single-then-is_single.ensures ∙ c.if-is_single-2.true;
    }

pub three_in-requires : goal.three_in-requires
three_in-requires c =
    (record { small = c.requires.f_len_bound.0; for_text = omega arith; for_table = omega arith }, c.requires.f_len_bound.1)

pub read_large-requires : goal.read_large-requires
read_large-requires c =
    (c.requires.f_len_bound.0, three-formed c.args.f.now c.requires.f_len_bound.1 c.requires.f_len_bound.2)

pub returns : goal.returns
returns c =
    let both = carried (ap (λ (o : Operation). read_of o c.args.f.now) c.requires.f_len_bound.2) (c.read_large.ensures.value, c.read_large.ensures.typed) in record { value = both.0; typed = both.1 }
