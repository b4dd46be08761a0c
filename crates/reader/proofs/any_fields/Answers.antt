use mathlib.Core.Path.{sym, ◌∙◌}
use Rattle.reader.proofs.any_fields.Goals as goal

pub read_clean-requires : goal.read_clean-requires
read_clean-requires c = sym c.check_fields.ensures ∙ c.in_ok-check_fields.was
