use mathlib.Core.Path.{◌∙◌}
use Rattle.scanner.proofs.Prefix.{begins-starts}
use Rattle.scanner.proofs.begins.Goals as goal

pub returns : goal.returns
returns c = c.starts_with.ensures.value ∙ begins-starts _ _
