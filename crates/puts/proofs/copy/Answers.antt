use mathlib.Core.Path.{refl, ◌∙◌}
use lib.ListN.{length}
use lib.Seq.{sets-eq, take-length}
use native.Mathlib.Omega.{arith}
use Rattle.std.proofs.lemmas.Slice.{put_mid-paste}
use Rattle.puts.proofs.copy.Goals as goal

pub returns : goal.returns
returns c =
    let a = c.args in
    let t = a.t.now in
    record { behind = refl; bytes = put_mid-paste a.at _ a.out.now _ t (length t) c.copy_from_slice.ensures.after (omega arith) refl ∙ rw (take-length t, sets-eq t a.out.now a.at c.requires) refl }
