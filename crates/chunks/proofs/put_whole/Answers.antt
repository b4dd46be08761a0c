use Rattle.chunks.specs.Plain.{all_ascii, plain_text}
use Rattle.chunks.proofs.Answers.{raised}
use Rattle.chunks.proofs.Fill.{held}
use Rattle.chunks.proofs.Whole.{unbroken-plain, unbroken-upper, unbroken-long}
use lib.Seq.{sets, length-take-le}
use lib.ListN.{length}
use mathlib.Core.Bool.{Bool, false, true}
use native.Mathlib.Omega.{arith}
use mathlib.Core.Path.{◌≡◌, sym, ap, ◌∙◌}
use borrow.Author.Rules.{rules}
use Rattle.chunks.proofs.put_whole.Goals as goal

pub slice_bounds-upper_bytes-end-then-upper : goal.slice_bounds-upper_bytes-end-then-upper
slice_bounds-upper_bytes-end-then-upper c =
    sym (length-take-le _ _ (omega (arith, c.put_bytes-n.ensures.0, c.put_bytes-n.auto.buf, c.requires.t_in_bounds.0)))

pub upper_bytes-requires : goal.upper_bytes-requires
upper_bytes-requires c =
    let e = c.put_bytes-n.ensures in
    ap all_ascii (held c.args.buf.now _ c.args.t.now c.put_bytes-n.result (omega (arith, e.0)) e.1 (omega (arith, e.0, c.requires.t_in_bounds.0))) ∙ c.requires.t_in_bounds.1

pub returns-then-upper : goal.returns-then-upper
returns-then-upper c =
    let a = c.args in
    let t = a.t.now in
    let e = c.put_bytes-n.ensures in
    let up : plain_text a.upper false t ≡ plain_text true false t = ap (λ (u : Bool). plain_text u false t) c.if-upper.true in
    let n : length (plain_text true false t) ≡ length t = unbroken-long true false t c.requires.t_value in
    let r = unbroken-upper t c.requires.t_in_bounds.1 c.requires.t_value in
    rw up
    (omega (arith, e.0, n), raised a.buf.now _ _ t c.put_bytes-n.result (omega (arith, e.0)) c.requires.t_in_bounds.0 e.1 (ap length r ∙ n) c.upper_bytes.ensures ∙ ap (sets a.buf.now 0) r)

pub returns-else-upper : goal.returns-else-upper
returns-else-upper c =
    let e = c.put_bytes-n.ensures in
    let t = c.args.t.now in
    let as_is : plain_text c.args.upper false t ≡ t = ap (λ (u : Bool). plain_text u false t) c.if-upper.false ∙ unbroken-plain false t c.requires.t_value in
    rw as_is (omega (arith, e.0), e.1)
