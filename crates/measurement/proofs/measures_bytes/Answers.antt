-- `measurement::measures_bytes` meets its contract: the matrices that are read have the numbers of the bytes. Assumes nothing.
use mathlib.Core.Path.{◌≡◌, ◌∙◌}
use native.Mathlib.Omega.{arith}
use Rattle.measurement.specs.Matrices.{of_bytes}
use Rattle.measurement.proofs.Strings.{both_good, answer_same}
use Rattle.measurement.proofs.measures_bytes.Goals as goal

pub returns : goal.returns
returns c =
    let n = c.args.n.0 in
    let p = c.in_ok-new.field-0 in
    let x : p.mx.now ≡ c.args.mx.now = cc (c.in_ok-new.ensures.pair.0) in
    let y : p.my.now ≡ c.args.my.now = cc (c.in_ok-new.ensures.pair.1) in
    rw (← x, ← y)
    (c.native_string.ensures ∙ answer_same 6 (omega arith) c.matrices.ensures.0 c.matrices.ensures.1 n
    ∙ both_good 6 (of_bytes 6 p.mx.now) (of_bytes 6 p.my.now) n _ _ p.x_matrix p.y_matrix)
