-- `search::clear_from` meets its contract: the bytes before are kept, and those behind are zeros. Assumes nothing.
use mathlib.Core.Path.{◌≡◌, ap, ap₂, ◌∙◌}
use mathlib.Core.List.{List, [], ◌++◌, append-nil}
use Prim.Native.Nat.{ℕ, ◌-◌}
use native.Mathlib.Omega.{arith}
use lib.ListN.{length, take, drop, length-drop, drop_of_length-le}
use lib.Seq.{take_all}
use Rattle.table.specs.Bytes.{zeros}
use Rattle.discovery.specs.Short.{fore}
use Rattle.search.proofs.clear_from.Goals as goal

pub returns : goal.returns
unfolding fore
returns c =
    let a = c.args in
    let l = a.bytes.now in
    let behind = drop a.from l in
    let n : length behind ≡ length l - a.from = length-drop a.from l in
    let whole : take (length l - a.from) behind ≡ behind = take_all (length l - a.from) behind (omega (arith, n)) in
    let none : drop (length l - a.from) behind ≡ [] = drop_of_length-le behind {i = length l - a.from} (omega (arith, n)) in
    ap₂ (λ (y z : List ℕ). take a.from l ++ (y ++ z)) (c.clear_unchecked.ensures ∙ ap (λ (b : List ℕ). zeros (length b)) whole ∙ ap zeros n) none
    ∙ ap (λ (y : List ℕ). take a.from l ++ y) (append-nil (zeros (length l - a.from)))
