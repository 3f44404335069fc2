-- Six digits of at most 1, written out as a number, are small. Assumes nothing.
use mathlib.Core.List.{List}
use Prim.Native.Nat.{ℕ, ◌+◌, ◌*◌, ◌<◌, ◌≤◌}
use native.Mathlib.Omega.{arith}
use lib.ListN.{get_or}

-- six digits of at most 1 make a number of at most 63
pub six_digits : (v : List ℕ) → ((i : ℕ) → i < 6 → get_or v i 0 ≤ 1) → get_or v 0 0 + get_or v 1 0 * 2 + get_or v 2 0 * 4 + get_or v 3 0 * 8 + get_or v 4 0 * 16 + get_or v 5 0 * 32 ≤ 63
six_digits v ones =
    let p0 = ones 0 (omega arith) in
    let p1 = ones 1 (omega arith) in
    let p2 = ones 2 (omega arith) in
    let p3 = ones 3 (omega arith) in
    let p4 = ones 4 (omega arith) in
    let p5 = ones 5 (omega arith) in
    omega arith
