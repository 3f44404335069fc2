-- A value made of a depth and a native's number says that depth and names that native. Assumes nothing.
use mathlib.Core.Path.{◌≡◌}
use Prim.Native.Nat.{ℕ, ◌*◌, ◌<◌}
use native.Mathlib.Omega.{arith}
use Rattle.native_measurement.specs.Natives.{natives}
use Rattle.table.specs.Entries.{depth, Names, value}

pub value_some : (d n : ℕ) → value d n ≡ 0 → ⊥
unfolding value
value_some d n z = omega arith

pub value_depth : (d n : ℕ) → n < natives → depth (value d n) ≡ d
unfolding value
value_depth d n h = omega arith

pub value_names : (d n : ℕ) → n < natives → Names (value d n) n
unfolding value
value_names d n h = omega arith

pub value_lt : (d n b : ℕ) → n < natives → d < b → value d n < 1024 * b
unfolding value
value_lt d n b h l = omega arith
