-- `native_measurement::NativeNumber::from` meets its contract: the components are below 6 and the pair below 15, so nothing overflows.
-- Assumes nothing.
use native.Mathlib.Omega.{arith}
use Rattle.native_measurement.proofs.Natives.{pair_lt}
use Rattle.native_measurement.proofs.NativeNumberFromNativeMeasurement.from.Goals as goal

pub overflow_add-result : goal.overflow_add-result
overflow_add-result c = let h = pair_lt _ c.pair_number.ensures in omega arith
