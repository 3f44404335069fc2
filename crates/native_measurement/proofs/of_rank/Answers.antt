-- `native_measurement::of_rank` meets its contract: the arms are the four places. Assumes nothing.
use mathlib.Core.Path.{◌≡◌, sym, ap}
use native.Mathlib.Omega.{arith}
use Rattle.native_measurement.specs.Natives.{of_rank}
use Rattle.native_measurement.proofs.of_rank.Goals as goal

pub returns-in-0 : goal.returns-in-0
returns-in-0 c = let e : c.args.place ≡ 0 = omega arith in ap of_rank (sym e)

pub returns-in-1 : goal.returns-in-1
returns-in-1 c = let e : c.args.place ≡ 1 = omega arith in ap of_rank (sym e)

pub returns-in-2 : goal.returns-in-2
returns-in-2 c = let e : c.args.place ≡ 2 = omega arith in ap of_rank (sym e)

pub returns-in_default : goal.returns-in_default
returns-in_default c = let e : c.args.place ≡ 3 = omega arith in ap of_rank (sym e)
