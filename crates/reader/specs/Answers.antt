-- What the reader answers, and what a caller is told: zeros on a refusal. Assumes nothing.
use Rattle.std.specs.Prelude.{◌∷◌, ◌++◌, ◌-◌, length, replicate, Result, Ok, Err}
use Rattle.bicycle_common.specs.declared.Refusal.{Refusal}
use Rattle.bicycle_common.specs.Refusals.{Told, told}
use Rattle.native_measurement.specs.declared.NativeNumber.{NativeNumber}
use Rattle.reader.specs.declared.StatedPlan.{StatedPlan}
use Rattle.reader.specs.Plans.{Plan, numbers, measured, most_rotations}

-- native 0, with which the array of rotations is filled up
abbrev pub native0 : NativeNumber
native0 = record { 0 = 0 }

-- a plan as it is held: the pair, the base, the string measured, the rotations and their count
abbrev pub held : Plan → StatedPlan
held p = record {
  pair = p.pair;
  base = p.base;
  measures = record { 0 = measured p };
  count = length p.rotations;
  rotations = p.rotations ++ replicate (most_rotations - length p.rotations) native0;
}

abbrev pub stated : Result Plan Refusal → Result StatedPlan Refusal
stated (Ok p) = Ok (held p)
stated (Err r) = Err r

-- 36 and 36 numbers of the matrices, the base, the string, the count and 256 rotations
abbrev pub told_plan : Result StatedPlan Refusal → Told
told_plan =
    told 331
    (λ (a : StatedPlan). a.pair.mx ++ a.pair.my ++ a.base.0 ∷ a.measures.0 ∷ a.count ∷ numbers a.rotations)
