-- What each public call answers: 11 for a number that is no native's. Assumes nothing.
use Rattle.std.specs.Prelude.{cond, List, [], ◌∷◌, flat_map, ℕ, ltb, Result, Ok, Err}
use Rattle.bicycle_common.specs.declared.BicycleISA.{BicycleISA}
use Rattle.bicycle_common.specs.declared.BicycleISA.TheVariants.{Automorphism, Measure}
use Rattle.bicycle_common.specs.declared.Refusal.{Refusal}
use Rattle.bicycle_common.specs.declared.Refusal.TheVariants.{NativeRange}
use Rattle.bicycle_common.specs.Refusals.{Told, told}
use Rattle.bicycle_common.specs.Letters.{rank}
use Rattle.bicycle_common.specs.Automorphisms.{inverse}
use Rattle.native_measurement.specs.declared.NativeMeasurement.{NativeMeasurement}
use Rattle.native_measurement.specs.Natives.{natives, native_of}

abbrev pub native_at : ℕ → Result NativeMeasurement Refusal
native_at n = cond (ltb n natives) (Ok (native_of n)) (Err NativeRange)

-- a native expands to aut, meas, inverse aut
abbrev pub implementation : NativeMeasurement → Result (List BicycleISA) Refusal
implementation m = Ok (Automorphism m.automorphism ∷ Measure m.logical ∷ Automorphism (inverse m.automorphism) ∷ [])

abbrev pub implementation_at : ℕ → Result (List BicycleISA) Refusal
implementation_at n = cond (ltb n natives) (implementation (native_of n)) (Err NativeRange)

-- ---- what a caller is told

-- the automorphism's components, then the letters' places in the order I, X, Z, Y
abbrev pub told_native : Result NativeMeasurement Refusal → Told
told_native =
    told 4 (λ (m : NativeMeasurement). m.automorphism.x ∷ m.automorphism.y ∷ rank m.logical.p1 ∷ rank m.logical.p7 ∷ [])

-- of an instruction: 1 and the components of an automorphism, 2 and the letters' places of a measurement
abbrev pub told_instruction : BicycleISA → List ℕ
told_instruction (Automorphism a) = 1 ∷ a.x ∷ a.y ∷ []
told_instruction (Measure b) = 2 ∷ rank b.p1 ∷ rank b.p7 ∷ []

abbrev pub told_implementation : Result (List BicycleISA) Refusal → Told
told_implementation = told 9 (flat_map told_instruction)
