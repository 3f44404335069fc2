-- The text of an instruction. Assumes nothing.
use Rattle.std.specs.Prelude.{List, ◌∷◌, ◌++◌, ℕ, ◌-◌, length, replicate}
use Rattle.bicycle_common.specs.declared.BicycleISA.{BicycleISA}
use Rattle.bicycle_common.specs.declared.BicycleISA.TheVariants.{Automorphism, Measure}
use Rattle.bicycle_common.specs.declared.Pauli.{Pauli}
use Rattle.bicycle_common.specs.declared.IsaText.{IsaText}
use Rattle.bicycle_common.specs.Bytes.{bytes_of, digit}
use Rattle.bicycle_common.specs.Letters.{capital}
use Rattle.bicycle_common.specs.Automorphisms.{component}

-- aut(x,y)
abbrev pub aut_text : ℕ → ℕ → List ℕ
aut_text x y = bytes_of "aut(" ++ digit x ∷ bytes_of "," ++ digit y ∷ bytes_of ")"

-- meas(P,Q), in capitals
abbrev pub meas_text : Pauli → Pauli → List ℕ
meas_text p q = bytes_of "meas(" ++ capital p ∷ bytes_of "," ++ capital q ∷ bytes_of ")"

abbrev pub instruction_text : BicycleISA → List ℕ
instruction_text (Automorphism a) = aut_text (component a.x) (component a.y)
instruction_text (Measure b) = meas_text b.p1 b.p7

-- text in nine bytes, with zeros behind it
abbrev pub shown : List ℕ → IsaText
shown t = record { bytes = t ++ replicate (9 - length t) 0; len = length t }

abbrev pub instruction_shown : BicycleISA → IsaText
instruction_shown i = shown (instruction_text i)
