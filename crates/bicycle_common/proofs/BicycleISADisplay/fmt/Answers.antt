-- The `Display` of `bicycle_common::BicycleISA` writes the instruction's text: a component is one digit. Assumes nothing.
use mathlib.Core.Path.{◌≡◌, ap, ap₂, sym, subst, ◌∙◌}
use mathlib.Core.List.{List, [], ◌∷◌, ◌++◌}
use Prim.Native.Nat.{ℕ}
use native.Mathlib.Omega.{arith}
use Rattle.std.specs.Fmt.{decimal, HasWritten}
use Rattle.std.proofs.lemmas.Fmt.{decimal_digit}
use Rattle.bicycle_common.specs.Bytes.{digit}
use Rattle.bicycle_common.specs.Automorphisms.{component}
use Rattle.bicycle_common.specs.Instructions.{aut_text, instruction_text}
use Rattle.bicycle_common.proofs.BicycleISADisplay.fmt.Goals as goal

one_digit : (d n : ℕ) → d ≡ component n → decimal d ≡ digit (component n) ∷ []
one_digit d n e = ap decimal e ∙ decimal_digit (component n) (omega arith)

both_digits : (d e x y : ℕ) → d ≡ component x → e ≡ component y
    → 97 ∷ 117 ∷ 116 ∷ 40 ∷ (decimal d ++ 44 ∷ (decimal e ++ 41 ∷ [])) ≡ aut_text (component x) (component y)
both_digits d e x y p q =
    ap₂ (λ (a b : List ℕ). 97 ∷ 117 ∷ 116 ∷ 40 ∷ (a ++ 44 ∷ (b ++ 41 ∷ []))) (one_digit d x p) (one_digit e y q)

pub returns-in-Automorphism-clause-writes : goal.returns-in-Automorphism-clause-writes
returns-in-Automorphism-clause-writes g c plain ok =
    let text = both_digits _ _ _ _ c.get_x.ensures c.get_y.ensures ∙ sym (ap instruction_text c.in-Automorphism.is) in
    subst (λ (t : List ℕ). HasWritten {W = g.row.W.Denot} g.W.Write.write_str_gives c.args.f.now t c.write.new.self) text (c.write.ensures.writes plain ok)
