-- `bicycle_common::BicycleISA::display` meets its contract: the bytes of each arm are the text, letter by letter. Assumes nothing.
use mathlib.Core.Path.{sym, ap, ap₂, ◌∙◌}
use mathlib.Core.List.{◌∷◌, ◌++◌}
use Prim.Native.Nat.{ℕ}
use Rattle.bicycle_common.specs.Bytes.{bytes_of}
use Rattle.bicycle_common.specs.Letters.{capital}
use Rattle.bicycle_common.specs.Instructions.{aut_text, shown, instruction_shown}
use Rattle.bicycle_common.proofs.BicycleISA.display.Goals as goal

pub returns-in-Automorphism : goal.returns-in-Automorphism
returns-in-Automorphism c =
    ap₂ (λ (x y : ℕ). shown (aut_text x y)) c.get_x-x.ensures c.get_y-y.ensures
    ∙ sym (ap instruction_shown c.in-Automorphism.is)

pub returns-in-Measure : goal.returns-in-Measure
returns-in-Measure c =
    ap₂ (λ (p q : ℕ). shown (bytes_of "meas(" ++ p ∷ bytes_of "," ++ q ∷ bytes_of ")"))
    (c.display-p1.ensures ∙ ap capital c.get_basis_1.ensures)
    (c.display-p7.ensures ∙ ap capital c.get_basis_7.ensures)
    ∙ sym (ap instruction_shown c.in-Measure.is)
