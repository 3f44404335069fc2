-- How the text of an expansion is put together: instructions with spaces between them. Assumes nothing.
use mathlib.Core.List.{List, [], ◌∷◌, ◌++◌, append-nil}
use mathlib.Core.Path.{◌≡◌, sym, ap}
use Prim.Native.Nat.{ℕ, ◌+◌, ◌-◌, ◌*◌, ◌^◌, ◌≤◌, ◌<◌}
use native.Mathlib.Omega.{arith}
use lib.ListN.{length, take, drop, get_or, length-append}
use lib.Seq.{take_all}
use Rattle.std.specs.List.{flat_map}
use Rattle.std.proofs.lemmas.List.Folds.{length-flat_map-take}
use Rattle.bicycle_common.specs.declared.BicycleISA.{BicycleISA}
use Rattle.bicycle_common.specs.declared.BicycleISA.TheVariants.{Automorphism, Measure}
use Rattle.bicycle_common.specs.Instructions.{instruction_text}
use Rattle.text.specs.declared.Out.{Out}
use Rattle.text.specs.Puts.{Put}
use Rattle.text.proofs.Puts.{put_none, then}
use Rattle.compile.specs.Expansions.{space, spaced, expansion_text}

-- ---- an instruction

instruction_length : (i : BicycleISA) → length (instruction_text i) ≤ 9
instruction_length (Automorphism a) = omega arith
instruction_length (Measure b) = omega arith

-- ---- expansions

-- an instruction behind another
abbrev pub behind : BicycleISA → List ℕ
behind i = space ∷ instruction_text i

expansion_law : (i : BicycleISA) (is : List BicycleISA) → expansion_text (i ∷ is) ≡ instruction_text i ++ flat_map behind is
unfolding spaced
expansion_law i [] = sym (append-nil (instruction_text i))
expansion_law i (j ∷ is) = ap (λ (r : List ℕ). instruction_text i ++ space ∷ r) (expansion_law j is)

-- the instructions behind the first, as a slice
abbrev pub others : List BicycleISA → List BicycleISA
others is = take (length is - 1) (drop 1 is)

expansion_parts : (is : List BicycleISA) (d : BicycleISA) → 1 ≤ length is → expansion_text is ≡ instruction_text (get_or is 0 d) ++ flat_map behind (others is)
expansion_parts [] d h = absurd (omega arith)
expansion_parts (i ∷ is) d h = let e : take (length (i ∷ is) - 1) is ≡ is = take_all _ is (omega arith) in rw e (expansion_law i is)

expansion_sum : (is : List BicycleISA) (d : BicycleISA) → 1 ≤ length is → length (expansion_text is) ≡ length (instruction_text (get_or is 0 d)) + length (flat_map behind (others is))
expansion_sum is d h = rw (expansion_parts is d h) (length-append _ _)

module _ (is : List BicycleISA) (d : BicycleISA) (h : 1 ≤ length is) where
  -- there is room for the first instruction
  pub first_room : (at : ℕ) → at + length (expansion_text is) < 2 ^ 64 → at + length (instruction_text (get_or is 0 d)) < 2 ^ 64
  first_room at r = omega (arith, expansion_sum is d h)

  -- the first is put, and k of those behind it
  module _ {x y z : Out} (k : ℕ) (p : Put x (instruction_text (get_or is 0 d)) y) (q : Put y (flat_map behind (take k (others is))) z) where
    -- there is room for one more
    pub next_room : x.at + length (expansion_text is) < 2 ^ 64 → k < length (others is)
        → z.at + (1 + length (instruction_text (get_or (others is) k d))) < 2 ^ 64
    next_room r l = omega (arith, expansion_sum is d h, length-flat_map-take behind (others is) k d l, p.moves, q.moves)

    -- all are
    pub all_put : length (others is) ≤ k → Put x (expansion_text is) z
    all_put l = rw (expansion_parts is d h) (then p (rw (take_all k (others is) l) at q))

pub expansion_length : (is : List BicycleISA) → length (expansion_text is) ≤ 10 * length is
unfolding spaced
expansion_length [] = omega arith
expansion_length (i ∷ []) = omega (arith, instruction_length i)
expansion_length (i ∷ j ∷ is) = rw length-append (omega (arith, instruction_length i, expansion_length (j ∷ is)))

-- no instructions
pub put_no_instruction : (is : List BicycleISA) (x : Out) → length is < 1 → Put x (expansion_text is) x
unfolding spaced
put_no_instruction [] x h = put_none x
put_no_instruction (i ∷ is) x h = absurd (omega arith)
