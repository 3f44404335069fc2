-- A text whose length is known is written where there is room for it, and refused elsewhere. Assumes nothing.
use Rattle.std.specs.Prelude.{Ok, Err}
use mathlib.Core.List.{List, ◌++◌}
use mathlib.Core.Path.{◌≡◌, ◌∙◌}
use Prim.Native.Nat.{ℕ, ◌<◌, ◌≤◌}
use native.Mathlib.Nat.{zero-add}
use native.Mathlib.Omega.{arith}
use lib.ListN.{length, drop}
use lib.Seq.{sets, sets-eq}
use borrow.Author.Tests.{lt-ltb, le-ltb}
use Rattle.bicycle_common.specs.declared.Refusal.TheVariants.{Room}
use Rattle.text.specs.Fronts.{Written}

module _ {t before : List ℕ} {needed : ℕ} (e : needed ≡ length t) where
  pub written_short : length before < needed → Written (Ok t) before (Err (Room needed)) before
  written_short h =
      let l : length before < length t = omega arith in
      record { answer = rw (lt-ltb (length before) (length t) l, ← e); buffer = rw (lt-ltb (length before) (length t) l) }

  pub written_whole : {after : List ℕ} {n : ℕ} → needed ≤ length before → n ≡ length t → after ≡ sets before 0 t → Written (Ok t) before (Ok n) after
  written_whole {after} {n} h m p =
      let l : length t ≤ length before = omega arith in
      let f : after ≡ t ++ drop (length t) before = p ∙ simp zero-add at (sets-eq t before 0 (omega arith)) in
      record { answer = rw (le-ltb (length before) (length t) l, m); buffer = rw (le-ltb (length before) (length t) l) f }
