-- `display::Expansion::put_unchecked` meets its contract: before each instruction behind the first those in front of it are put. Assumes nothing.
use lib.ListN.{take}
use Rattle.std.specs.List.{flat_map}
use Rattle.text.specs.Puts.{Put}
use Rattle.display.proofs.Texts.{behind}
use Rattle.display.proofs.ExpansionText.put_unchecked.Given as goal

abbrev pub invariant-loop-i : goal.invariant-loop-i
invariant-loop-i l = Put l.initial.out (flat_map behind (take l.i-index l.others)) l.out
