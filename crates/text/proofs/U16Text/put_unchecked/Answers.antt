-- `put_unchecked` of `u16` meets its contract: there is room for the digits of the number. Assumes nothing.
use native.Mathlib.Omega.{arith}
use Rattle.text.proofs.Written.{room_within}
use Rattle.text.proofs.U16Text.put_unchecked.Goals as goal

pub put_decimal_unchecked-requires : goal.put_decimal_unchecked-requires
put_decimal_unchecked-requires c = room_within (omega arith) _ c.requires
