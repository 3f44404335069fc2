-- `text::Out::put_decimal_unchecked` meets its contract: the digits of a tenth stand before the last. Assumes nothing.
use native.Mathlib.Omega.{arith}
use Rattle.text.proofs.Decimals.{one_length, put_one, put_more}
use Rattle.text.proofs.Written.{room_before, room_behind}
use Rattle.text.proofs.Out.+put_decimal_unchecked.Goals as goal
use Rattle.text.proofs.Out.+put_decimal_unchecked.Goals.{then-n-ge10, else-n-ge10}

pub put_decimal_unchecked-requires : goal.put_decimal_unchecked-requires
put_decimal_unchecked-requires t c = (omega arith, room_before c.if-n-ge10.true (λ h. omega arith) _ c.requires)

pub put_byte_unchecked-requires : goal.put_byte_unchecked-requires
put_byte_unchecked-requires t c =
    elim c.if-n-ge10.branch [
      | then-n-ge10 w ↦ rw w.self-is (room_behind w.if-n-ge10.true (λ h. omega arith) _ _ w.put_decimal_unchecked.ensures.moves c.requires)
      | else-n-ge10 w ↦ rw w.self-is (omega (arith, one_length _ w.if-n-ge10.false))
    ]

pub returns : goal.returns
returns t c =
    elim c.if-n-ge10.branch [
      | then-n-ge10 w ↦ put_more _ w.if-n-ge10.true (rw (← w.self-is) at w.put_decimal_unchecked.ensures) c.put_byte_unchecked.ensures
      | else-n-ge10 w ↦ put_one _ w.if-n-ge10.false (rw w.self-is at c.put_byte_unchecked.ensures)
    ]
