-- `text::Out::put_decimal_unchecked` meets its contract: the digits of a tenth stand before the last. Assumes nothing.
use Rattle.text.proofs.Out.+put_decimal_unchecked.Given as goal

abbrev pub decreases-put_decimal_unchecked : goal.decreases-put_decimal_unchecked
decreases-put_decimal_unchecked l = l.n
