-- `natives::Halves::of` meets its contract: the sums of three words are words, and by both halves a word goes through all six. Assumes
-- nothing.
use Rattle.natives.proofs.Words.{low_small, high_small, through}
use Rattle.natives.proofs.Halves.of.Goals as goal

pub invariant_of-result : goal.invariant_of-result
invariant_of-result c =
    let r = c.args.r.now in
    record {
      low_small = low_small r.words r.small c.sums.result c.sums-2.result c.sums.ensures c.sums-2.ensures;
      high_small = high_small r.words r.small c.sums.result c.sums-2.result c.sums.ensures c.sums-2.ensures;
    }

pub returns : goal.returns
returns c =
    let r = c.args.r.now in
    through r.words r.small c.sums.result c.sums-2.result c.sums.ensures c.sums-2.ensures
