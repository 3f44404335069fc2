-- `text::Out::put_bytes_unchecked` meets its contract: what there is room for is copied, and all of it counted. Assumes nothing.
use Rattle.std.proofs.Common.{◌+◌, ◌++◌, take, refl, arith}
use borrow.Rule.Slice.PartMut.{Post-is}
use Rattle.text.proofs.Puts.{put_front, put_past}
use Rattle.text.proofs.Out.put_bytes_unchecked.Goals as goal
use Rattle.text.proofs.Out.put_bytes_unchecked.Goals.{then-self, else-self}

pub returns : goal.returns
returns c =
    let at = c.args.self.now.at in
    let room = c.args.self.now.bytes.now in
    elim c.if-self.branch [
      | then-self w ↦
          let n = w.min-n.result in
          let behind = Post-is at (at + n) room (omega arith) in
          rw w.self-is (put_front c.args.s.now refl refl n w.min-n.ensures w.if-self.true (λ i. take at room ++ (w.copy_from_slice.ensures.after i ++ behind i)))
      | else-self w ↦ rw w.self-is (put_past c.args.s.now refl refl w.if-self.false refl)
    ]
