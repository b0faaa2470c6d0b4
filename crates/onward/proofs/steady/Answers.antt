-- `onward::steady` meets its contract, test by test. Assumes nothing.
use Rattle.onward.proofs.Going.{is_steady}
use Rattle.onward.proofs.steady.Goals as goal

pub returns : goal.returns
returns c =
    let a = c.args in
    is_steady a.«record».now a.len c.le32.ensures c.if-le32-len.false c.if-len-lt64.false c.byte.ensures c.if-byte-gt15.false c.if-len-gt65536.false c.byte-2.ensures
    c.if-byte-gt2.false c.byte-3.ensures c.if-byte-gt2-2.false c.byte-4.ensures c.if-byte-gt15-2.false c.byte-5.ensures
