-- `scsi::numbers::put_decoded` meets its contract: a number that is neither 0 nor 13 is 10. Assumes nothing.
use Rattle.std.proofs.Common.{◌≡◌, rules}
use Rattle.scsi.proofs.Six.{the_last_number}
use Rattle.scsi.proofs.numbers.put_decoded.Goals as goal

pub returns-in_default : goal.returns-in_default
returns-in_default c =
    let ten : c.decode_numbers.result ≡ 10 = the_last_number _ _ _ c.decode_numbers.ensures (search rules) (search rules) in
    rw ten at c.decode_numbers.ensures
