-- `benchline::put_bytes` meets its contract: it puts `-`, or what `put_hex` puts. Assumes nothing.
use native.Mathlib.Omega.{arith}
use Rattle.benchline.proofs.Ways.{bytes_first, bytes_fit, none_shown, bytes_shown}
use Rattle.benchline.proofs.put_bytes.Goals as goal

pub put_text-requires : goal.put_text-requires
put_text-requires c = omega (arith, bytes_first _ _ c.args.bytes.now c.requires)

pub put_hex-requires : goal.put_hex-requires
put_hex-requires c = bytes_fit _ _ c.args.bytes.now c.if-is_empty.ensures c.requires

pub returns-then-is_empty : goal.returns-then-is_empty
returns-then-is_empty c = none_shown _ _ c.args.bytes.now c.if-is_empty.ensures c.put_text.ensures

pub returns-else-is_empty : goal.returns-else-is_empty
returns-else-is_empty c = bytes_shown _ _ c.args.bytes.now c.if-is_empty.ensures c.put_hex.ensures
