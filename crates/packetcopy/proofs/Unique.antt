-- No second answer satisfies the promise: what the `ensures` says is true of only one result, and of only one content of the slice at
-- exit. `Post` is the contract itself, as the check reads it. Assumes nothing.
use mathlib.Core.Path.{sym, ◌∙◌}
use Rattle.fields.proofs.Only.{Only}
use Rattle.packetcopy.proofs.put_packet.Kinds as put-packet-kinds
use Rattle.packetcopy.proofs.put_packet.Reads as put-packet

pub put_packet_only : Only 2 put-packet-kinds.ps put-packet-kinds.r put-packet.Post (λ κs s. s.0.now)
put_packet_only κs a x y s t p q = (p.0 ∙ sym q.0, p.1 ∙ sym q.1)
