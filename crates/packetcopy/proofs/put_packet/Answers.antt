-- `packetcopy::put_packet` meets its contract: each packet size has its own copy, and any other number copies nothing. Assumes nothing.
use mathlib.Core.Path.{refl}
use native.Mathlib.Omega.{arith}
use Rattle.device.specs.Create.{is_packet_size}
use Rattle.packetcopy.proofs.Sizes.{sized, other}
use Rattle.packetcopy.proofs.put_packet.Goals as goal

pub returns-in-8 : goal.returns-in-8
unfolding is_packet_size
returns-in-8 c =
    let a = c.args in
    sized a.dst.now a.at a.src.now a.from a.p 8 refl c.in-8.is c.copy.ensures

pub returns-in-16 : goal.returns-in-16
unfolding is_packet_size
returns-in-16 c =
    let a = c.args in
    sized a.dst.now a.at a.src.now a.from a.p 16 refl c.in-16.is c.copy-in-16.ensures

pub returns-in-32 : goal.returns-in-32
unfolding is_packet_size
returns-in-32 c =
    let a = c.args in
    sized a.dst.now a.at a.src.now a.from a.p 32 refl c.in-32.is c.copy-in-32.ensures

pub returns-in-64 : goal.returns-in-64
unfolding is_packet_size
returns-in-64 c =
    let a = c.args in
    sized a.dst.now a.at a.src.now a.from a.p 64 refl c.in-64.is c.copy-in-64.ensures

pub returns-in_default : goal.returns-in_default
returns-in_default c =
    let a = c.args in
    other a.dst.now a.at a.src.now a.from a.p (λ e. absurd (omega (arith, e))) (λ e. absurd (omega (arith, e))) (λ e. absurd (omega (arith, e))) (λ e. absurd (omega (arith, e)))

pub returns-in_default-p : goal.returns-in_default-p
returns-in_default-p c =
    let a = c.args in
    other a.dst.now a.at a.src.now a.from a.p (λ e. absurd (omega (arith, e))) (λ e. absurd (omega (arith, e))) (λ e. absurd (omega (arith, e))) (λ e. absurd (omega (arith, e)))
