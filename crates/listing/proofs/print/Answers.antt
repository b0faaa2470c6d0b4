-- `listing::print` is safe and ends: a line with at most 64 bytes fits into the text. Assumes nothing.
use Rattle.std.proofs.Common.{◌≡◌, ℕ, ◌≤◌, List, length, take, sym, arith, min}
use lib.Seq.{length-take-le}
use Rattle.benchline.specs.declared.Line.{Line}
use Rattle.benchline.specs.Line.{line_of}
use Rattle.benchline.specs.Inner.Line.{room_for, Puts}
use Rattle.benchline.proofs.Text.{line_fits}
use Rattle.listing.proofs.print.Goals as goal

-- The line of at most 64 of the bytes `packet` fits into 280.
fits_room : (packet : List ℕ) (sent least n : ℕ) → least ≡ min sent (length packet) → n ≡ min least 64 → room_for (length (take n packet)) ≤ 280
unfolding room_for
fits_room packet sent least n e f = omega (arith, length-take-le n packet (omega (arith, e, f)), e, f)

-- What was put in ends before the text does.
fits_text : (l : Line) (bytes : List ℕ) {before after : List ℕ} {end : ℕ} → Puts 0 (line_of l bytes) before after end → room_for (length bytes) ≤ 280 → length after ≡ 280
    → end ≤ length after
fits_text l bytes p h e = omega (arith, p.ends, line_fits l bytes, h, e)

pub put_line-end-requires : goal.put_line-end-requires
put_line-end-requires c = fits_room c.args.packet.now c.args.sent c.min.result c.min-n.result c.min.ensures c.min-n.ensures

pub slice_bounds-text-end : goal.slice_bounds-text-end
slice_bounds-text-end c =
    fits_text _ _ c.put_line-end.ensures (fits_room c.args.packet.now c.args.sent c.min.result c.min-n.result c.min.ensures c.min-n.ensures) c.put_line-end.auto.text

pub slice_bounds-write_all-end : goal.slice_bounds-write_all-end
slice_bounds-write_all-end c =
    sym (length-take-le _ _ (fits_text _ _ c.put_line-end.ensures (fits_room c.args.packet.now c.args.sent c.min.result c.min-n.result c.min.ensures c.min-n.ensures) c.put_line-end.auto.text))
