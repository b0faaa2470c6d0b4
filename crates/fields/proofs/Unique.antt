-- No second answer satisfies a promise: what the `ensures` of a function says is true of one answer only, and of one content of the lent
-- slice at exit. `Post` is the contract itself, as the check reads it. Assumes nothing.
use mathlib.Core.Path.{refl, sym, ◌∙◌}
use Rattle.std.proofs.Common.{ℕ, Fits, w64}
use Rattle.fields.proofs.Only.{Only}
use Rattle.fields.proofs.byte.Kinds as byte-kinds
use Rattle.fields.proofs.byte.Reads as byte
use Rattle.fields.proofs.bytes_at.Kinds as bytes-at-kinds
use Rattle.fields.proofs.bytes_at.Reads as bytes-at
use Rattle.fields.proofs.le16.Kinds as le16-kinds
use Rattle.fields.proofs.le16.Reads as le16
use Rattle.fields.proofs.le32.Kinds as le32-kinds
use Rattle.fields.proofs.le32.Reads as le32
use Rattle.fields.proofs.be16.Kinds as be16-kinds
use Rattle.fields.proofs.be16.Reads as be16
use Rattle.fields.proofs.be32.Kinds as be32-kinds
use Rattle.fields.proofs.be32.Reads as be32
use Rattle.fields.proofs.be64.Kinds as be64-kinds
use Rattle.fields.proofs.be64.Reads as be64
use Rattle.fields.proofs.bits_of.Kinds as bits-of-kinds
use Rattle.fields.proofs.bits_of.Reads as bits_of
use Rattle.fields.proofs.put_byte.Kinds as put-byte-kinds
use Rattle.fields.proofs.put_byte.Reads as put_byte
use Rattle.fields.proofs.put_bytes.Kinds as put-bytes-kinds
use Rattle.fields.proofs.put_bytes.Reads as put-bytes
use Rattle.fields.proofs.put_le32.Kinds as put-le32-kinds
use Rattle.fields.proofs.put_le32.Reads as put-le32
use Rattle.fields.proofs.put_bits.Kinds as put-bits-kinds
use Rattle.fields.proofs.put_bits.Reads as put-bits

pub byte_only : Only 1 byte-kinds.ps byte-kinds.r byte.Post (λ κs s. tt {0})
byte_only κs a x y s t p q = (p ∙ sym q, refl)

pub bytes_at_only : (n : ℕ) (h : Fits w64 n) → Only 2 (bytes-at-kinds.ps n h) (bytes-at-kinds.r n h) (bytes-at.Post n h) (λ κs s. tt {0})
bytes_at_only n h κs a x y s t p q = (p ∙ sym q, refl)

pub le16_only : Only 1 le16-kinds.ps le16-kinds.r le16.Post (λ κs s. tt {0})
le16_only κs a x y s t p q = (p ∙ sym q, refl)

pub le32_only : Only 1 le32-kinds.ps le32-kinds.r le32.Post (λ κs s. tt {0})
le32_only κs a x y s t p q = (p ∙ sym q, refl)

pub be16_only : Only 1 be16-kinds.ps be16-kinds.r be16.Post (λ κs s. tt {0})
be16_only κs a x y s t p q = (p ∙ sym q, refl)

pub be32_only : Only 1 be32-kinds.ps be32-kinds.r be32.Post (λ κs s. tt {0})
be32_only κs a x y s t p q = (p ∙ sym q, refl)

pub be64_only : Only 1 be64-kinds.ps be64-kinds.r be64.Post (λ κs s. tt {0})
be64_only κs a x y s t p q = (p ∙ sym q, refl)

pub bits_of_only : Only 1 bits-of-kinds.ps bits-of-kinds.r bits_of.Post (λ κs s. tt {0})
bits_of_only κs a x y s t p q = (p ∙ sym q, refl)

pub put_byte_only : Only 1 put-byte-kinds.ps put-byte-kinds.r put_byte.Post (λ κs s. s.0.now)
put_byte_only κs a x y s t p q = (refl, p ∙ sym q)

pub put_bytes_only : (n : ℕ) (h : Fits w64 n) → Only 2 (put-bytes-kinds.ps n h) (put-bytes-kinds.r n h) (put-bytes.Post n h) (λ κs s. s.0.now)
put_bytes_only n h κs a x y s t p q = (refl, p ∙ sym q)

pub put_le32_only : Only 1 put-le32-kinds.ps put-le32-kinds.r put-le32.Post (λ κs s. s.0.now)
put_le32_only κs a x y s t p q = (refl, p ∙ sym q)

pub put_bits_only : Only 1 put-bits-kinds.ps put-bits-kinds.r put-bits.Post (λ κs s. s.0.now)
put_bits_only κs a x y s t p q = (refl, p ∙ sym q)
