-- Request 6 of 02: what it changes to be told that extended addressing is on. Assumes nothing: these are definitions.
use Rattle.std.specs.Prelude.{◌≡◌, Bool, true, false, ◌&&◌, ◌||◌, List, [], ◌∷◌, ℕ, eqb, leb, length}
use Rattle.scsi.specs.declared.ScsiCommand.TheVariants.{Unknown}
use Rattle.scsi.specs.Decoding.{opcode_of, decoding, decode_call, plain_call}

-- Whether the block `b` is a READ (16) or a WRITE (16): its opcode is 88 or 8A, and it has at least 14 bytes.
unfoldable pub is_read_or_write16 : List ℕ → Bool
is_read_or_write16 b = (eqb (opcode_of b) 0x88 || eqb (opcode_of b) 0x8A) && leb 14 (length b)

-- This is promised of every block `b`: the plain entry decodes as the one that is told on; told off, the decoder gives Unknown for a
-- READ (16) or a WRITE (16), and told on it does not; and for every other block both tellings decode the same.
pub record Telling (b : List ℕ) : Type 0 where
  pub plain : plain_call b ≡ decode_call true b
  pub off : is_read_or_write16 b ≡ true → decode_call false b ≡ decoding 0 (Unknown (opcode_of b) ∷ [])
  pub differs : is_read_or_write16 b ≡ true → decode_call true b ≡ decode_call false b → ⊥
  pub same : is_read_or_write16 b ≡ false → decode_call true b ≡ decode_call false b
