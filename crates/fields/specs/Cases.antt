-- One table of cases shows what the definitions of specs/Field.antt mean. proofs/Cases.antt states that each case holds. Assumes nothing.
use Rattle.std.specs.Prelude.{true, false, List, [], ◌∷◌}
use Rattle.fields.specs.Field.{little_endian, big_endian, one_byte, get, put, tile, bits, get_bits, put_bits}
use Rattle.fields.specs.Case.{Case, case}

-- Each case gives what is computed, and then what is expected.
unfoldable pub table : List Case
table =
    -- A number is read in the two orders, and from a single byte.
    case (get (little_endian 1 2) (9 ∷ 1 ∷ 2 ∷ [])) 0x0201
    ∷ case (get (big_endian 1 2) (9 ∷ 1 ∷ 2 ∷ [])) 0x0102
    ∷ case (get (little_endian 0 4) (1 ∷ 2 ∷ 3 ∷ 4 ∷ [])) 0x04030201
    ∷ case (get (big_endian 0 4) (1 ∷ 2 ∷ 3 ∷ 4 ∷ [])) 0x01020304
    ∷ case (get (one_byte 2) (9 ∷ 1 ∷ 2 ∷ [])) 2
    -- A number is written in both orders, and the bytes around the field stay.
    ∷ case (put (little_endian 1 2) 0x0102 (9 ∷ 9 ∷ 9 ∷ 9 ∷ [])) (9 ∷ 2 ∷ 1 ∷ 9 ∷ [])
    ∷ case (put (big_endian 1 2) 0x0102 (9 ∷ 9 ∷ 9 ∷ 9 ∷ [])) (9 ∷ 1 ∷ 2 ∷ 9 ∷ [])
    -- Bits 6 to 7, bits 0 to 5, and bit 3 are read.
    ∷ case (get_bits (bits 1 6 2) (0 ∷ 0xBF ∷ [])) 2
    ∷ case (get_bits (bits 1 0 6) (0 ∷ 0xBF ∷ [])) 63
    ∷ case (get_bits (bits 1 3 1) (0 ∷ 0x08 ∷ [])) 1
    -- Bits 4 to 6, bit 7 and bits 0 to 3 are written: the other bits stay, and so do the bytes around. There is no byte 2 to write.
    ∷ case (put_bits (bits 1 4 3) 2 (9 ∷ 0xFF ∷ 9 ∷ [])) (9 ∷ 0xAF ∷ 9 ∷ [])
    ∷ case (put_bits (bits 1 7 1) 1 (9 ∷ 0x7F ∷ [])) (9 ∷ 0xFF ∷ [])
    ∷ case (put_bits (bits 0 0 4) 0x13 (0xF0 ∷ 9 ∷ [])) (0xF3 ∷ 9 ∷ [])
    ∷ case (put_bits (bits 2 0 4) 5 (9 ∷ 9 ∷ [])) (9 ∷ 9 ∷ [])
    -- The fields leave a gap, then they overlap, and then they do neither.
    ∷ case (tile 0 (one_byte 0 ∷ one_byte 2 ∷ []) 3) false
    ∷ case (tile 0 (little_endian 0 2 ∷ one_byte 1 ∷ []) 2) false
    ∷ case (tile 0 (little_endian 0 2 ∷ one_byte 2 ∷ []) 3) true
    ∷ []
