-- "the record as bytes": there are 56, and each field has a fixed place. Numbers of four bytes are little-endian. Assumes nothing: these
-- are definitions.
use Rattle.std.specs.Prelude.{ℕ, List, [], ◌∷◌}
use Rattle.fields.specs.Field.{Field, little_endian, one_byte}

-- This is P. It, the max LUN and the length of the IO buffer are written only at creation.
abbrev pub packet_size : Field
packet_size = one_byte 0

-- This is the max LUN.
abbrev pub max_lun : Field
max_lun = one_byte 1

-- This is 01's number of the state.
abbrev pub state : Field
state = one_byte 2

-- This is a flag: 1 if a status is present, 0 if none is.
abbrev pub present : Field
present = one_byte 3

-- This is the length of the IO buffer.
abbrev pub size : Field
size = little_endian 4 4

-- This is the read mark of the IO buffer.
abbrev pub read_mark : Field
read_mark = little_endian 8 4

-- This is the write mark of the IO buffer.
abbrev pub write_mark : Field
write_mark = little_endian 12 4

-- "The count left on the wire and the residue reported are two counters": this is the count left.
abbrev pub left : Field
left = little_endian 16 4

-- This is the residue, if a status is present.
abbrev pub residue : Field
residue = little_endian 20 4

-- This is BOT's number of the status, if one is present.
abbrev pub status : Field
status = one_byte 24

-- This is the wrapper's direction: 0 for no data, 1 to the host, 2 from the host.
abbrev pub direction : Field
direction = one_byte 25

-- This is the wrapper's LUN.
abbrev pub lun : Field
lun = one_byte 26

-- This is how many bytes the wrapper's command block has.
abbrev pub block_length : Field
block_length = one_byte 27

-- This is the wrapper's tag.
abbrev pub tag : Field
tag = little_endian 28 4

-- This is L, the length that the wrapper declares.
abbrev pub declared : Field
declared = little_endian 32 4

-- These 16 bytes are the wrapper's command block.
abbrev pub block : Field
block = little_endian 36 16

-- This is how many bytes the firmware put in since the wrapper.
abbrev pub put_in : Field
put_in = little_endian 52 4

-- A record has this many bytes.
abbrev pub record_size : ℕ
record_size = 56

-- The table has all fields, in the order of their places.
abbrev pub record_table : List Field
record_table =
    packet_size ∷ max_lun ∷ state ∷ present ∷ size ∷ read_mark ∷ write_mark ∷ left ∷ residue ∷ status
    ∷ direction ∷ lun ∷ block_length ∷ tag ∷ declared ∷ block ∷ put_in ∷ []
