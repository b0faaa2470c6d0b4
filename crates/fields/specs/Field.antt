-- A field is a part of a message that holds a number, as the tables of the public standards give it. This file says how it is read and
-- written. Assumes nothing: these are definitions.
use Rattle.std.specs.Prelude.{List, [], ◌∷◌, reverse, Bool, ◌&&◌, ℕ, zero, suc, ◌+◌, ◌*◌, ◌^◌, ◌/◌, ◌%◌, eqb, take, drop, get_or, set}
use Rattle.fields.specs.Overlay.{overlay}

-- A number's bytes stand in one of two orders: `little` (little-endian) has the least significant byte
-- first, `big` (big-endian) the most significant one.
pub data Order : Type 0 where
  little big : Order

-- A field of whole bytes has an order of its bytes, `order`; `start` is the index of its first byte in the
-- message, and `width` is the number of its bytes.
pub record Field : Type 0 where
  pub order : Order
  pub start : ℕ
  pub width : ℕ

-- `little_endian` and `big_endian` make the field of `width` bytes from index `start` on, in the one order and the other.
abbrev pub little_endian : ℕ → ℕ → Field
little_endian start width = record { order = little; start = start; width = width }

abbrev pub big_endian : ℕ → ℕ → Field
big_endian start width = record { order = big; start = start; width = width }

-- This is the field of the one byte at index `start`. One byte has no order, so `little` would be as good as `big`.
abbrev pub one_byte : ℕ → Field
one_byte start = little_endian start 1

-- These are the bytes of the field `f` in the message `m`, as they stand there.
unfoldable pub bytes_at : Field → List ℕ → List ℕ
bytes_at f m = take f.width (drop f.start m)

-- This is the number that bytes stand for, with the least significant byte first: the first byte, `b`, counts once, and
-- what the others, `bs`, stand for counts 256 times. A list of a definition may hold any numbers; of each of them only what a byte holds
-- counts, so that any list stands for a number below 256 to the power of its length.
unfoldable pub counted : List ℕ → ℕ
counted [] = 0
counted (b ∷ bs) = b % 256 + 256 * counted bs

-- These are the least significant bytes of the number `n`, with the least significant one first. The first argument is how many they are.
unfoldable pub digits : ℕ → ℕ → List ℕ
digits zero n = []
digits (suc w) n = n % 256 ∷ digits w (n / 256)

-- The bytes `bs` stand in the given order. This turns them so that the least significant byte comes first. Turned twice they
-- are `bs` again, so both `get` and `put` use it.
unfoldable pub ordered : Order → List ℕ → List ℕ
ordered little bs = bs
ordered big bs = reverse bs

-- This is the number that the field `f` of the message `m` holds.
unfoldable pub get : Field → List ℕ → ℕ
get f m = counted (ordered f.order (bytes_at f m))

-- This is the message `m` with the number `n` written to the field `f`: "Bytes outside the part written .. keep their values."
unfoldable pub put : Field → ℕ → List ℕ → List ℕ
put f n m = overlay m f.start (ordered f.order (digits f.width n))

-- This tests whether the fields of a list follow one another without a gap and without an overlap: the first one, `f`, starts at `from`,
-- each of the others, `fs`, starts where the one before it ends, and the last one ends at `to`. With no field left, `from` has to be `to`.
unfoldable pub tile : ℕ → List Field → ℕ → Bool
tile from [] to = eqb from to
tile from (f ∷ fs) to = eqb f.start from && tile (from + f.width) fs to

-- A field of some bits of one byte has `byte`, the index of that byte in the message; `low`, the lowest of the bits (0 is the least
-- significant); and `width`, the number of bits. `bits` makes one from these three.
pub record Bits : Type 0 where
  pub byte : ℕ
  pub low : ℕ
  pub width : ℕ

abbrev pub bits : ℕ → ℕ → ℕ → Bits
bits byte low width = record { byte = byte; low = low; width = width }

-- This is the number that the bits of the field `f` hold in the message `m`. A byte that `m` does not have counts as 0.
unfoldable pub get_bits : Bits → List ℕ → ℕ
get_bits f m = get_or m f.byte 0 / 2 ^ f.low % 2 ^ f.width

-- This is the byte `b` with the number `n` in the bits of the field `f`. It has three parts: the bits above the field, as they were; as
-- many low bits of `n` as the field has; the bits below the field, as they were.
unfoldable pub with_bits : Bits → ℕ → ℕ → ℕ
with_bits f n b = (b / 2 ^ (f.low + f.width) * 2 ^ f.width + n % 2 ^ f.width) * 2 ^ f.low + b % 2 ^ f.low

-- This is the message `m` with the number `n` written to the bits of the field `f`. Nothing is written if `m` does not have that byte.
unfoldable pub put_bits : Bits → ℕ → List ℕ → List ℕ
put_bits f n m = set m f.byte (with_bits f n (get_or m f.byte 0))
