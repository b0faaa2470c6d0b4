-- Document 01, section Buffer, sentence by sentence. The definitions say what each call does to a buffer `s` whose marks are sound.
-- Assumes nothing: these are definitions.
use Rattle.std.specs.Prelude.{ℕ, ◌+◌, ◌-◌, min, max, Bool, cond, ◌&&◌, List, ltb, leb, length, take, drop, replicate}
use Rattle.fields.specs.Overlay.{overlay}
use Rattle.buffer.specs.declared.Marks.{Marks}

-- A buffer has its bytes and two marks: the read mark is the index of the next byte to read, and the write mark that of the next byte to
-- write. `buffer` makes one from the bytes `b` and the marks `m`.
pub record Buffer : Type 0 where
  pub bytes : List ℕ
  pub marks : Marks

abbrev pub buffer : List ℕ → Marks → Buffer
buffer b m = record { bytes = b; marks = m }

-- These are the marks with the read mark `r` and the write mark `w`.
abbrev pub at : ℕ → ℕ → Marks
at r w = record { read = r; write = w }

-- This tests whether the marks `m` are sound in a buffer of `len` bytes: the read mark is at
-- most the write mark, and that is at most `len`.
unfoldable pub is_sound : ℕ → Marks → Bool
is_sound len m = leb m.read m.write && leb m.write len

-- This is the number of unread bytes in `s`: "Unread is write mark minus read mark."
abbrev pub unread : Buffer → ℕ
unread s = s.marks.write - s.marks.read

-- These are the unread bytes of `s`: those from the read mark up to the write mark.
unfoldable pub unread_bytes : Buffer → List ℕ
unread_bytes s = take (unread s) (drop s.marks.read s.bytes)

-- This is the "room behind the write mark" of `s`: the number of bytes from the write mark to the end.
abbrev pub room : Buffer → ℕ
room s = length s.bytes - s.marks.write

-- This is the room in `s` after the move, wherever its marks stand: all of its bytes but the unread ones.
abbrev pub room_in_all : Buffer → ℕ
room_in_all s = length s.bytes - unread s

-- This is `s` after the move: "unread bytes move to the front (both marks go to 0 if none)".
-- The new write mark is the number of unread bytes.
unfoldable pub moved : Buffer → Buffer
moved s = buffer (overlay s.bytes 0 (unread_bytes s)) (at 0 (unread s))

-- This is `s` after room for `n` bytes was asked for. "If room behind the write mark is too small" for them,
-- the move is made; otherwise `s` stays as it is.
unfoldable pub with_room : ℕ → Buffer → Buffer
with_room n s = cond (ltb (room s) n) (moved s) s

-- This is `s` with the bytes `ys` written at the write mark, which then stands after them.
unfoldable pub appended : List ℕ → Buffer → Buffer
appended ys s = buffer (overlay s.bytes s.marks.write ys) (at s.marks.read (s.marks.write + length ys))

-- "`write` and `fill_up_to` then take what fits": this many of `n` bytes fit into `s`, after room for all of them was asked for.
unfoldable pub fitting : ℕ → Buffer → ℕ
fitting n s = min (room (with_room n s)) n

-- `write` asks for room in `s` for all of `ys`, and then appends as many bytes from the front of `ys` as fit.
unfoldable pub written : List ℕ → Buffer → Buffer
written ys s = appended (take (fitting (length ys) s) ys) (with_room (length ys) s)

-- `fill_up_to` asks for room in `s` for `n` bytes, and then appends the byte `v` as often as it fits, at most `n` times.
unfoldable pub filled : ℕ → ℕ → Buffer → Buffer
filled v n s = appended (replicate (fitting n s) v) (with_room n s)

-- "`write_all` takes all or refuses": it refuses where the room in `s`, after moving, is below the `n` bytes that are asked for.
unfoldable pub lacks_room : ℕ → Buffer → Bool
lacks_room n s = ltb (room (with_room n s)) n

-- "bytes wanted less room after the move" (02, request 5): this many bytes of room are missing in `s` for the `n` bytes that are asked for.
-- If these fit, none are: a difference of ℕ is 0 where it would be below 0.
unfoldable pub missing : ℕ → Buffer → ℕ
missing n s = n - room (with_room n s)

-- `write_all` asks for room in `s` for the larger of `want` (a packet may have that many bytes) and the length of `ys`. If there is too
-- little, nothing is written, but the move stays; otherwise all of `ys` is appended.
unfoldable pub written_all : ℕ → List ℕ → Buffer → Buffer
written_all want ys s =
    cond (lacks_room (max want (length ys)) s)
    (with_room (max want (length ys)) s)
    (appended ys (with_room (max want (length ys)) s))

-- A read from `s` gives this many bytes to a destination of `n` bytes: all that are unread, but at most `n`.
unfoldable pub ready : ℕ → Buffer → ℕ
ready n s = min (unread s) n

-- Such a read gives these bytes: the first unread bytes of `s`, as many as the destination of `n` bytes can take.
unfoldable pub ready_bytes : ℕ → Buffer → List ℕ
ready_bytes n s = take (ready n s) (unread_bytes s)

-- Such a read leaves the bytes of `s` as they are. "Reading advances the read mark only": it goes up by the number of bytes given.
unfoldable pub read_off : ℕ → Buffer → Buffer
read_off n s = buffer s.bytes (at (s.marks.read + ready n s) s.marks.write)

-- This is `s` emptied: both marks are 0, and the bytes stay.
unfoldable pub emptied : Buffer → Buffer
emptied s = buffer s.bytes (at 0 0)
