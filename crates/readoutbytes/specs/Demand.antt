-- The mission's third demand and request 7 of document 02, for the calls that firmware makes: in what the calls return and in the record's
-- bytes. The story, what is supposed of it and what the host is promised are those of the calls by value (`readout`). Assumes nothing:
-- these are definitions.
use Rattle.std.specs.Prelude.{◌≡◌, true, ◌∷◌, ℕ, ◌+◌, ◌-◌, ◌≤◌, ◌<◌, min}
use Rattle.fields.specs.Field.{get}
use Rattle.bbb.specs.Poll.{Given}
use Rattle.recordbytes.specs.Layout as field
use Rattle.readout.specs.History.{poll, status, Shows, did, is_served}
use Rattle.readout.specs.Demand.{Story, to_status, L, served_since, crossed, Later, ceiling, NotYet, Ends, Willing}
use Rattle.readout.specs.Account.{Readout, all_since, put_in_since, sent_since, filled_since}
use Rattle.readoutbytes.specs.Calls.{Memory, socket_in, HoldsRecord, Call, souk_poll, Outcome, seen}
use Rattle.readoutbytes.specs.Logs.{Log}

-- ---- demand 3

-- The calls of the story `t` were made: from the memory `first` on, with the memory `before` right before its last accepted status, and
-- `last` at its end. `Made` says what a call returned and left.
pub record Logged (Made : Call → Memory → Outcome → Type 0) (t : Story) (first before last : Memory) : Type 0 where
  pub starts : t.start ≡ socket_in first
  pub to_status_lem : Log Made (to_status t) first before
  pub since : Log Made (did (status t.last_status) t.stated ∷ t.after) before last

-- "P being the packet size": byte 0 of the record.
abbrev pub packet_size_in : Memory → ℕ
packet_size_in m = get field.packet_size m.bytes

-- "R data bytes left": bytes 16 to 19 of the record.
abbrev pub left_in : Memory → ℕ
left_in m = get field.left m.bytes

-- "R/P plus 13/P served polls, each quotient rounded up": P stands in the memory `first`, and R in the memory `before`.
abbrev pub polls_due_on : Memory → Memory → ℕ
polls_due_on first before = ceiling (left_in before) (packet_size_in first) + ceiling 13 (packet_size_in first)

-- What the firmware reads of a poll that was given `g`.
abbrev pub polled : Given → Outcome → Shows
polled g o = seen (souk_poll g) o

-- What is promised of the story `t`, where its calls were made. The four parts are those of `readout.specs.Demand.Demand`; the poll that
-- they speak of is `souk_poll`, called with the memory in which the story ended.
pub record DemandOn (Made : Call → Memory → Outcome → Type 0) (t : Story) (first before last : Memory) : Type 0 where
  pub left : left_in before ≡ L t - crossed t
  pub not_before : served_since t < polls_due_on first before → NotYet t
  -- The record is then not broken, and the device is between two commands again.
  pub exactly : served_since t + 1 ≡ polls_due_on first before → (g : Given) (o : Outcome) → Made (souk_poll g) last o → Later (poll g) (socket_in last) (polled g o) → is_served (polled g o).answer ≡ true
      → Ends t (polled g o) × HoldsRecord o.memory
  pub reachable : served_since t < polls_due_on first before → (g : Given) (o : Outcome) → Made (souk_poll g) last o → Willing g (socket_in last) → is_served (polled g o).answer ≡ true

-- ---- request 7

-- The calls of the read-out `r` were made, from the memory `first` to the memory `last`.
pub record LoggedReadout (Made : Call → Memory → Outcome → Type 0) (r : Readout) (first last : Memory) : Type 0 where
  pub starts : r.start ≡ socket_in first
  pub calls : Log Made (all_since r) first last

-- "this count": bytes 52 to 55 of the record, which `souk_put_in` reads.
abbrev pub count_in : Memory → ℕ
count_in m = get field.put_in m.bytes

-- "unread bytes": the write mark less the read mark, bytes 12 to 15 and 8 to 11 of the record.
abbrev pub unread_in : Memory → ℕ
unread_in m = get field.write_mark m.bytes - get field.read_mark m.bytes

-- "before any filling", and "Unless the count has stopped there".
pub record CountingOn (r : Readout) (last : Memory) : Type 0 where
  pub unfilled : filled_since r ≡ 0
  pub below : count_in last < 4294967295

-- What is promised of the read-out `r`, where its calls were made. The four parts are those of `readout.specs.Account.Account`.
pub record AccountOn (r : Readout) (last : Memory) : Type 0 where
  pub counted : count_in last ≡ min (put_in_since r) 4294967295
  pub flow : unread_in last + sent_since r ≡ put_in_since r + filled_since r
  pub less : CountingOn r last → unread_in last ≡ count_in last - sent_since r
  pub within : CountingOn r last → sent_since r ≤ count_in last
