-- proofs.Ceiling      the quotient rounded up
-- proofs.Filled       bytes that are filled up with a filler
-- proofs.Transfer     a command's transfer: the invariant, and the number that falls at each served poll
-- proofs.Rules        what each rule of a poll does to a transfer
-- proofs.Steps        what each event does to it
-- proofs.Histories    a history that more events follow
-- proofs.Carried      the invariant and the number, carried through a history
-- proofs.Waiting      a device that waits for a wrapper, and a poll of it
-- proofs.Arrival      while the wrapper arrives
-- proofs.Opening      the poll that completes it
-- proofs.Owed         what the host still has to get
-- proofs.Willing      which polls are served
-- proofs.Demand       demand 3
-- proofs.Called       the same for the calls themselves
-- proofs.Keeping      what every event keeps
-- proofs.Premises     what is supposed, as tests; it can be met
-- proofs.Enough       ten of the twelve premises are enough
-- proofs.Needed       each of the ten is needed
-- proofs.Flow         what each event does in 4 and 6 to the unread bytes and to the count of what was put in
-- proofs.Account      request 7 of document 02: the account of a read-out
-- proofs.Reckoned     it can be met, and all that is supposed is needed
-- proofs.Computing    what cases compute with
-- proofs.Cases        the cases of specs/Cases.antt hold
pub mod Ceiling
pub mod Filled
pub mod Transfer
pub mod Rules
pub mod Steps
pub mod Histories
pub mod Carried
pub mod Waiting
pub mod Arrival
pub mod Opening
pub mod Owed
pub mod Willing
pub mod Demand
pub mod Called
pub mod Keeping
pub mod Premises
pub mod Enough
pub mod Needed
pub mod Flow
pub mod Account
pub mod Reckoned
pub mod Computing
pub mod Cases
