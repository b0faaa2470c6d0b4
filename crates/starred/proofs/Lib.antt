-- proofs.Hold     every starred case holds
-- proofs.Wrong    the table with a wrong value in one row does not hold
pub mod Hold
pub mod Wrong
