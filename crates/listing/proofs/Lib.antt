-- proofs.Types    what the law of a lender asks of what the two calls return
pub mod Types
