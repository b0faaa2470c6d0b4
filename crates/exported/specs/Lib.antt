-- The contracts of the exported calls cite the definitions of the crates below; here are cases of them.
--     Cases    cases of the calls, computed
pub mod Cases
