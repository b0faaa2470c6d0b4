-- No second answer satisfies a promise: what the `ensures` of a call says is true of only one result, and of only one content of each
-- lent slice at exit. `Post` is the contract itself, as the check reads it. Assumes nothing.
use mathlib.Core.Path.{◌≡◌, sym, ap, ◌∙◌}
use mathlib.Core.List.{List}
use Prim.Native.Nat.{ℕ}
use Rattle.fields.proofs.Only.{Only}
use Rattle.databytes.specs.Data.{DataOutcome, data_outcome}
use Rattle.databytes.proofs.read_data.Kinds as read-data-kinds
use Rattle.databytes.proofs.read_data.Reads as read-data
use Rattle.databytes.proofs.write_data.Kinds as write-data-kinds
use Rattle.databytes.proofs.write_data.Reads as write-data
use Rattle.databytes.proofs.try_write_data_all.Kinds as try-write-data-all-kinds
use Rattle.databytes.proofs.try_write_data_all.Reads as try-write-data-all

-- The record, and what a read or a write may write to, are looked at together, with 0 in place of the result.
pub moved_once : {n k : ℕ} {r l b c : List ℕ} → data_outcome n r b ≡ data_outcome k l c → (n ≡ k) × (data_outcome 0 r b ≡ data_outcome 0 l c)
moved_once e = (ap (λ (o : DataOutcome). o.result) e, ap (λ (o : DataOutcome). data_outcome 0 o.bytes o.into) e)

pub read_data_only : Only 3 read-data-kinds.ps read-data-kinds.r read-data.Post (λ κs s. data_outcome 0 s.0.now s.1.1.0.now)
read_data_only κs a x y s t p q = moved_once (p ∙ sym q)

pub write_data_only : Only 3 write-data-kinds.ps write-data-kinds.r write-data.Post (λ κs s. data_outcome 0 s.0.now s.1.0.now)
write_data_only κs a x y s t p q = moved_once (p ∙ sym q)

pub try_write_data_all_only : Only 3 try-write-data-all-kinds.ps try-write-data-all-kinds.r try-write-data-all.Post (λ κs s. data_outcome 0 s.0.now s.1.0.now)
try_write_data_all_only κs a x y s t p q = moved_once (p ∙ sym q)
