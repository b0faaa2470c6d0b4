-- No second answer satisfies a promise: only one result makes the `ensures` of each function true. `Post` is the contract itself, as the
-- check reads it. proofs/Parts.antt shows that a result determines each of its parts. Assumes nothing.
use mathlib.Core.Path.{refl, sym, ◌∙◌}
use Rattle.fields.proofs.Only.{Only}
use Rattle.border.proofs.word.stalls_number.Kinds as stalls-number-kinds
use Rattle.border.proofs.word.stalls_number.Reads as stalls-number
use Rattle.border.proofs.word.upper_half.Kinds as upper-half-kinds
use Rattle.border.proofs.word.upper_half.Reads as upper-half
use Rattle.border.proofs.word.word.Kinds as word-kinds
use Rattle.border.proofs.word.word.Reads as word

pub stalls_number_only : Only 0 stalls-number-kinds.ps stalls-number-kinds.r stalls-number.Post (λ κs s. tt {0})
stalls_number_only κs a x y s t p q = (p ∙ sym q, refl)

pub upper_half_only : Only 0 upper-half-kinds.ps upper-half-kinds.r upper-half.Post (λ κs s. tt {0})
upper_half_only κs a x y s t p q = (p ∙ sym q, refl)

pub word_only : Only 0 word-kinds.ps word-kinds.r word.Post (λ κs s. tt {0})
word_only κs a x y s t p q = (p ∙ sym q, refl)
