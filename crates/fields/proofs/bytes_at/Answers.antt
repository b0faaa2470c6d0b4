-- `fields::bytes_at` meets its contract: the array has each byte of the field. Assumes nothing.
use Rattle.std.proofs.Common.{rules, ◌≡◌, ◌∙◌, ℕ, ◌+◌, ◌≤◌, ◌<◌, List, length, take, drop, get_or, sym, arith}
use Rattle.std.proofs.lemmas.Grind.{same_number_lists}
use lib.Seq.{get_or-take, get_or-drop}
use Rattle.fields.specs.Field.{bytes_at}
use Rattle.fields.proofs.Seq.{length_part}
use Rattle.fields.proofs.bytes_at.Goals as goal

all_read : (m bs : List ℕ) (at n : ℕ) → at + n ≤ length m → length bs ≡ n → ((k : ℕ) → k < n → get_or bs k 0 ≡ get_or m (at + k) 0) → bs ≡ take n (drop at m)
all_read m bs at n h e each =
    same_number_lists bs (take n (drop at m)) (e ∙ sym (length_part at n m h)) (λ k hk.
    let small : k < n = omega arith in
    each k small ∙ sym (get_or-drop at m k 0) ∙ sym (get_or-take n (drop at m) k 0 small))

pub returns : goal.returns
unfolding bytes_at
returns g c = all_read _ _ _ _ c.requires c.loop-i.invariant.0 (search rules)
