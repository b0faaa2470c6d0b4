-- This is what each way through a call of the buffer owes, once for all of the calls (`ways`). Assumes nothing.
use mathlib.Core.Path.{◌≡◌, refl}
use mathlib.Core.List.{List, [], ◌∷◌}
use Prim.Native.Nat.{ℕ}
use borrow.Author.Tests.{eq-eqb, ne_eqb}
use lib.ListN.{length, set}
use Rattle.std.specs.Prelude.{Ok, Err}
use Rattle.fields.proofs.Seq.{all_stored}
use Rattle.buffer.specs.declared.Marks.{Marks}
use Rattle.buffer.specs.declared.Refusal.TheVariants.{Overflow, Broken}
use Rattle.buffer.specs.Buffer.{Buffer, buffer}
use Rattle.buffer.specs.Calls.{Answering, Answer, answer_of, read_into}
use Rattle.leafhost.specs.Buffer.{buffer_outcome, marked_by, buffer_outcome_of, hosted, host_into}
use Rattle.leafhost.specs.Inner.Buffer.{answer_number, marks_of}

-- Three stores fill a list of three.
pub three_stored : (l : List ℕ) (a b c : ℕ) → length l ≡ 3 → set (set (set l 0 a) 1 b) 2 c ≡ a ∷ b ∷ c ∷ []
three_stored l a b c e = all_stored l (a ∷ b ∷ c ∷ []) e

-- The caller sees an answer as its number, the bytes, and the three numbers.
shown_answer : (m : Marks) (a : Answer) (b was : List ℕ) → buffer_outcome_of was (answer_of m a b) ≡ buffer_outcome (answer_number a) b (marks_of a was)
unfolding buffer_outcome_of
shown_answer m (Ok t) b was = refl
shown_answer m (Err (Overflow o)) b was = refl
shown_answer m (Err Broken) b was = refl

-- The caller has three numbers, and `m` are its marks.
module _ (io marks : List ℕ) (m : Marks) (h : (length marks ≡ 3) × (m ≡ marked_by marks)) where
  -- a is the buffer's answer, and b are its bytes after the call.
  pub reports : (call : Buffer → Answering) (a : Answer) (b : List ℕ) {after : List ℕ} {r : ℕ}
      → answer_of m a b ≡ call (buffer io m) → (r ≡ answer_number a) × (after ≡ marks_of a marks) → buffer_outcome r b after ≡ hosted call io marks
  unfolding hosted
  reports call a b et e = rw (eq-eqb _ _ h.0, ← h.1, ← et, shown_answer m a b marks, e.0, e.1)

  pub reads : (d : List ℕ) {e : List ℕ} → e ≡ read_into d (buffer io m) → e ≡ host_into d io marks
  unfolding host_into
  reads d ee = rw (eq-eqb _ _ h.0, ← h.1) ee

-- The caller does not have three numbers.
pub refuses : (call : Buffer → Answering) (io marks : List ℕ) → (length marks ≡ 3 → ⊥) → buffer_outcome 10 io marks ≡ hosted call io marks
unfolding hosted
refuses call io marks n = rw (ne_eqb _ _ n)

pub refuses_into : (d io marks : List ℕ) → (length marks ≡ 3 → ⊥) → d ≡ host_into d io marks
unfolding host_into
refuses_into d io marks n = rw (ne_eqb _ _ n)

pub ruleset ways = (refuses, refuses_into)
