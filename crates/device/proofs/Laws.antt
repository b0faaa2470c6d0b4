-- What a creation tells its caller.
--     made       a device: no creation rule is violated, and this is the new device
--     refused    an answer: a rule is violated, and the answer has its number
--     news       a device of these parts is the new one
-- Assumes nothing.
use mathlib.Core.Path.{◌≡◌, sym, ap, ◌∙◌}
use native.Mathlib.Omega.{arith}
use borrow.Author.Tests.{eq-eqb}
use Rattle.std.specs.Prelude.{Ok, Err, None}
use Rattle.buffer.specs.Buffer.{at}
use Rattle.answers.specs.declared.Answer.{Answer}
use Rattle.answers.specs.Answers.{answer_of}
use Rattle.ring.specs.declared.State.TheVariants.{CommandTransfer}
use Rattle.wrapper.specs.declared.Wrapper.{Wrapper}
use Rattle.wrapper.specs.Wrapper.{no_wrapper}
use Rattle.device.specs.declared.Fixed.{Fixed}
use Rattle.device.specs.declared.Device.{Device}
use Rattle.device.specs.Create.{creation_checks, new_device, no_device, Creation, creation_of, create_call}

module _ (f : Fixed) where
  -- The device of a creation with the answer 0.
  new : creation_checks f ≡ 0 → (create_call f).device ≡ new_device f
  unfolding create_call
  new e = rw (eq-eqb _ _ e)

  pub made : (d : Device) → creation_of (Ok d) ≡ create_call f → (creation_checks f ≡ 0) × (d ≡ new_device f)
  unfolding create_call
  made d h =
      let zero : creation_checks f ≡ 0 = sym (ap (λ (c : Creation). c.answer.number) h) in
      (zero, ap (λ (c : Creation). c.device) h ∙ new zero)

  pub refused : (why : Answer) → creation_of (Err why) ≡ create_call f → ((answer_of why).number ≡ creation_checks f) × (creation_checks f ≡ 0 → ⊥)
  unfolding create_call creation_checks
  refused why h = (
    ap (λ (c : Creation). c.answer.number) h,
    λ zero.
        let none : no_device ≡ new_device f = ap (λ (c : Creation). c.device) h ∙ new zero in
        absurd (omega (arith, ap creation_checks (ap (λ (d : Device). d.fixed) none), zero)),
  )

pub news : (f : Fixed) {w : Wrapper} → w ≡ no_wrapper
    → ◌≡◌ {A = Device} (record { fixed = f; state = CommandTransfer; marks = at 0 0; wrapper = w; status = None; left = record { 0 = 0 }; putin = record { 0 = 0 } }) (new_device f)
news f h = rw h
