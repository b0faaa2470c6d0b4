-- No second answer satisfies a promise. `Post` is the contract itself, as the check reads it. Assumes nothing.
use mathlib.Core.Path.{◌≡◌, refl, sym, ap, ◌∙◌}
use Rattle.std.specs.Prelude.{Result, Ok, Err}
use Rattle.fields.proofs.Only.{Only, once}
use Rattle.answers.specs.declared.Answer.{Answer}
use Rattle.answers.specs.Answers.{answer_of}
use Rattle.answers.proofs.Unique.{named, named_answer}
use Rattle.device.specs.declared.Fixed.{Fixed}
use Rattle.device.specs.declared.Device.{Device}
use Rattle.device.specs.Create.{Creation, creation_of, create_call}
use Rattle.device.proofs.Laws.{made, refused}
use Rattle.device.proofs.present.Kinds as present-kinds
use Rattle.device.proofs.present.Reads as present
use Rattle.device.proofs.numbers_of.Kinds as numbers-of-kinds
use Rattle.device.proofs.numbers_of.Reads as Numbers-of
use Rattle.device.proofs.whole.Kinds as whole_Kinds
use Rattle.device.proofs.whole.Reads as whole
use Rattle.device.proofs.create.is_packet_size.Kinds as is-packet-size-kinds
use Rattle.device.proofs.create.is_packet_size.Reads as is-packet-size
use Rattle.device.proofs.create.none.Kinds as none-kinds
use Rattle.device.proofs.create.none.Reads as none
use Rattle.device.proofs.create.create.Kinds as create-kinds
use Rattle.device.proofs.create.create.Reads as create

pub present_only : Only 0 present-kinds.ps present-kinds.r present.Post (λ κs s. tt {0})
present_only κs a x y s t p q = (p ∙ sym q, refl)

pub numbers_of_only : Only 0 numbers-of-kinds.ps numbers-of-kinds.r Numbers-of.Post (λ κs s. tt {0})
numbers_of_only κs a x y s t p q = (p ∙ sym q, refl)

pub is_packet_size_only : Only 0 is-packet-size-kinds.ps is-packet-size-kinds.r is-packet-size.Post (λ κs s. tt {0})
is_packet_size_only κs a x y s t p q = (p ∙ sym q, refl)

pub whole_only : Only 0 whole_Kinds.ps whole_Kinds.r whole.Post (λ κs s. tt {0})
whole_only κs a x y s t p q = (p ∙ sym q, refl)

pub none_only : Only 0 none-kinds.ps none-kinds.r none.Post (λ κs s. tt {0})
none_only κs a x y s t p q = (p ∙ sym q, refl)

created_once : (f : Fixed) (x y : Result Device Answer) → creation_of x ≡ create_call f → creation_of y ≡ create_call f → x ≡ y
created_once f (Ok d) (Ok e) p q = ap Ok ((made f d p).1 ∙ sym (made f e q).1)
created_once f (Ok d) (Err why) p q = absurd ((refused f why q).1 (made f d p).0)
created_once f (Err why) (Ok e) p q = absurd ((refused f why p).1 (made f e q).0)
created_once f (Err v) (Err w) p q = ap Err (once answer_of named named_answer v w (ap (λ (c : Creation). c.answer) p) (ap (λ (c : Creation). c.answer) q))

pub create_only : Only 0 create-kinds.ps create-kinds.r create.Post (λ κs s. tt {0})
create_only κs a x y s t p q = (created_once _ x y p q, refl)
