-- `ringbytes::go_round` meets its contract: what opening, the ring and the stores leave is what 01 says. Assumes nothing.
use mathlib.Core.Path.{refl, ◌∙◌}
use Rattle.border.proofs.Lending.{known_long}
use Rattle.ringbytes.proofs.Round.{keepable, rounds}
use Rattle.ringbytes.proofs.go_round.Goals as goal

pub count_anew-requires : goal.count_anew-requires
count_anew-requires c = known_long _ refl c.requires.0

pub keep_wrapper-requires : goal.keep_wrapper-requires
keep_wrapper-requires c =
    (c.count_anew.auto.«record» ∙ known_long _ refl c.requires.0, c.open-o.ensures.sound, c.open-o.ensures.front)

pub keep-requires : goal.keep-requires
keep-requires c =
    (c.keep_wrapper.auto.«record» ∙ c.count_anew.auto.«record» ∙ known_long _ refl c.requires.0, keepable _ _ _ c.requires.0 c.requires.1 c.requires.2 c.requires.3 _ _ c.open-o.ensures c.go_on-c.result c.go_on-c.ensures)

pub result-requires : goal.result-requires
result-requires c =
    (keepable _ _ _ c.requires.0 c.requires.1 c.requires.2 c.requires.3 _ _ c.open-o.ensures c.go_on-c.result c.go_on-c.ensures).sent

pub returns : goal.returns
returns c =
    rounds _ _ _ c.requires.0 c.requires.1 c.requires.2 c.requires.3 _ _ c.open-o.ensures c.go_on-c.result c.go_on-c.ensures c.count_anew.ensures c.keep_wrapper.ensures c.keep.ensures c.result.ensures
