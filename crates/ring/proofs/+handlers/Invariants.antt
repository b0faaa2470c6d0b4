-- How many handlers may still be called, at most: it falls with each call, for each handler has more than those that it calls. It is
-- never above 4 (`Chain.status_enough`, `Chain.present_enough`, `Chain.await_enough`). Assumes nothing.
use Rattle.std.specs.Prelude.{◌+◌}
use Rattle.ring.specs.Inner.Ring.{extra, whole_ring}
use Rattle.ring.proofs.+handlers.Given as goal

-- In the longest chain, 3, 0, the start, 2 and 5, the first handler is followed by four more.
abbrev pub decreases-status_transfer : goal.decreases-status_transfer
decreases-status_transfer l = whole_ring l.empty

abbrev pub decreases-read_cbw : goal.decreases-read_cbw
decreases-read_cbw l = 3

abbrev pub decreases-start : goal.decreases-start
decreases-start l = 2

abbrev pub decreases-no_data : goal.decreases-no_data
decreases-no_data l = 1 + extra l.present

abbrev pub decreases-to_host : goal.decreases-to_host
decreases-to_host l = 1 + extra l.present

abbrev pub decreases-from_host : goal.decreases-from_host
decreases-from_host l = 1 + extra l.present

abbrev pub decreases-to_host_ending : goal.decreases-to_host_ending
decreases-to_host_ending l = 2

abbrev pub decreases-from_host_ending : goal.decreases-from_host_ending
decreases-from_host_ending l = 2

abbrev pub decreases-status_await : goal.decreases-status_await
decreases-status_await l = extra l.present

abbrev pub decreases-enter : goal.decreases-enter
decreases-enter l = 1
