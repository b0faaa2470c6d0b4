-- `benchline::put_line` meets its contract: there is room, since `line_fits` bounds every line. Assumes nothing.
use Rattle.std.proofs.Common.{rules}
use Rattle.benchline.proofs.Ways.{end_fits, line_ends, ways}
use Rattle.benchline.proofs.put_line.Goals as goal

pub put_fields-at-requires : goal.put_fields-at-requires
put_fields-at-requires c = search (ways, rules)

pub put_bytes-end-requires : goal.put_bytes-end-requires
put_bytes-end-requires c = search (ways, rules)

pub put_end-requires : goal.put_end-requires
put_end-requires c =
    end_fits c.args.l _ _ c.requires c.put_fields-at.ensures c.put_bytes-end.ensures

pub returns : goal.returns
returns c =
    line_ends c.args.l _ _ c.requires c.put_fields-at.ensures c.put_bytes-end.ensures c.put_end.ensures
