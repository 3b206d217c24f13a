use Rattle.std.proofs.Common.{◌≡◌, length, arith}
use Rattle.rd_segments.proofs.lists.make_next.Goals as goal

pub returns-in-Ok-clause-ok : goal.returns-in-Ok-clause-ok
returns-in-Ok-clause-ok g c =
    let len : c.len-n.result ≡ length c.args.list.now.items = omega arith in
    record {
      name_is = λ i. record { maker = c.args.maker; n = len i };
      below = omega arith;
      segment = c.holding.result;
      holds = c.holding.ensures;
      pushed = c.in-Ok.ensures.items;
    }
