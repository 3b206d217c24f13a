use Rattle.std.proofs.Common.{◌∙◌}
use Rattle.rd_step.proofs.TakenApart.{world_taken, taken_unflawed}
use Rattle.rd_step.proofs.worlds.World.parts.Goals as goal

pub returns-clause-ok : goal.returns-clause-ok
returns-clause-ok g c =
    world_taken c.in_ok-segments.segments c.in_ok-actors.actors c.qhead.result c.qtail.result c.array.result
    c.args.self.now.space c.args.self.now.actors.items
    (record {
      same = c.in_ok-segments.ensures.ok;
      number = c.in_ok-segments.ensures.number;
      actors_are = c.in_ok-actors.ensures.items ∙ c.deref.ensures.value;
      small = c.args.self.now.small;
    })
    c.qhead.ensures c.qtail.ensures c.array.ensures

pub returns-clause-flawless : goal.returns-clause-flawless
returns-clause-flawless g c =
    taken_unflawed c.in_ok-segments.segments c.in_ok-actors.actors c.qhead.result c.qtail.result c.array.result
    c.args.self.now.space c.args.self.now.actors.items
    (record {
      same = c.in_ok-segments.ensures.ok;
      number = c.in_ok-segments.ensures.number;
      actors_are = c.in_ok-actors.ensures.items ∙ c.deref.ensures.value;
      small = c.args.self.now.small;
    })
    c.qhead.ensures c.qtail.ensures c.array.ensures c.args.self.now.makers c.args.self.now.well_formed
