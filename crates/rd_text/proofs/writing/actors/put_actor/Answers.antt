use Rattle.rd_text.proofs.PutLemmas.{puts_up_to_both}
use Rattle.rd_text.proofs.writing.actors.put_actor.Goals as goal

pub returns : goal.returns
returns c =
    let two = puts_up_to_both _ _ _ _ _ _ _ c.put_point_and_call.ensures c.put_segments.ensures in
    let three = puts_up_to_both _ _ _ _ _ _ _ two c.put_counters.ensures in
    puts_up_to_both _ _ _ _ _ _ _ three c.put_cell_read_and_pass.ensures
