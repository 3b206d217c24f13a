use Rattle.rd_program.proofs.live.view_live.Goals as goal

pub returns-in-Err : goal.returns-in-Err
returns-in-Err g c = record {
  views = (
    c.in_ok-ends.ends.items,
    c.in_ok-ends.left,
    c.in_ok-ends.ensures.ok,
    (c.as_slice.result.now, rw c.as_slice.ensures.value c.in_ok-text.ensures.ok, c.in-Err.ensures.err, c.in-Err.ensures.fails),
  );
}

pub returns-in-Ok : goal.returns-in-Ok
returns-in-Ok g c = record {
  views = (c.in_ok-ends.ensures.ok, (c.as_slice.result.now, rw c.as_slice.ensures.value c.in_ok-text.ensures.ok, c.in-Ok.ensures.ok, c.in-Ok.ensures.works));
}
