use Rattle.rd_program.proofs.viewers.view_book.Goals as goal

pub returns : goal.returns
returns g c = record {
  views = (
    c.in_ok-text.left,
    c.as_slice.result.now,
    (c.in_ok-text.text.items, c.in_ok-text.ensures.ok, rw c.as_slice.ensures.value c.in_ok-put_extras.ensures.ok),
    c.in-Err.ensures.err,
    c.in-Err.ensures.fails,
  );
}

pub returns-in-Ok : goal.returns-in-Ok
returns-in-Ok g c = record {
  views = (c.as_slice.result.now, (c.in_ok-text.text.items, c.in_ok-text.ensures.ok, rw c.as_slice.ensures.value c.in_ok-put_extras.ensures.ok), c.in-Ok.ensures.ok, c.in-Ok.ensures.works);
}
