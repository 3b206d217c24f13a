use Rattle.rd_trace.proofs.Prelude.{take_rest, ◌≡◌, take, arith, common_steps, book_state}
use Rattle.rd_trace.proofs.ReplayLemmas.{goes_to}
use Rattle.rd_trace.proofs.replay.go_to.Goals as goal

pub step_all-requires : goal.step_all-requires
step_all-requires g c = grind (arith, common_steps, c.keep_first.ensures)

pub returns : goal.returns
returns g c =
    let old = book_state c.args.book.now in
    let kept = c.common_beginning_len-kept.result in
    let es = c.args.events.now in
    let same : take kept old.session.live ≡ take kept es = cc in
    goes_to old (book_state c.keep_first.new.self) (book_state c.step_all.new.book) es _ kept c.step_all.result c.keep_first.ensures same (take_rest es kept) c.step_all.ensures.goes
