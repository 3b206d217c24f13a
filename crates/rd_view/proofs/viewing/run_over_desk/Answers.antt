use Rattle.rd_view.proofs.Prelude.{book_state, book_with_history_send, crosses, desk_sync, length-map, number, number_of, opened_state, seat_send, sendable, ∥∥₁_map, ◌≡◌, ◌∙◌, length, map, ap, sym, arith}
use Rattle.rd_desk.specs.contracts.recording.BookWithHistoryRecorded.TheImpl as Recorded
use Rattle.rd_lock.proofs.PassLists.{length-numbers}
use Rattle.rd_view.proofs.ViewingLemmas.{all_answered, new_are_viewers, own_passes}
use Rattle.rd_view.proofs.viewing.run_over_desk.Goals as goal

pub passes_with_commands-requires : goal.passes_with_commands-requires
passes_with_commands-requires g c = (
  omega arith,
  (omega arith, sym (length-map c.in-Ok.passes.items number) ∙ ap length c.in-Ok.ensures.ok.numbered ∙ length-numbers 1 (length c.args.said.now)),
)

pub ask_viewers-requires-send-G-Pass : goal.ask_viewers-requires-send-G-Pass
ask_viewers-requires-send-G-Pass g c κs within = search (seat_send, book_with_history_send, sendable, crosses) depth 60 fits 100000

pub ask_viewers-requires-sync-G : goal.ask_viewers-requires-sync-G
ask_viewers-requires-sync-G g c κs within = search (desk_sync, sendable, crosses) depth 60 fits 100000

pub ask_viewers-requires-clause-own : goal.ask_viewers-requires-clause-own
ask_viewers-requires-clause-own g c κs within = new_are_viewers _ _ c.in-Ok.desk c.in_ok-work.work.items (rw c.in_ok-work.ensures.passes c.in-Ok.ensures.ok.are_new)

pub close-requires : goal.close-requires
close-requires g c =
    let own = own_passes _ _ c.in-Ok.desk c.in_ok-work.work.items c.in-Ok-ask_viewers.dones.items c.in-Ok-ask_viewers.ensures.ok in
    (omega arith, (omega arith, (omega arith, rw c.in_ok-passes.ensures.passes own)))

pub returns-in-Ok-close-clause-ok : goal.returns-in-Ok-close-clause-ok
returns-in-Ok-close-clause-ok g c =
    let desk = c.in-Ok.desk in
    let closed = c.in-Ok-close.ensures.ok in
    let opened = c.in-Ok.ensures.ok in
    let state : opened_state desk ≡ book_state c.args.book = ap book_state opened.rooted in
    let passes = c.in_ok-work.ensures.passes in record {
      legal = rw (← state) (∥∥₁_map c.in-Ok-close.ensures.leaves (λ l. (_, _, l)));
      named = rw (← opened.counted) closed.names;
      are_answered =
          rw (c.in_ok-passes.ensures.answered, ← state)
          (all_answered g.row.N (Recorded.ghosts (number_of g.row.N)) desk c.in-Ok-close.history 1 c.in_ok-work.work.items c.in-Ok-ask_viewers.dones.items c.args.said.now c.in-Ok-ask_viewers.ensures.ok
          (rw passes opened.are_new) (ap (map number) passes ∙ opened.numbered) c.in_ok-work.ensures.commands (rw c.in_ok-passes.ensures.passes at closed.continues));
    }

pub returns-in-Ok-close-clause-left : goal.returns-in-Ok-close-clause-left
returns-in-Ok-close-clause-left g c =
    let state : opened_state c.in-Ok.desk ≡ book_state c.args.book = ap book_state c.in-Ok.ensures.ok.rooted in rw (← state) c.in-Ok-close.ensures.leaves
