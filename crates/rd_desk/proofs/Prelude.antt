-- The words that several proofs of the crate use: definitions of this crate and of those below,
-- generated types and their variants, and lemmas of these crates and of std.
pub use Rattle.std.proofs.lemmas.Iterator.Adapters.{YieldsList-from_vec}
pub use Rattle.std.proofs.lemmas.List.{length_push}
pub use Rattle.std.proofs.lemmas.Slice.Zip.{all_zipped_more}
pub use Rattle.rd_cell.proofs.Prelude.{AllByRecursion, AllZip, AllZip-long, Err, Global, IfErr, IsSend, IsSync, List, Ok, OnErr, OnOk, Option, RattleType, Result, Vec, YieldsList-end, YieldsList-from_zip, YieldsList-turn, [], add-one, ap, append-nil, arith, common_steps, crosses, eq-eqb, frees, get_or, inl, inr, length, length-append, map, map-append, map-id, max, part_keyless, recorded_send, recorded_sync, refl, rules, sendable, shape, struct_send, struct_sync, subst, suc, sym, take, take-suc, take_all, vec_capacity, vec_len, zero, zip, ℕ, ∥∥₁_map, ◌*◌, ◌++◌, ◌+◌, ◌<◌, ◌^◌, ◌∙◌, ◌∷◌, ◌≡◌, ◌≤◌, ◌⊎◌}
pub use Rattle.rd_marks.proofs.Prelude.{BookState, IsObeyed, Refusal, book_state, journal, session_of}
pub use Rattle.rd_lock.proofs.Prelude.{AddsOwn, Continues, number, put_by, seen}
pub use Rattle.rd_lock.proofs.Histories.{own_grows, own_same}
pub use Rattle.rd_lock.specs.declared.passes.Pass.{Pass}
pub use Rattle.rd_lock.specs.declared.views.Recorded.{Ghosts}
pub use Rattle.rd_marks.specs.declared.commands.Command.{Command}
pub use Rattle.rd_marks.specs.declared.replies.Reply.{Reply}
pub use Rattle.rd_desk.specs.Asking.{IsLastCall, IsRefusalOfAsk, KnowsAfterAsk, KnowsWords, SeesAfter}
pub use Rattle.rd_desk.specs.Desks.{IsNewViewer, IsViewerOf, opened_state}
pub use Rattle.rd_desk.specs.Histories.{Answer, IsCapacity, IsLeftBy, IsLegal, LeavesHistory, entries, viewer_entry}
pub use Rattle.rd_desk.specs.Rooms.{IsRoomFor}
pub use Rattle.rd_desk.specs.Threads.{IsJoined, IsStarted}
pub use Rattle.rd_desk.specs.Viewers.{IsChain, IsDone, IsRunEnding, run_ending}
pub use Rattle.rd_desk.specs.declared.gates.DeskRefusal.{DeskRefusal}
pub use Rattle.rd_desk.specs.declared.gates.DeskRefusal.TheVariants.{HistoryFull, NotRecorded}
pub use Rattle.rd_desk.specs.declared.histories.Call.{Call}
