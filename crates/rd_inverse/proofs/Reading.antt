-- A step that only read is undone by putting back its actor's record alone: its place still has its
-- old content.
use Rattle.std.proofs.Common.{◌≡◌, ℕ, true, sym, subst, None}
use Rattle.rd_step.specs.Prelude.{is_nothing, World, unstep, IsWellFormed}
use Rattle.rd_step.specs.declared.entries.Entry.{Entry}
use Rattle.rd_step.specs.Room.{room_returned}
use Rattle.rd_step.specs.Step.{with_actor}
use Rattle.rd_step.specs.Undo.{revert}
use Rattle.rd_step.specs.Laws.{WasStepped}
use Rattle.rd_step.proofs.Progress.{changes_only}
use Rattle.rd_step.proofs.Removal.{can_undo, taken_out}
use Rattle.rd_step.proofs.Room.{read_returns_none}

-- putting back the old record of the entry's actor, and no content, undoes the entry's step
pub record IsUndoneByWords (now : World) (x : Entry) : Type 0 where
  pub same : revert now x.event.actor x.old_actor None None ≡ unstep now x
  pub formed : IsWellFormed (revert now x.event.actor x.old_actor None None)
  pub room : (m : ℕ) → room_returned x.place x.old_content m ≡ 0

-- a step that only read, and on which no later one depends, is undone so
pub undone_by_words : (now : World) (x : Entry) → WasStepped now x → is_nothing x.wrote ≡ true → IsUndoneByWords now x
undone_by_words now x was e =
    let again = (taken_out now x was).again in
    let found : now.at ≡ (unstep now x).at = (changes_only (unstep now x) was.event (record { world = now; entry = x }) again).reading e in
    let same : revert now x.event.actor x.old_actor None None ≡ unstep now x = λ i. record { ring = now.ring; at = found i; actor = with_actor x.event.actor x.old_actor now.actor } in
    record {
      same = same;
      formed = subst (λ (w : World). IsWellFormed w) (sym same) (can_undo now x was).formed;
      room = λ m. read_returns_none (unstep now x) was.event (record { world = now; entry = x }) m again e;
    }
