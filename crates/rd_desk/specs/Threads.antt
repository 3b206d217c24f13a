-- What the handle of a viewer's thread promises, and what the viewer gives back. A viewer is its
-- pass (`.0`) with its commands (`.1`). `takes` and `told` are those of the gate's type, as `Gate`
-- describes them.
use Rattle.std.specs.Prelude.{◌≡◌, Option, Result, Ok, Err, Vec}
use Rattle.std.specs.declared.alloc.Global.{Global}
use Rattle.std.specs.declared.thread.PromisedHandle.{PromisedHandle}
use Rattle.rd_marks.specs.declared.commands.Command.{Command}
use Rattle.rd_desk.specs.declared.threads.Asked.{Asked}
use Rattle.rd_desk.specs.Histories.{Answer}
use Rattle.rd_desk.specs.Viewers.{IsDone}

-- the viewer's thread was started, and its handle promises to ask this gate the viewer's commands
-- with the viewer's pass. Or the thread was refused, and the viewer's closure gave back what
-- `IsDone` allows
abbrev pub IsStarted : {G P : Type 0} → (G → P → Type 0) → (G → P → Command → Answer → P → Type 0) → G → P × Vec Command Global → Result (PromisedHandle (P × Option (Vec Answer Global)) (Asked G P)) (P × Option (Vec Answer Global)) → Type 0
IsStarted takes told gate viewer (Err done) = IsDone (takes gate) (told gate) viewer.0 viewer.1.items done
IsStarted takes told gate viewer (Ok handle) = (handle.promise.gate.value ≡ gate) × (handle.promise.pass.value ≡ viewer.0) × (handle.promise.commands.value ≡ viewer.1)

-- for each gate and viewer for which this may be the thread's handle, or what the closure gave back
-- (`IsStarted`), `done` is what the viewer gives back (`IsDone`)
abbrev pub IsJoined : {G P : Type 0} → (G → P → Type 0) → (G → P → Command → Answer → P → Type 0) → Result (PromisedHandle (P × Option (Vec Answer Global)) (Asked G P)) (P × Option (Vec Answer Global)) → P × Option (Vec Answer Global) → Type 0
IsJoined {G = G} {P = P} takes told handle done = (gate : G) (viewer : P × Vec Command Global) → IsStarted takes told gate viewer handle → IsDone (takes gate) (told gate) viewer.0 viewer.1.items done
