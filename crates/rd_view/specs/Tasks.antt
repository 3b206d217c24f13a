-- What comes of tasks that are done in threads of their own. `runs` is that of the task's type, as
-- `Task` describes it.
use Rattle.std.specs.Prelude.{◌≡◌, Result, Ok, Err}
use Rattle.std.specs.declared.thread.PromisedHandle.{PromisedHandle}
use Rattle.rd_view.specs.declared.tasks.Given.{Given}

module _ {T D : Type 0} (runs : T → D → Type 0) where
  -- what came of a task: it was done and gave this back, or it is as it was, and was not done
  abbrev pub IsTaskEnd : T → Result D T → Type 0
  IsTaskEnd task (Ok done) = runs task done
  IsTaskEnd task (Err back) = back ≡ task

  -- the task's thread was started, and its handle promises to do this task. Or the thread was
  -- refused, and the task's closure gave back what `IsTaskEnd` allows
  abbrev pub IsTaskStarted : T → Result (PromisedHandle (Result D T) (Given T)) (Result D T) → Type 0
  IsTaskStarted task (Err end) = IsTaskEnd task end
  IsTaskStarted task (Ok handle) = handle.promise.task.value ≡ task

  -- for each task for which this may be the thread's handle, or what the closure gave back
  -- (`IsTaskStarted`), this is what came of the task
  abbrev pub IsTaskJoined : Result (PromisedHandle (Result D T) (Given T)) (Result D T) → Result D T → Type 0
  IsTaskJoined handle end = (task : T) → IsTaskStarted task handle → IsTaskEnd task end
