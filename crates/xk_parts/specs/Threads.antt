-- Changes of the threads of a machine, as a map from the id.
use Rattle.std.specs.Prelude.{Option}
use Rattle.std.specs.Option.{option_map}
use Rattle.machine_model.specs.State.Machine.{Thread}
use Rattle.machine_model.specs.State.Threads.{Answers, with_answer}
use Rattle.xk_base.specs.Tables.Circle.{same_thread}
use Rattle.xk_base.specs.Tables.Counting.{put_at}
use Rattle.xk_base.specs.declared.ids.ThreadId.{ThreadId}

abbrev pub ThreadMap : Type 0
ThreadMap = ThreadId → Option Thread

-- that thread is changed, where there is one
abbrev pub changed_thread : ThreadId → (Thread → Thread) → ThreadMap → ThreadMap
changed_thread id change threads = put_at same_thread threads id (option_map change (threads id))

-- every thread that is answered has its answer
abbrev pub answered : Answers → ThreadMap → ThreadMap
answered answers threads id = option_map (with_answer (answers id)) (threads id)
