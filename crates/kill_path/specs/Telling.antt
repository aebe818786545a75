-- Who is told that a server is gone, and in which words.
use Rattle.std.specs.Prelude.{Bool, false, ◌&&◌, ◌==◌, List, ℕ, Option, Some, None, if◌then◌else◌}
use Rattle.std.specs.Option.{option_map_or}
use Rattle.machine_model.specs.State.Threads.{Answers}
use Rattle.thread_table.specs.ThreadMap.{ThreadMap, is_receiving}
use Rattle.syscall_codec.specs.ReplyWords.{plain_words, refused_words}
use Rattle.xk_base.specs.Tables.Circle.{is_tid, same_thread}
use Rattle.xk_base.specs.declared.errors.XousError.TheVariants.{ServerNotFound}
use Rattle.xk_base.specs.declared.ids.Pid.{Pid}
use Rattle.xk_base.specs.declared.ids.Serial.{Serial}
use Rattle.xk_base.specs.declared.ids.ThreadId.{ThreadId}
use Rattle.kill_path.specs.ThreadSets.{ThreadSet}

-- the thread is one of the process, and is Receiving at the server
abbrev pub is_receiver_of : Pid → Serial → ThreadMap → ThreadId → Bool
is_receiver_of pid serial threads id = (id.pid.0 == pid.0) && (is_tid id.tid.0 && is_receiving serial (threads id))

-- the thread is the one that was served, where one was
abbrev pub is_served : Option ThreadId → ThreadId → Bool
is_served served id = option_map_or (same_thread id) served false

-- that one is answered so, and every other that there is no server
abbrev pub words_for : Option ThreadId → ThreadId → List ℕ
words_for served id = if is_served served id then plain_words else refused_words ServerNotFound

-- each of these threads is answered
abbrev pub told_to : Option ThreadId → ThreadSet → Answers
told_to served noted id = if noted id then Some (words_for served id) else None
