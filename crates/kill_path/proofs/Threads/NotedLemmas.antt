-- Whoever is noted is a thread of a process that there may be.
use Rattle.std.proofs.Common.{◌≡◌, true}
use Rattle.xk_base.specs.Tables.Circle.{is_thread_id}
use Rattle.xk_base.specs.declared.ids.ThreadId.{ThreadId}
use Rattle.xk_base.specs.declared.limits.TheConstants.{PROCESS_LIMIT}
use Rattle.kill_path.proofs.Threads.MarkLemmas.{marked_known}
use Rattle.kill_path.specs.Noted.{noted}
use Rattle.kill_path.specs.declared.answered.Answered.{Answered}

pub noted_known : (a : Answered) (id : ThreadId) → noted a id ≡ true → is_thread_id PROCESS_LIMIT id ≡ true
unfolding noted
noted_known a id e = marked_known a.words id e
