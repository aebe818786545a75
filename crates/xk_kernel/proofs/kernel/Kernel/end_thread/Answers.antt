-- Another thread of the process lives on, or its process dies.
use Rattle.std.proofs.Common.{◌≡◌, ◌<◌, true, false, None, refl, subst, sym, ◌∙◌, arith}
use Rattle.std.specs.Prelude.{IsSome}
use Rattle.std.proofs.lemmas.Bool.{and_parts}
use Rattle.std.proofs.lemmas.Bool.Decides.{nat_tests}
use Rattle.machine_model.specs.Ending.Ends.{death, has_threads}
use Rattle.machine_model.specs.Runs.Matched.{Matched}
use Rattle.machine_model.specs.State.Changes.{settled}
use Rattle.machine_model.specs.State.Machine.{Machine}
use Rattle.machine_model.specs.State.Threads.{put_thread}
use Rattle.xk_base.specs.Tables.Circle.{is_pid, is_thread_id, is_tid}
use Rattle.xk_base.specs.Tables.Counting.{count_below}
use Rattle.xk_base.specs.declared.records.What.TheVariants.{End}
use Rattle.xk_base.proofs.CircleLemmas.{is_pid-bounds}
use Rattle.thread_table.specs.Shown.{process_count}
use Rattle.machine_model.specs.Stepping.Step.{after}
use Rattle.xk_kernel.specs.State.{machine_of}
use Rattle.xk_kernel.specs.Telling.{Tells}
use Rattle.xk_kernel.proofs.Acting.ThreadLemmas.{is_id, machine_of_log}
use Rattle.xk_kernel.proofs.Acting.TidLemmas.{live_now, none_is_left, now, others_left}
use Rattle.xk_kernel.proofs.Calling.SettleLemmas.{ready_there}
use Rattle.xk_kernel.proofs.Ending.DyingLemmas.{tells_after}
use Rattle.xk_kernel.proofs.Ending.EndingLemmas.{end_with_others, ready_is_there}
use Rattle.xk_kernel.proofs.Ending.LastThreadLemmas.{last_dies, ready_lives}
use Rattle.xk_kernel.proofs.kernel.Kernel.end_thread.Goals as goal

pub live-requires : goal.live-requires
live-requires g c =
    let who = c.args.self.now.cursor in
    let there : IsSome ((machine_of g.W.SwapStore.held c.args.self.now).threads who) = ready_there (machine_of g.W.SwapStore.held c.args.self.now) who c.requires.calls.ready in
    let pid : is_thread_id (process_count c.args.self.now.threads) who ≡ true = is_id g.W.SwapStore.held c.args.self.now (process_count c.args.self.now.threads) who refl there in
    is_pid-bounds (process_count c.args.self.now.threads) who.pid.0
    (and_parts (is_pid (process_count c.args.self.now.threads) who.pid.0) (is_tid who.tid.0) pid).0

pub end-requires : goal.end-requires
end-requires g c = ready_is_there g.W.SwapStore.held c.args.self.now c.args.self.now.cursor c.requires.calls.ready

pub returns-then-live-gt1-clause-tells : goal.returns-then-live-gt1-clause-tells
returns-then-live-gt1-clause-tells g c =
    let who = c.args.self.now.cursor in
    let m : Machine = machine_of g.W.SwapStore.held c.args.self.now in
    let there : IsSome (m.threads who) = ready_there m who c.requires.calls.ready in
    let id : is_thread_id (process_count c.args.self.now.threads) who ≡ true = is_id g.W.SwapStore.held c.args.self.now (process_count c.args.self.now.threads) who refl there in
    let within : who.tid.0 < 32 = grind (arith, nat_tests) in
    let live : c.live.result ≡ count_below 30 (now m who there c.requires.above within) = c.live.ensures ∙ live_now g.W.SwapStore.held c.args.self.now who.pid in
    end_with_others g.W.SwapStore.held c.args.self.now c.push.new.self c.end.new.self who c.args.a0 c.answer_joiners.new.self
    (record { ready = c.requires.calls.ready; pushed = c.push.ensures; ended = c.end.ensures.after; tells = c.answer_joiners.ensures.tells })
    (others_left m who there c.requires.above within (omega (arith, live, c.if-live-gt1.true)))

pub kill-requires-clause-matched : goal.kill-requires-clause-matched
kill-requires-clause-matched g c = subst Matched (sym (machine_of_log g.W.SwapStore.held c.args.self.now c.push.new.self)) c.requires.calls.matched

pub kill-requires-clause-alive : goal.kill-requires-clause-alive
unfolding machine_of
kill-requires-clause-alive g c = ready_lives (machine_of g.W.SwapStore.held c.args.self.now) c.requires.calls.matched c.args.self.now.cursor c.requires.calls.ready

pub returns-else-live-gt1-clause-tells : goal.returns-else-live-gt1-clause-tells
returns-else-live-gt1-clause-tells g c =
    let who = c.args.self.now.cursor in
    let m : Machine = machine_of g.W.SwapStore.held c.args.self.now in
    let there : IsSome (m.threads who) = ready_there m who c.requires.calls.ready in
    let id : is_thread_id (process_count c.args.self.now.threads) who ≡ true = is_id g.W.SwapStore.held c.args.self.now (process_count c.args.self.now.threads) who refl there in
    let within : who.tid.0 < 32 = grind (arith, nat_tests) in
    let live : c.live.result ≡ count_below 30 (now m who there c.requires.above within) = c.live.ensures ∙ live_now g.W.SwapStore.held c.args.self.now who.pid in
    let last : has_threads (put_thread who None m) who.pid ≡ false =
    none_is_left m who there c.requires.above within (omega (arith, live, c.if-live-gt1.false)) in
    subst (λ told. Tells g.W.SwapStore.held c.args.self.now c.kill.new.self (after (End who) told)) (sym (last_dies m c.requires.calls.matched who c.requires.calls.ready last c.args.a0))
    (tells_after g.W.SwapStore.held c.args.self.now c.kill.new.self c.push.new.self (End who) (λ m. settled (death who.pid m)) c.push.ensures c.kill.ensures.tells)
