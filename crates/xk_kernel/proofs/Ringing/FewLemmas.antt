-- A step tells little: of each thread one answer at most, and three records more.
use Rattle.std.proofs.Common.{◌≡◌, ℕ, ◌+◌, ◌≤◌, Bool, true, false, List, ◌++◌, length, map, Option, Some, None, arith, length-append}
use Rattle.std.specs.Prelude.{◌==◌, is_some, if◌then◌else◌, [], ◌∷◌, unwrap_or, ◌%◌}
use Rattle.std.proofs.lemmas.List.{length-map}
use Rattle.machine_model.specs.Calling.Calls.{call}
use Rattle.machine_model.specs.Ending.Ends.{death, handler_ended, thread_ended}
use Rattle.machine_model.specs.Hart.Instructions.{Executed, Next, Stores, StoresToConsole, StoresToTimer, CallsKernel, Traps}
use Rattle.machine_model.specs.State.Changes.{Change, Delivery, Outcome, Refused, Retried, Served, Told, call_settled, death_told, delivery_told, replies, settled}
use Rattle.machine_model.specs.State.Machine.{Machine, Thread}
use Rattle.machine_model.specs.State.Threads.{Answers, change_thread, passed}
use Rattle.machine_model.specs.Stepping.Step.{acted_if_there, after, console_told, ends_handler, ends_thread, executed, performed}
use Rattle.xk_base.proofs.CountingLemmas.{count_below-bound, length-listed_below}
use Rattle.xk_base.specs.Calls.Registers.{arguments_of, reg_at}
use Rattle.xk_base.specs.Tables.Circle.{id_at, listed_ids, thread_ids}
use Rattle.xk_base.specs.Tables.Counting.{listed_below}
use Rattle.xk_base.specs.declared.ids.Pid.{Pid}
use Rattle.xk_base.specs.declared.ids.ThreadId.{ThreadId}
use Rattle.xk_base.specs.declared.records.What.{What}
use Rattle.xk_base.specs.declared.records.What.TheVariants.{Byte, Call, End, Fault, Reply}

-- as little as a step may tell
abbrev pub IsFew : ℕ → Told → Type 0
IsFew more told = length told.told ≤ thread_ids told.machine.processes + more

few_replies : (n : ℕ) (answers : Answers) → length (replies n answers) ≤ thread_ids n
unfolding listed_ids
few_replies n answers =
    let answered : ℕ → Bool = λ k. is_some (answers (id_at k)) in
    let ids : List ThreadId = map id_at (listed_below (thread_ids n) answered) in
    let a : length (replies n answers) ≡ length ids = length-map ids (λ id. Reply id (unwrap_or (answers id) [])) in
    let b : length ids ≡ length (listed_below (thread_ids n) answered) = length-map (listed_below (thread_ids n) answered) id_at in
    let c = length-listed_below (thread_ids n) answered in
    let d = count_below-bound (thread_ids n) answered in
    omega (arith, a, b, c, d)

one_delivery : (o : Option Delivery) → length (delivery_told o) ≤ 1
one_delivery None = omega arith
one_delivery (Some d) = omega arith

one_death : (o : Option Pid) → length (death_told o) ≤ 1
one_death None = omega arith
one_death (Some pid) = omega arith

pub few_settled : (change : Change) → IsFew 2 (settled change)
unfolding settled
few_settled change =
    let answered : List What = replies change.machine.processes change.answers in
    let a : length answered ≤ thread_ids change.machine.processes = few_replies change.machine.processes change.answers in
    let b : length (delivery_told change.delivery) ≤ 1 = one_delivery change.delivery in
    let d : length (death_told change.gone) ≤ 1 = one_death change.gone in
    let e : length (answered ++ (delivery_told change.delivery ++ death_told change.gone)) ≡ length answered + length (delivery_told change.delivery ++ death_told change.gone) =
    length-append answered (delivery_told change.delivery ++ death_told change.gone) in
    let f : length (delivery_told change.delivery ++ death_told change.gone) ≡ length (delivery_told change.delivery) + length (death_told change.gone) =
    length-append (delivery_told change.delivery) (death_told change.gone) in
    omega (arith, a, b, d, e, f)

pub few_call : (m : Machine) (outcome : Outcome) → IsFew 2 (call_settled m outcome)
unfolding call_settled
few_call m (Refused error) = omega arith
few_call m Retried = omega arith
few_call m (Served change) = few_settled (record change { machine = change_thread m.cursor passed change.machine })

pub one_more : (what : What) (told : Told) → IsFew 2 told → IsFew 3 (after what told)
one_more what told h = omega (arith, h)

pub few_console : (m : Machine) (who : ThreadId) (offset value : ℕ) → IsFew 3 (record { machine = m; told = console_told who offset value })
few_console m who offset value = go (offset == 0)
  where
    go : (b : Bool) → length (if b then Byte who (value % 256) ∷ [] else []) ≤ thread_ids m.processes + 3
    go true = omega arith
    go false = omega arith

few_executed : (m : Machine) (t : Thread) (x : Executed) → IsFew 3 (executed m t x)
few_executed m t (Next regs pc) = omega arith
few_executed m t (Stores address width value regs pc) = omega arith
few_executed m t (StoresToConsole offset value regs pc) = few_console (executed m t (StoresToConsole offset value regs pc)).machine m.cursor offset value
few_executed m t (StoresToTimer offset width value regs pc) = omega arith
few_executed m t CallsKernel =
    one_more (Call m.cursor (arguments_of t.regs)) (call_settled m (call m (arguments_of t.regs))) (few_call m (call m (arguments_of t.regs)))
few_executed m t (Traps cause value) = one_more (Fault m.cursor cause value) (settled (death m.cursor.pid m)) (few_settled (death m.cursor.pid m))

pub few_acted : (m : Machine) (o : Option Thread) → IsFew 3 (acted_if_there m o)
few_acted m None = omega arith
few_acted m (Some t) = go (ends_thread m.cursor t.pc) (ends_handler m.cursor t.pc)
  where
    go : (a b : Bool) → IsFew 3 (if a then after (End m.cursor) (settled (thread_ended m.cursor (reg_at t.regs 10) m)) else (
        if b then after (End m.cursor) (settled (handler_ended m.cursor.pid m)) else
        executed m t (performed m m.cursor t).executed))
    go true b = one_more (End m.cursor) (settled (thread_ended m.cursor (reg_at t.regs 10) m)) (few_settled (thread_ended m.cursor (reg_at t.regs 10) m))
    go false true = one_more (End m.cursor) (settled (handler_ended m.cursor.pid m)) (few_settled (handler_ended m.cursor.pid m))
    go false false = few_executed m t (performed m m.cursor t).executed
