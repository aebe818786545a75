-- A machine with the threads of a group hidden: what is asked of threads beside their registers and pcs is the same.
use Rattle.std.proofs.Common.{◌≡◌, ℕ, ◌+◌, Bool, ◌&&◌, true, false, List, Option, Some, None, refl, sym, ap, ◌∙◌}
use Rattle.std.specs.Prelude.{◌==◌, if◌then◌else◌, is_some, nat_le}
use Rattle.std.specs.Option.{option_map, option_map_or}
use Rattle.std.proofs.lemmas.Bool.{and_parts, eqb-true}
use Rattle.xk_base.specs.declared.ids.Pid.{Pid}
use Rattle.xk_base.specs.declared.ids.ThreadId.{ThreadId}
use Rattle.xk_base.specs.declared.limits.TheConstants.{TID_LIMIT}
use Rattle.xk_base.proofs.CircleLemmas.{same_ids}
use Rattle.syscall_codec.specs.ReplyWords.{scalar1_words}
use Rattle.xk_base.specs.Tables.Circle.{next_id, same_thread}
use Rattle.xk_base.specs.Tables.Counting.{least_below, put_at}
use Rattle.machine_model.specs.Ending.Ends.{has_threads, joiners_answered, waits_for_end}
use Rattle.machine_model.specs.State.Machine.{Machine, Reservation, Thread, ThreadState}
use Rattle.machine_model.specs.State.Order.{actor, is_ready, next_ready, ready_at}
use Rattle.machine_model.specs.State.Threads.{Answers, thread_id, with_answer}
use Rattle.machine_model.specs.Stepping.Interrupts.{is_free_for_interrupt, is_idle}
use Rattle.noninterference_laws.specs.Inside.{Group, hidden_if, hidden_reservation, hidden_thread, hidden_threads}

-- the machine with the threads of the group hidden
abbrev pub veil : Group → Machine → Machine
veil group m = record m { threads = hidden_threads group m.threads; reserved = hidden_reservation group m.reserved }

-- ---- a thread

hidden_twice : (b : Bool) (o : Option Thread) → hidden_if b o ≡ hidden_if b (hidden_if b o)
hidden_twice true None = refl
hidden_twice true (Some t) = refl
hidden_twice false o = refl

-- what is asked of its state is the same
state_told : (f : ThreadState → Bool) (b : Bool) (o : Option Thread)
    → option_map_or (λ t. f t.state) (hidden_if b o) false ≡ option_map_or (λ t. f t.state) o false
state_told f true None = refl
state_told f true (Some t) = refl
state_told f false o = refl

some_hidden : (b : Bool) (o : Option Thread) → is_some (hidden_if b o) ≡ is_some o
some_hidden true None = refl
some_hidden true (Some t) = refl
some_hidden false o = refl

-- a change that makes the same state of a hidden thread
abbrev pub Hides : (Thread → Thread) → Type 0
Hides f = (t : Thread) → hidden_thread (f t) ≡ hidden_thread (f (hidden_thread t))

pub mapped : (f : Thread → Thread) → Hides f → (b : Bool) (o : Option Thread)
    → hidden_if b (option_map f o) ≡ hidden_if b (option_map f (hidden_if b o))
mapped f hides true None = refl
mapped f hides true (Some t) = ap (λ x. Some x) (hides t)
mapped f hides false o = refl

pub answer_hides : (answer : Option (List ℕ)) → Hides (with_answer answer)
answer_hides None t = refl
answer_hides (Some words) t = refl

-- one of two, of which one is hidden already
pub chosen : (b c : Bool) (x o : Option Thread)
    → hidden_if b (if c then x else o) ≡ hidden_if b (if c then x else hidden_if b o)
chosen b true x o = refl
chosen b false x o = hidden_twice b o

-- ---- a reservation

reserved_if : (group : Group) (r : Reservation) (b : Bool) → group r.who.pid.0 ≡ b
    → (if b then None else Some r) ≡ hidden_reservation group (if b then None else Some r)
reserved_if group r true e = refl
reserved_if group r false e = ap (λ b. if b then None else Some r) (sym e)

pub reserved_twice : (group : Group) (o : Option Reservation)
    → hidden_reservation group o ≡ hidden_reservation group (hidden_reservation group o)
reserved_twice group None = refl
reserved_twice group (Some r) = reserved_if group r (group r.who.pid.0) refl

module _ (group : Group) where
  pub threads_twice : (threads : ThreadId → Option Thread) → hidden_threads group threads ≡ hidden_threads group (hidden_threads group threads)
  threads_twice threads = λ i id. hidden_twice (group id.pid.0) (threads id) i

  -- hidden twice it is the same
  pub again : (m : Machine) → veil group m ≡ veil group (veil group m)
  again m = λ i. record m { threads = threads_twice m.threads i; reserved = reserved_twice group m.reserved i }

  -- ---- what is asked of threads

  pub ready_veil : (m : Machine) (id : ThreadId) → ready_at (veil group m) id ≡ ready_at m id
  ready_veil m id = state_told is_ready (group id.pid.0) (m.threads id)

  pub next_ready_veil : (m : Machine) (c : ThreadId) → next_ready (veil group m) c ≡ next_ready m c
  unfolding next_ready
  next_ready_veil m c = λ i. next_id m.processes (λ id. ready_veil m id i) c

  pub actor_veil : (m : Machine) → actor (veil group m) ≡ actor m
  unfolding actor
  actor_veil m = λ i. if ready_veil m m.cursor i then Some m.cursor else next_ready_veil m m.cursor i

  pub free_for_veil : (m : Machine) (pid : Pid) → is_free_for_interrupt (veil group m) pid ≡ is_free_for_interrupt m pid
  free_for_veil m pid = state_told is_idle (group pid.0) (m.threads (thread_id pid 1))

  pub has_threads_veil : (m : Machine) (pid : Pid) → has_threads (veil group m) pid ≡ has_threads m pid
  unfolding has_threads
  has_threads_veil m pid = λ i.
      is_some (least_below (TID_LIMIT + 1) (λ tid. nat_le 2 tid && some_hidden (group pid.0) (m.threads (thread_id pid tid)) i))

  waits_veil : (who id : ThreadId) (b : Bool) (o : Option Thread) → waits_for_end who id (hidden_if b o) ≡ waits_for_end who id o
  waits_veil who id true None = refl
  waits_veil who id true (Some t) = refl
  waits_veil who id false o = refl

  pub joiners_veil : (m : Machine) (who : ThreadId) (a0 : ℕ) → joiners_answered (veil group m) who a0 ≡ joiners_answered m who a0
  joiners_veil m who a0 = λ i id. if waits_veil who id (group id.pid.0) (m.threads id) i then Some (scalar1_words a0) else None

  -- ---- changes of one thread

  -- a thread that is put, or taken out
  pub put_veil : (threads : ThreadId → Option Thread) (who : ThreadId) (thread : Option Thread)
      → hidden_threads group (put_at same_thread threads who thread)
      ≡ hidden_threads group (put_at same_thread (hidden_threads group threads) who thread)
  put_veil threads who thread = λ i id. chosen (group id.pid.0) (same_thread id who) thread (threads id) i

  same_group : (id who : ThreadId) → same_thread id who ≡ true → group id.pid.0 ≡ group who.pid.0
  same_group id who e =
      ap group (eqb-true id.pid.0 who.pid.0 (and_parts (id.pid.0 == who.pid.0) (id.tid.0 == who.tid.0) e).0)

  -- a thread that is changed
  pub changed_veil : (f : Thread → Thread) → Hides f → (threads : ThreadId → Option Thread) (who : ThreadId)
      → hidden_threads group (put_at same_thread threads who (option_map f (threads who)))
      ≡ hidden_threads group (put_at same_thread (hidden_threads group threads) who (option_map f (hidden_threads group threads who)))
  changed_veil f hides threads who = λ i id. at id (same_thread id who) refl i
    where
      at : (id : ThreadId) (c : Bool) → same_thread id who ≡ c
          → hidden_if (group id.pid.0) (if c then option_map f (threads who) else threads id)
          ≡ hidden_if (group id.pid.0) (if c then option_map f (hidden_threads group threads who) else hidden_threads group threads id)
      at id true e =
          mapped f hides (group id.pid.0) (threads who)
          ∙ ap (λ b. hidden_if (group id.pid.0) (option_map f (hidden_if b (threads who)))) (same_group id who e)
      at id false e = hidden_twice (group id.pid.0) (threads id)

  pids : (id who : ThreadId) → same_thread id who ≡ true → id.pid.0 ≡ who.pid.0
  pids id who e = eqb-true id.pid.0 who.pid.0 (and_parts (id.pid.0 == who.pid.0) (id.tid.0 == who.tid.0) e).0

  tids : (id who : ThreadId) → same_thread id who ≡ true → id.tid.0 ≡ who.tid.0
  tids id who e = eqb-true id.tid.0 who.tid.0 (and_parts (id.pid.0 == who.pid.0) (id.tid.0 == who.tid.0) e).1

  -- a change of a thread of the group that leaves its state is hidden
  pub own_change : (f : Thread → Thread) → ((t : Thread) → hidden_thread (f t) ≡ hidden_thread t)
      → (threads : ThreadId → Option Thread) (who : ThreadId) → group who.pid.0 ≡ true
      → hidden_threads group (put_at same_thread threads who (option_map f (threads who))) ≡ hidden_threads group threads
  own_change f keeps threads who own = λ i id. at id (same_thread id who) refl i
    where
      kept : (o : Option Thread) → option_map hidden_thread (option_map f o) ≡ option_map hidden_thread o
      kept None = refl
      kept (Some t) = ap (λ x. Some x) (keeps t)

      at : (id : ThreadId) (c : Bool) → same_thread id who ≡ c
          → hidden_if (group id.pid.0) (if c then option_map f (threads who) else threads id) ≡ hidden_if (group id.pid.0) (threads id)
      at id true e =
          let one : id ≡ who = same_ids id who (pids id who e) (tids id who e) in
          ap (λ b. hidden_if b (option_map f (threads who))) (same_group id who e ∙ own)
          ∙ (kept (threads who)
          ∙ (ap (λ b. hidden_if b (threads who)) (sym (same_group id who e ∙ own)) ∙ ap (λ x. hidden_if (group id.pid.0) (threads x)) (sym one)))
      at id false e = refl

  -- each thread is changed
  pub answered_veil : (answers : Answers) (threads : ThreadId → Option Thread)
      → hidden_threads group (λ id. option_map (with_answer (answers id)) (threads id))
      ≡ hidden_threads group (λ id. option_map (with_answer (answers id)) (hidden_threads group threads id))
  answered_veil answers threads = λ i id. mapped (with_answer (answers id)) (answer_hides (answers id)) (group id.pid.0) (threads id) i

  -- the threads of a process go
  pub forgotten_veil : (pid : Pid) (threads : ThreadId → Option Thread)
      → hidden_threads group (λ id. if id.pid.0 == pid.0 then None else threads id)
      ≡ hidden_threads group (λ id. if id.pid.0 == pid.0 then None else hidden_threads group threads id)
  forgotten_veil pid threads = λ i id. chosen (group id.pid.0) (id.pid.0 == pid.0) None (threads id) i
