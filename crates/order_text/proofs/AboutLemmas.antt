-- What rows tell of a thread and of a process.
use Rattle.std.proofs.Common.{◌≡◌, ℕ, Bool, true, false, List, [], ◌++◌, Option, None, Some, ap, refl, sym, ◌∙◌}
use Rattle.std.specs.Prelude.{◌==◌, ◌&&◌, codes, decimal, if◌then◌else◌, map}
use Rattle.std.specs.List.{find, join_by}
use Rattle.std.specs.Option.{option_map, option_map_or}
use Rattle.machine_model.specs.State.Machine.{Machine}
use Rattle.order_model.specs.declared.exits.Exit.{Exit}
use Rattle.order_model.specs.declared.sights.Sights.{Sights}
use Rattle.order_model.specs.Endings.{IsGone, IsIdle, Joins, Life, Lives, Waits, is_busy_of, kept_at, process_seen, state_seen, thread_seen, threads_seen}
use Rattle.snapshot_rows.specs.declared.state.State.{State}
use Rattle.snapshot_rows.specs.declared.state.ThreadRow.{ThreadRow}
use Rattle.snapshot_rows.specs.Machines.{machine_of, thread_of, thread_state}
use Rattle.xk_base.specs.declared.ids.Pid.{Pid}
use Rattle.xk_base.specs.declared.ids.ThreadId.{ThreadId}
use Rattle.xk_base.specs.Tables.Circle.{listed_ids}
use Rattle.order_text.specs.Texts.{exit_text, is_told, life_text, lives, process_text, thread_seen_text, threads_text}
use Rattle.order_text.proofs.TextLemmas.{joined_map}

-- ---- threads

pub waiting_seen : (m : Machine) (t : ThreadRow) → t.state ≡ 2
    → state_seen m (thread_of t).state ≡ Waits (kept_at m (record { 0 = t.waits }))
waiting_seen m t is = ap (λ (k : ℕ). state_seen m (thread_state k t.waits)) is

pub joining_seen : (m : Machine) (t : ThreadRow) → t.state ≡ 3 → state_seen m (thread_of t).state ≡ Joins (record { 0 = t.waits })
joining_seen m t is = ap (λ (k : ℕ). state_seen m (thread_state k t.waits)) is

-- the row of a thread tells what is seen of it
pub row_seen : (file : List ℕ) (s : State) (who : ThreadId) (row : ThreadRow)
    → find (λ t. t.pid == who.pid.0 && t.tid == who.tid.0) s.threads ≡ Some row
    → (thread_seen (machine_of file s) who).1 ≡ state_seen (machine_of file s) (thread_of row).state
row_seen file s who row found =
    ap (λ (o : Option ThreadRow). option_map_or (λ thread. state_seen (machine_of file s) thread.state) (option_map thread_of o) IsIdle) found

-- ---- processes

module _ (sights : Sights) (m : Machine) (exits : ℕ → Option Exit) (pid : Pid) where
  abbrev life_if : Bool → Life
  life_if alive = if alive then Lives (threads_seen m pid) else IsGone (exits pid.0)

  pub gone_text : (m.process pid.0).alive ≡ false
      → exit_text (if sights.exits then exits pid.0 else None) ≡ life_text sights (process_seen m exits pid).life
  gone_text dead = sym (ap (λ (b : Bool). life_text sights (life_if b)) dead)

  pub living_text : (m.process pid.0).alive ≡ true
      → codes " waits: " ++ threads_text sights.servers (threads_seen m pid) ≡ life_text sights (process_seen m exits pid).life
  living_text alive = sym (ap (λ (b : Bool). life_text sights (life_if b)) alive)

  lives_if : (b : Bool) → lives (life_if b) ≡ b
  lives_if true = refl
  lives_if false = refl

  abbrev process_told : Bool → List ℕ
  process_told told =
      if told then decimal pid.0 ++ (life_text sights (process_seen m exits pid).life ++ codes "; ") else []

  pub untold_text : (alive : Bool) → alive ≡ (m.process pid.0).alive → is_told sights alive ≡ false → process_text sights (process_seen m exits pid) ≡ []
  untold_text alive is untold =
      ap (λ (b : Bool). process_told (is_told sights b)) (lives_if (m.process pid.0).alive ∙ sym is) ∙ ap process_told untold

  pub told_text : (alive : Bool) → alive ≡ (m.process pid.0).alive → is_told sights alive ≡ true
      → process_text sights (process_seen m exits pid) ≡ decimal pid.0 ++ (life_text sights (process_seen m exits pid).life ++ codes "; ")
  told_text alive is told =
      ap (λ (b : Bool). process_told (is_told sights b)) (lives_if (m.process pid.0).alive ∙ sym is) ∙ ap process_told told

-- the threads that rows tell
pub threads_told : (servers : Bool) (m : Machine) (pid : Pid) (ids : List ThreadId) → ids ≡ listed_ids m.processes (is_busy_of m pid)
    → join_by (λ who. thread_seen_text servers (thread_seen m who)) (codes ", ") ids ≡ threads_text servers (threads_seen m pid)
threads_told servers m pid ids are =
    joined_map (thread_seen_text servers) (thread_seen m) (codes ", ") ids
    ∙ ap (λ xs. join_by (thread_seen_text servers) (codes ", ") (map (thread_seen m) xs)) are
