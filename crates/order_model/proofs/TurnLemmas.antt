-- The rows of threads tell who is Ready.
use Rattle.std.proofs.Common.{◌≡◌, ◌+◌, ℕ, suc, Bool, true, false, List, [], ◌∷◌, ◌++◌, Option, Some, None, refl, sym, ap, subst, ◌∙◌, arith}
use Rattle.std.specs.Prelude.{◌==◌, ◌&&◌, if◌then◌else◌, map}
use Rattle.std.proofs.lemmas.List.{append-nil, map-append}
use Rattle.std.specs.List.{find}
use Rattle.std.specs.Option.{option_map, option_map_or}
use Rattle.machine_model.specs.State.Machine.{Thread, Idle, Joining, Ready, Receiving, Waiting}
use Rattle.machine_model.specs.State.Order.{is_ready, ready_at}
use Rattle.snapshot_rows.specs.declared.state.State.{State}
use Rattle.snapshot_rows.specs.declared.state.ThreadRow.{ThreadRow}
use Rattle.snapshot_rows.specs.Machines.{machine_of, thread_of}
use Rattle.order_model.specs.Turns.{is_ready_in}
use Rattle.xk_base.specs.Tables.Circle.{id_at, listed_ids, thread_ids}
use Rattle.xk_base.specs.Tables.Counting.{listed_below}
use Rattle.xk_base.specs.declared.ids.ThreadId.{ThreadId}
use Rattle.xk_base.proofs.CountingLemmas.{listed_below-same}
use Rattle.order_model.specs.Endings.{ready_ids}

state_is : (a b c d : Bool) (waits : ℕ)
    → is_ready (if a then Ready else (if b then Receiving (record { 0 = waits }) else (if c then Waiting (record { 0 = waits }) else (if d then Joining (record { 0 = waits }) else Idle))))
    ≡ a
state_is true b c d waits = refl
state_is false true c d waits = refl
state_is false false true d waits = refl
state_is false false false true waits = refl
state_is false false false false waits = refl

row_is : (t : ThreadRow) → (t.state == 0) ≡ is_ready (thread_of t).state
row_is t = sym (state_is (t.state == 0) (t.state == 1) (t.state == 2) (t.state == 3) t.waits)

found_is : (o : Option ThreadRow) → option_map_or (λ (t : ThreadRow). t.state == 0) o false
    ≡ option_map_or (λ (t : Thread). is_ready t.state) (option_map thread_of o) false
found_is None = refl
found_is (Some t) = row_is t

pub ready_is : (file : List ℕ) (s : State) (who : ThreadId) → is_ready_in s.threads who ≡ ready_at (machine_of file s) who
ready_is file s who = found_is (find (λ t. t.pid == who.pid.0 && t.tid == who.tid.0) s.threads)

pub all_ready : (file : List ℕ) (s : State) (ids : List ThreadId) → ids ≡ listed_ids s.n (is_ready_in s.threads) → ids ≡ ready_ids (machine_of file s)
unfolding listed_ids ready_ids
all_ready file s ids e =
    e ∙ ap (map id_at) (listed_below-same (thread_ids s.n) (λ k. is_ready_in s.threads (id_at k)) (λ k. ready_at (machine_of file s) (id_at k)) (λ k low. ready_is file s (id_at k)))

-- the next place is listed where its thread is ready
pub next_listed : (test : ℕ → Bool) (k : ℕ) (ids more : List ThreadId) → ids ≡ map id_at (listed_below k test)
    → more ≡ ids ++ (if test k then id_at k ∷ [] else []) → more ≡ map id_at (listed_below (k + 1) test)
unfolding listed_below
next_listed test k ids more e is =
    let same : suc k ≡ k + 1 = omega arith in
    subst (λ n. more ≡ map id_at (listed_below n test)) same (go (test k) refl)
  where
    go : (b : Bool) → test k ≡ b → more ≡ map id_at (listed_below k test ++ (if test k then k ∷ [] else []))
    go true t =
        is
        ∙ (ap (λ (b : Bool). ids ++ (if b then id_at k ∷ [] else [])) t
        ∙ (ap (λ (xs : List ThreadId). xs ++ id_at k ∷ []) e
        ∙ (sym (map-append id_at (listed_below k test) (k ∷ []))
        ∙ ap (λ (b : Bool). map id_at (listed_below k test ++ (if b then k ∷ [] else []))) (sym t))))
    go false t =
        is
        ∙ (ap (λ (b : Bool). ids ++ (if b then id_at k ∷ [] else [])) t
        ∙ (append-nil ids
        ∙ (e
        ∙ (ap (map id_at) (sym (append-nil (listed_below k test)))
        ∙ ap (λ (b : Bool). map id_at (listed_below k test ++ (if b then k ∷ [] else []))) (sym t)))))

-- all were looked at
pub all_listed : (n place : ℕ) (test : ThreadId → Bool) (ids : List ThreadId) → ids ≡ map id_at (listed_below place (λ k. test (id_at k)))
    → place ≡ thread_ids n → ids ≡ listed_ids n test
unfolding listed_ids
all_listed n place test ids e same = e ∙ ap (λ (p : ℕ). map id_at (listed_below p (λ k. test (id_at k)))) same
