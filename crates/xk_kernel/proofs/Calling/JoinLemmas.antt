-- JoinThread: the caller waits for the end of another thread of its process.
use Rattle.std.proofs.Common.{◌≡◌, ℕ, ◌<◌, ◌≤◌, Bool, true, false, Some, None, refl, sym, ap, ◌∙◌, arith}
use Rattle.std.specs.Prelude.{◌==◌, ◌&&◌, ◌||◌, ◌≢◌, not, nat_le, is_some, if◌then◌else◌}
use Rattle.std.proofs.lemmas.Bool.{eq-eqb, ne_eqb}
use Rattle.std.proofs.lemmas.Bool.Decides.{nat_tests}
use Rattle.xk_base.specs.declared.errors.XousError.TheVariants.{InvalidThread}
use Rattle.machine_model.specs.State.Changes.{Outcome, Refused, Served, only, refused_or, unless_refused}
use Rattle.machine_model.specs.State.Machine.{Machine, Joining}
use Rattle.machine_model.specs.Calling.ThreadCalls.{has_thread, join_refusals, join_served}
use Rattle.machine_model.specs.State.Threads.{change_thread, thread_id, with_state}
use Rattle.sv32_space.specs.Tie.{Held}
use Rattle.thread_table.specs.Shown.{threads_of}
use Rattle.xk_kernel.specs.State.{machine_of}
use Rattle.xk_kernel.specs.declared.kernel.Kernel.{Kernel}
use Rattle.xk_kernel.proofs.Acting.TidLemmas.{is_some_mapped}

-- ---- the row by its one test

module _ (m : Machine) (tid : ℕ) where
  abbrev row : Outcome
  row = unless_refused (join_refusals m tid) (Served (join_served m tid))

  abbrev is_refused : Bool
  is_refused = not (has_thread m m.cursor.pid tid) || (tid == m.cursor.tid.0)

  refused : is_refused ≡ true → Refused InvalidThread ≡ row
  refused e = sym (ap (λ b. refused_or (if b then Some InvalidThread else None) (Served (join_served m tid))) e)

  served : is_refused ≡ false → Served (join_served m tid) ≡ row
  served e = sym (ap (λ b. refused_or (if b then Some InvalidThread else None) (Served (join_served m tid))) e)

  without : has_thread m m.cursor.pid tid ≡ false → Refused InvalidThread ≡ row
  without e = refused (ap (λ b. not b || (tid == m.cursor.tid.0)) e)

or_true : (b : Bool) → (b || true) ≡ true
or_true true = refl
or_true false = refl

first_fails : (a b c : Bool) → a ≡ false → (a && b && c) ≡ false
first_fails true b c e = cc
first_fails false b c e = refl

second_fails : (a b c : Bool) → b ≡ false → (a && b && c) ≡ false
second_fails true true c e = cc
second_fails true false c e = refl
second_fails false b c e = refl

third_fails : (a b c : Bool) → c ≡ false → (a && b && c) ≡ false
third_fails true true c e = e
third_fails true false c e = refl
third_fails false b c e = refl

-- ---- the row of the kernel's machine

module _ {W : Type 0} (held : W → Held) (k : Kernel W) (tid : ℕ) where
  abbrev its_row : Outcome
  its_row = unless_refused (join_refusals (machine_of held k) tid) (Served (join_served (machine_of held k) tid))

  abbrev there : Bool
  there = is_some ((machine_of held k).threads (thread_id (machine_of held k).cursor.pid tid))

  pub join_low : tid < 2 → Refused InvalidThread ≡ its_row
  join_low low =
      let e : nat_le 2 tid ≡ false = grind (arith, nat_tests) in
      without (machine_of held k) tid (first_fails (nat_le 2 tid) (nat_le tid 31) there e)

  pub join_high : 31 < tid → Refused InvalidThread ≡ its_row
  join_high high =
      let e : nat_le tid 31 ≡ false = grind (arith, nat_tests) in
      without (machine_of held k) tid (second_fails (nat_le 2 tid) (nat_le tid 31) there e)

  pub join_itself : tid ≡ k.cursor.tid.0 → Refused InvalidThread ≡ its_row
  unfolding machine_of
  join_itself same =
      refused (machine_of held k) tid
      (ap (λ b. not (has_thread (machine_of held k) k.cursor.pid tid) || b) (eq-eqb tid k.cursor.tid.0 same) ∙ or_true (not (has_thread (machine_of held k) k.cursor.pid tid)))

  there_is : there ≡ is_some (threads_of k.threads (thread_id k.cursor.pid tid))
  unfolding machine_of
  there_is = is_some_mapped (threads_of k.threads (thread_id k.cursor.pid tid))

  pub join_absent : is_some (threads_of k.threads (thread_id k.cursor.pid tid)) ≡ false → Refused InvalidThread ≡ its_row
  join_absent none = without (machine_of held k) tid (third_fails (nat_le 2 tid) (nat_le tid 31) there (there_is ∙ none))

  -- the thread may be waited for
  pub record MayJoin : Type 0 where
    pub above : 2 ≤ tid
    pub within : tid ≤ 31
    pub other : tid ≢ k.cursor.tid.0
    pub live : is_some (threads_of k.threads (thread_id k.cursor.pid tid)) ≡ true

  may : MayJoin → is_refused (machine_of held k) tid ≡ false
  unfolding machine_of
  may h =
      let above : 2 ≤ tid = h.above in
      let within : tid ≤ 31 = h.within in
      let low : nat_le 2 tid ≡ true = grind (arith, nat_tests) in
      let high : nat_le tid 31 ≡ true = grind (arith, nat_tests) in
      let live : there ≡ true = there_is ∙ h.live in
      λ i. not (low i && high i && live i) || ne_eqb tid k.cursor.tid.0 h.other i

  pub join_waits : (new : Kernel W) → MayJoin
      → machine_of held new ≡ change_thread k.cursor (with_state (Joining (record { 0 = tid }))) (machine_of held k)
      → Served (only (machine_of held new)) ≡ its_row
  unfolding machine_of
  join_waits new h after = ap (λ x. Served (only x)) after ∙ served (machine_of held k) tid (may h)
