-- One thread changed: the threads are like those of the machine where the changed one is.
use Rattle.std.proofs.Common.{◌≡◌, Bool, true, false, Option, Some, None, refl, sym, ap, ◌∙◌, subst}
use Rattle.std.specs.Prelude.{◌%◌, ◌==◌, if◌then◌else◌}
use Rattle.std.specs.Option.{option_map}
use Rattle.std.proofs.lemmas.Bool.{and_parts, eqb-true}
use Rattle.std.proofs.lemmas.Option.{none-some, same_Some}
use Rattle.xk_base.specs.declared.ids.ThreadId.{ThreadId}
use Rattle.xk_base.specs.Tables.Circle.{same_thread}
use Rattle.xk_base.specs.Tables.Counting.{put_at}
use Rattle.xk_base.proofs.CircleLemmas.{same_ids}
use Rattle.machine_model.specs.State.Machine.{Machine, Thread}
use Rattle.machine_model.specs.Runs.Matched.{Matched}
use Rattle.machine_laws.proofs.Threading.LikeThreadLemmas.{AreLike, state_of}

-- the changed thread is in the same state, and its pc is aligned
pub record IsLike (old new : Thread) : Type 0 where
  pub state : new.state ≡ old.state
  pub pc : new.pc % 4 ≡ 0

pub same_thread-same : (a b : ThreadId) → same_thread a b ≡ true → a ≡ b
same_thread-same a b e =
    let parts = and_parts (a.pid.0 == b.pid.0) (a.tid.0 == b.tid.0) e in
    same_ids a b (eqb-true a.pid.0 b.pid.0 parts.0) (eqb-true a.tid.0 b.tid.0 parts.1)

changed_state : (change : Thread → Thread) (o : Option Thread) → ((t : Thread) → o ≡ Some t → IsLike t (change t))
    → option_map state_of (option_map change o) ≡ option_map state_of o
changed_state change None like = refl
changed_state change (Some t) like = ap Some (like t refl).state

changed_pc : (change : Thread → Thread) (o : Option Thread) → ((t : Thread) → o ≡ Some t → IsLike t (change t))
    → (u : Thread) → option_map change o ≡ Some u → u.pc % 4 ≡ 0
changed_pc change None like u e = absurd (none-some u e)
changed_pc change (Some t) like u e = subst (λ (v : Thread). v.pc % 4 ≡ 0) (same_Some (change t) u e) (like t refl).pc

pub like_changed : (m : Machine) (who : ThreadId) (change : Thread → Thread) → Matched m
    → ((t : Thread) → m.threads who ≡ Some t → IsLike t (change t))
    → AreLike m (put_at same_thread m.threads who (option_map change (m.threads who)))
like_changed m who change h like = record {
  states = λ id. state_at id (same_thread id who) refl;
  pcs = λ id t e. pc_at id t (same_thread id who) e;
}
  where
    state_at : (id : ThreadId) (b : Bool) → same_thread id who ≡ b
        → option_map state_of (if b then option_map change (m.threads who) else m.threads id) ≡ option_map state_of (m.threads id)
    state_at id true e = changed_state change (m.threads who) like ∙ ap (λ q. option_map state_of (m.threads q)) (sym (same_thread-same id who e))
    state_at id false e = refl

    pc_at : (id : ThreadId) (t : Thread) (b : Bool) → (if b then option_map change (m.threads who) else m.threads id) ≡ Some t → t.pc % 4 ≡ 0
    pc_at id t true e = changed_pc change (m.threads who) like t e
    pc_at id t false e = h.body.threads.pcs id t e
