-- The threads of a process that are Receiving at a server, noted one after another.
use Rattle.std.proofs.Common.{◌≡◌, ℕ, ◌+◌, ◌<◌, ◌≤◌, Bool, true, false, refl, sym, ap, ◌∙◌, arith, inl, inr}
use Rattle.std.specs.Prelude.{◌≢◌, ◌⊎◌, ◌==◌, ◌||◌, ◌&&◌, if◌then◌else◌, nat_le}
use Rattle.std.proofs.lemmas.Bool.{cases_eq, eq-eqb, false≢true, le-leb, leb-false, leb-true, lt-leb}
use Rattle.machine_laws.proofs.Threading.ThreadPutLemmas.{alike}
use Rattle.thread_table.specs.ThreadMap.{ThreadMap, is_receiving}
use Rattle.xk_base.specs.Tables.Circle.{is_tid, same_thread}
use Rattle.xk_base.specs.Tables.Counting.{put_at}
use Rattle.xk_base.specs.declared.ids.Pid.{Pid}
use Rattle.xk_base.specs.declared.ids.Serial.{Serial}
use Rattle.xk_base.specs.declared.ids.ThreadId.{ThreadId}
use Rattle.kill_path.specs.Telling.{is_receiver_of}
use Rattle.kill_path.specs.ThreadSets.{ThreadSet}

-- noted before, or a receiver with a tid up to k
abbrev pub noted_up_to : ℕ → Pid → Serial → ThreadMap → ThreadSet → ThreadSet
noted_up_to k pid serial threads noted id = noted id || (nat_le id.tid.0 k && is_receiver_of pid serial threads id)

module _ (pid : Pid) (serial : Serial) (threads : ThreadMap) (noted : ThreadSet) where
  or_false : (b : Bool) → (b || false) ≡ b
  or_false true = refl
  or_false false = refl

  and_false : (b : Bool) → (b && false) ≡ false
  and_false true = refl
  and_false false = refl

  pub none_up_to : noted ≡ noted_up_to 0 pid serial threads noted
  none_up_to = λ i id. (sym (or_false (noted id)) ∙ ap (λ b. noted id || b) (sym (nobody id))) i
    where
      nobody : (id : ThreadId) → (nat_le id.tid.0 0 && is_receiver_of pid serial threads id) ≡ false
      nobody id = go (nat_le id.tid.0 0) refl
        where
          go : (b : Bool) → nat_le id.tid.0 0 ≡ b → (b && is_receiver_of pid serial threads id) ≡ false
          go false e = refl
          go true e =
              let low : id.tid.0 ≤ 0 = leb-true id.tid.0 0 e in
              ap (λ c. (id.pid.0 == pid.0) && ((c && nat_le id.tid.0 31) && is_receiving serial (threads id))) (lt-leb 1 id.tid.0 (omega arith))
              ∙ and_false (id.pid.0 == pid.0)

  pub all_up_to : noted_up_to 31 pid serial threads noted ≡ (λ id. noted id || is_receiver_of pid serial threads id)
  all_up_to = λ i id. noted id || whole id i
    where
      whole : (id : ThreadId) → (nat_le id.tid.0 31 && is_receiver_of pid serial threads id) ≡ is_receiver_of pid serial threads id
      whole id = go (nat_le id.tid.0 31)
        where
          go : (b : Bool) → (b && ((id.pid.0 == pid.0) && ((nat_le 1 id.tid.0 && b) && is_receiving serial (threads id))))
              ≡ ((id.pid.0 == pid.0) && ((nat_le 1 id.tid.0 && b) && is_receiving serial (threads id)))
          go true = refl
          go false = sym (ap (λ c. (id.pid.0 == pid.0) && (c && is_receiving serial (threads id))) (and_false (nat_le 1 id.tid.0)) ∙ and_false (id.pid.0 == pid.0))

  module _ (k : ℕ) (low : k < 31) where
    abbrev here : ThreadId
    here = record { pid = pid; tid = record { 0 = k + 1 } }

    receives : is_receiver_of pid serial threads here ≡ is_receiving serial (threads here)
    receives =
        (λ i. eq-eqb pid.0 pid.0 refl i && ((le-leb 1 (k + 1) (omega arith) i && le-leb (k + 1) 31 (omega arith) i) && is_receiving serial (threads here)))

    other_tid : (id : ThreadId) → id.tid.0 ≢ k + 1 → nat_le id.tid.0 (k + 1) ≡ nat_le id.tid.0 k
    other_tid id ne = go (nat_le id.tid.0 k) refl
      where
        go : (b : Bool) → nat_le id.tid.0 k ≡ b → nat_le id.tid.0 (k + 1) ≡ b
        go true e = let l : id.tid.0 ≤ k = leb-true id.tid.0 k e in le-leb id.tid.0 (k + 1) (omega arith)
        go false e = let l : k < id.tid.0 = leb-false id.tid.0 k e in let m : k + 1 < id.tid.0 = omega (arith, ne) in lt-leb id.tid.0 (k + 1) m

    other : (id : ThreadId) → same_thread id here ≡ false
        → (nat_le id.tid.0 (k + 1) && is_receiver_of pid serial threads id) ≡ (nat_le id.tid.0 k && is_receiver_of pid serial threads id)
    other id apart = by_tid (cases_eq id.tid.0 (k + 1))
      where
        strange : id.tid.0 ≡ k + 1 → (id.pid.0 == pid.0) ≡ false
        strange at = go (id.pid.0 == pid.0) refl
          where
            go : (b : Bool) → (id.pid.0 == pid.0) ≡ b → b ≡ false
            go false e = refl
            go true e = absurd (false≢true (sym apart ∙ (λ i. e i && eq-eqb id.tid.0 (k + 1) at i)))

        none : (b : Bool) → (id.pid.0 == pid.0) ≡ false → (b && is_receiver_of pid serial threads id) ≡ false
        none b e = ap (λ c. b && (c && (is_tid id.tid.0 && is_receiving serial (threads id)))) e ∙ and_false b

        by_tid : (id.tid.0 ≡ k + 1) ⊎ (id.tid.0 ≡ k + 1 → ⊥)
            → (nat_le id.tid.0 (k + 1) && is_receiver_of pid serial threads id) ≡ (nat_le id.tid.0 k && is_receiver_of pid serial threads id)
        by_tid (inl at) = none (nat_le id.tid.0 (k + 1)) (strange at) ∙ sym (none (nat_le id.tid.0 k) (strange at))
        by_tid (inr ne) = ap (λ b. b && is_receiver_of pid serial threads id) (other_tid id ne)

    at_here : (r : Bool) → is_receiving serial (threads here) ≡ r
        → (if r then true else noted_up_to k pid serial threads noted here) ≡ noted_up_to (k + 1) pid serial threads noted here
    at_here r e =
        go r (noted here)
        ∙ sym (λ i. noted here || (le-leb (k + 1) (k + 1) (omega arith) i && (receives ∙ e) i))
      where
        before : (x : Bool) → noted_up_to k pid serial threads noted here ≡ noted here
        before x = ap (λ b. noted here || (b && is_receiver_of pid serial threads here)) (lt-leb (k + 1) k (omega arith)) ∙ or_false (noted here)

        go : (s x : Bool) → (if s then true else noted_up_to k pid serial threads noted here) ≡ (noted here || s)
        go true x = sym (or_true (noted here))
          where
            or_true : (y : Bool) → (y || true) ≡ true
            or_true true = refl
            or_true false = refl
        go false x = before x ∙ sym (or_false (noted here))

    -- one more tid
    pub one_more_up_to : (now after : ThreadSet) → now ≡ noted_up_to k pid serial threads noted
        → after ≡ (if is_receiving serial (threads here) then put_at same_thread now here true else now)
        → after ≡ noted_up_to (k + 1) pid serial threads noted
    one_more_up_to now after e f = f ∙ by (is_receiving serial (threads here)) refl
      where
        at : (r : Bool) → is_receiving serial (threads here) ≡ r → (id : ThreadId) (s : Bool) → same_thread id here ≡ s
            → (if r then (if s then true else noted_up_to k pid serial threads noted id) else noted_up_to k pid serial threads noted id)
            ≡ noted_up_to (k + 1) pid serial threads noted id
        at true q id true p =
            at_here true q ∙ ap (λ (x : ThreadId). noted_up_to (k + 1) pid serial threads noted x) (sym (alike id here p))
        at false q id true p =
            ap (λ (x : ThreadId). noted_up_to k pid serial threads noted x) (alike id here p) ∙ at_here false q
            ∙ ap (λ (x : ThreadId). noted_up_to (k + 1) pid serial threads noted x) (sym (alike id here p))
        at true q id false p = ap (λ b. noted id || b) (sym (other id p))
        at false q id false p = ap (λ b. noted id || b) (sym (other id p))

        by : (r : Bool) → is_receiving serial (threads here) ≡ r → (if r then put_at same_thread now here true else now) ≡ noted_up_to (k + 1) pid serial threads noted
        by true q = ap (λ set. put_at same_thread set here true) e ∙ (λ i id. at true q id (same_thread id here) refl i)
        by false q = e ∙ (λ i id. at false q id (same_thread id here) refl i)
