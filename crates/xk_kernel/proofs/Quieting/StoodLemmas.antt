-- There was a kernel at each state of a quiet run: the one around the memory that it came by, with the thread back in its table.
use Rattle.xk_ports.specs.declared.store.SwapStore.{Ghosts as SwapStore}
use Rattle.std.proofs.Common.{◌≡◌, ℕ, zero, suc, ◌+◌, ◌<◌, false, Option, Some, None, refl, sym, subst, ◌∙◌, arith}
use Rattle.std.specs.Option.{option_map}
use Rattle.machine_model.specs.Runs.Matched.{Matched}
use Rattle.machine_model.specs.State.Machine.{Machine}
use Rattle.machine_model.specs.Stepping.Reservations.{reservation_of, reserved_by}
use Rattle.machine_model.specs.Stepping.Step.{step}
use Rattle.machine_model.specs.Stepping.Timer.{is_due}
use Rattle.thread_table.specs.Lending.{with_thread}
use Rattle.thread_table.specs.declared.thread.Thread.{Thread}
use Rattle.vm_memory.proofs.Changing.SoundMemoryLemmas.{sound-tied}
use Rattle.vm_memory.proofs.Using.UserKeepLemmas.{rest_same}
use Rattle.vm_memory.specs.Bytes.{MeansBytes}
use Rattle.xk_base.specs.declared.ids.ThreadId.{ThreadId}
use Rattle.xk_parts.specs.Shown.{thread_of}
use Rattle.xk_kernel.specs.Moments.{Stood, StoodQuietly}
use Rattle.xk_kernel.specs.Quiet.{GoesQuietly}
use Rattle.xk_kernel.specs.QuietOver.{CameBy, CameByAll, PutsThread, Taken}
use Rattle.xk_kernel.specs.Sound.{IsSound, IsUsable, IsWhole}
use Rattle.xk_kernel.specs.State.{as_reservation, machine_of}
use Rattle.xk_kernel.specs.declared.kernel.Kernel.{Kernel}
use Rattle.xk_kernel.proofs.Memory.MemoryPartLemmas.{keeps_with, with_memory}
use Rattle.xk_kernel.proofs.Quieting.RowLemmas.{Hand, KeepsHand, hand_in, whole_still}
use Rattle.xk_kernel.proofs.Quieting.TurnLemmas.{goes_taken, matched_back, put_back, whole_back}

-- so many quiet steps lead to one state
one_state : (n : ℕ) (m x y : Machine) → GoesQuietly n m x → GoesQuietly n m y → x ≡ y
one_state zero m x y one other = one ∙ sym other
one_state (suc n) m x y one other = one_state n (step m).machine x y one.1 other.1

-- the reservation of the thread, as a kernel has it
abbrev reservation_by : ThreadId → Option ℕ → Option (ThreadId × ℕ)
reservation_by who None = None
reservation_by who (Some address) = Some (who, address)

by_is : (who : ThreadId) (reserved : Option ℕ) → option_map as_reservation (reservation_by who reserved) ≡ reservation_of who reserved
by_is who None = refl
by_is who (Some address) = refl

module _ {W : Type 0} (S : SwapStore W) (k : Kernel W) (sound : IsSound S k) (usable : IsUsable k) where
  -- at the start
  stood_first : (machine : Machine) → GoesQuietly 0 (machine_of S.held k) machine → Stood S k machine
  stood_first machine goes = record {
    kernel = k;
    keeps = keeps_with S k k.mem sound.whole k.cursor.pid (rest_same S k.cursor.pid k.mem);
    sound = sound;
    usable = usable;
    is = sym goes;
    tied = sound-tied S k.mem sound.whole.mem;
  }

  -- .. where no step is done
  pub stood_none : StoodQuietly S k 0
  stood_none zero machine within goes = stood_first machine goes
  stood_none (suc n) machine within goes = absurd (omega (arith, within))

  module _ (hand : Hand) (at : (machine_of S.held k).threads k.cursor ≡ Some (thread_of hand.thread))
      (own : hand.reserved ≡ reserved_by k.cursor (machine_of S.held k).reserved) (means : MeansBytes S k.mem)
      (puts : (thread : Thread) → PutsThread k.threads k.cursor thread) where
    abbrev taken : Taken W
    taken = record { mem = k.mem; thread = hand.thread; reserved = hand.reserved }

    -- after so many steps
    module _ (n : ℕ) (came : CameBy S k.cursor taken (suc n)) where
      abbrev mid : Kernel W
      mid = with_memory came.taken.mem k

      abbrev left : Hand
      left = record { thread = came.taken.thread; reserved = came.taken.reserved }

      kept : KeepsHand S k mid hand left
      kept = record { same = refl; rest = came.rest; state = came.state; aligned = came.aligned }

      -- the kernel with the thread in its table
      abbrev there : Kernel W
      there = record mid {
        threads = with_thread k.threads k.cursor came.taken.thread;
        steps = k.steps + suc n;
        reserved = reservation_by k.cursor came.taken.reserved;
        log = k.log;
      }

      back : machine_of S.held there ≡ hand_in S.held k.cursor mid left (k.steps + suc n)
      back =
          put_back S.held mid (with_thread k.threads k.cursor came.taken.thread) k.cursor came.taken.thread
          (puts came.taken.thread).threads
          (reservation_by k.cursor came.taken.reserved) came.taken.reserved (by_is k.cursor came.taken.reserved) (k.steps + suc n) k.log

      whole : IsWhole S there
      whole =
          whole_back S mid (with_thread k.threads k.cursor came.taken.thread) (puts came.taken.thread).count
          (reservation_by k.cursor came.taken.reserved) (k.steps + suc n) k.log refl (whole_still S k mid hand left kept sound.whole)

      matched : Matched (machine_of S.held there)
      matched = subst Matched (sym back) (matched_back S k hand at own mid left kept (sound.matched usable) (suc n))

      goes_there : ((j : ℕ) → j < suc n → is_due k.timer (k.steps + j + 1) ≡ false)
          → GoesQuietly (suc n) (machine_of S.held k) (hand_in S.held k.cursor mid left (k.steps + suc n))
      goes_there undue =
          goes_taken S k hand at own n (hand_in S.held k.cursor mid left (k.steps + suc n))
          (came.goes k (record { whole = sound.whole; matched = sound.matched usable }) undue means)

      stood_there : ((j : ℕ) → j < suc n → is_due k.timer (k.steps + j + 1) ≡ false) → (machine : Machine)
          → GoesQuietly (suc n) (machine_of S.held k) machine → Stood S k machine
      stood_there undue machine goes = record {
        kernel = there;
        keeps = record { size = came.rest.sizes; store = came.rest.store; room = refl };
        sound = record { whole = whole; matched = λ _. matched };
        usable = came.usable;
        is = back ∙ one_state (suc n) (machine_of S.held k) (hand_in S.held k.cursor mid left (k.steps + suc n)) machine (goes_there undue) goes;
        tied = sound-tied S came.taken.mem whole.mem;
      }

    pub stood_all : (done : ℕ) → CameByAll S k.cursor taken done → ((j : ℕ) → j < done → is_due k.timer (k.steps + j + 1) ≡ false)
        → StoodQuietly S k done
    stood_all done came undue zero machine within goes = stood_first machine goes
    stood_all done came undue (suc n) machine within goes =
        stood_there n (came (suc n) within) (λ j less. undue j (omega (arith, less, within))) machine goes
