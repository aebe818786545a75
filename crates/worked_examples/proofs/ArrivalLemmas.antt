-- Where the pages of a send go. The search for it goes through all places, so that it is found by a law.
use Rattle.std.proofs.Common.{◌≡◌, ℕ, zero, suc, ◌+◌, ◌<◌, Bool, true, false, List, ◌++◌, Some, refl, ap, ◌∙◌, arith}
use Rattle.std.specs.Prelude.{◌&&◌, nat_le}
use Rattle.std.specs.Option.{option_map, option_map_or, option_and_then}
use Rattle.xk_base.specs.declared.ids.Number.{Number}
use Rattle.xk_base.specs.declared.ids.Pid.{Pid}
use Rattle.xk_base.specs.declared.ids.Place.{Place}
use Rattle.xk_base.specs.declared.records.What.{What}
use Rattle.xk_base.specs.declared.windows.Window.TheVariants.{Message}
use Rattle.syscall_codec.specs.CallWords.{send_cid}
use Rattle.xk_base.proofs.CountingLemmas.{least_below-Some}
use Rattle.ledger_model.specs.Ledger.{Ledger}
use Rattle.ledger_model.specs.LeastRun.{least_run, is_free_run, window_place}
use Rattle.ledger_model.specs.Places.{run}
use Rattle.ledger_model.specs.Reach.{is_free}
use Rattle.machine_model.specs.State.Changes.{Outcome, call_settled}
use Rattle.machine_model.specs.State.Machine.{Machine, Server}
use Rattle.machine_model.specs.Worked.Rows.{Deed, told_all, after_all}
use Rattle.machine_model.specs.Messaging.ForwardCalls.{next_arrival, passable}
use Rattle.machine_model.specs.Messaging.SendCalls.{sent_pages, arrival, message_run}
use Rattle.machine_model.specs.State.Servers.{server_at}

and_false : (a b : Bool) → b ≡ false → (a && b) ≡ false
and_false true b e = e
and_false false b e = refl

-- the run at place k of the window is free, and none before it: it is the least
run_found : (m : Machine) (n : ℕ) (server : Server) (k : ℕ) → k < 4096 → nat_le (k + n) 4096 ≡ true
    → is_free_run m.processes m.ledger (window_place server.pid Message k) n ≡ true
    → ((j : ℕ) → j < k → is_free_run m.processes m.ledger (window_place server.pid Message j) n ≡ false)
    → message_run m n server ≡ Some (window_place server.pid Message k).vpn
unfolding least_run
run_found m n server k low small free first =
    ap (option_map (λ i. (window_place server.pid Message i).vpn))
    (least_below-Some 4096 (λ i. nat_le (i + n) 4096 && is_free_run m.processes m.ledger (window_place server.pid Message i) n) k low
    (rw (small, free) refl) (λ j l. and_false (nat_le (j + n) 4096) _ (first j l)))

-- .. at that server, which the send names
pub arrives_at : (m : Machine) (w : List ℕ) (server : Server) (k : ℕ) → server_at m (send_cid w) ≡ Some server
    → k < 4096 → nat_le (k + sent_pages w) 4096 ≡ true
    → is_free_run m.processes m.ledger (window_place server.pid Message k) (sent_pages w) ≡ true
    → ((j : ℕ) → j < k → is_free_run m.processes m.ledger (window_place server.pid Message j) (sent_pages w) ≡ false)
    → arrival m w ≡ Some (window_place server.pid Message k).vpn
unfolding arrival
arrives_at m w server k there low small free first =
    ap (option_and_then (message_run m (sent_pages w))) there ∙ run_found m (sent_pages w) server k low small free first

-- a run of one place
pub one_place : (procs : ℕ) (l : Ledger) (p : Place) (b : Bool) → is_free procs l p ≡ b → is_free_run procs l p 1 ≡ b
unfolding is_free_run run
one_place procs l p b e = ap (λ x. x && true) e ∙ and_true b
  where
    and_true : (x : Bool) → (x && true) ≡ x
    and_true true = refl
    and_true false = refl

-- one page goes to place k of the window where that is free, and no place before it
pub arrives_one : (m : Machine) (w : List ℕ) (server : Server) (pid : Pid) (procs : ℕ) (l : Ledger) (k : ℕ)
    → server_at m (send_cid w) ≡ Some server → server.pid ≡ pid → sent_pages w ≡ 1 → m.processes ≡ procs → m.ledger ≡ l
    → k < 4096 → nat_le (k + 1) 4096 ≡ true → is_free procs l (window_place pid Message k) ≡ true
    → ((j : ℕ) → j < k → is_free procs l (window_place pid Message j) ≡ false)
    → arrival m w ≡ Some (window_place pid Message k).vpn
arrives_one m w server pid procs l k there own one processes ledger low small free used =
    arrives_at m w server k there low (ap (λ c. nat_le (k + c) 4096) one ∙ small)
    (same_run k ∙ one_place procs l (window_place pid Message k) true free)
    (λ j b. same_run j ∙ one_place procs l (window_place pid Message j) false (used j b))
  where
    same_run : (j : ℕ) → is_free_run m.processes m.ledger (window_place server.pid Message j) (sent_pages w)
        ≡ is_free_run procs l (window_place pid Message j) 1
    same_run j =
        ap (λ n. is_free_run n m.ledger (window_place server.pid Message j) (sent_pages w)) processes
        ∙ (ap (λ x. is_free_run procs x (window_place server.pid Message j) (sent_pages w)) ledger
        ∙ (ap (λ q. is_free_run procs l (window_place q Message j) (sent_pages w)) own
        ∙ ap (λ c. is_free_run procs l (window_place pid Message j) c) one))

-- a test that fails of the first numbers fails below the next
pub fails_below_one : (f : ℕ → Bool) → f 0 ≡ false → (j : ℕ) → j < 1 → f j ≡ false
fails_below_one f first zero l = first
fails_below_one f first (suc j) l = absurd (omega arith)

pub fails_below_two : (f : ℕ → Bool) → f 0 ≡ false → f 1 ≡ false → (j : ℕ) → j < 2 → f j ≡ false
fails_below_two f first second zero l = first
fails_below_two f first second (suc zero) l = second
fails_below_two f first second (suc (suc j)) l = absurd (omega arith)

pub fails_below_three : (f : ℕ → Bool) → f 0 ≡ false → f 1 ≡ false → f 2 ≡ false → (j : ℕ) → j < 3 → f j ≡ false
fails_below_three f first second third zero l = first
fails_below_three f first second third (suc zero) l = second
fails_below_three f first second third (suc (suc zero)) l = third
fails_below_three f first second third (suc (suc (suc j))) l = absurd (omega arith)

-- .. and where those of a message go that is passed on to that server
pub goes_on_at : (m : Machine) (number : Number) (cid n : ℕ) (server : Server) (k : ℕ)
    → option_map_or (λ message. message.count) (passable m number) 0 ≡ n → server_at m cid ≡ Some server
    → k < 4096 → nat_le (k + n) 4096 ≡ true → is_free_run m.processes m.ledger (window_place server.pid Message k) n ≡ true
    → ((j : ℕ) → j < k → is_free_run m.processes m.ledger (window_place server.pid Message j) n ≡ false)
    → next_arrival m number cid ≡ Some (window_place server.pid Message k).vpn
unfolding next_arrival
goes_on_at m number cid n server k count there low small free first =
    ap (λ c. option_and_then (message_run m c) (server_at m cid)) count
    ∙ (ap (option_and_then (message_run m n)) there ∙ run_found m n server k low small free first)

-- what is told from a call of the cursor's thread on, by what comes of it, and the machine after that
unfoldable pub told_from : Machine → List Deed → Outcome → List What
told_from m rest outcome = (call_settled m outcome).told ++ told_all rest (call_settled m outcome).machine

unfoldable pub after_from : Machine → List Deed → Outcome → Machine
after_from m rest outcome = after_all rest (call_settled m outcome).machine
