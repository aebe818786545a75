-- What is another process's is told apart from what is the process's own.
use Rattle.std.proofs.Common.{◌≡◌, ◌≢◌, ℕ, Bool, ◌&&◌, true, false, Some, refl, ap}
use Rattle.std.specs.Prelude.{◌==◌, nat_le, nat_lt, ◌+◌}
use Rattle.std.proofs.lemmas.Bool.{eqb-true}
use Rattle.xk_base.specs.declared.ids.Pid.{Pid}
use Rattle.xk_base.specs.declared.ids.Place.{Place}
use Rattle.ledger_model.specs.Places.{in_run}
use Rattle.machine_model.specs.State.Machine.{Server}
use Rattle.machine_model.specs.State.Servers.{is_server_of}

pub same_pid : (a b : Pid) → a.0 ≡ b.0 → a ≡ b
same_pid a b e = λ i. record { 0 = e i }

pub apart_pid : (a b : Pid) → a ≢ b → (a.0 == b.0) ≡ false
apart_pid a b other = go (a.0 == b.0) refl
  where
    go : (c : Bool) → (a.0 == b.0) ≡ c → c ≡ false
    go false e = refl
    go true e = absurd (other (same_pid a b (eqb-true a.0 b.0 e)))

-- a place of another process isn't in a run of the process
pub not_in_run : (first : Place) (n : ℕ) (p : Place) → p.pid ≢ first.pid → in_run first n p ≡ false
not_in_run first n p other =
    ap (λ b. b && (nat_le first.vpn.0 p.vpn.0 && nat_lt p.vpn.0 (first.vpn.0 + n))) (apart_pid p.pid first.pid other)

-- whose a server is
pub server_pid : (pid : Pid) (server : Server) → is_server_of pid (Some server) ≡ true → server.pid ≡ pid
server_pid pid server e = same_pid server.pid pid (eqb-true server.pid.0 pid.0 e)
