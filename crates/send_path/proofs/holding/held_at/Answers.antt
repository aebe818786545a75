use Rattle.std.proofs.Common.{◌≡◌, sym, ap, ◌∙◌}
use Rattle.std.specs.Prelude.{◌==◌, not}
use Rattle.std.specs.Option.{option_copied}
use Rattle.std.proofs.lemmas.Bool.{eqb-true}
use Rattle.xk_base.specs.declared.ids.Pid.{Pid}
use Rattle.machine_laws.proofs.Calling.RunRefusalLemmas.{not_false}
use Rattle.send_path.proofs.Servers.SeatSearchLemmas.{found_seat}
use Rattle.send_path.proofs.holding.held_at.Goals as goal

pub returns : goal.returns
returns c =
    let at = found_seat c.args.servers.now c.args.seat c.in-Some.server (sym c.at_seat.ensures ∙ c.in-Some.is) in
    let differ : c.ne.result ≡ not (c.in-Some.server.pid.0 == c.args.pid.0) = c.ne.ensures in
    record {
      seat = record { server = at.server; live = at.live; its = at.its };
      own =
          ap (λ (pid : Pid). pid.0) at.pid
          ∙ eqb-true c.in-Some.server.pid.0 c.args.pid.0 (not_false (c.in-Some.server.pid.0 == c.args.pid.0) (sym differ ∙ c.if-ne.false));
      message = sym c.held.ensures ∙ ap option_copied c.in-Some-held.is;
    }
