use Rattle.std.proofs.Common.{◌≡◌, ◌≤◌, ◌+◌, ◌-◌, vec_len}
use Rattle.xk_ports.specs.Told.{Consumes}
use Rattle.xk_ports.specs.Host.{other_slot}
use Rattle.host_io.proofs.reading.read_rest.Given as goal

abbrev pub invariant-pieces : goal.invariant-pieces
invariant-pieces g l = record {
  used : Consumes (g.H.Host.left l.fn.host l.which) (g.H.Host.left l.host l.which) l.bytes.items;
  picked : g.H.Host.is_picked l.host l.which ≡ g.H.Host.is_picked l.fn.host l.which;
  asked : g.H.Host.asked l.host ≡ g.H.Host.asked l.fn.host;
  file : g.H.Host.file l.host ≡ g.H.Host.file l.fn.host;
  other : g.H.Host.left l.host (other_slot l.which) ≡ g.H.Host.left l.fn.host (other_slot l.which);
  later : g.H.Host.faults l.fn.host ≤ g.H.Host.faults l.host;
}

abbrev pub decreases-pieces : goal.decreases-pieces
decreases-pieces g l = l.limit + 1 - vec_len l.bytes
