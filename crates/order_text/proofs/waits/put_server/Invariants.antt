use Rattle.std.proofs.Common.{◌≡◌, drop}
use Rattle.std.specs.List.{find}
use Rattle.std.specs.Prelude.{◌==◌}
use Rattle.order_text.proofs.waits.put_server.Given as goal

-- it is none of the servers before
abbrev pub invariant-loop-server : goal.invariant-loop-server
invariant-loop-server l = record {
  text : l.text.items ≡ l.initial.text.items;
  rest : find (λ s. s.serial == l.serial) (drop l.server-index l.servers) ≡ find (λ s. s.serial == l.serial) l.servers;
}
