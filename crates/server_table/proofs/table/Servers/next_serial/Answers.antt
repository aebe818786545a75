use Rattle.std.proofs.Common.{refl}
use Rattle.server_table.specs.ServersOf.{servers_of}
use Rattle.server_table.proofs.table.Servers.next_serial.Goals as goal

pub returns : goal.returns
unfolding servers_of
returns c = refl
