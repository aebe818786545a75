use Rattle.std.proofs.Common.{◌-◌, ◌≤◌}
use Rattle.xk_parts.specs.Shown.{servers_shown}
use Rattle.server_table.specs.ServersOf.{servers_of}
use Rattle.suspend_image.specs.Sheets.{appended}
use Rattle.suspend_image.specs.Spelling.{server_bytes}
use Rattle.suspend_image.specs.Words.{word}
use Rattle.save_path.proofs.SheetLemmas.{HasWritten}
use Rattle.save_path.specs.Fitting.{EachBelow, IsServerFit}
use Rattle.save_path.specs.Rows.{server_at}
use Rattle.save_path.proofs.servers.write_servers.Given as goal

-- the servers with serials so far were appended, and each fits
abbrev pub invariant-loop-seated : goal.invariant-loop-seated
invariant-loop-seated l = record {
  written : HasWritten server_bytes 5664 (server_at (servers_shown l.servers l.queues)) l.from (appended (word 0) l.fn.sheet) l.sheet l.many;
  within : l.from ≤ (servers_of l.servers).next;
  fit : EachBelow l.from (servers_shown l.servers l.queues) IsServerFit;
}

abbrev pub decreases-loop-seated : goal.decreases-loop-seated
decreases-loop-seated l = (servers_of l.servers).next - l.from
