use Rattle.std.proofs.Common.{◌≡◌, drop}
use Rattle.order_text.proofs.KeptLemmas.{row_place}
use Rattle.order_text.proofs.RowLemmas.{first_told}
use Rattle.order_text.proofs.waits.put_kept.Given as goal

-- none of the servers before keeps it
abbrev pub invariant-loop-server : goal.invariant-loop-server
invariant-loop-server l = record {
  text : l.text.items ≡ l.initial.text.items;
  rest : first_told (row_place (record { 0 = l.number })) (drop l.server-index l.servers)
      ≡ first_told (row_place (record { 0 = l.number })) l.servers;
}
