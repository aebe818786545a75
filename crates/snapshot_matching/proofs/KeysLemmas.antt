-- Part 8 is what tests of the rows tell.
use Rattle.std.proofs.Common.{◌≡◌, ℕ, Bool, true, List, refl, ◌↔◌}
use Rattle.std.specs.Prelude.{◌&&◌, IsTrue, IfOk, Result}
use Rattle.std.specs.List.{list_all}
use Rattle.std.proofs.lemmas.Bool.{and_parts}
use Rattle.xk_base.specs.declared.errors.NoMemory.{NoMemory}
use Rattle.ledger_model.specs.Ledger.{Ledger}
use Rattle.machine_model.specs.Runs.Matched.{AreHomesLiving, AreNextStepped, AreThreadIdsMatched, AreProcessesMatched, AreClaimsMatched, AreNextAbove}
use Rattle.snapshot_rows.specs.declared.state.State.{State}
use Rattle.snapshot_rows.specs.Machines.{ledger_of, processes_of, threads_of, servers_of, claims_of, pending_of, machine_of}
use Rattle.snapshot_matching.specs.ProcessParts.{are_processes_told, is_claim_living}
use Rattle.snapshot_matching.specs.ThreadParts.{is_thread_living}
use Rattle.snapshot_rows.specs.PageParts.{is_home_living}
use Rattle.snapshot_matching.specs.ServerParts.{are_few_apart, is_below_next, leads_below, AreMessagesApart}
use Rattle.snapshot_rows.specs.Order.{AreRowsInOrder}
use Rattle.snapshot_matching.specs.UnmatchedParts.{AreKeysMatched, are_keys_told}
use Rattle.snapshot_rows.proofs.LoanRuns.ToldLemmas.{if_ok}
use Rattle.snapshot_rows.proofs.Pages.PageLemmas.{homes_told}
use Rattle.snapshot_rows.proofs.LedgerLemmas.{all_six}
use Rattle.snapshot_matching.proofs.ProcessRows.ClaimLemmas.{claims_told}
use Rattle.snapshot_matching.proofs.ProcessRows.ConnectionLemmas.{processes_matched_told}
use Rattle.snapshot_matching.proofs.ServerRows.NextLemmas.{above_told}
use Rattle.snapshot_matching.proofs.ServerRows.ServersLemmas.{servers_right, servers_told, apart_of}
use Rattle.snapshot_matching.proofs.ThreadRows.EachThreadLemmas.{thread_ids_told}

module _ (file : List ℕ) (s : State) (rows : AreRowsInOrder s) where
  abbrev ledger : Ledger
  ledger = ledger_of file s.pages s.orphans

  homes : IsTrue (list_all (is_home_living s.procs) s.pages) ↔ AreHomesLiving (processes_of s.procs) ledger
  homes = homes_told file s.orphans s.procs s.pages (list_all (is_home_living s.procs) s.pages) rows.pages refl

  ids : IsTrue (list_all (is_thread_living s.n s.procs) s.threads) ↔ AreThreadIdsMatched s.n (processes_of s.procs) (threads_of s.threads)
  ids = thread_ids_told s.n s.procs s.threads (list_all (is_thread_living s.n s.procs) s.threads) rows.threads refl

  processes : IsTrue (are_processes_told s.n s.procs) ↔ AreProcessesMatched s.n (processes_of s.procs)
  processes = processes_matched_told s.n s.procs (are_processes_told s.n s.procs) rows.procs refl

  claims : IsTrue (list_all (is_claim_living s.procs) s.claims) ↔ AreClaimsMatched (processes_of s.procs) (claims_of s.claims) (pending_of s.claims)
  claims = claims_told s.procs s.claims (list_all (is_claim_living s.procs) s.claims) rows.claims refl

  above : IsTrue (list_all (is_below_next s.next_number s.next_serial) s.servers && list_all (leads_below s.next_serial) s.procs)
      ↔ AreNextAbove s.next_number s.next_serial (processes_of s.procs) (servers_of s.servers)
  above = above_told s.next_number s.next_serial s.procs s.servers
      (list_all (is_below_next s.next_number s.next_serial) s.servers && list_all (leads_below s.next_serial) s.procs) rows.servers refl

  pub keys_right : are_keys_told s ≡ true → AreNextStepped s.next_number s.next_serial s.steps → AreMessagesApart s.servers
      → AreKeysMatched (machine_of file s)
  keys_right told stepped apart =
      let one = and_parts (list_all (is_thread_living s.n s.procs) s.threads) _ told in
      let two = and_parts (list_all (is_home_living s.procs) s.pages) _ one.1 in
      let three = and_parts (are_processes_told s.n s.procs) _ two.1 in
      let four = and_parts (are_few_apart s.procs s.servers) _ three.1 in
      let five = and_parts (list_all (is_claim_living s.procs) s.claims) _ four.1 in
      record {
        ids = ids.0 one.0;
        pages = homes.0 two.0;
        processes = processes.0 three.0;
        servers = servers_right s.procs s.servers rows.servers four.0 apart;
        claims = claims.0 five.0;
        above = above.0 five.1;
        stepped = stepped;
      }

  pub keys_told : AreKeysMatched (machine_of file s) → are_keys_told s ≡ true
  keys_told matched =
      all_six _ _ _ _ _ _ (ids.1 matched.ids) (homes.1 matched.pages) (processes.1 matched.processes)
      (servers_told s.procs s.servers rows.servers matched.servers) (claims.1 matched.claims) (above.1 matched.above)

  -- where all else of part 8 holds, the numbers of messages tell it
  pub numbers_told : are_keys_told s ≡ true → AreNextStepped s.next_number s.next_serial s.steps → (r : Result Bool NoMemory)
      → IfOk r (λ told. IsTrue told ↔ AreMessagesApart s.servers) → IfOk r (λ told. IsTrue told ↔ AreKeysMatched (machine_of file s))
  numbers_told told stepped r is =
      if_ok (λ b. IsTrue b ↔ AreMessagesApart s.servers) (λ b. IsTrue b ↔ AreKeysMatched (machine_of file s)) r
      (λ b apart. (
        λ holds. keys_right told stepped (apart.0 holds),
        λ matched. apart.1 (apart_of s.procs s.servers rows.servers matched.servers),
      )) is
