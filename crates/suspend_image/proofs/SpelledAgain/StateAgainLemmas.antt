-- What is spelled is read as that state, and so each file spells one state.
use Rattle.std.proofs.Common.{◌≡◌, ℕ, List, [], ◌++◌, length, None, Result, Ok, refl, sym, ap, ◌∙◌}
use Rattle.std.specs.List.{flat_map}
use Rattle.std.proofs.lemmas.List.{append-nil}
use Rattle.snapshot_rows.specs.declared.state.State.{State}
use Rattle.suspend_image.specs.Spelling.{proc_bytes, thread_bytes, server_bytes, claim_bytes, page_bytes, orphan_bytes, rows_bytes, parts_bytes}
use Rattle.suspend_image.specs.Reading.{rows_at, items_at}
use Rattle.suspend_image.specs.Rows.{proc_at, thread_at, server_at, claim_at, page_at, orphan_at}
use Rattle.snapshot_rows.specs.Order.{thread_key, server_key, claim_key, page_key, orphan_key}
use Rattle.suspend_image.specs.StateFaults.{state_at}
use Rattle.suspend_image.specs.Forms.{IsProcRow, IsThreadRow, IsServerRow, IsClaimRow, IsPageRow, IsOrphanRow, HasForm}
use Rattle.suspend_image.proofs.SpelledAgain.WordAgainLemmas.{then_ok}
use Rattle.suspend_image.proofs.SpelledAgain.RowsAgainLemmas.{items_again, rows_again, placed, many_read, many_last}
use Rattle.suspend_image.proofs.SpelledAgain.RowAgainLemmas.{proc_again, thread_again, server_again, claim_again, numbers_again, timer_again, reserved_again}
use Rattle.suspend_image.proofs.SpelledAgain.PageAgainLemmas.{page_again, orphan_again}

-- as many processes as there are
procs_again : (file : List ℕ) (s : State) (rest : List ℕ) → HasForm file s → items_at proc_at s.n (flat_map proc_bytes s.procs ++ rest) ≡ Ok (s.procs, rest)
procs_again file s rest is =
    ap (λ (n : ℕ). items_at proc_at n (flat_map proc_bytes s.procs ++ rest)) (sym is.many_procs)
    ∙ items_again proc_at proc_bytes IsProcRow proc_again s.procs rest is.procs

threads_again : (file : List ℕ) (s : State) (rest : List ℕ) → HasForm file s
    → rows_at (thread_at s.n) thread_key (length s.threads) None (flat_map thread_bytes s.threads ++ rest) ≡ Ok (s.threads, rest)
threads_again file s rest is =
    rows_again (thread_at s.n) thread_key thread_bytes (λ before left t. IsThreadRow s.n before t) (λ before t left fits. thread_again s.n before t left is.n.at_most fits) None s.threads rest
    (placed (IsThreadRow s.n) thread_key thread_bytes (length rest) None s.threads is.threads)

servers_again : (file : List ℕ) (s : State) (rest : List ℕ) → HasForm file s
    → rows_at (server_at s.n) server_key (length s.servers) None (flat_map server_bytes s.servers ++ rest) ≡ Ok (s.servers, rest)
servers_again file s rest is =
    rows_again (server_at s.n) server_key server_bytes (λ before left t. IsServerRow s.n before t) (λ before t left fits. server_again s.n before t left is.n.at_most fits) None s.servers rest
    (placed (IsServerRow s.n) server_key server_bytes (length rest) None s.servers is.servers)

claims_again : (file : List ℕ) (s : State) (rest : List ℕ) → HasForm file s
    → rows_at (claim_at s.n) claim_key (length s.claims) None (flat_map claim_bytes s.claims ++ rest) ≡ Ok (s.claims, rest)
claims_again file s rest is =
    rows_again (claim_at s.n) claim_key claim_bytes (λ before left t. IsClaimRow s.n before t) (λ before t left fits. claim_again s.n before t left is.n.at_most fits) None s.claims rest
    (placed (IsClaimRow s.n) claim_key claim_bytes (length rest) None s.claims is.claims)

pages_again : (file : List ℕ) (s : State) → HasForm file s
    → rows_at (page_at (length file) s.n) page_key (length s.pages) None (flat_map (page_bytes file) s.pages ++ rows_bytes (orphan_bytes file) s.orphans)
    ≡ Ok (s.pages, rows_bytes (orphan_bytes file) s.orphans)
pages_again file s is =
    rows_again (page_at (length file) s.n) page_key (page_bytes file) (IsPageRow (length file) s.n) (λ before t left fits. page_again file s.n before t left is.n.at_most fits) None s.pages
    (rows_bytes (orphan_bytes file) s.orphans) is.pages

orphans_again : (file : List ℕ) (s : State) → HasForm file s
    → rows_at (orphan_at (length file) s.n) orphan_key (length s.orphans) None (flat_map (orphan_bytes file) s.orphans) ≡ Ok (s.orphans, [])
orphans_again file s is =
    ap (rows_at (orphan_at (length file) s.n) orphan_key (length s.orphans) None) (sym (append-nil (flat_map (orphan_bytes file) s.orphans)))
    ∙ rows_again (orphan_at (length file) s.n) orphan_key (orphan_bytes file) (IsOrphanRow (length file) s.n) (λ before t left fits. orphan_again file s.n before t left is.n.at_most fits) None s.orphans
    [] is.orphans

abbrev whole : State → Result State ℕ
whole s = Ok s

whole_is : (s : State) → whole s ≡ whole s
whole_is s = refl

pub parts_again : (file : List ℕ) (s : State) → HasForm file s → state_at (length file) (parts_bytes file s) ≡ Ok s
unfolding state_at parts_bytes
parts_again file s is =
    let orphans = rows_bytes (orphan_bytes file) s.orphans in
    let pages = rows_bytes (page_bytes file) s.pages ++ orphans in
    let claims = rows_bytes claim_bytes s.claims ++ pages in
    let servers = rows_bytes server_bytes s.servers ++ claims in
    let threads = rows_bytes thread_bytes s.threads ++ servers in
    let procs = flat_map proc_bytes s.procs ++ threads in
    then_ok _ _ _ _ (numbers_again file s procs is)
    (then_ok _ _ _ _ (timer_again file s procs is)
    (then_ok _ _ _ _ (reserved_again file s procs is)
    (then_ok _ _ _ _ (procs_again file s threads is)
    (then_ok _ _ _ _ (many_read thread_bytes s.threads servers is.many_threads)
    (then_ok _ _ _ _ (threads_again file s servers is)
    (then_ok _ _ _ _ (many_read server_bytes s.servers claims is.many_servers)
    (then_ok _ _ _ _ (servers_again file s claims is)
    (then_ok _ _ _ _ (many_read claim_bytes s.claims pages is.many_claims)
    (then_ok _ _ _ _ (claims_again file s pages is)
    (then_ok _ _ _ _ (many_read (page_bytes file) s.pages orphans is.many_pages)
    (then_ok _ _ _ _ (pages_again file s is)
    (then_ok _ _ _ _ (many_last (orphan_bytes file) s.orphans is.many_orphans)
    (then_ok _ _ _ _ (orphans_again file s is) (whole_is s))))))))))))))
