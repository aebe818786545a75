-- The rows of a file stand in the order that their form says.
use Rattle.std.proofs.Common.{◌≡◌, ℕ, ◌+◌, ◌≤◌, Bool, true, false, cond, eqb, List, [], ◌∷◌, Option, Some, None, length, arith}
use Rattle.snapshot_rows.specs.declared.state.State.{State}
use Rattle.snapshot_rows.specs.declared.state.OrphanRow.{OrphanRow}
use Rattle.snapshot_rows.specs.declared.state.PageRow.{PageRow}
use Rattle.snapshot_rows.specs.declared.state.ThreadRow.{ThreadRow}
use Rattle.snapshot_rows.specs.Order.{after, thread_key, server_key, claim_key, page_key, orphan_key, AreInOrder, Ascend, AscendInTwo}
use Rattle.suspend_image.specs.Forms.{ArePlaced, IsThreadRow, IsServerRow, IsClaimRow, IsPageRow, IsOrphanRow, Spells}
use Rattle.suspend_image.specs.Spelling.{page_bytes, orphan_bytes, rows_bytes}
use Rattle.snapshot_rows.proofs.Pages.OrphanLemmas.{OrphanForm}
use Rattle.snapshot_rows.proofs.Pages.PageLemmas.{PageForm}
use Rattle.snapshot_matching.proofs.ThreadRows.ThreadLemmas.{ThreadForm}

-- a form that says more keeps the order
weaker : {A K : Type 0} (form other : Option K → A → Type 0) (key : A → K) → ((before : Option K) (x : A) → form before x → other before x)
    → (before : Option K) (rows : List A) → AreInOrder form key before rows → AreInOrder other key before rows
weaker form other key less before [] forms = tt
weaker form other key less before (x ∷ rows) forms = (less before x forms.0, weaker form other key less (Some (key x)) rows forms.1)

second_from : (same : Bool) (next tid : ℕ) → cond same next 1 ≤ tid → cond same next 0 ≤ tid
second_from true next tid low = low
second_from false next tid low = omega arith

thread_form : (n : ℕ) (before : Option (ℕ × ℕ)) (t : ThreadRow) → IsThreadRow n before t → ThreadForm before t
thread_form n None t is = (omega arith, omega arith)
thread_form n (Some before) t is = (is.pid.at_least, second_from (eqb before.0 t.pid) (before.1 + 1) t.tid is.tid.at_least)

pub threads_ascend : (file : List ℕ) (s : State) → Spells file s → AscendInTwo thread_key s.threads
threads_ascend file s spells = weaker (IsThreadRow s.n) ThreadForm thread_key (thread_form s.n) None s.threads spells.form.threads

pub servers_ascend : (file : List ℕ) (s : State) → Spells file s → Ascend server_key s.servers
servers_ascend file s spells =
    weaker (IsServerRow s.n) (λ before r. after before ≤ server_key r) server_key (λ before r is. is.serial.at_least) None s.servers spells.form.servers

pub claims_ascend : (file : List ℕ) (s : State) → Spells file s → Ascend claim_key s.claims
claims_ascend file s spells =
    weaker (IsClaimRow s.n) (λ before r. after before ≤ claim_key r) claim_key (λ before r is. is.number.at_least) None s.claims spells.form.claims

-- .. and so does one of rows that have bytes
weaker_placed : {A K : Type 0} (form : Option K → ℕ → A → Type 0) (other : Option K → A → Type 0) (key : A → K) (spell : A → List ℕ)
    → ((before : Option K) (left : ℕ) (x : A) → form before left x → other before x)
    → (left : ℕ) (before : Option K) (rows : List A) → ArePlaced form key spell left before rows → AreInOrder other key before rows
weaker_placed form other key spell less left before [] forms = tt
weaker_placed form other key spell less left before (x ∷ rows) forms = (less before _ x forms.0, weaker_placed form other key spell less left (Some (key x)) rows forms.1)

page_form : (size n : ℕ) (before : Option (ℕ × ℕ)) (left : ℕ) (p : PageRow) → IsPageRow size n before left p → PageForm before p
page_form size n None left p is = (omega arith, omega arith)
page_form size n (Some before) left p is = (is.pid.at_least, is.page.at_least)

pub pages_ascend : (file : List ℕ) (s : State) → Spells file s → AscendInTwo page_key s.pages
pages_ascend file s spells =
    weaker_placed (IsPageRow (length file) s.n) PageForm page_key (page_bytes file) (page_form (length file) s.n) (length (rows_bytes (orphan_bytes file) s.orphans)) None s.pages
    spells.form.pages

orphan_form : (size n : ℕ) (before : Option (ℕ × ℕ)) (left : ℕ) (o : OrphanRow) → IsOrphanRow size n before left o → OrphanForm before o
orphan_form size n None left o is = (omega arith, omega arith)
orphan_form size n (Some before) left o is = (is.pid.at_least, is.page.at_least)

pub orphans_ascend : (file : List ℕ) (s : State) → Spells file s → AscendInTwo orphan_key s.orphans
orphans_ascend file s spells =
    weaker_placed (IsOrphanRow (length file) s.n) OrphanForm orphan_key (orphan_bytes file) (orphan_form (length file) s.n) 0 None s.orphans spells.form.orphans

-- there are as many processes as it says
pub procs_counted : (file : List ℕ) (s : State) → Spells file s → length s.procs ≡ s.n
procs_counted file s spells = spells.form.many_procs
