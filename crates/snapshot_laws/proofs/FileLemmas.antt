-- The state that a file spells is one of words.
use Rattle.std.proofs.Common.{◌≡◌, ℕ, suc, ◌+◌, ◌-◌, ◌<◌, ◌≤◌, Bool, true, false, List, [], ◌∷◌, length, drop, Option, Some, None, refl, ap, ◌∙◌, arith, length-drop}
use Rattle.std.specs.Prelude.{◌==◌, ◌&&◌, All, IsTrue, find, if◌then◌else◌, map, min, nat_le, nat_lt}
use Rattle.std.specs.List.{AllByRecursion, flat_map}
use Rattle.std.specs.Option.{option_map}
use Rattle.std.proofs.lemmas.Bool.{le-leb, lt-ltb}
use Rattle.std.proofs.lemmas.List.{length-take}
use Rattle.std.proofs.lemmas.List.Elements.{All-append, All-cons, All-drop, All-from_recursion, All-map, All-take, All-weaker}
use Rattle.xk_base.specs.declared.ids.ThreadId.{ThreadId}
use Rattle.xk_base.specs.Tables.Circle.{is_thread_id}
use Rattle.ledger_model.specs.Ledger.{Bytes, Console}
use Rattle.ledger_model.specs.WholePages.{HasWholePages, IsPage}
use Rattle.ledger_model.proofs.Pages.WholePageLemmas.{WholeContents, WholeOrphan, WholePage, whole_from}
use Rattle.machine_model.specs.Runs.Matched.{Matched}
use Rattle.machine_model.specs.State.Machine.{Reservation}
use Rattle.snapshot_rows.specs.declared.state.State.{State}
use Rattle.snapshot_rows.specs.declared.state.ThreadRow.{ThreadRow}
use Rattle.snapshot_rows.specs.declared.state.MessageRow.{MessageRow}
use Rattle.snapshot_rows.specs.declared.state.ServerRow.{ServerRow}
use Rattle.snapshot_rows.specs.declared.state.ClaimRow.{ClaimRow}
use Rattle.snapshot_rows.specs.declared.state.PageRow.{PageRow}
use Rattle.snapshot_rows.specs.declared.state.OrphanRow.{OrphanRow}
use Rattle.snapshot_rows.specs.Machines.{claim_of, compare_of, contents_at, ledger_of, ledger_orphan, ledger_page, machine_of, message_of}
use Rattle.snapshot_rows.specs.Machines.{reservation_of, server_of, thread_at_id, thread_of}
use Rattle.snapshot_rows.specs.Order.{AreInOrder, claim_key, orphan_key, page_key, server_key, thread_key}
use Rattle.suspend_image.specs.Forms.{ArePlaced, HasForm, IsClaimRow, IsField, IsMessageRow, IsOrphanRow, IsPageRow, IsServerRow, IsThreadRow, IsWithin, IsWord, StandsBefore}
use Rattle.suspend_image.specs.Saveable.{IsSpellable}
use Rattle.suspend_image.specs.Spelling.{orphan_bytes, page_bytes}
use Rattle.snapshot_laws.specs.Words.{AreWords, IsClaimOfWords, IsMachineOfWords, IsMessageOfWords, IsServerOfWords, IsThreadOfWords}
use Rattle.snapshot_laws.specs.Words.{greatest}
use Rattle.snapshot_laws.proofs.Changing.HoldingLemmas.{Holds, find_holds, map_holds, none_holds, some_holds}
use Rattle.snapshot_laws.specs.Keeping.{FilesSpellable}
use Rattle.snapshot_laws.proofs.SaveableLemmas.{saveable_of}

-- ---- rows in order

module _ {A K : Type 0} (P : A → Type 0) (key : A → K) where
  ordered : (form : Option K → A → Type 0) → ((before : Option K) (x : A) → form before x → P x) → (before : Option K) (xs : List A)
      → AreInOrder form key before xs → AllByRecursion P xs
  ordered form says before [] h = tt
  ordered form says before (x ∷ xs) h = (says before x h.0, ordered form says (Some (key x)) xs h.1)

  placed : (form : Option K → ℕ → A → Type 0) (spell : A → List ℕ) → ((before : Option K) (left : ℕ) (x : A) → form before left x → P x)
      → (left : ℕ) (before : Option K) (xs : List A) → ArePlaced form key spell left before xs → AllByRecursion P xs
  placed form spell says left before [] h = tt
  placed form spell says left before (x ∷ xs) h =
      (says before (length (flat_map spell xs) + left) x h.0, placed form spell says left (Some (key x)) xs h.1)

words_are : (xs : List ℕ) → AllByRecursion IsWord xs → AreWords xs
words_are xs h = All-weaker IsWord (λ n. n ≤ greatest) (λ n f. f.at_most) xs (All-from_recursion IsWord xs h)

field_fits : (b : Bool) (least most n : ℕ) → most ≤ greatest → IsField b least most n → n ≤ greatest
field_fits true least most n le f = let h : n ≤ most = f.at_most in omega arith
field_fits false least most n le f = let h : n ≤ 0 = f.at_most in omega arith

-- ---- threads, messages, servers and claims

thread_words : (n : ℕ) (before : Option (ℕ × ℕ)) (t : ThreadRow) → IsThreadRow n before t → IsThreadOfWords (thread_of t)
thread_words n before t f = record {
  pc = f.pc.at_most;
  regs = record {
    many = ap suc f.registers;
    x0 = refl;
    words = All-cons (λ x. x ≤ greatest) 0 t.regs (omega arith) (words_are t.regs f.regs);
  };
}

message_words : (n : ℕ) (m : MessageRow) → IsMessageRow n m → IsMessageOfWords (message_of m)
message_words n m f = record {
  number = f.number.at_most;
  id = f.id.at_most;
  words = record { four = f.four; words = words_are m.words f.words };
  first = field_fits (nat_le m.kind 3) 0 greatest m.first (omega arith) f.first;
  count = field_fits (nat_le m.kind 3) 0 greatest m.count (omega arith) f.count;
}

messages_words : (n : ℕ) (rows : List MessageRow) → AllByRecursion (IsMessageRow n) rows → All IsMessageOfWords (map message_of rows)
messages_words n rows h =
    All-map IsMessageOfWords message_of rows
    (All-weaker (IsMessageRow n) (λ m. IsMessageOfWords (message_of m)) (message_words n) rows (All-from_recursion (IsMessageRow n) rows h))

server_words : (n : ℕ) (before : Option ℕ) (s : ServerRow) → IsServerRow n before s → IsServerOfWords (server_of s)
server_words n before s f = record {
  sid = record { four = f.four; words = words_are s.sid f.sid };
  messages = All-append IsMessageOfWords (map message_of s.queued) (map message_of s.held) (messages_words n s.queued f.queued) (messages_words n s.held f.held);
}

claim_words : (n : ℕ) (before : Option ℕ) (c : ClaimRow) → IsClaimRow n before c → IsClaimOfWords (claim_of c)
claim_words n before c f = record { handler = f.handler.at_most; argument = f.arg.at_most }

-- ---- pages

module _ (file : List ℕ) (bytes : All (λ b. b < 256) file) where
  page_is : (left from : ℕ) → from + 4096 + left ≡ length file → IsPage (contents_at file from)
  page_is left from e = record {
    size = length-take 4096 (drop from file) ∙ enough (length (drop from file)) (length-drop from file);
    each = All-take (λ b. b < 256) 4096 (drop from file) (All-drop (λ b. b < 256) from file bytes);
  }
    where
      enough : (n : ℕ) → n ≡ length file - from → min 4096 n ≡ 4096
      enough n f = omega arith

  page_whole : (n : ℕ) (before : Option (ℕ × ℕ)) (left : ℕ) (p : PageRow) → IsPageRow (length file) n before left p
      → WholeContents (ledger_page file p).contents
  page_whole n before left p f = go (nat_lt p.right 4) f.from
    where
      go : (b : Bool) → StandsBefore b (length file) left p.from → WholeContents (if b then Bytes (contents_at file p.from) else Console)
      go true e = page_is left p.from e
      go false e = tt

  orphan_whole : (n : ℕ) (before : Option (ℕ × ℕ)) (left : ℕ) (o : OrphanRow) → IsOrphanRow (length file) n before left o
      → IsPage (contents_at file o.from)
  orphan_whole n before left o f = page_is left o.from f.from

  found_page : (o : Option PageRow) → Holds (λ p. WholeContents (ledger_page file p).contents) o → WholePage (option_map (ledger_page file) o)
  found_page None f = tt
  found_page (Some p) f = f p refl

  found_orphan : (o : Option OrphanRow) → Holds (λ (p : OrphanRow). IsPage (contents_at file p.from)) o → WholeOrphan (option_map (ledger_orphan file) o)
  found_orphan None f = tt
  found_orphan (Some p) f = f p refl

  module _ (s : State) (h : HasForm file s) where
    pages_whole : AllByRecursion (λ p. WholeContents (ledger_page file p).contents) s.pages
    pages_whole =
        placed (λ p. WholeContents (ledger_page file p).contents) page_key (IsPageRow (length file) s.n) (page_bytes file) (page_whole s.n) _ None s.pages h.pages

    orphans_whole : AllByRecursion (λ (o : OrphanRow). IsPage (contents_at file o.from)) s.orphans
    orphans_whole =
        placed (λ (o : OrphanRow). IsPage (contents_at file o.from)) orphan_key (IsOrphanRow (length file) s.n) (orphan_bytes file) (orphan_whole s.n) 0 None
        s.orphans h.orphans

    ledger_whole : HasWholePages (ledger_of file s.pages s.orphans)
    ledger_whole =
        whole_from (ledger_of file s.pages s.orphans)
        (λ p. found_page (find (λ row. row.pid == p.pid.0 && row.page == p.vpn.0) s.pages)
        (find_holds (λ row. WholeContents (ledger_page file row).contents) (λ row. row.pid == p.pid.0 && row.page == p.vpn.0) s.pages
        (All-from_recursion (λ row. WholeContents (ledger_page file row).contents) s.pages pages_whole)))
        (λ p. found_orphan (find (λ row. row.pid == p.pid.0 && row.page == p.vpn.0) s.orphans)
        (find_holds (λ (row : OrphanRow). IsPage (contents_at file row.from)) (λ row. row.pid == p.pid.0 && row.page == p.vpn.0) s.orphans
        (All-from_recursion (λ (row : OrphanRow). IsPage (contents_at file row.from)) s.orphans orphans_whole)))

    thread_of_words : (id : ThreadId) → Holds IsThreadOfWords (option_map thread_of (find (λ t. t.pid == id.pid.0 && t.tid == id.tid.0) s.threads))
    thread_of_words id =
        map_holds IsThreadOfWords thread_of (find (λ t. t.pid == id.pid.0 && t.tid == id.tid.0) s.threads)
        (find_holds (λ t. IsThreadOfWords (thread_of t)) (λ t. t.pid == id.pid.0 && t.tid == id.tid.0) s.threads
        (All-from_recursion (λ t. IsThreadOfWords (thread_of t)) s.threads
        (ordered (λ t. IsThreadOfWords (thread_of t)) thread_key (IsThreadRow s.n) (thread_words s.n) None s.threads h.threads)))

    server_of_words : (serial : ℕ) → Holds IsServerOfWords (option_map server_of (find (λ r. r.serial == serial) s.servers))
    server_of_words serial =
        map_holds IsServerOfWords server_of (find (λ r. r.serial == serial) s.servers)
        (find_holds (λ r. IsServerOfWords (server_of r)) (λ r. r.serial == serial) s.servers
        (All-from_recursion (λ r. IsServerOfWords (server_of r)) s.servers
        (ordered (λ r. IsServerOfWords (server_of r)) server_key (IsServerRow s.n) (server_words s.n) None s.servers h.servers)))

    claim_of_words : (number : ℕ) → Holds IsClaimOfWords (option_map claim_of (find (λ c. c.number == number) s.claims))
    claim_of_words number =
        map_holds IsClaimOfWords claim_of (find (λ c. c.number == number) s.claims)
        (find_holds (λ c. IsClaimOfWords (claim_of c)) (λ c. c.number == number) s.claims
        (All-from_recursion (λ c. IsClaimOfWords (claim_of c)) s.claims
        (ordered (λ c. IsClaimOfWords (claim_of c)) claim_key (IsClaimRow s.n) (claim_words s.n) None s.claims h.claims)))

    compare_fits : Holds (λ n. n ≤ greatest) (compare_of s)
    compare_fits = go (s.armed == 1) h.compare
      where
        go : (b : Bool) → IsField b 0 greatest s.compare → Holds (λ n. n ≤ greatest) (if b then Some s.compare else None)
        go true f = some_holds (λ n. n ≤ greatest) s.compare f.at_most
        go false f = none_holds (λ n. n ≤ greatest)

    thread_id : (pid tid : ℕ) → IsWithin 2 (s.n + 1) pid → IsWithin 1 31 tid → is_thread_id s.n (thread_at_id pid tid) ≡ true
    thread_id pid tid f g =
        let pid_most : pid ≤ s.n + 1 = f.at_most in
        let below : pid < s.n + 2 = omega arith in
        λ i. (le-leb 2 pid f.at_least i && lt-ltb pid (s.n + 2) below i) && (le-leb 1 tid g.at_least i && le-leb tid 31 g.at_most i)

    reserved_is : Holds (λ (r : Reservation). (r.address ≤ greatest) × IsTrue (is_thread_id s.n r.who)) (reservation_of s)
    reserved_is = go (s.reserved == 1) h.reserved_pid h.reserved_tid h.reserved_address
      where
        go : (b : Bool) → IsField b 2 (s.n + 1) s.reserved_pid → IsField b 1 31 s.reserved_tid → IsField b 0 greatest s.reserved_address
            → Holds (λ (r : Reservation). (r.address ≤ greatest) × IsTrue (is_thread_id s.n r.who))
            (if b then Some (record { who = thread_at_id s.reserved_pid s.reserved_tid; address = s.reserved_address }) else None)
        go true f g a =
            some_holds (λ (r : Reservation). (r.address ≤ greatest) × IsTrue (is_thread_id s.n r.who))
            (record { who = thread_at_id s.reserved_pid s.reserved_tid; address = s.reserved_address })
            (a.at_most, thread_id s.reserved_pid s.reserved_tid f g)
        go false f g a = none_holds (λ (r : Reservation). (r.address ≤ greatest) × IsTrue (is_thread_id s.n r.who))

    state_of_words : IsMachineOfWords (machine_of file s)
    state_of_words = record {
      whole = ledger_whole;
      threads = thread_of_words;
      servers = server_of_words;
      claims = claim_of_words;
      compare = compare_fits;
      reserved = λ r e. (reserved_is r e).0;
    }

    pub state_spellable : Matched (machine_of file s) → s.cap ≤ 32768 → IsSpellable (machine_of file s)
    state_spellable matched room = record {
      matched = matched;
      saveable = saveable_of (machine_of file s) matched h.steps.at_most state_of_words room h.n.at_least
          (thread_id s.cursor_pid s.cursor_tid h.cursor_pid h.cursor_tid) (λ r e. (reserved_is r e).1);
    }

pub files_spellable : FilesSpellable
files_spellable file s bytes spelled matched room = state_spellable file bytes s spelled.form matched room
