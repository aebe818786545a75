-- What the tests of a send leave true: where the message goes, and that its pages may be lent or moved there. So the ledger after it is
-- one that a send may leave, whatever the kind.
use Rattle.std.proofs.Common.{◌≡◌, ◌≢◌, ℕ, ◌/◌, ◌≤◌, true, false, List, Some, refl, sym, ap, ◌∙◌, arith}
use Rattle.std.specs.Prelude.{◌%◌, ◌==◌, ◌||◌, not}
use Rattle.std.proofs.lemmas.Bool.{eqb-false, eqb-true, or_parts}
use Rattle.xk_base.specs.declared.ids.Pid.{Pid}
use Rattle.xk_base.specs.declared.ids.Place.{Place}
use Rattle.xk_base.specs.declared.ids.Serial.{Serial}
use Rattle.xk_base.specs.declared.ids.Vpn.{Vpn}
use Rattle.xk_base.specs.declared.limits.TheConstants.{MESSAGE_LIMIT}
use Rattle.xk_base.specs.declared.messages.MsgKind.{MsgKind}
use Rattle.xk_base.specs.declared.messages.MsgKind.TheVariants.{LendMut, Lend, Move, Scalar, BlockingScalar}
use Rattle.xk_base.specs.declared.pages.LoanKind.{LoanKind}
use Rattle.xk_base.specs.declared.pages.LoanKind.TheVariants.{Shared, Exclusive}
use Rattle.xk_base.specs.declared.windows.Window.TheVariants.{Message as MessageWindow}
use Rattle.syscall_codec.specs.CallWords.{send_address, send_cid, send_length}
use Rattle.xk_base.specs.Tables.Connections.{connected_to}
use Rattle.ledger_model.specs.Conditions.{CanGive, CanLend}
use Rattle.ledger_model.specs.LeastRun.{least_run}
use Rattle.ledger_model.specs.RunTests.{any_free, any_not_sent, is_exclusive}
use Rattle.ledger_model.proofs.Runs.RunTestLemmas.{sent_may_lend, sent_may_move}
use Rattle.machine_model.specs.Calling.MemoryCalls.{caller_place, is_aligned, is_bad_range}
use Rattle.xk_base.specs.Calls.Kinds.{is_answered}
use Rattle.machine_model.specs.Messaging.Messages.{carries_pages, new_message, new_number}
use Rattle.machine_model.specs.Messaging.SendCalls.{is_lend_mut, sent_ledger, sent_pages}
use Rattle.machine_model.specs.Runs.Matched.{Matched, is_living}
use Rattle.machine_model.specs.State.Connections.{own_connections}
use Rattle.machine_model.specs.State.Machine.{Machine, Server}
use Rattle.machine_model.specs.State.Servers.{slots_used}
use Rattle.machine_model.proofs.Matching.MatchedLemmas.{number_is_fresh}
use Rattle.machine_laws.proofs.Messaging.MessageRunLemmas.{run_free, run_lies}
use Rattle.machine_laws.proofs.Calling.RunRefusalLemmas.{not_false}
use Rattle.machine_laws.proofs.Sending.SentLedgerLemmas.{IsSentLedger, given_sent, lent_sent, same_sent}

-- the pages of a send may go to the process, with the first of them there
pub record ArePagesSent (m : Machine) (w : List ℕ) (kind : MsgKind) (first : Vpn) (pid : Pid) : Type 0 where
  pub range : is_bad_range (send_address w) (send_length w) ≡ false
  pub there : any_free m.processes m.ledger (caller_place m (send_address w)) (sent_pages w) ≡ false
  pub sendable : any_not_sent m.processes m.ledger (caller_place m (send_address w)) (sent_pages w) (is_lend_mut kind) ≡ false
  pub free : least_run m.processes m.ledger pid MessageWindow (sent_pages w) ≡ Some first

-- a send of this kind is accepted, with its first page there, where it carries pages
pub record IsAccepted (m : Machine) (w : List ℕ) (kind : MsgKind) (first : Vpn) : Type 0 where
  pub serial : Serial
  pub server : Server
  pub connected : connected_to (own_connections m) (send_cid w) ≡ Some serial
  pub live : m.servers serial.0 ≡ Some server
  pub room : (slots_used server == MESSAGE_LIMIT) ≡ false
  pub paged : carries_pages kind ≡ true → ArePagesSent m w kind first server.pid
  pub above : is_answered kind ≡ true → (m.cursor.tid.0 == 1) ≡ false

-- a range of pages has one at least
some_pages : (address size : ℕ) → is_bad_range address size ≡ false → 1 ≤ size / 4096
some_pages address size e =
    let outer = or_parts (size == 0 || not (is_aligned size)) (not (is_aligned address)) e in
    let inner = or_parts (size == 0) (not (is_aligned size)) outer.0 in
    let positive : size ≢ 0 = eqb-false size 0 inner.0 in
    let whole : size % 4096 ≡ 0 = eqb-true (size % 4096) 0 (not_false (is_aligned size) inner.1) in
    omega (arith, positive, whole)

module _ (m : Machine) (h : Matched m) (w : List ℕ) (first : Vpn) (pid : Pid) (lives : is_living m pid ≡ true) where
  abbrev from : Place
  from = caller_place m (send_address w)

  abbrev n : ℕ
  n = sent_pages w

  abbrev to : Place
  to = record { pid = pid; vpn = first }

  module _ (kind : MsgKind) (s : ArePagesSent m w kind first pid) where
    some : 1 ≤ n
    some = some_pages (send_address w) (send_length w) s.range

    can_lend : (loan : LoanKind) → is_lend_mut kind ≡ is_exclusive loan → CanLend m.processes m.ledger from n to loan (new_number m)
    can_lend loan mutably = record {
      pages = sent_may_lend m.processes m.ledger from n loan s.there
          (ap (any_not_sent m.processes m.ledger from n) (sym mutably) ∙ s.sendable);
      free = run_free m h pid lives n first s.free;
      lies = run_lies m h pid lives n first s.free;
      fresh = number_is_fresh m h (new_number m) (omega arith);
    }

    can_give : CanGive m.processes m.ledger from n to
    can_give = record {
      pages = sent_may_move m.processes m.ledger from n (is_lend_mut kind) s.there s.sendable;
      free = run_free m h pid lives n first s.free;
      lies = run_lies m h pid lives n first s.free;
    }

  -- the ledger after the send
  pub sent_ledger_is : (kind : MsgKind) → (carries_pages kind ≡ true → ArePagesSent m w kind first pid)
      → IsSentLedger m pid (new_message m kind w first) (sent_ledger kind from n to (new_number m) m.ledger)
  sent_ledger_is LendMut s =
      lent_sent m h pid (new_message m LendMut w first) from n to lives Exclusive (can_lend LendMut (s refl) Exclusive refl) (some LendMut (s refl))
      refl m.cursor refl (record { kinds = refl; number = refl; sender = refl; first = refl; count = refl })
  sent_ledger_is Lend s =
      lent_sent m h pid (new_message m Lend w first) from n to lives Shared (can_lend Lend (s refl) Shared refl) (some Lend (s refl))
      refl m.cursor refl (record { kinds = refl; number = refl; sender = refl; first = refl; count = refl })
  sent_ledger_is Move s = given_sent m h pid (new_message m Move w first) from n to lives (can_give Move (s refl)) refl
  sent_ledger_is Scalar s = same_sent m h pid (new_message m Scalar w first) refl
  sent_ledger_is BlockingScalar s = same_sent m h pid (new_message m BlockingScalar w first) refl
