-- Servers that close one after another, and what the close of one leaves of loans.
use Rattle.std.proofs.Common.{◌≡◌, ℕ, zero, suc, ◌<◌, Bool, true, false, Option, Some, None, refl, sym, ap, ◌∙◌}
use Rattle.std.specs.Prelude.{◌==◌, ◌&&◌, ◌||◌, is_some, if◌then◌else◌}
use Rattle.std.specs.List.{list_any}
use Rattle.std.specs.Option.{option_map, option_or}
use Rattle.std.proofs.lemmas.Bool.{false≢true, eq-eqb}
use Rattle.xk_base.specs.declared.errors.XousError.TheVariants.{ServerNotFound}
use Rattle.xk_base.specs.declared.ids.Number.{Number}
use Rattle.xk_base.specs.declared.ids.Serial.{Serial}
use Rattle.xk_base.specs.declared.ids.ThreadId.{ThreadId}
use Rattle.xk_base.specs.Tables.Counting.{least_below}
use Rattle.syscall_codec.specs.ReplyWords.{refused_words}
use Rattle.xk_base.proofs.CountingLemmas.{least_below-none}
use Rattle.ledger_model.specs.Ledger.{Ledger, Page, PageLoan, Orphan, loan_of}
use Rattle.ledger_model.specs.Loans.{loans, IsFresh, same_number, of_number, orphan_of_number, loan_of_orphan}
use Rattle.ledger_model.proofs.LedgerLemmas.{same_number-true}
use Rattle.machine_model.specs.Ending.Closing.{any_server, server_passes, closed, close, is_message_at, is_sender_at, refused_server}
use Rattle.machine_model.specs.Messaging.LoanSets.{end_loans, loan_but, freed_but, orphan_but}
use Rattle.machine_model.specs.State.Machine.{Machine, Server}
use Rattle.machine_model.specs.Messaging.Messages.{is_of_number, is_sent_by}
use Rattle.machine_model.specs.State.Servers.{messages_of}
use Rattle.machine_model.specs.State.Threads.{both_answers}
use Rattle.machine_model.proofs.Messaging.LoanSetLemmas.{both_end}

-- ---- a test that is one of two

found_or : (o : Option ℕ) (b : Bool) (n : ℕ) → is_some (option_or o (if b then Some n else None)) ≡ (is_some o || b)
found_or None true n = refl
found_or None false n = refl
found_or (Some k) b n = refl

swapped : (a b c d : Bool) → ((a || b) || (c || d)) ≡ ((a || c) || (b || d))
swapped true b true d = refl
swapped true b false d = refl
swapped false true true d = refl
swapped false true false d = refl
swapped false false c d = refl

below_or : (n : ℕ) (f g h : ℕ → Bool) → ((k : ℕ) → f k ≡ (g k || h k))
    → is_some (least_below n f) ≡ (is_some (least_below n g) || is_some (least_below n h))
unfolding least_below
below_or zero f g h e = refl
below_or (suc n) f g h e =
    found_or (least_below n f) (f n) n
    ∙ (λ i. below_or n f g h e i || e n i)
    ∙ swapped (is_some (least_below n g)) (is_some (least_below n h)) (g n) (h n)
    ∙ sym (λ i. found_or (least_below n g) (g n) n i || found_or (least_below n h) (h n) n i)

or_nothing : (b : Bool) → b ≡ (b || false)
or_nothing true = refl
or_nothing false = refl

passes_or : (test : Server → Bool) (o : Option Server) (a b : Bool)
    → server_passes (λ server. (a || b) && test server) o
    ≡ (server_passes (λ server. a && test server) o || server_passes (λ server. b && test server) (if a then None else o))
passes_or test None true b = refl
passes_or test None false b = refl
passes_or test (Some server) true b = or_nothing (test server)
passes_or test (Some server) false b = refl

-- ---- one more server

module _ (which : ℕ → Bool) (s : Serial) (m : Machine) where
  -- these servers and one more
  abbrev more : ℕ → Bool
  more n = which n || (n == s.0)

  any_more : (test : Server → Bool)
      → any_server m (λ n server. more n && test server)
      ≡ (any_server m (λ n server. which n && test server) || any_server (closed which m).machine (λ n server. (n == s.0) && test server))
  unfolding any_server closed
  any_more test =
      below_or m.next_serial (λ n. server_passes (λ server. more n && test server) (m.servers n))
      (λ n. server_passes (λ server. which n && test server) (m.servers n))
      (λ n. server_passes (λ server. (n == s.0) && test server) (if which n then None else m.servers n))
      (λ k. passes_or test (m.servers k) (which k) (k == s.0))

  gone_or : (o : Option Server) (a b : Bool) → (if a || b then None else o) ≡ (if b then None else (if a then None else o))
  gone_or o true true = refl
  gone_or o true false = refl
  gone_or o false b = refl

  ledgers : end_loans (is_message_at more m) m.ledger
      ≡ end_loans (is_message_at (λ n. n == s.0) (closed which m).machine) (end_loans (is_message_at which m) m.ledger)
  ledgers =
      (λ i. end_loans (λ number. any_more (λ server. list_any (is_of_number number) (messages_of server)) i) m.ledger)
      ∙ sym (both_end (is_message_at which m) (is_message_at (λ n. n == s.0) (closed which m).machine) m.ledger)

  pub one_more_closes : (closed (λ n. which n || (n == s.0)) m).machine ≡ (close s (closed which m).machine).machine
  unfolding closed
  one_more_closes = λ i. record m { ledger = ledgers i; servers = λ n. gone_or (m.servers n) (which n) (n == s.0) i }

  refused_or : (a b : Bool) → (if a || b then Some (refused_words ServerNotFound) else None)
      ≡ option_or (if a then Some (refused_words ServerNotFound) else None) (if b then Some (refused_words ServerNotFound) else None)
  refused_or true b = refl
  refused_or false b = refl

  pub one_more_is_told : (closed (λ n. which n || (n == s.0)) m).answers
      ≡ both_answers (closed which m).answers (close s (closed which m).machine).answers
  unfolding closed
  one_more_is_told = λ i id. told id i
    where
      told : (id : ThreadId) → refused_server (is_sender_at more m) id
          ≡ option_or (refused_server (is_sender_at which m) id) (refused_server (is_sender_at (λ n. n == s.0) (closed which m).machine) id)
      told id =
          ap (λ b. if b then Some (refused_words ServerNotFound) else None) (any_more (λ server. list_any (is_sent_by id) (messages_of server)))
          ∙ refused_or (is_sender_at which m id) (is_sender_at (λ n. n == s.0) (closed which m).machine id)

-- ---- no loan is left

loan_gone : (ends : Number → Bool) (number : Number) → ends number ≡ true → (loan : PageLoan) (a b : Bool)
    → ends loan.number ≡ a → same_number loan.number number ≡ b → of_number number (if a then None else Some loan) ≡ None
loan_gone ends number e loan true b p q = refl
loan_gone ends number e loan false true p q =
    absurd (false≢true (sym p ∙ ap ends (same_number-true loan.number number q) ∙ e))
loan_gone ends number e loan false false p q = ap (λ c. if c then Some loan else None) q

home_gone : (ends : Number → Bool) (number : Number) → ends number ≡ true → (o : Option PageLoan) → of_number number (loan_but ends o) ≡ None
home_gone ends number e None = refl
home_gone ends number e (Some loan) = loan_gone ends number e loan (ends loan.number) (same_number loan.number number) refl refl

page_gone : (ends : Number → Bool) (number : Number) → ends number ≡ true → (o : Option Page)
    → of_number number (loan_of (option_map (freed_but ends) o)) ≡ None
page_gone ends number e None = refl
page_gone ends number e (Some page) = home_gone ends number e page.loan

orphan_gone : (ends : Number → Bool) (number : Number) → ends number ≡ true → (orphan : Orphan) (a b : Bool)
    → ends orphan.number ≡ a → same_number orphan.number number ≡ b
    → orphan_of_number number (option_map loan_of_orphan (if a then None else Some orphan)) ≡ None
orphan_gone ends number e orphan true b p q = refl
orphan_gone ends number e orphan false true p q =
    absurd (false≢true (sym p ∙ ap ends (same_number-true orphan.number number q) ∙ e))
orphan_gone ends number e orphan false false p q = ap (λ c. if c then Some (loan_of_orphan orphan) else None) q

place_gone : (ends : Number → Bool) (number : Number) → ends number ≡ true → (o : Option Orphan)
    → orphan_of_number number (option_map loan_of_orphan (orphan_but ends o)) ≡ None
place_gone ends number e None = refl
place_gone ends number e (Some orphan) = orphan_gone ends number e orphan (ends orphan.number) (same_number orphan.number number) refl refl

-- a number of the set is no longer one of a loan or an orphan
pub ended_is_fresh : (ends : Number → Bool) (number : Number) (l : Ledger) → ends number ≡ true → IsFresh (loans (end_loans ends l)) number
unfolding loans end_loans
ended_is_fresh ends number l e = record {
  homes = λ p. page_gone ends number e (l.home p);
  orphans = λ p. place_gone ends number e (l.orphan p);
}

is_below : (n k : ℕ) (f : ℕ → Bool) → k < n → f k ≡ true → is_some (least_below n f) ≡ true
is_below n k f l e = go (least_below n f) refl
  where
    go : (o : Option ℕ) → least_below n f ≡ o → is_some o ≡ true
    go None q = absurd (false≢true (sym (least_below-none n f q k l) ∙ e))
    go (Some j) q = refl

pub close_frees : (m : Machine) (s : Serial) (server : Server) (number : Number) → m.servers s.0 ≡ Some server → s.0 < m.next_serial
    → list_any (is_of_number number) (messages_of server) ≡ true → IsFresh (loans (close s m).machine.ledger) number
unfolding closed any_server
close_frees m s server number e l has =
    ended_is_fresh (is_message_at (λ n. n == s.0) m) number m.ledger
    (is_below m.next_serial s.0 (λ n. server_passes (λ x. (n == s.0) && list_any (is_of_number number) (messages_of x)) (m.servers n)) l
    (ap (server_passes (λ x. (s.0 == s.0) && list_any (is_of_number number) (messages_of x))) e
    ∙ (λ i. eq-eqb s.0 s.0 refl i && has i)))
