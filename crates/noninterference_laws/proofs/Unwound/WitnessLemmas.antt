-- A machine at its start whose first process begins with the program that keeps a sum.
use Rattle.std.proofs.Common.{◌≡◌, ◌⊎◌, ℕ, Bool, true, false, inl, inr, Option, Some, None, refl, sym, ap, ◌∙◌, arith}
use Rattle.std.specs.Prelude.{◌==◌, IsFalse, IsTrue, if◌then◌else◌}
use Rattle.std.proofs.lemmas.Bool.{eqb-true}
use Rattle.std.proofs.lemmas.Option.{none-some, same_Some}
use Rattle.xk_base.specs.declared.ids.Place.{Place}
use Rattle.xk_base.specs.declared.ids.ThreadId.{ThreadId}
use Rattle.xk_base.specs.declared.pages.Width.TheVariants.{Word}
use Rattle.xk_base.specs.declared.windows.Window.TheVariants.{Heap}
use Rattle.xk_base.specs.Numbers.Windows.{in_window, page_of}
use Rattle.xk_base.specs.Tables.Circle.{is_pid}
use Rattle.xk_base.specs.Tables.Counting.{count_below}
use Rattle.xk_base.specs.UserMemory.{low_bytes}
use Rattle.ledger_model.specs.Lawful.{IsLawful}
use Rattle.ledger_model.specs.Ledger.{Bytes, Console, Ledger, Page, loan_at, loan_of, pages}
use Rattle.ledger_model.specs.Loans.{loans, of_number}
use Rattle.ledger_model.specs.Places.{count_places, is_user_place, place_at, same_place}
use Rattle.ledger_model.specs.Steps.{zero_page}
use Rattle.ledger_model.proofs.PlaceLemmas.{same_place-true}
use Rattle.machine_model.specs.State.Machine.{Thread}
use Rattle.machine_model.specs.State.Start.{IsStart}
use Rattle.machine_model.specs.State.Threads.{first_handler_thread, first_thread}
use Rattle.machine_model.specs.Worked.Rows.{pid_of, small_machine}
use Rattle.noninterference_laws.specs.SecretSum.{Answer, Begin, BeginsProgram, Create, Grow, HoldsProgram, Name, NameCreate, NameReceive}
use Rattle.noninterference_laws.specs.SecretSum.{NameReturn, Receive, Repeat, Return, entry, filled_from, page_with, program_bytes, sum_place}
use Rattle.noninterference_laws.specs.SecretSum.{summing_machine}

holds_program : HoldsProgram (filled_from program_bytes)
unfolding zero_page
holds_program Begin = refl
holds_program NameCreate = refl
holds_program Create = refl
holds_program Name = refl
holds_program NameReceive = refl
holds_program Receive = refl
holds_program Grow = refl
holds_program Answer = refl
holds_program NameReturn = refl
holds_program Return = refl
holds_program Repeat = refl

-- what its ledger has at a place, by whether that is the program's, and whether it is the sum's
abbrev has : ℕ → Bool → Bool → Option Page
has sum a b =
    if a then Some (page_with (record { w = false; x = true }) program_bytes) else (
    if b then Some (page_with (record { w = true; x = false }) (low_bytes Word sum)) else None)

module _ (sum : ℕ) where
  abbrev ledger : Ledger
  ledger = (summing_machine sum).ledger

  abbrev its_code : Place
  its_code = page_of (pid_of 2) entry

  abbrev its_sum : Place
  its_sum = sum_place (pid_of 2)

  two_pages : pages 2 ledger ≡ 2
  unfolding pages count_places count_below place_at small_machine
  two_pages = refl

  unlent : (a b : Bool) → loan_of (has sum a b) ≡ None
  unlent true b = refl
  unlent false true = refl
  unlent false false = refl

  no_loan : (p : Place) → loan_at ledger p ≡ None
  no_loan p = unlent (same_place p its_code) (same_place p its_sum)

  no_console : (a b : Bool) (page : Page) → has sum a b ≡ Some page → page.contents ≡ Console → ⊥
  no_console true b page e console =
      let held : page_with (record { w = false; x = true }) program_bytes ≡ page = same_Some _ page e in
      let no_bytes : Bytes (filled_from program_bytes) ≡ Console = ap (λ (x : Page). x.contents) held ∙ console in cc
  no_console false true page e console =
      let held : page_with (record { w = true; x = false }) (low_bytes Word sum) ≡ page = same_Some _ page e in
      let no_bytes : Bytes (filled_from (low_bytes Word sum)) ≡ Console = ap (λ (x : Page). x.contents) held ∙ console in cc
  no_console false false page e console = none-some page e

  no_console_at : (p : Place) (page : Page) → ledger.home p ≡ Some page → page.contents ≡ Console → ⊥
  no_console_at p page e console = no_console (same_place p its_code) (same_place p its_sum) page e console

  -- a page stands at one of the two places
  stands_at : (p : Place) (page : Page) → ledger.home p ≡ Some page → (p ≡ its_code) ⊎ (p ≡ its_sum)
  stands_at p page e = go (same_place p its_code) (same_place p its_sum) refl refl e
    where
      go : (a b : Bool) → same_place p its_code ≡ a → same_place p its_sum ≡ b → has sum a b ≡ Some page → (p ≡ its_code) ⊎ (p ≡ its_sum)
      go true b q r f = inl (same_place-true p its_code q)
      go false true q r f = inr (same_place-true p its_sum r)
      go false false q r f = absurd (none-some page f)

  lies : (p : Place) (page : Page) → ledger.home p ≡ Some page → IsTrue (is_user_place 2 p)
  lies p page e = elim (stands_at p page e) [
    | inl code ↦ ap (is_user_place 2) code
    | inr at ↦ ap (is_user_place 2) at
  ]

  no_heap : (p : Place) (page : Page) → ledger.home p ≡ Some page → IsFalse (in_window Heap p.vpn.0)
  no_heap p page e = elim (stands_at p page e) [
    | inl code ↦ ap (λ (q : Place). in_window Heap q.vpn.0) code
    | inr at ↦ ap (λ (q : Place). in_window Heap q.vpn.0) at
  ]

  summing_lawful : IsLawful 2 16 ledger
  unfolding loans
  summing_lawful = record {
    home_lies = lies;
    holder_lies = λ p loan e. absurd (none-some loan (sym (no_loan p) ∙ e));
    orphan_lies = λ p orphan e. absurd (none-some orphan e);
    holders_differ = λ p q a b e f same. absurd (none-some a (sym (no_loan p) ∙ e));
    holder_no_home = λ p loan e. absurd (none-some loan (sym (no_loan p) ∙ e));
    holder_no_orphan = λ p loan e. refl;
    orphan_no_home = λ p orphan e. absurd (none-some orphan e);
    one_console = λ p q a b e f c d. absurd (no_console_at p a e c);
    console_lies = λ p page e c. absurd (no_console_at p page e c);
    console_no_loan = λ p page e c. absurd (no_console_at p page e c);
    console_no_fetch = λ p page e c. absurd (no_console_at p page e c);
    within = let two : pages 2 ledger ≡ 2 = two_pages in omega arith;
    one_run = λ number. inl (record { homes = λ p. ap (of_number number) (no_loan p); orphans = λ p. refl });
    exclusive_writable = λ p page loan e f kind. absurd (none-some loan (sym (no_loan p) ∙ (ap loan_of e ∙ f)));
  }

  abbrev of_tids : Bool → Bool → Bool → Option Thread
  of_tids process one two = if process then (if one then Some first_handler_thread else (if two then Some (first_thread entry) else None)) else None

  no_other : (id : ThreadId) (t : Thread) (a b c : Bool) → is_pid 2 id.pid.0 ≡ a → (id.tid.0 == 1) ≡ b → (id.tid.0 == 2) ≡ c → of_tids a b c ≡ Some t
      → IsTrue (is_pid 2 id.pid.0) × ((id.tid.0 ≡ 1) ⊎ (id.tid.0 ≡ 2))
  no_other id t false b c p q r e = absurd (none-some t e)
  no_other id t true true c p q r e = (p, inl (eqb-true id.tid.0 1 q))
  no_other id t true false true p q r e = (p, inr (eqb-true id.tid.0 2 r))
  no_other id t true false false p q r e = absurd (none-some t e)

  summing_starts : IsStart (summing_machine sum)
  unfolding small_machine
  summing_starts = record {
    few = omega arith;
    lawful = summing_lawful;
    no_loan = no_loan;
    no_orphan = λ p. refl;
    no_heap = no_heap;
    process = λ pid. refl;
    handler = λ pid living. record {
      thread = first_handler_thread;
      there = ap (λ b. of_tids b true false) living;
      about = refl;
      aligned = refl;
    };
    first = λ pid living. record {
      thread = first_thread entry;
      there = ap (λ b. of_tids b false true) living;
      about = refl;
      aligned = refl;
    };
    no_other = λ id t e. no_other id t (is_pid 2 id.pid.0) (id.tid.0 == 1) (id.tid.0 == 2) refl refl refl e;
    servers = λ k. refl;
    claims = λ k. refl;
    pending = λ k. refl;
    next_number = refl;
    next_serial = refl;
    steps = refl;
    compare = refl;
    reserved = refl;
  }

  pub summing_begins : BeginsProgram (pid_of 2) (summing_machine sum)
  unfolding small_machine
  summing_begins = record {
    start = summing_starts;
    loaded = record {
      code = record {
        page = page_with (record { w = false; x = true }) program_bytes;
        there = refl;
        unlent = refl;
        bytes = filled_from program_bytes;
        holds = refl;
      };
      executable = refl;
      program = holds_program;
      sum = record {
        page = page_with (record { w = true; x = false }) (low_bytes Word sum);
        there = refl;
        unlent = refl;
        bytes = filled_from (low_bytes Word sum);
        holds = refl;
      };
      writable = refl;
    };
    begins = refl;
  }
