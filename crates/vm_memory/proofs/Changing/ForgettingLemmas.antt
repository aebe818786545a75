-- The pages of a process go window by window.
use Rattle.xk_ports.specs.declared.store.SwapStore.{Ghosts as SwapStore}
use Rattle.xk_base.specs.Tables.Circle.{is_pid}
use Rattle.std.proofs.Common.{◌≡◌, ℕ, ◌+◌, if◌then◌else◌, Bool, true, false, ◌&&◌, ◌==◌, Option, Some, None, refl, sym, ap, subst, ◌∙◌, inl, inr, arith}
use Rattle.std.specs.Prelude.{is_some, nat_le, nat_lt}
use Rattle.std.proofs.lemmas.Bool.{cases_Bool, and_parts, both_ways, cond-true, cond-false, eqb-true}
use Rattle.std.proofs.lemmas.Bool.Decides.{nat_tests}
use Rattle.std.proofs.lemmas.Option.{none-some}
use Rattle.xk_base.specs.Numbers.Windows.{window_at}
use Rattle.xk_base.specs.declared.ids.Pid.{Pid}
use Rattle.xk_base.specs.declared.ids.Place.{Place}
use Rattle.xk_base.specs.declared.windows.Window.{Window}
use Rattle.xk_base.specs.declared.windows.Window.TheVariants.{Image, Heap, Message, Map, Stack}
use Rattle.ledger_model.specs.Conditions.{is_lent}
use Rattle.ledger_model.specs.LeastRun.{window_pages, window_place}
use Rattle.ledger_model.specs.Ledger.{Ledger, Page, PageLoan, loan_at, loan_of}
use Rattle.ledger_model.specs.Places.{in_run, is_user_place}
use Rattle.ledger_model.specs.Reach.{lender_of, role_at}
use Rattle.ledger_model.specs.RunTests.{is_on_loan}
use Rattle.ledger_model.specs.Steps.{forget, remove}
use Rattle.ledger_model.proofs.LedgerLemmas.{cases_Option, lender_of-loan, loan_at-page, role_at-free, role_at-home, same_ledger}
use Rattle.ledger_model.proofs.Stepping.RemovingLemmas.{remove_home, remove_orphan}
use Rattle.std.specs.Option.{option_and_then}
use Rattle.phys_pages.specs.Owners.{infos}
use Rattle.sv32_space.specs.declared.sides.Entry.{Entry}
use Rattle.sv32_space.specs.EntryLedger.{ledger_of, page_of_entry}
use Rattle.sv32_space.specs.SpelledEntries.{entries}
use Rattle.sv32_space.specs.Tie.{bytes_at}
use Rattle.vm_memory.specs.declared.memory.Memory.{Memory}
use Rattle.vm_memory.specs.Memory.{ledger, processes}
use Rattle.vm_memory.specs.Sound.{IsSound}
use Rattle.vm_memory.specs.Pages.Removing.{HasNoLoan}

-- the places of a process in a window
abbrev pub in_place : Pid → Window → Place → Bool
in_place pid w p = in_run (window_place pid w 0) (window_pages w) p

-- ---- no page of the process is on loan

pub not_lent_there : (procs : ℕ) (l : Ledger) (pid : Pid) (p : Place) → HasNoLoan l pid → p.pid.0 ≡ pid.0 → is_on_loan (role_at procs l p) ≡ false
not_lent_there procs l pid p none mine = elim (cases_Option (l.home p)) [
  | inr page ↦ ap is_on_loan (role_at-home procs l p page.0 page.1) ∙ (sym (ap is_lent page.1) ∙ none.lender p mine)
  | inl home ↦ elim (cases_Option (lender_of procs l p)) [
    | inl lender ↦ ap is_on_loan (role_at-free procs l p home (none.orphan p mine) lender)
    | inr lent ↦
        let held : (loan : PageLoan) × (loan_at l lent.0 ≡ Some loan) × (loan.holder ≡ p) = lender_of-loan procs l p lent.0 lent.1 in
        absurd (none.holder lent.0 held.0 held.1 (ap (λ (q : Place). q.pid.0) held.2 ∙ mine))
  ]
]

-- .. nor is one after some have gone
pub no_loan_after : (l m : Ledger) (pid : Pid) (places : Place → Bool) → m ≡ remove places l → HasNoLoan l pid → HasNoLoan m pid
no_loan_after l m pid places e none = subst (λ x. HasNoLoan x pid) (sym e) after
  where
    still : (p : Place) (loan : PageLoan) → loan_at (remove places l) p ≡ Some loan → loan_at l p ≡ Some loan
    still p loan h = elim (cases_Bool (places p)) [
      | inl t ↦
          let page : (a : Page) × ((remove places l).home p ≡ Some a) × (a.loan ≡ Some loan) = loan_at-page (remove places l) p loan h in
          absurd (none-some page.0 (sym (remove_home places l p ∙ cond-true (places p) None (l.home p) t) ∙ page.1))
      | inr f ↦ sym (ap loan_of (remove_home places l p ∙ cond-false (places p) None (l.home p) f)) ∙ h
    ]

    after : HasNoLoan (remove places l) pid
    after = record {
      lender = λ p mine. elim (cases_Bool (places p)) [
        | inl t ↦ ap is_lent (remove_home places l p ∙ cond-true (places p) None (l.home p) t)
        | inr f ↦ ap is_lent (remove_home places l p ∙ cond-false (places p) None (l.home p) f) ∙ none.lender p mine
      ];
      holder = λ p loan h. none.holder p loan (still p loan h);
      orphan = λ p mine. remove_orphan places l p ∙ none.orphan p mine;
    }

-- ---- all windows

-- what is left at a place after a removal
gone_if : (b : Bool) (o : Option Page) → o ≡ None → (if b then None else o) ≡ None
gone_if true o e = refl
gone_if false o e = e

gone_at : (places : Place → Bool) (l : Ledger) (p : Place) → places p ≡ true → (remove places l).home p ≡ None
gone_at places l p t = remove_home places l p ∙ cond-true (places p) None (l.home p) t

gone_before : (places : Place → Bool) (l : Ledger) (p : Place) → l.home p ≡ None → (remove places l).home p ≡ None
gone_before places l p e = remove_home places l p ∙ gone_if (places p) (l.home p) e

kept_at : (places : Place → Bool) (l : Ledger) (p : Place) → places p ≡ false → (remove places l).home p ≡ l.home p
kept_at places l p f = remove_home places l p ∙ cond-false (places p) None (l.home p) f

inside : (pid : Pid) (w : Window) (p : Place) → p.pid.0 ≡ pid.0 → window_at p.vpn.0 ≡ Some w → in_place pid w p ≡ true
inside pid Image p mine e = grind (arith, nat_tests)
inside pid Heap p mine e = grind (arith, nat_tests)
inside pid Message p mine e = grind (arith, nat_tests)
inside pid Map p mine e = grind (arith, nat_tests)
inside pid Stack p mine e = grind (arith, nat_tests)

outside : (pid : Pid) (w : Window) (p : Place) → (p.pid.0 == pid.0) ≡ false → in_place pid w p ≡ false
outside pid w p other = ap (λ b. b && (nat_le (window_place pid w 0).vpn.0 p.vpn.0 && nat_lt p.vpn.0 ((window_place pid w 0).vpn.0 + window_pages w))) other

module _ (procs : ℕ) (l : Ledger) (pid : Pid) (lies : (p : Place) (page : Page) → l.home p ≡ Some page → is_user_place procs p ≡ true) where
  abbrev pub l1 : Ledger
  l1 = remove (in_place pid Image) l

  abbrev pub l2 : Ledger
  l2 = remove (in_place pid Heap) l1

  abbrev pub l3 : Ledger
  l3 = remove (in_place pid Message) l2

  abbrev pub l4 : Ledger
  l4 = remove (in_place pid Map) l3

  abbrev pub l5 : Ledger
  l5 = remove (in_place pid Stack) l4

  -- a page of the process is in one of the windows
  by_window : (p : Place) (w : Window) → p.pid.0 ≡ pid.0 → window_at p.vpn.0 ≡ Some w → l5.home p ≡ None
  by_window p Image mine e = gone_before (in_place pid Stack) l4 p (gone_before (in_place pid Map) l3 p (gone_before (in_place pid Message) l2 p
      (gone_before (in_place pid Heap) l1 p (gone_at (in_place pid Image) l p (inside pid Image p mine e)))))
  by_window p Heap mine e = gone_before (in_place pid Stack) l4 p (gone_before (in_place pid Map) l3 p (gone_before (in_place pid Message) l2 p
      (gone_at (in_place pid Heap) l1 p (inside pid Heap p mine e))))
  by_window p Message mine e = gone_before (in_place pid Stack) l4 p (gone_before (in_place pid Map) l3 p
      (gone_at (in_place pid Message) l2 p (inside pid Message p mine e)))
  by_window p Map mine e = gone_before (in_place pid Stack) l4 p (gone_at (in_place pid Map) l3 p (inside pid Map p mine e))
  by_window p Stack mine e = gone_at (in_place pid Stack) l4 p (inside pid Stack p mine e)

  kept : (p : Place) → (p.pid.0 == pid.0) ≡ false → l5.home p ≡ l.home p
  kept p other =
      kept_at (in_place pid Stack) l4 p (outside pid Stack p other)
      ∙ (kept_at (in_place pid Map) l3 p (outside pid Map p other)
      ∙ (kept_at (in_place pid Message) l2 p (outside pid Message p other)
      ∙ (kept_at (in_place pid Heap) l1 p (outside pid Heap p other)
      ∙ kept_at (in_place pid Image) l p (outside pid Image p other))))

  homes : (p : Place) → l5.home p ≡ (if p.pid.0 == pid.0 then None else l.home p)
  homes p = elim (cases_Bool (p.pid.0 == pid.0)) [
    | inr other ↦ kept p other ∙ sym (cond-false (p.pid.0 == pid.0) None (l.home p) other)
    | inl mine ↦ gone p mine ∙ sym (cond-true (p.pid.0 == pid.0) None (l.home p) mine)
  ]
    where
      gone : (p : Place) → (p.pid.0 == pid.0) ≡ true → l5.home p ≡ None
      gone p mine = elim (cases_Option (l.home p)) [
        | inl none ↦ gone_before (in_place pid Stack) l4 p (gone_before (in_place pid Map) l3 p (gone_before (in_place pid Message) l2 p
            (gone_before (in_place pid Heap) l1 p (gone_before (in_place pid Image) l p none))))
        | inr page ↦
            let user : is_user_place procs p ≡ true = lies p page.0 page.1 in
            elim (cases_Option (window_at p.vpn.0)) [
              | inr w ↦ by_window p w.0 (eqb-true p.pid.0 pid.0 mine) w.1
              | inl none ↦ absurd (both_ways (is_some (window_at p.vpn.0)) (ap is_some none) (and_parts (is_pid procs p.pid.0) (is_some (window_at p.vpn.0)) user).1)
            ]
      ]

  orphans : (p : Place) → l5.orphan p ≡ l.orphan p
  orphans p =
      remove_orphan (in_place pid Stack) l4 p ∙ (remove_orphan (in_place pid Map) l3 p ∙ (remove_orphan (in_place pid Message) l2 p
      ∙ (remove_orphan (in_place pid Heap) l1 p ∙ remove_orphan (in_place pid Image) l p)))

  -- THE PAGES of all windows are the pages of the process
  pub all_windows : l5 ≡ forget pid l
  unfolding forget
  all_windows = same_ledger l5 (forget pid l) homes orphans

-- each page of a memory has its home at a user place
pub homes_lie : {W : Type 0} (S : SwapStore W) (m : Memory W) → IsSound S.slot_count m → (p : Place) (page : Page)
    → (ledger S.held m).home p ≡ Some page → is_user_place (processes m) p ≡ true
unfolding ledger ledger_of
homes_lie S m sound p page e = by_entry (entries (processes m) m.ram p) refl
  where
    by_entry : (o : Option Entry) → entries (processes m) m.ram p ≡ o → is_user_place (processes m) p ≡ true
    by_entry None h = absurd (none-some page (sym (ap (option_and_then (page_of_entry (infos m.owners) (bytes_at m.ram (S.held m.store)))) h) ∙ e))
    by_entry (Some entry) h = sym (sound.agree.entries.spelled p) ∙ ap is_some h
