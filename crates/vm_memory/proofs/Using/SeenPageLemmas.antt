-- What a process sees of a sound memory tells its pages.
use Rattle.xk_ports.specs.declared.store.SwapStore.{Ghosts as SwapStore}
use Rattle.std.proofs.Common.{◌≡◌, ℕ, ◌*◌, ◌/◌, ◌⊎◌, Bool, true, false, Option, Some, None, refl, sym, ap, subst, ◌∙◌, inl, inr, arith}
use Rattle.std.specs.Prelude.{◌==◌, ◌&&◌, is_some, if◌then◌else◌}
use Rattle.std.specs.Option.{option_and_then}
use Rattle.std.proofs.lemmas.Bool.{and_parts, both_ways, eq-eqb, eqb-true, false≢true}
use Rattle.std.proofs.lemmas.Option.{none-some, same_Some}
use Rattle.xk_base.specs.declared.ids.Pid.{Pid}
use Rattle.xk_base.specs.declared.ids.Place.{Place}
use Rattle.xk_base.specs.declared.pages.Access.TheVariants.{Load}
use Rattle.ledger_model.specs.Ledger.{Ledger, Contents, Console, Bytes, PageName, Homed, Orphaned, contents_of}
use Rattle.ledger_model.specs.Loans.{bare}
use Rattle.ledger_model.specs.Places.{first_place, is_user_place, same_place}
use Rattle.ledger_model.specs.Reach.{owner_may, reach}
use Rattle.ledger_model.proofs.LedgerLemmas.{cases_Option}
use Rattle.ledger_model.proofs.Loans.NumberingLemmas.{first_place-none, first_place-passes}
use Rattle.ledger_model.proofs.PlaceLemmas.{place_from, same_place-true, same_place-refl}
use Rattle.sv32_space.specs.declared.sides.Entry.{Entry}
use Rattle.sv32_space.specs.declared.sides.Entry.TheVariants.{Free, At, OnConsole}
use Rattle.sv32_space.specs.EntryReach.{side_may}
use Rattle.sv32_space.specs.SpelledEntries.{entries}
use Rattle.sv32_space.specs.Tie.{Held, bytes_at}
use Rattle.vm_memory.specs.declared.memory.Memory.{Memory}
use Rattle.xk_base.specs.Numbers.Windows.{page_of}
use Rattle.vm_memory.specs.Memory.{processes, ledger}
use Rattle.vm_memory.specs.Sound.{IsSound}
use Rattle.vm_memory.specs.Using.UserView.{IsUnseen, contents_seen}
use Rattle.ledger_model.proofs.Pages.BareLemmas.{reach-bare}
use Rattle.vm_memory.proofs.Using.ReachedLemmas.{reach_by, reach_nowhere, seat_contents, console_contents}
use Rattle.vm_memory.proofs.Bytes.LedgerByteLemmas.{IsTold, IsWholeContents}
use Rattle.vm_memory.proofs.Bytes.WholePageLemmas.{entry_size}

-- ---- a page that is named

abbrev same_name : PageName → PageName → Bool
same_name (Homed p) (Homed q) = same_place p q
same_name (Homed p) (Orphaned q) = false
same_name (Orphaned p) (Homed q) = false
same_name (Orphaned p) (Orphaned q) = same_place p q

same_name-true : (a b : PageName) → same_name a b ≡ true → a ≡ b
same_name-true (Homed p) (Homed q) e = ap Homed (same_place-true p q e)
same_name-true (Homed p) (Orphaned q) e = absurd (false≢true e)
same_name-true (Orphaned p) (Homed q) e = absurd (false≢true e)
same_name-true (Orphaned p) (Orphaned q) e = ap Orphaned (same_place-true p q e)

same_name-refl : (a : PageName) → same_name a a ≡ true
same_name-refl (Homed p) = same_place-refl p
same_name-refl (Orphaned p) = same_place-refl p

abbrev is_named : PageName → Option PageName → Bool
is_named name None = false
is_named name (Some other) = same_name other name

is_named-true : (name : PageName) (o : Option PageName) → is_named name o ≡ true → o ≡ Some name
is_named-true name None e = absurd (false≢true e)
is_named-true name (Some other) e = ap Some (same_name-true other name e)

module _ {W : Type 0} (S : SwapStore W) (m : Memory W) (sound : IsSound S.slot_count m) (pid : Pid) where
  abbrev L : Ledger
  L = ledger S.held m

  abbrev n : ℕ
  n = processes m

  -- ---- where it is seen

  -- the process may load the page there
  abbrev loads_at : PageName → Place → Bool
  loads_at name p = (p.pid.0 == pid.0) && is_named name (reach n L p Load)

  -- what is reached is a user place
  reached_user : (p : Place) (name : PageName) → reach n L p Load ≡ Some name → is_user_place n p ≡ true
  reached_user p name e = by_entry (entries n m.ram p) refl
    where
      by_entry : (o : Option Entry) → entries n m.ram p ≡ o → is_user_place n p ≡ true
      by_entry None f = absurd (none-some name (sym (reach_nowhere S m sound p Load f) ∙ e))
      by_entry (Some entry) f = sym (sound.agree.entries.spelled p) ∙ ap is_some f

  here : (name : PageName) (p : Place) → loads_at name p ≡ true → (a : ℕ) × (reach n L (page_of pid a) Load ≡ Some name)
  here name p e =
      let both = and_parts (p.pid.0 == pid.0) (is_named name (reach n L p Load)) e in
      let page : 4096 * p.vpn.0 / 4096 ≡ p.vpn.0 = omega arith in
      let same : page_of pid (4096 * p.vpn.0) ≡ p = place_from (page_of pid (4096 * p.vpn.0)) p (sym (eqb-true p.pid.0 pid.0 both.0)) page in
      (4096 * p.vpn.0, ap (λ q. reach n L q Load) same ∙ is_named-true name (reach n L p Load) both.1)

  loaded_there : (name : PageName) (a : ℕ) → reach n L (page_of pid a) Load ≡ Some name → loads_at name (page_of pid a) ≡ true
  loaded_there name a e =
      ap (λ b. b && is_named name (reach n L (page_of pid a) Load)) (eq-eqb pid.0 pid.0 refl)
      ∙ ap (is_named name) e ∙ same_name-refl name

  seen_or_not : (name : PageName) → ((a : ℕ) × (reach n L (page_of pid a) Load ≡ Some name)) ⊎ IsUnseen n (bare L) pid name
  seen_or_not name = elim (cases_Option (first_place n (loads_at name))) [
    | inr p ↦ inl (here name p.0 (first_place-passes n (loads_at name) p.0 p.1))
    | inl none ↦ inr (λ a e.
        let reached : reach n L (page_of pid a) Load ≡ Some name = sym (reach-bare n L (page_of pid a) Load) ∙ e in
        both_ways (loads_at name (page_of pid a))
        (first_place-none n (loads_at name) none (page_of pid a) (reached_user (page_of pid a) name reached))
        (loaded_there name a reached))
  ]

  -- ---- it is whole

  whole_if : (b : Bool) (bytes c : Contents) → IsWholeContents bytes → (if b then Some bytes else None) ≡ Some c → IsWholeContents c
  whole_if true bytes c whole e = subst (λ x. IsWholeContents x) (same_Some bytes c e) whole
  whole_if false bytes c whole e = absurd (none-some c e)

  seen_whole : (a : ℕ) (c : Contents) → contents_seen n L pid a ≡ Some c → IsWholeContents c
  seen_whole a c e = by_entry (entries n m.ram (page_of pid a)) refl
    where
      by_entry : (o : Option Entry) → entries n m.ram (page_of pid a) ≡ o → IsWholeContents c
      by_entry None f = absurd (none-some c (sym (ap (option_and_then (contents_of L)) (reach_nowhere S m sound (page_of pid a) Load f)) ∙ e))
      by_entry (Some Free) f = absurd (none-some c (sym (ap (option_and_then (contents_of L)) (reach_by S m sound (page_of pid a) Free Load f)) ∙ e))
      by_entry (Some (At side s)) f =
          whole_if (side_may side Load) (Bytes (bytes_at m.ram (S.held m.store) s)) c (entry_size S m sound (page_of pid a) side s f)
          (sym (seat_contents S m sound (page_of pid a) side s Load f) ∙ e)
      by_entry (Some (OnConsole w)) f =
          whole_if (owner_may (record { w = w; x = false }) Load) Console c tt
          (sym (console_contents S m sound (page_of pid a) w Load f) ∙ e)

  pub told : IsTold n L pid
  told = record { whole = seen_whole; seen = seen_or_not }
