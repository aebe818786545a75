-- Two files that differ in the pages of a group alone make starts that are the same but for the group's inside.
use Rattle.std.proofs.Common.{◌≡◌, ℕ, ◌+◌, Bool, true, false, List, map, Option, Some, None, refl, sym, ap, ◌∙◌, subst}
use Rattle.std.specs.Prelude.{nat_lt, slice_index, if◌then◌else◌}
use Rattle.std.specs.List.{range_with_len}
use Rattle.std.specs.Option.{option_and_then, option_map}
use Rattle.std.proofs.lemmas.Bool.{ltb-true}
use Rattle.std.proofs.lemmas.Option.{none-some}
use Rattle.xk_base.specs.declared.ids.Place.{Place}
use Rattle.xk_base.specs.declared.pages.Access.TheVariants.{Load}
use Rattle.boot_plan.specs.Content.{page_byte}
use Rattle.boot_plan.specs.declared.plans.BootPlan.{BootPlan}
use Rattle.boot_plan.specs.declared.plans.PagePlan.{PagePlan}
use Rattle.boot_plan.specs.declared.plans.ProcPlan.{ProcPlan}
use Rattle.ledger_model.specs.Ledger.{Bytes, Homed, Ledger, Page, PageName, contents_of}
use Rattle.ledger_model.specs.Loans.{bare, bare_page}
use Rattle.vm_memory.specs.FirstLedger.{first_ledger, first_page, page_bytes, planned_page, process_of}
use Rattle.noninterference_laws.proofs.ReachedPageLemmas.{AtHolder, AtHome, AtOrphan, ReachedAs, reached_as}
use Rattle.noninterference_laws.specs.Inside.{Group, IsSeenByOther, outside}
use Rattle.xk_kernel.specs.Start.{start}
use Rattle.xk_kernel.proofs.Starting.FirstLedgerLemmas.{first_unlent}
use Rattle.program_laws.specs.Exchanged.{DifferInGroup, FillAlike, StartsAreAlike}

-- pages that are filled alike have the same bytes
module _ (page : PagePlan) (one other : List ℕ) (alike : FillAlike page one other) where
  same_byte : (offset : ℕ) → page_byte one page offset ≡ page_byte other page offset
  same_byte offset = go (nat_lt offset page.len) refl
    where
      go : (b : Bool) → nat_lt offset page.len ≡ b
          → (if b then slice_index one (page.from + offset) else 0) ≡ (if b then slice_index other (page.from + offset) else 0)
      go true e = alike offset (ltb-true offset page.len e)
      go false e = refl

  same_bytes : page_bytes one page ≡ page_bytes other page
  unfolding page_bytes
  same_bytes = λ i. map (λ offset. same_byte offset i) (range_with_len 0 4096)

-- places, rights and loans are those of the plan, whatever the file
pub same_bare : (plan : BootPlan) (one other : List ℕ) → bare (first_ledger plan one) ≡ bare (first_ledger plan other)
unfolding bare first_ledger
same_bare plan one other =
    λ i. record { home = λ p. at (option_and_then (planned_page p.vpn.0) (process_of plan p.pid.0)) i; orphan = λ p. None }
  where
    at : (o : Option PagePlan) → option_map bare_page (option_map (first_page one) o) ≡ option_map bare_page (option_map (first_page other) o)
    at None = refl
    at (Some page) = refl

-- a page that is filled alike, or is none, holds the same
pub held_alike : (plan : BootPlan) (one other : List ℕ) (p : Place)
    → ((process : ProcPlan) (page : PagePlan) → process_of plan p.pid.0 ≡ Some process → planned_page p.vpn.0 process ≡ Some page
    → FillAlike page one other)
    → contents_of (first_ledger plan one) (Homed p) ≡ contents_of (first_ledger plan other) (Homed p)
unfolding first_ledger
held_alike plan one other p fills = go (process_of plan p.pid.0) refl
  where
    held : List ℕ → Option PagePlan → Option Page
    held file o = option_map (first_page file) o

    of_page : (process : ProcPlan) → process_of plan p.pid.0 ≡ Some process → (o : Option PagePlan) → planned_page p.vpn.0 process ≡ o
        → option_map (λ (x : Page). x.contents) (held one o) ≡ option_map (λ (x : Page). x.contents) (held other o)
    of_page process q None r = refl
    of_page process q (Some page) r = ap (λ bytes. Some (Bytes bytes)) (same_bytes page one other (fills process page q r))

    go : (o : Option ProcPlan) → process_of plan p.pid.0 ≡ o
        → option_map (λ (x : Page). x.contents) (held one (option_and_then (planned_page p.vpn.0) o))
        ≡ option_map (λ (x : Page). x.contents) (held other (option_and_then (planned_page p.vpn.0) o))
    go None q = refl
    go (Some process) q = of_page process q (planned_page p.vpn.0 process) refl

module _ (group : Group) (plan : BootPlan) (one other : List ℕ) (differ : DifferInGroup group plan one other) where
  outsides : outside group (start plan one) ≡ outside group (start plan other)
  unfolding start
  outsides = ap (λ (l : Ledger). record (outside group (start plan one)) { ledger = l }) (same_bare plan one other)

  -- the page at a place of a process outside the group
  same_contents : (p : Place) → group p.pid.0 ≡ false
      → contents_of (first_ledger plan one) (Homed p) ≡ contents_of (first_ledger plan other) (Homed p)
  same_contents p outer =
      held_alike plan one other p (λ process page there planned. differ p.pid.0 process p.vpn.0 page there outer planned)

  seen_alike : (page : PageName) → IsSeenByOther group (start plan one) page
      → contents_of (start plan one).ledger page ≡ contents_of (start plan other).ledger page
  unfolding start first_ledger
  seen_alike page seen =
      go (reached_as (start plan one).processes (first_ledger plan one) seen.place Load page seen.reached)
    where
      go : ReachedAs (first_ledger plan one) seen.place Load page → contents_of (first_ledger plan one) page ≡ contents_of (first_ledger plan other) page
      go (AtHome old there is may) =
          subst (λ x. contents_of (first_ledger plan one) x ≡ contents_of (first_ledger plan other) x) (sym is) (same_contents seen.place seen.other)
      go (AtHolder home loan lent held is may) = absurd (none-some loan (sym ((first_unlent plan one).loans home) ∙ lent))
      go (AtOrphan orphan there is may) = absurd (none-some orphan there)

pub starts_alike : StartsAreAlike
starts_alike group plan one other differ = record {
  outside = outsides group plan one other differ;
  seen = seen_alike group plan one other differ;
}
