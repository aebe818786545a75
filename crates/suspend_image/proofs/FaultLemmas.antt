-- The faults of state files: each file has one at most, and none where the machine can be in the state that it spells.
use Rattle.std.proofs.Common.{◌≡◌, ℕ, List, Some, sym, ap, subst, ◌∙◌, inl, inr}
use Rattle.kernel_args.specs.declared.faults.ArgFault.{ArgFault}
use Rattle.machine_model.specs.Runs.Matched.{Matched}
use Rattle.snapshot_rows.specs.declared.state.State.{State}
use Rattle.suspend_image.specs.Forms.{Spells}
use Rattle.snapshot_rows.specs.Machines.{machine_of}
use Rattle.suspend_image.specs.StateFaults.{state_fault}
use Rattle.snapshot_matching.specs.UnmatchedParts.{IsFirstUnmatched}
use Rattle.snapshot_rows.specs.Order.{AreRowsInOrder}
use Rattle.suspend_image.specs.FileFaults.{IsFirstFault}
use Rattle.snapshot_matching.proofs.FirstLemmas.{part_of, first_once}
use Rattle.snapshot_rows.proofs.KeyLemmas.{some_same}
use Rattle.suspend_image.proofs.OrderLemmas.{threads_ascend, servers_ascend, claims_ascend, pages_ascend, orphans_ascend, procs_counted}
use Rattle.suspend_image.proofs.SpellsLemmas.{spelled_once, spelled_has_no_fault}

pub rows_in_order : (file : List ℕ) (s : State) → Spells file s → AreRowsInOrder s
rows_in_order file s spells = record {
  procs = procs_counted file s spells;
  few = spells.form.n.at_most;
  threads = threads_ascend file s spells;
  servers = servers_ascend file s spells;
  claims = claims_ascend file s spells;
  pages = pages_ascend file s spells;
  orphans = orphans_ascend file s spells;
}

no_form_fault : {A : Type 0} (file : List ℕ) (s : State) (f : ArgFault) → Spells file s → state_fault file ≡ Some f → A
no_form_fault file s f spells fault = (let none = spelled_has_no_fault file s spells in absurd cc)

fault_same : (f g : ArgFault) → f.what ≡ g.what → f.at ≡ g.at → f ≡ g
fault_same f g what at = ap (λ (n : ℕ). record f { what = n }) what ∙ ap (λ (n : ℕ). record g { at = n }) at

pub fault_once : (file : List ℕ) (f g : ArgFault) → IsFirstFault file f → IsFirstFault file g → f ≡ g
fault_once file f g (inl p) (inl q) = some_same f g (sym p ∙ q)
fault_once file f g (inl p) (inr q) = no_form_fault file q.state f q.spelled p
fault_once file f g (inr p) (inl q) = no_form_fault file p.state g p.spelled q
fault_once file f g (inr p) (inr q) =
    let same : p.state ≡ q.state = spelled_once file p.state q.state p.spelled q.spelled in
    let first = subst (λ (s : State). IsFirstUnmatched (machine_of file s) p.part) same p.first in
    fault_same f g (p.what ∙ sym q.what) (p.at ∙ first_once (machine_of file q.state) p.part q.part first q.first ∙ sym q.at)

pub matched_has_no_fault : (file : List ℕ) (s : State) (f : ArgFault) → Spells file s → Matched (machine_of file s) → IsFirstFault file f → ⊥
matched_has_no_fault file s f spells matched (inl p) = no_form_fault file s f spells p
matched_has_no_fault file s f spells matched (inr p) =
    let same : s ≡ p.state = spelled_once file s p.state spells p.spelled in
    p.first.fails (part_of (machine_of file p.state) (subst (λ (z : State). Matched (machine_of file z)) same matched) p.part)
