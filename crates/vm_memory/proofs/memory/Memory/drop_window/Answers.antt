use Rattle.std.proofs.Common.{◌≡◌, ◌+◌, ◌-◌, ◌%◌, ◌<◌, true, refl, ap, subst, ◌∙◌, arith}
use Rattle.xk_base.specs.Numbers.Windows.{first_page, last_page}
use Rattle.ledger_model.specs.LeastRun.{window_pages, window_place}
use Rattle.ledger_model.specs.Places.{is_user_place, place_after}
use Rattle.ledger_model.proofs.PlaceLemmas.{place_from}
use Rattle.vm_memory.specs.Memory.{ledger, processes}
use Rattle.vm_memory.proofs.Changing.ForgettingLemmas.{no_loan_after}
use Rattle.vm_memory.proofs.Changing.FreePlaceLemmas.{window_lies, window_whole}
use Rattle.vm_memory.proofs.memory.Memory.drop_window.Goals as goal

pub drop_used-requires-clause-lie : goal.drop_used-requires-clause-lie
drop_used-requires-clause-lie g c i low =
    let first : c.first.result.0 ≡ first_page c.args.window = c.first.ensures in
    let from : c.first-2.result.0 ≡ first_page c.args.window = c.first-2.ensures in
    let last : c.last.result.0 ≡ last_page c.args.window = c.last.ensures in
    let within : i < window_pages c.args.window = omega (arith, low, from, last) in
    subst (λ p. is_user_place (processes c.args.self.now) p ≡ true)
    (place_from (place_after (window_place c.args.pid c.args.window 0) i)
    (place_after (record { pid = c.args.pid; vpn = c.first.result }) i) refl (omega (arith, first)))
    (window_lies (processes c.args.self.now) c.args.pid c.args.window i c.requires.process within)

pub drop_used-requires-clause-whole : goal.drop_used-requires-clause-whole
drop_used-requires-clause-whole g c =
    let first : c.first.result.0 ≡ first_page c.args.window = c.first.ensures in
    let from : c.first-2.result.0 ≡ first_page c.args.window = c.first-2.ensures in
    let last : c.last.result.0 ≡ last_page c.args.window = c.last.ensures in
    let sum : c.first.result.0 + (c.last.result.0 + 1 - c.first-2.result.0) ≡ first_page c.args.window + window_pages c.args.window =
    omega (arith, first, from, last) in
    ap (λ k. k % 1024) sum ∙ window_whole c.args.window

pub returns-clause-no_loan : goal.returns-clause-no_loan
returns-clause-no_loan g c = no_loan_after (ledger g.W.SwapStore.held c.args.self.now) (ledger g.W.SwapStore.held c.drop_used.new.self) c.args.pid _ c.drop_used.ensures.ledger c.requires.no_loan
