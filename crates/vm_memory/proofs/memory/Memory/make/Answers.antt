use Rattle.std.proofs.Common.{◌≡◌, ◌+◌, ◌<◌, sym, subst, ◌∙◌, arith}
use Rattle.ledger_model.specs.Ledger.{pages}
use Rattle.swap_map.proofs.ExchangeLemmas.{on_err}
use Rattle.vm_memory.specs.Bytes.{MeansBytesOver}
use Rattle.vm_memory.specs.Memory.{capacity_of, frames_for_pages, ledger, processes, room_in}
use Rattle.vm_memory.specs.Pages.Making.{HasMadeFirst, make_answer}
use Rattle.vm_memory.proofs.Changing.AnsweringLemmas.{can_answered}
use Rattle.vm_memory.proofs.Changing.CrowdedLemmas.{first_made}
use Rattle.vm_memory.proofs.Changing.ShiftedLemmas.{keeps_all}
use Rattle.vm_memory.proofs.Changing.SoundMemoryLemmas.{pages-ledger, sound-tied}
use Rattle.vm_memory.proofs.memory.Memory.make.Goals as goal

pub returns-in-Err-clause-tie : goal.returns-in-Err-clause-tie
returns-in-Err-clause-tie g c = sound-tied g.W.SwapStore c.args.self.now c.requires.sound

pub returns-in-Err-clause-store : goal.returns-in-Err-clause-store
returns-in-Err-clause-store g c = keeps_all g.W.SwapStore c.args.self.now.store

pub make_run-requires-clause-can : goal.make_run-requires-clause-can
make_run-requires-clause-can g c = can_answered (processes c.args.self.now) (capacity_of c.args.self.now) (ledger g.W.SwapStore.held c.args.self.now)
    c.args.pid c.args.window c.args.at c.args.n c.in-Ok.first c.requires.process (sym c.find_room.ensures ∙ c.in-Ok.is)

pub returns-in_err-make_run-in-Ok-clause-partial : goal.returns-in_err-make_run-in-Ok-clause-partial
returns-in_err-make_run-in-Ok-clause-partial g c = on_err c.from_residual.result
    (HasMadeFirst (MeansBytesOver g.W.SwapStore c.args.self.now c.make_run.new.self) (make_answer (room_in c.args.self.now) (ledger g.W.SwapStore.held c.args.self.now) c.args.pid c.args.window c.args.at c.args.n)
    c.args.pid c.args.n c.args.right (ledger g.W.SwapStore.held c.args.self.now) (ledger g.W.SwapStore.held c.make_run.new.self))
    (first_made g.W.SwapStore c.args.self.now c.make_run.new.self (make_answer (room_in c.args.self.now) (ledger g.W.SwapStore.held c.args.self.now) c.args.pid c.args.window c.args.at c.args.n) c.args.pid c.in-Ok.first c.args.n c.args.right (sym c.find_room.ensures ∙ c.in-Ok.is) c.make_run.ensures.first)

pub returns-in_err-make_run-in-Ok-clause-full : goal.returns-in_err-make_run-in-Ok-clause-full
returns-in_err-make_run-in-Ok-clause-full g c =
    let counted : c.args.self.now.pages ≡ pages (processes c.args.self.now) (ledger g.W.SwapStore.held c.args.self.now) = c.requires.sound.pages ∙ sym (pages-ledger g.W.SwapStore.held c.args.self.now) in
    on_err c.from_residual.result (frames_for_pages c.args.self.now < pages (processes c.args.self.now) (ledger g.W.SwapStore.held c.args.self.now) + c.args.n)
    (subst (λ k. frames_for_pages c.args.self.now < k + c.args.n) counted c.in_err-make_run-in-Ok.ensures.full)

pub returns-in_err-make_run-in-Ok-clause-tie : goal.returns-in_err-make_run-in-Ok-clause-tie
returns-in_err-make_run-in-Ok-clause-tie g c = sound-tied g.W.SwapStore c.make_run.new.self c.make_run.ensures.first.made.sound

pub returns-in_err-make_run-in-Ok-clause-near : goal.returns-in_err-make_run-in-Ok-clause-near
returns-in_err-make_run-in-Ok-clause-near g c =
    let counted : c.args.self.now.pages ≡ pages (processes c.args.self.now) (ledger g.W.SwapStore.held c.args.self.now) = c.requires.sound.pages ∙ sym (pages-ledger g.W.SwapStore.held c.args.self.now) in
    λ few none. c.make_run.ensures.near (omega (arith, few, counted)) none

pub returns-in_ok-make_run-in-Ok-clause-tie : goal.returns-in_ok-make_run-in-Ok-clause-tie
returns-in_ok-make_run-in-Ok-clause-tie g c = sound-tied g.W.SwapStore c.make_run.new.self c.make_run.ensures.first.made.sound

pub returns-in_ok-make_run-in-Ok-clause-near : goal.returns-in_ok-make_run-in-Ok-clause-near
returns-in_ok-make_run-in-Ok-clause-near g c =
    let counted : c.args.self.now.pages ≡ pages (processes c.args.self.now) (ledger g.W.SwapStore.held c.args.self.now) = c.requires.sound.pages ∙ sym (pages-ledger g.W.SwapStore.held c.args.self.now) in
    λ few none. c.make_run.ensures.near (omega (arith, few, counted)) none

pub returns-in_ok-make_run-in-Ok-clause-rights : goal.returns-in_ok-make_run-in-Ok-clause-rights
returns-in_ok-make_run-in-Ok-clause-rights g c = c.in_ok-make_run-in-Ok.ensures.made.rights

pub returns-in_ok-make_run-in-Ok-clause-whole : goal.returns-in_ok-make_run-in-Ok-clause-whole
returns-in_ok-make_run-in-Ok-clause-whole g c = c.in_ok-make_run-in-Ok.ensures.made.whole

pub returns-in_err-make_run-in-Ok-clause-no_more : goal.returns-in_err-make_run-in-Ok-clause-no_more
returns-in_err-make_run-in-Ok-clause-no_more g c =
    let counted : c.args.self.now.pages ≡ pages (processes c.args.self.now) (ledger g.W.SwapStore.held c.args.self.now) = c.requires.sound.pages ∙ sym (pages-ledger g.W.SwapStore.held c.args.self.now) in
    λ few. c.make_run.ensures.no_more (omega (arith, few, counted))

pub returns-in_ok-make_run-in-Ok-clause-no_more : goal.returns-in_ok-make_run-in-Ok-clause-no_more
returns-in_ok-make_run-in-Ok-clause-no_more g c =
    let counted : c.args.self.now.pages ≡ pages (processes c.args.self.now) (ledger g.W.SwapStore.held c.args.self.now) = c.requires.sound.pages ∙ sym (pages-ledger g.W.SwapStore.held c.args.self.now) in
    λ few. c.make_run.ensures.no_more (omega (arith, few, counted))
