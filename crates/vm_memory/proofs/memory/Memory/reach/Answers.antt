use Rattle.std.proofs.Common.{◌≡◌, ◌*◌, true, ap, sym, subst, ◌∙◌}
use Rattle.xk_base.specs.Numbers.Windows.{page_of}
use Rattle.vm_memory.specs.Bytes.{is_near}
use Rattle.vm_memory.specs.Memory.{ledger, processes}
use Rattle.vm_memory.specs.Using.Access.{reaches_bytes}
use Rattle.page_views.specs.EntryAccess.{is_given_target, is_page_target}
use Rattle.vm_memory.proofs.Changing.ShiftedLemmas.{keeps_all}
use Rattle.vm_memory.proofs.Changing.SoundMemoryLemmas.{sound-tied}
use Rattle.vm_memory.proofs.Using.NearLemmas.{brings_means, brings_reaches, brings_whole, nowhere_reached, same_page}
use Rattle.vm_memory.proofs.Using.ReachedLemmas.{page_reached, reached_near}
use Rattle.vm_memory.proofs.memory.Memory.reach.Goals as goal

pub returns-then-not-has_place-clause-answer : goal.returns-then-not-has_place-clause-answer
returns-then-not-has_place-clause-answer g c = sym (nowhere_reached g.W.SwapStore c.args.self.now c.requires.sound c.args.at c.args.access
    (sym c.has_place.ensures ∙ c.if-not-has_place.true))

pub returns-then-not-has_place-clause-tie : goal.returns-then-not-has_place-clause-tie
returns-then-not-has_place-clause-tie g c = sound-tied g.W.SwapStore c.args.self.now c.requires.sound

pub returns-then-not-has_place-clause-store : goal.returns-then-not-has_place-clause-store
returns-then-not-has_place-clause-store g c = keeps_all g.W.SwapStore c.args.self.now.store

pub returns-clause-answer : goal.returns-clause-answer
returns-clause-answer g c =
    c.is_page.ensures ∙ (ap is_page_target c.in_ok-target.ensures.target
    ∙ (page_reached g.W.SwapStore c.find_near.new.self c.find_near.ensures.brings.moves.sound (page_of c.args.at.pid (c.args.at.vpn.0 * 4096)) c.args.access
    (ap is_given_target (sym c.in_ok-target.ensures.target) ∙ c.in_ok-target.ensures.given)
    ∙ (brings_reaches g.W.SwapStore c.args.self.now c.find_near.new.self c.find_near.ensures.brings (page_of c.args.at.pid (c.args.at.vpn.0 * 4096)) c.args.access
    ∙ ap (λ p. reaches_bytes (processes c.args.self.now) (ledger g.W.SwapStore.held c.args.self.now) p c.args.access) (same_page c.args.at))))

pub returns-clause-near : goal.returns-clause-near
returns-clause-near g c = λ yes. subst (λ p. is_near c.find_near.new.self p ≡ true) (same_page c.args.at)
    (reached_near g.W.SwapStore c.find_near.new.self c.find_near.ensures.brings.moves.sound (page_of c.args.at.pid (c.args.at.vpn.0 * 4096)) c.args.access
    (ap is_page_target (sym c.in_ok-target.ensures.target) ∙ (sym c.is_page.ensures ∙ yes)))

pub returns-in_err-target-clause-whole : goal.returns-in_err-target-clause-whole
returns-in_err-target-clause-whole g c = brings_whole g.W.SwapStore c.args.self.now c.find_near.new.self c.find_near.ensures.brings

pub returns-in_err-target-clause-means : goal.returns-in_err-target-clause-means
returns-in_err-target-clause-means g c = brings_means g.W.SwapStore c.args.self.now c.find_near.new.self c.find_near.ensures.brings

pub returns-in_err-target-clause-tie : goal.returns-in_err-target-clause-tie
returns-in_err-target-clause-tie g c = sound-tied g.W.SwapStore c.find_near.new.self c.find_near.ensures.brings.moves.sound

pub returns-clause-whole : goal.returns-clause-whole
returns-clause-whole g c = brings_whole g.W.SwapStore c.args.self.now c.find_near.new.self c.find_near.ensures.brings

pub returns-clause-means : goal.returns-clause-means
returns-clause-means g c = brings_means g.W.SwapStore c.args.self.now c.find_near.new.self c.find_near.ensures.brings

pub returns-clause-tie : goal.returns-clause-tie
returns-clause-tie g c = sound-tied g.W.SwapStore c.find_near.new.self c.find_near.ensures.brings.moves.sound
