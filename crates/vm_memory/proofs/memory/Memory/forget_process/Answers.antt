use Rattle.std.proofs.Common.{ap, ◌∙◌}
use Rattle.ledger_model.specs.Steps.{remove}
use Rattle.vm_memory.specs.Memory.{ledger, processes}
use Rattle.xk_base.specs.declared.windows.Window.TheVariants.{Heap, Message, Map, Stack}
use Rattle.vm_memory.proofs.Changing.ForgettingLemmas.{all_windows, homes_lie, in_place}
use Rattle.vm_memory.proofs.Changing.CallLemmas.{alone-means, alone-none_out}
use Rattle.vm_memory.proofs.Changing.LoopLemmas.{rest_then}
use Rattle.vm_memory.specs.Pages.Changing.{ChangesPagesAlone}
use Rattle.vm_memory.proofs.Changing.SoundMemoryLemmas.{sound-tied}
use Rattle.vm_memory.proofs.memory.Memory.forget_process.Given as given
use Rattle.vm_memory.proofs.memory.Memory.forget_process.Goals as goal
use Rattle.vm_memory.proofs.memory.Memory.forget_process.Goals.{After-drop_window-5}

pub returns-clause-tie : goal.returns-clause-tie
returns-clause-tie g c = sound-tied g.W.SwapStore c.drop_window-5.new.self c.drop_window-5.ensures.sound

all_dropped : (g : given.Over) (c : After-drop_window-5 g) → ChangesPagesAlone c.args.self.now c.drop_window-5.new.self
all_dropped g c =
    rest_then c.args.self.now c.drop_window-4.new.self c.drop_window-5.new.self
    (rest_then c.args.self.now c.drop_window-3.new.self c.drop_window-4.new.self
    (rest_then c.args.self.now c.drop_window-2.new.self c.drop_window-3.new.self
    (rest_then c.args.self.now c.drop_window.new.self c.drop_window-2.new.self c.drop_window.ensures.rest c.drop_window-2.ensures.rest)
    c.drop_window-3.ensures.rest) c.drop_window-4.ensures.rest) c.drop_window-5.ensures.rest

pub returns-clause-means : goal.returns-clause-means
returns-clause-means g c = alone-means g.W.SwapStore c.args.self.now c.drop_window-5.new.self (all_dropped g c)

pub returns-clause-none : goal.returns-clause-none
returns-clause-none g c = alone-none_out c.args.self.now c.drop_window-5.new.self (all_dropped g c)

pub returns-clause-ledger : goal.returns-clause-ledger
returns-clause-ledger g c =
    c.drop_window-5.ensures.ledger ∙ (ap (remove (in_place c.args.pid Stack)) (
    c.drop_window-4.ensures.ledger ∙ ap (remove (in_place c.args.pid Map)) (
    c.drop_window-3.ensures.ledger ∙ ap (remove (in_place c.args.pid Message)) (
    c.drop_window-2.ensures.ledger ∙ ap (remove (in_place c.args.pid Heap)) c.drop_window.ensures.ledger)))
    ∙ all_windows (processes c.args.self.now) (ledger g.W.SwapStore.held c.args.self.now) c.args.pid
    (homes_lie g.W.SwapStore c.args.self.now c.requires.sound))

pub returns-clause-seats : goal.returns-clause-seats
returns-clause-seats g c = λ s free. c.drop_window-5.ensures.seats s (c.drop_window-4.ensures.seats s (c.drop_window-3.ensures.seats s
    (c.drop_window-2.ensures.seats s (c.drop_window.ensures.seats s free))))
