use Rattle.std.proofs.Common.{Some, sym, ap, ◌∙◌}
use Rattle.page_views.specs.EntryAccess.{side_here}
use Rattle.vm_memory.proofs.Changing.HereLemmas.{here-free, here-nowhere, here-side, here-console, seat_there}
use Rattle.vm_memory.proofs.memory.Memory.at.Goals as goal

pub returns-then-not-has_place : goal.returns-then-not-has_place
returns-then-not-has_place g c = here-nowhere g.W.SwapStore c.args.self.now c.requires.sound c.args.place (sym c.has_place.ensures ∙ c.if-not-has_place.true)

pub info-requires : goal.info-requires
info-requires g c = seat_there g.W.SwapStore c.args.self.now c.requires.sound c.args.place c.in-At.side c.in-At.seat
    (c.entry.ensures ∙ ap (λ e. Some e) c.in-At.is)

pub returns-in-Free : goal.returns-in-Free
returns-in-Free g c = here-free g.W.SwapStore c.args.self.now c.requires.sound c.args.place (c.entry.ensures ∙ ap (λ e. Some e) c.in-Free.is)

pub returns-in-At : goal.returns-in-At
returns-in-At g c = c.here_by_side.ensures ∙ ap (side_here c.in-At.side) c.info.ensures
    ∙ here-side g.W.SwapStore c.args.self.now c.requires.sound c.args.place c.in-At.side c.in-At.seat (c.entry.ensures ∙ ap (λ e. Some e) c.in-At.is)

pub returns-in-OnConsole : goal.returns-in-OnConsole
returns-in-OnConsole g c = here-console g.W.SwapStore c.args.self.now c.requires.sound c.args.place c.in-OnConsole.w (c.entry.ensures ∙ ap (λ e. Some e) c.in-OnConsole.is)
