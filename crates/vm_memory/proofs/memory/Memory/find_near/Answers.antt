use Rattle.std.proofs.Common.{◌≡◌, true, false, refl, ap, sym, ◌∙◌, arith}
use Rattle.sv32_space.specs.SpelledEntries.{entries}
use Rattle.swap_map.proofs.ExchangeLemmas.{on_err}
use Rattle.xk_base.specs.Numbers.Windows.{page_of}
use Rattle.vm_memory.specs.Bytes.{is_out}
use Rattle.vm_memory.specs.Memory.{processes}
use Rattle.page_views.specs.EntryAccess.{is_given_target}
use Rattle.vm_memory.proofs.Changing.ShiftedLemmas.{same_moves}
use Rattle.vm_memory.proofs.Using.NearLemmas.{IsOutAt, given_may, leads_near, leads_unless_out, nowhere_target, out_at, reached_not_none, reached_out, reached_used}
use Rattle.vm_memory.proofs.memory.Memory.find_near.Goals as goal

pub returns-then-is_given-clause-brings : goal.returns-then-is_given-clause-brings
returns-then-is_given-clause-brings g c = record { moves = same_moves g.W.SwapStore c.args.self.now c.requires.sound; no_more = omega arith; none = λ none. refl }

pub returns-then-is_given-clause-given : goal.returns-then-is_given-clause-given
returns-then-is_given-clause-given g c =
    let given : is_given_target c.find-found.result ≡ true = sym c.is_given.ensures ∙ c.if-is_given.true in
    given ∙ sym (given_may (entries (processes c.args.self.now) c.args.self.now.ram (page_of c.args.pid c.args.va)) c.args.access (ap is_given_target (sym c.find-found.ensures) ∙ given))

pub returns-in-None-clause-brings : goal.returns-in-None-clause-brings
returns-in-None-clause-brings g c = record { moves = same_moves g.W.SwapStore c.args.self.now c.requires.sound; no_more = omega arith; none = λ none. refl }

pub returns-in-None-clause-target : goal.returns-in-None-clause-target
returns-in-None-clause-target g c = nowhere_target c.find-found.result (sym c.is_given.ensures ∙ c.if-is_given.false) ∙ c.find-found.ensures

pub returns-in-None-clause-given : goal.returns-in-None-clause-given
returns-in-None-clause-given g c =
    let not_given : is_given_target c.find-found.result ≡ false = sym c.is_given.ensures ∙ c.if-is_given.false in
    sym not_given ∙ (ap is_given_target c.find-found.ensures ∙ leads_unless_out (entries (processes c.args.self.now) c.args.self.now.ram (page_of c.args.pid c.args.va)) c.args.access (sym c.slot_reached.ensures ∙ c.in-None.is))

pub exchange-requires-clause-used : goal.exchange-requires-clause-used
exchange-requires-clause-used g c = reached_used g.W.SwapStore.slot_count c.args.self.now c.requires.sound (page_of c.args.pid c.args.va) c.args.access c.in-Some.slot (sym c.slot_reached.ensures ∙ c.in-Some.is)

pub returns-in_err-exchange-in-Some-clause-brings : goal.returns-in_err-exchange-in-Some-clause-brings
returns-in_err-exchange-in-Some-clause-brings g c = record {
  moves = c.exchange.ensures.moves;
  no_more = c.exchange.ensures.no_more;
  none = reached_not_none g.W.SwapStore.slot_count c.args.self.now c.requires.sound (page_of c.args.pid c.args.va) c.args.access c.in-Some.slot (sym c.slot_reached.ensures ∙ c.in-Some.is);
}

pub returns-in_err-exchange-in-Some-clause-out : goal.returns-in_err-exchange-in-Some-clause-out
returns-in_err-exchange-in-Some-clause-out g c = on_err c.from_residual.result (is_out c.args.self.now (page_of c.args.pid c.args.va) ≡ true)
    (reached_out g.W.SwapStore.slot_count c.args.self.now c.requires.sound (page_of c.args.pid c.args.va) c.args.access c.in-Some.slot (sym c.slot_reached.ensures ∙ c.in-Some.is))

pub returns-in_ok-exchange-in-Some-clause-brings : goal.returns-in_ok-exchange-in-Some-clause-brings
returns-in_ok-exchange-in-Some-clause-brings g c = record {
  moves = c.exchange.ensures.moves;
  no_more = c.exchange.ensures.no_more;
  none = reached_not_none g.W.SwapStore.slot_count c.args.self.now c.requires.sound (page_of c.args.pid c.args.va) c.args.access c.in-Some.slot (sym c.slot_reached.ensures ∙ c.in-Some.is);
}

pub returns-in_ok-exchange-in-Some-clause-given : goal.returns-in_ok-exchange-in-Some-clause-given
returns-in_ok-exchange-in-Some-clause-given g c =
    let there : IsOutAt (entries (processes c.args.self.now) c.args.self.now.ram (page_of c.args.pid c.args.va)) c.args.access c.in-Some.slot = out_at (entries (processes c.args.self.now) c.args.self.now.ram (page_of c.args.pid c.args.va)) c.args.access c.in-Some.slot (sym c.slot_reached.ensures ∙ c.in-Some.is) in
    ap is_given_target c.find.ensures
    ∙ leads_near (entries (processes c.exchange.new.self) c.exchange.new.self.ram (page_of c.args.pid c.args.va)) there.side c.args.access
    (c.in_ok-exchange-in-Some.ensures.near (page_of c.args.pid c.args.va) there.side there.entry)
