use Rattle.std.proofs.Common.{List, sym, subst, ◌∙◌, ◌↔◌}
use Rattle.std.specs.Prelude.{IsTrue, IfOk}
use Rattle.snapshot_rows.specs.declared.state.ServerRow.{ServerRow}
use Rattle.snapshot_matching.specs.ServerParts.{AreMessagesApart}
use Rattle.snapshot_matching.proofs.KeysLemmas.{keys_told, numbers_told}
use Rattle.snapshot_matching.proofs.parts.are_keys_matched.Goals as goal

pub returns-then-not-are_numbers_stepped : goal.returns-then-not-are_numbers_stepped
returns-then-not-are_numbers_stepped c file = (
  λ never. absurd cc,
  λ matched. sym c.if-not-are_numbers_stepped.true ∙ c.are_numbers_stepped.ensures.1 matched.stepped,
)

pub returns-then-not-are_keys_told : goal.returns-then-not-are_keys_told
returns-then-not-are_keys_told c file = (
  λ never. absurd cc,
  λ matched. sym c.if-not-are_keys_told.true ∙ c.are_keys_told.ensures ∙ keys_told file c.args.state.now c.requires matched,
)

pub returns : goal.returns
returns c file =
    numbers_told file c.args.state.now c.requires (sym c.are_keys_told.ensures ∙ c.if-not-are_keys_told.false)
    (c.are_numbers_stepped.ensures.0 c.if-not-are_numbers_stepped.false) c.are_messages_apart.result
    (subst (λ (ss : List ServerRow). IfOk c.are_messages_apart.result (λ told. IsTrue told ↔ AreMessagesApart ss)) c.as_slice.ensures c.are_messages_apart.ensures)
