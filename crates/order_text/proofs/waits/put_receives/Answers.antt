use Rattle.std.proofs.Common.{◌≡◌, ◌++◌, ◌∙◌, [], ℕ, List, OnOk, ap, refl, subst}
use Rattle.std.specs.Option.{option_map, option_map_or}
use Rattle.std.specs.Prelude.{codes}
use Rattle.snapshot_rows.specs.declared.state.ServerRow.{ServerRow}
use Rattle.snapshot_rows.specs.Machines.{servers_of}
use Rattle.order_text.specs.Texts.{server_text}
use Rattle.order_text.proofs.TextLemmas.{two_pieces}
use Rattle.order_text.proofs.waits.put_receives.Goals as goal

pub returns : goal.returns
returns c =
    let name = λ (rows : List ServerRow). option_map_or (server_text c.args.named) (option_map (λ server. server.sid) (servers_of rows c.args.serial)) [] in
    subst (λ (xs : List ℕ). OnOk c.put_server.result (c.put_server.new.text.items ≡ xs))
    (two_pieces c.args.text.now.items (codes " receives") (name c.as_slice.result.now) c.put.new.text.items _ c.in_ok-put.ensures refl
    ∙ ap (λ (rows : List ServerRow). c.args.text.now.items ++ (codes " receives" ++ name rows)) c.as_slice.ensures)
    c.put_server.ensures
