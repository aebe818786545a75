use Rattle.std.proofs.Common.{◌≡◌, ◌++◌, ◌∙◌, ℕ, Bool, List, OnOk, Option, ap, false, refl, subst, sym, true}
use Rattle.std.specs.List.{list_any}
use Rattle.std.specs.Prelude.{◌==◌, codes}
use Rattle.std.proofs.lemmas.List.{append-nil}
use Rattle.order_model.specs.Endings.{Held, Kept, Queued}
use Rattle.snapshot_rows.specs.declared.state.MessageRow.{MessageRow}
use Rattle.snapshot_rows.specs.Machines.{server_of}
use Rattle.xk_base.specs.declared.ids.Sid.{Sid}
use Rattle.order_text.specs.Texts.{kept_text, server_text}
use Rattle.order_text.proofs.KeptLemmas.{held_there, kept_here, kept_nowhere, not_there, queued_there, row_place}
use Rattle.order_text.proofs.RowLemmas.{untold_at}
use Rattle.order_text.proofs.TextLemmas.{two_pieces}
use Rattle.order_text.proofs.waits.put_kept.Goals as goal

abbrev has : ℕ → List MessageRow → Bool
has number messages = list_any (λ m. m.number == number) messages

pub returns-then-has_message : goal.returns-then-has_message
returns-then-has_message c file =
    let row = c.server-item.result in
    let there : has c.args.number row.queued ≡ true =
    sym (c.has_message.ensures ∙ ap (has c.args.number) c.as_slice.ensures) ∙ c.if-has_message.true in
    let kept = kept_here file c.args.state.now c.requires c.args.number c.as_slice-servers.result.now c.as_slice-servers.ensures
    c.loop-server.server-index c.loop-server.invariant.rest row ((server_of row).sid, Queued) c.loop-server-test.true c.server-item.is
    (queued_there c.args.number row there) in
    subst (λ (xs : List ℕ). OnOk c.put_at.result (c.put_at.new.text.items ≡ xs))
    (two_pieces c.args.text.now.items (codes ", queued") (server_text c.args.named (record { 0 = row.sid })) c.put.new.text.items _
    (c.in_ok-put.ensures ∙ ap (λ (xs : List ℕ). xs ++ codes ", queued") c.loop-server.invariant.text) refl
    ∙ ap (λ (o : Option (Sid × Kept)). c.args.text.now.items ++ kept_text c.args.named o) (sym kept))
    c.put_at.ensures

pub returns-then-has_message-2 : goal.returns-then-has_message-2
returns-then-has_message-2 c file =
    let row = c.server-item.result in
    let not_queued : has c.args.number row.queued ≡ false =
    sym (c.has_message.ensures ∙ ap (has c.args.number) c.as_slice.ensures) ∙ c.if-has_message.false in
    let there : has c.args.number row.held ≡ true =
    sym (c.has_message-in-loop-server.ensures ∙ ap (has c.args.number) c.as_slice-in-loop-server.ensures) ∙ c.if-has_message-2.true in
    let kept = kept_here file c.args.state.now c.requires c.args.number c.as_slice-servers.result.now c.as_slice-servers.ensures
    c.loop-server.server-index c.loop-server.invariant.rest row ((server_of row).sid, Held) c.loop-server-test.true c.server-item.is
    (held_there c.args.number row not_queued there) in
    subst (λ (xs : List ℕ). OnOk c.put_at-then-has_message-2.result (c.put_at-then-has_message-2.new.text.items ≡ xs))
    (two_pieces c.args.text.now.items (codes ", held") (server_text c.args.named (record { 0 = row.sid })) c.put-then-has_message-2.new.text.items _
    (c.in_ok-put-2.ensures ∙ ap (λ (xs : List ℕ). xs ++ codes ", held") c.loop-server.invariant.text) refl
    ∙ ap (λ (o : Option (Sid × Kept)). c.args.text.now.items ++ kept_text c.args.named o) (sym kept))
    c.put_at-then-has_message-2.ensures

pub loop-server-preserved : goal.loop-server-preserved
loop-server-preserved c =
    let row = c.server-item.result in
    let not_queued : has c.args.number row.queued ≡ false =
    sym (c.has_message.ensures ∙ ap (has c.args.number) c.as_slice.ensures) ∙ c.if-has_message.false in
    let not_held : has c.args.number row.held ≡ false =
    sym (c.has_message-in-loop-server.ensures ∙ ap (has c.args.number) c.as_slice-in-loop-server.ensures) ∙ c.if-has_message-2.false in
    record {
      text = c.loop-server.invariant.text;
      rest =
          sym (untold_at (row_place (record { 0 = c.args.number })) c.as_slice-servers.result.now c.loop-server.server-index row
          c.loop-server-test.true c.server-item.is (not_there c.args.number row not_queued not_held))
          ∙ c.loop-server.invariant.rest;
    }

pub returns : goal.returns
returns c file =
    let nowhere = kept_nowhere file c.args.state.now c.requires c.args.number c.as_slice-servers.result.now c.as_slice-servers.ensures
    c.loop-server.server-index c.loop-server.invariant.rest c.loop-server-test.false in
    c.loop-server.invariant.text
    ∙ (sym (append-nil c.args.text.now.items) ∙ ap (λ (o : Option (Sid × Kept)). c.args.text.now.items ++ kept_text c.args.named o) (sym nowhere))
