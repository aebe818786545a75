use Rattle.std.proofs.Common.{List, ℕ, subst, ◌↔◌}
use Rattle.std.specs.Prelude.{IsTrue}
use Rattle.std.specs.List.{IsDistinct}
use Rattle.snapshot_rows.specs.PageParts.{same_key}
use Rattle.snapshot_matching.proofs.ServerRows.MessageLemmas.{messages_told}
use Rattle.snapshot_matching.proofs.messages.are_messages_apart.Goals as goal

pub returns : goal.returns
returns c =
    let differ = subst (λ (ks : List (ℕ × ℕ)). IsTrue c.are_different.result ↔ IsDistinct same_key ks) c.in_ok-keys.ensures c.are_different.ensures in
    let told = messages_told c.args.servers.now in
    (λ holds. told.0 (differ.0 holds), λ apart. differ.1 (told.1 apart))
