-- No two messages have one number exactly where their numbers differ as keys.
use Rattle.std.proofs.Common.{◌≡◌, ℕ, List, [], ◌∷◌, ◌++◌, map, refl, ap, subst, ◌∙◌, ◌↔◌}
use Rattle.std.specs.List.{flat_map, IsDistinct}
use Rattle.std.proofs.lemmas.List.{map-append}
use Rattle.snapshot_rows.specs.declared.state.MessageRow.{MessageRow}
use Rattle.snapshot_rows.specs.declared.state.ServerRow.{ServerRow}
use Rattle.snapshot_rows.specs.PageParts.{same_key}
use Rattle.snapshot_matching.specs.ServerParts.{messages_at, message_key, message_keys, AreMessagesApart}
use Rattle.snapshot_rows.proofs.Keys.NumberLemmas.{numbers_told}

keys_listed : (rows : List ServerRow) → map message_key (flat_map messages_at rows) ≡ flat_map message_keys rows
keys_listed [] = refl
keys_listed (s ∷ rows) =
    map-append message_key (messages_at s) (flat_map messages_at rows)
    ∙ ap (λ (ks : List (ℕ × ℕ)). ks ++ map message_key (flat_map messages_at rows)) (map-append message_key s.queued s.held)
    ∙ ap (λ (ks : List (ℕ × ℕ)). message_keys s ++ ks) (keys_listed rows)

pub messages_told : (rows : List ServerRow) → IsDistinct same_key (flat_map message_keys rows) ↔ AreMessagesApart rows
messages_told rows =
    subst (λ (ks : List (ℕ × ℕ)). IsDistinct same_key ks ↔ AreMessagesApart rows) (keys_listed rows)
    (numbers_told (λ (m : MessageRow). m.number) (flat_map messages_at rows))
