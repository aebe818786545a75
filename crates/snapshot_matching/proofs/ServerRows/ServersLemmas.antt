-- Servers are matched exactly where tests of the rows hold, and no two messages have one number.
use Rattle.std.proofs.Common.{◌≡◌, ℕ, ◌≤◌, Bool, true, cond, leb, List, length, sym, subst, refl, ◌↔◌}
use Rattle.std.specs.Prelude.{◌&&◌}
use Rattle.std.specs.List.{list_all, flat_map, count_by}
use Rattle.std.proofs.lemmas.Bool.{and_parts}
use Rattle.std.proofs.lemmas.List.Sums.{sum_by-append}
use Rattle.xk_base.specs.declared.ids.Number.{Number}
use Rattle.machine_model.specs.Messaging.Messages.{is_of_number}
use Rattle.machine_model.specs.Messaging.MessageCounts.{HasAtMostOne}
use Rattle.machine_model.specs.Runs.Matched.{AreServersMatched}
use Rattle.snapshot_rows.specs.declared.state.ProcRow.{ProcRow}
use Rattle.snapshot_rows.specs.declared.state.ServerRow.{ServerRow}
use Rattle.snapshot_rows.specs.Order.{server_key, Ascend}
use Rattle.snapshot_rows.specs.Machines.{servers_of, processes_of}
use Rattle.snapshot_matching.specs.ServerParts.{is_server_living, has_slots, is_numbered, messages_at, are_few_apart, AreMessagesApart}
use Rattle.snapshot_matching.proofs.ServerRows.ServerLemmas.{living_told, slots_told, sids_told, few_told}
use Rattle.snapshot_matching.proofs.ServerRows.TotalLemmas.{total, listed, at_most_total}

number_of : ℕ → Number
number_of n = record { 0 = n }

-- ---- no two messages have one number

counted : (rows : List ServerRow) (n : ℕ) → count_by (is_numbered n) (flat_map messages_at rows) ≡ total (is_numbered n) rows
counted rows n = listed messages_at (is_numbered n) (is_numbered n) (λ s. sum_by-append (λ m. cond (is_numbered n m) 1 0) s.queued s.held) rows

pub messages_apart_told : (rows : List ServerRow) → Ascend server_key rows
    → AreMessagesApart rows ↔ ((number : Number) → HasAtMostOne (servers_of rows) (is_of_number number))
unfolding number_of
messages_apart_told rows ascend =
    let most = λ (number : Number). at_most_total (is_of_number number) (is_numbered number.0) (λ m. refl) rows ascend in (
      λ apart number. (most number).0 (subst (λ (k : ℕ). k ≤ 1) (counted rows number.0) (apart number.0)),
      λ few n. subst (λ (k : ℕ). k ≤ 1) (sym (counted rows n)) ((most (number_of n)).1 (few (number_of n))),
    )

-- ---- all

all_four : (a b c d : Bool) → a ≡ true → b ≡ true → c ≡ true → d ≡ true → (a && (b && (c && d))) ≡ true
all_four a b c d p q r s = rw (p, q, r, s) refl

module _ (procs : List ProcRow) (rows : List ServerRow) (ascend : Ascend server_key rows) where
  pub servers_right : are_few_apart procs rows ≡ true → AreMessagesApart rows → AreServersMatched (processes_of procs) (servers_of rows)
  servers_right told apart =
      let one = and_parts (leb (length rows) 64) _ told in
      let two = and_parts (list_all has_slots rows) _ one.1 in
      let three = and_parts (list_all (is_server_living procs) rows) _ two.1 in
      record {
        living = (living_told procs rows ascend).0 three.0;
        sids = (sids_told rows ascend).0 three.1;
        numbers = (messages_apart_told rows ascend).0 apart;
        few = (few_told rows ascend).0 one.0;
        slots = (slots_told rows ascend).0 two.0;
      }

  pub servers_told : AreServersMatched (processes_of procs) (servers_of rows) → are_few_apart procs rows ≡ true
  servers_told matched =
      all_four _ _ _ _ ((few_told rows ascend).1 matched.few) ((slots_told rows ascend).1 matched.slots)
      ((living_told procs rows ascend).1 matched.living) ((sids_told rows ascend).1 matched.sids)

  pub apart_of : AreServersMatched (processes_of procs) (servers_of rows) → AreMessagesApart rows
  apart_of matched = (messages_apart_told rows ascend).1 matched.numbers
