-- How many messages pass a test where only some of a state's are back.
use Rattle.std.proofs.Common.{◌≡◌, ℕ, ◌+◌, ◌≤◌, Bool, true, false, cond, List, [], ◌∷◌, map, filter, Option, Some, None, refl, sym, ap, ◌∙◌, arith, inl, inr}
use Rattle.std.specs.List.{All}
use Rattle.std.specs.Option.{option_map}
use Rattle.std.proofs.lemmas.Bool.{cases_eq, false≢true}
use Rattle.std.proofs.lemmas.List.Elements.{All-head, All-tail}
use Rattle.machine_model.proofs.Matching.CountLemmas.{count_in-append, one_if}
use Rattle.machine_model.specs.Messaging.MessageCounts.{HasAtMostOne, HasOne, count_at, count_in}
use Rattle.machine_model.specs.State.Machine.{Server}
use Rattle.snapshot_rows.specs.Machines.{message_of, server_of}
use Rattle.snapshot_rows.specs.declared.state.MessageRow.{MessageRow}
use Rattle.snapshot_rows.specs.declared.state.ServerRow.{ServerRow}
use Rattle.xk_base.specs.declared.messages.Message.{Message}
use Rattle.resume_path.proofs.Seated.ShownBackLemmas.{part_server}

module _ (back : MessageRow → Bool) (test : Message → Bool) where
  -- not more than of all
  fewer : (rows : List MessageRow) → count_in test (map message_of (filter back rows)) ≤ count_in test (map message_of rows)
  unfolding count_in
  fewer [] = omega arith
  fewer (row ∷ rows) = go (back row) (fewer rows)
    where
      go : (b : Bool) → count_in test (map message_of (filter back rows)) ≤ count_in test (map message_of rows)
          → count_in test (map message_of (cond b (row ∷ filter back rows) (filter back rows))) ≤ one_if (test (message_of row)) + count_in test
          (map message_of rows)
      go true rest = omega (arith, rest)
      go false rest = omega (arith, rest)

  -- as many where all that pass are back
  same : (rows : List MessageRow) → All (λ row. test (message_of row) ≡ true → back row ≡ true) rows
      → count_in test (map message_of (filter back rows)) ≡ count_in test (map message_of rows)
  unfolding count_in
  same [] all = refl
  same (row ∷ rows) all =
      go (back row) (test (message_of row)) refl refl (same rows (All-tail (λ x. test (message_of x) ≡ true → back x ≡ true) row rows all))
    where
      go : (b p : Bool) → back row ≡ b → test (message_of row) ≡ p → count_in test (map message_of (filter back rows)) ≡ count_in test (map message_of rows)
          → count_in test (map message_of (cond b (row ∷ filter back rows) (filter back rows))) ≡ one_if (test (message_of row)) + count_in test
          (map message_of rows)
      go true p e f rest = ap (λ n. one_if (test (message_of row)) + n) rest
      go false true e f rest =
          absurd (false≢true (sym e ∙ All-head (λ x. test (message_of x) ≡ true → back x ≡ true) row rows all f))
      go false false e f rest = let nothing : one_if (test (message_of row)) ≡ 0 = ap one_if f in omega (arith, nothing, rest)

  pub fewer_at : (o : Option ServerRow) → count_at test (option_map (part_server back) o) ≤ count_at test (option_map server_of o)
  fewer_at None = omega arith
  fewer_at (Some row) =
      let some = count_in-append test (map message_of (filter back row.queued)) (map message_of (filter back row.held)) in
      let all = count_in-append test (map message_of row.queued) (map message_of row.held) in
      let queued = fewer row.queued in
      let held = fewer row.held in
      omega (arith, some, all, queued, held)

  pub same_at : (row : ServerRow) → All (λ m. test (message_of m) ≡ true → back m ≡ true) row.queued
      → All (λ m. test (message_of m) ≡ true → back m ≡ true) row.held
      → count_at test (Some (part_server back row)) ≡ count_at test (Some (server_of row))
  same_at row queued held =
      count_in-append test (map message_of (filter back row.queued)) (map message_of (filter back row.held))
      ∙ ((λ i. same row.queued queued i + same row.held held i) ∙ sym (count_in-append test (map message_of row.queued) (map message_of row.held)))

-- ---- at all servers

module _ (whole part : ℕ → Option Server) (test : Message → Bool) where
  -- at most one of some passes where at most one of all does
  pub at_most_one : ((n : ℕ) → count_at test (part n) ≤ count_at test (whole n)) → HasAtMostOne whole test → HasAtMostOne part test
  at_most_one less (inl none) = inl (λ n. let few = less n in let nothing = none n in omega (arith, few, nothing))
  at_most_one less (inr one) = elim (cases_eq (count_at test (part one.serial)) 0) [
    | inl nothing ↦ inl (λ n. elim (cases_eq n one.serial) [
      | inl here ↦ ap (λ k. count_at test (part k)) here ∙ nothing
      | inr other ↦ let few = less n in let none = one.elsewhere n other in omega (arith, few, none)
    ])
    | inr anything ↦ inr (record {
      serial = one.serial;
      here = let few = less one.serial in let only = one.here in omega (arith, few, only, anything);
      elsewhere = λ n other. (let few = less n in let none = one.elsewhere n other in omega (arith, few, none));
    })
  ]

  -- exactly one where all that pass are among them
  pub one_too : ((n : ℕ) → count_at test (part n) ≡ count_at test (whole n)) → HasOne whole test → HasOne part test
  one_too alike one = record {
    serial = one.serial;
    here = alike one.serial ∙ one.here;
    elsewhere = λ n other. alike n ∙ one.elsewhere n other;
  }
