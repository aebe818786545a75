-- Messages come back to their seats, one after the other.
use Rattle.std.proofs.Common.{◌≡◌, ℕ, ◌+◌, ◌-◌, ◌≤◌, ◌<◌, Bool, true, false, List, [], ◌∷◌, ◌++◌, length, map, replicate, Option, Some, None, refl, sym, ap, subst, ◌∙◌, arith, inl, inr}
use Rattle.std.specs.Prelude.{◌≢◌, slice_get}
use Rattle.std.specs.List.{filter, insert}
use Rattle.std.specs.Option.{option_map_or}
use Rattle.std.proofs.lemmas.Bool.{cases_eq, cases_lt}
use Rattle.std.proofs.lemmas.List.{get_or-replicate, get_or-set_other, get_or-set_same, get_or_past, length-map, length-replicate, length-set, map_push}
use Rattle.std.proofs.lemmas.Option.{slice_get_within}
use Rattle.msg_queue.specs.Seats.{Seat, changed_at, empty_seat, seat_of, used_of, with_held, with_held_at, with_queued}
use Rattle.msg_queue.specs.declared.held.Held.{Held}
use Rattle.snapshot_rows.specs.declared.state.MessageRow.{MessageRow}
use Rattle.snapshot_rows.specs.declared.state.PageRow.{PageRow}
use Rattle.snapshot_rows.specs.declared.state.ServerRow.{ServerRow}
use Rattle.snapshot_rows.specs.declared.state.State.{State}
use Rattle.xk_base.specs.declared.limits.TheConstants.{SERVER_LIMIT}
use Rattle.resume_path.proofs.Rows.KeptLemmas.{few_kept, filter_fewer, insert_mapped, kept_at, kept_last, many_before, none_behind, same_kept}
use Rattle.resume_path.proofs.Rows.OnceLemmas.{get_first, get_left, get_right, get_second}
use Rattle.resume_path.specs.Messages.{AreBack, row_held, row_seat_with}
use Rattle.resume_path.specs.Standing.{row_messages}

-- two tests give the same of each message of a server
abbrev pub Agree : (MessageRow → Bool) → (MessageRow → Bool) → ServerRow → Type 0
Agree p q server = (l : ℕ) (y : MessageRow) → slice_get (row_messages server) l ≡ Some y → q y ≡ p y

pub same_seat : (pages : List PageRow) (p q : MessageRow → Bool) (server : ServerRow) → Agree p q server
    → row_seat_with pages q server ≡ row_seat_with pages p server
same_seat pages p q server agree = λ i. record {
  queued = map (row_held pages server.pid) (same_kept p q server.queued (λ l y at. agree l y (get_left server.queued server.held l y at)) i);
  held =
      map (row_held pages server.pid) (same_kept p q server.held (λ l y at. agree (length server.queued + l) y (get_right server.queued server.held l ∙ at)) i);
}

module _ (s : State) (p q : MessageRow → Bool) (queues : List Seat) (back : AreBack s p queues) where
  abbrev own_seat : (MessageRow → Bool) → Option ServerRow → Seat
  own_seat test o = option_map_or (row_seat_with s.pages test) o empty_seat

  same_own : (j : ℕ) → ((server : ServerRow) → slice_get s.servers j ≡ Some server → Agree p q server)
      → own_seat q (slice_get s.servers j) ≡ own_seat p (slice_get s.servers j)
  same_own j agree = go (slice_get s.servers j) refl
    where
      go : (o : Option ServerRow) → slice_get s.servers j ≡ o → own_seat q o ≡ own_seat p o
      go None e = refl
      go (Some server) e = same_seat s.pages p q server (agree server e)

  -- no message is back that wasn't
  pub back_same : ((j : ℕ) (server : ServerRow) → slice_get s.servers j ≡ Some server → Agree p q server) → AreBack s q queues
  back_same agree = record { all = back.all; seats = λ j. back.seats j ∙ sym (same_own j (agree j)) }

  module _ (i : ℕ) (low : i < SERVER_LIMIT) (server : ServerRow) (there : slice_get s.servers i ≡ Some server) where
    here : seat_of queues i ≡ row_seat_with s.pages p server
    here = back.seats i ∙ ap (own_seat p) there

    -- what changes is the seat of one server
    pub back_changed : (change : Seat → Seat) → change (row_seat_with s.pages p server) ≡ row_seat_with s.pages q server
        → ((j : ℕ) (other : ServerRow) → j ≢ i → slice_get s.servers j ≡ Some other → Agree p q other) → AreBack s q (changed_at i change queues)
    back_changed change is agree = record {
      all = length-set queues i (change (seat_of queues i)) ∙ back.all;
      seats = λ j. elim (cases_eq j i) [
        | inl same ↦
            ap (λ k. seat_of (changed_at i change queues) k) same
            ∙ (get_or-set_same queues i (change (seat_of queues i)) empty_seat (subst (λ n. i < n) (sym back.all) low)
            ∙ (ap change here ∙ (is ∙ sym (ap (λ k. own_seat q (slice_get s.servers k)) same ∙ ap (own_seat q) there))))
        | inr differ ↦
            get_or-set_other queues i j (change (seat_of queues i)) empty_seat differ
            ∙ (back.seats j ∙ sym (same_own j (λ other e. agree j other differ e)))
      ];
    }

    module _ (k : ℕ) (row : MessageRow) (at : slice_get (row_messages server) k ≡ Some row) (not_yet : p row ≡ false) where
      queued_at : k < length server.queued → slice_get server.queued k ≡ Some row
      queued_at first = sym (get_first server.queued server.held k first) ∙ at

      held_at : length server.queued ≤ k → slice_get server.held (k - length server.queued) ≡ Some row
      held_at second = sym (get_second server.queued server.held k second) ∙ at

      -- there is room for a message that isn't back
      pub room_for : length server.queued + length server.held ≤ 128 → used_of (seat_of queues i) < 128
      room_for few =
          let q_long = length-map (filter p server.queued) (row_held s.pages server.pid) in
          let h_long = length-map (filter p server.held) (row_held s.pages server.pid) in
          let used : used_of (seat_of queues i) ≡ used_of (row_seat_with s.pages p server) = ap used_of here in
          elim (cases_lt k (length server.queued)) [
            | inl first ↦
                let fewer = few_kept p server.queued k row (queued_at first) not_yet in
                let most = filter_fewer p server.held in
                omega (arith, used, q_long, h_long, fewer, most, few)
            | inr second ↦
                let fewer = few_kept p server.held (k - length server.queued) row (held_at second) not_yet in
                let most = filter_fewer p server.queued in
                omega (arith, used, q_long, h_long, fewer, most, few)
          ]

      module _ (passes : q row ≡ true) (agree : (l : ℕ) (y : MessageRow) → slice_get (row_messages server) l ≡ Some y → l ≢ k → q y ≡ p y) where
        abbrev again : Held
        again = row_held s.pages server.pid row

        -- a queued one is the newest where none behind it is back
        pub queued_again : k < length server.queued → ((l : ℕ) (y : MessageRow) → slice_get server.queued l ≡ Some y → k ≤ l → p y ≡ false)
            → with_queued again (row_seat_with s.pages p server) ≡ row_seat_with s.pages q server
        queued_again first behind = λ j. record { queued = sym queued j; held = map (row_held s.pages server.pid) (sym held j) }
          where
            queued : map (row_held s.pages server.pid) (filter q server.queued) ≡ map (row_held s.pages server.pid) (filter p server.queued) ++ again ∷ []
            queued =
                ap (map (row_held s.pages server.pid))
                (kept_last p q server.queued k row (queued_at first) not_yet passes
                (λ l y e differ. agree l y (get_left server.queued server.held l y e) differ) behind)
                ∙ map_push (row_held s.pages server.pid) (filter p server.queued) row

            held : filter q server.held ≡ filter p server.held
            held =
                same_kept p q server.held (λ l y e. agree (length server.queued + l) y (get_right server.queued server.held l ∙ e)
                (λ same. absurd (omega (arith, same, first))))

        module _ (second : length server.queued ≤ k) where
          same_queued : filter q server.queued ≡ filter p server.queued
          same_queued = same_kept p q server.queued (λ l y e. agree l y (get_left server.queued server.held l y e)
              (λ same. (let low = slice_get_within server.queued l y e in absurd (omega (arith, same, second, low)))))

          held_agree : (l : ℕ) (y : MessageRow) → slice_get server.held l ≡ Some y → l ≢ k - length server.queued → q y ≡ p y
          held_agree l y e differ =
              agree (length server.queued + l) y (get_right server.queued server.held l ∙ e) (λ same. differ (omega (arith, same, second)))

          -- a held one is the last where none behind it is back
          pub held_again : ((l : ℕ) (y : MessageRow) → slice_get server.held l ≡ Some y → k - length server.queued ≤ l → p y ≡ false)
              → with_held again (row_seat_with s.pages p server) ≡ row_seat_with s.pages q server
          held_again behind = λ j. record { queued = map (row_held s.pages server.pid) (sym same_queued j); held = sym held j }
            where
              held : map (row_held s.pages server.pid) (filter q server.held) ≡ map (row_held s.pages server.pid) (filter p server.held) ++ again ∷ []
              held =
                  ap (map (row_held s.pages server.pid))
                  (kept_last p q server.held (k - length server.queued) row (held_at second) not_yet passes held_agree behind)
                  ∙ map_push (row_held s.pages server.pid) (filter p server.held) row

          module _ (before : (l : ℕ) (y : MessageRow) → slice_get server.held l ≡ Some y → l < k - length server.queued → p y ≡ true) where
            -- .. and stands at its own place where all before it are
            pub held_again_at : with_held_at (k - length server.queued) again (row_seat_with s.pages p server) ≡ row_seat_with s.pages q server
            held_again_at = λ j. record { queued = map (row_held s.pages server.pid) (sym same_queued j); held = sym held j }
              where
                held : map (row_held s.pages server.pid) (filter q server.held)
                    ≡ insert (map (row_held s.pages server.pid) (filter p server.held)) (k - length server.queued) again
                held =
                    ap (map (row_held s.pages server.pid))
                    (kept_at p q server.held (k - length server.queued) row (held_at second) not_yet passes held_agree before)
                    ∙ insert_mapped (row_held s.pages server.pid) (filter p server.held) (k - length server.queued) row

            pub place_again : k - length server.queued ≤ length (seat_of queues i).held
            place_again =
                let low = slice_get_within server.held (k - length server.queued) row (held_at second) in
                let many = many_before p server.held (k - length server.queued) (omega (arith, low)) before in
                let long = length-map (filter p server.held) (row_held s.pages server.pid) in
                let same : length (seat_of queues i).held ≡ length (row_seat_with s.pages p server).held = ap (λ (seat : Seat). length seat.held) here in
                omega (arith, many, long, same)

-- ---- none is back yet

none_kept : (test : MessageRow → Bool) (rows : List MessageRow) → ((y : MessageRow) → test y ≡ false) → filter test rows ≡ []
none_kept test rows fails = sym (none_behind test rows 0 (λ l y e low. fails y))

empty_at : (n k : ℕ) → seat_of (replicate n empty_seat) k ≡ empty_seat
empty_at n k = elim (cases_lt k n) [
  | inl low ↦ get_or-replicate n k empty_seat empty_seat low
  | inr high ↦ get_or_past (replicate n empty_seat) k empty_seat (let long = length-replicate n empty_seat in omega (arith, long, high))
]

pub none_back : (s : State) (test : MessageRow → Bool) → ((y : MessageRow) → test y ≡ false) → AreBack s test (replicate SERVER_LIMIT empty_seat)
none_back s test fails = record {
  all = length-replicate SERVER_LIMIT empty_seat;
  seats = λ k. empty_at SERVER_LIMIT k ∙ go (slice_get s.servers k);
}
  where
    go : (o : Option ServerRow) → empty_seat ≡ option_map_or (row_seat_with s.pages test) o empty_seat
    go None = refl
    go (Some server) = λ i. record {
      queued = map (row_held s.pages server.pid) (sym (none_kept test server.queued fails) i);
      held = map (row_held s.pages server.pid) (sym (none_kept test server.held fails) i);
    }
