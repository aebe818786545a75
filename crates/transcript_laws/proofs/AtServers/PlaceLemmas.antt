-- What one cause makes of where a message is: how it comes to a server, and how it goes.
use Rattle.std.proofs.Common.{◌≡◌, ◌≢◌, ℕ, ◌⊎◌, inl, inr, Bool, true, false, List, [], ◌∷◌, ◌++◌, cond, drop, filter, map, Some, refl, sym, ap, ◌∙◌, subst}
use Rattle.std.specs.Prelude.{◌&&◌, ◌||◌, if◌then◌else◌, not}
use Rattle.std.specs.List.{list_any}
use Rattle.std.proofs.lemmas.Bool.{eqb-true, false≢true, or_parts}
use Rattle.std.proofs.lemmas.List.Folds.{list_any-append}
use Rattle.std.proofs.lemmas.Option.{none-some, same_Some}
use Rattle.xk_base.specs.declared.ids.Number.{Number}
use Rattle.xk_base.specs.declared.ids.Pid.{Pid}
use Rattle.xk_base.specs.declared.messages.Message.{Message}
use Rattle.xk_base.specs.Calls.Kinds.{is_answered}
use Rattle.machine_model.specs.Ending.Closing.{senderless_from, with_senderless_from, without_queued_from}
use Rattle.machine_model.specs.Messaging.Messages.{is_of_number, is_sent_from, oldest, with_queued, with_received, without_held, without_oldest}
use Rattle.machine_model.specs.Runs.Moments.{Cause}
use Rattle.machine_model.specs.State.Machine.{Machine, Server}
use Rattle.machine_model.proofs.Matching.OneMessageLemmas.{same_or_not}
use Rattle.transcript_laws.specs.AtServers.{Brings, ByDelivery, ByReturn, BySender, ByServer, EndsAt, IsAt}
use Rattle.transcript_laws.specs.Following.{Holds, Keeping, Lacks, Queues, keeping, keeping_by}
use Rattle.transcript_laws.specs.Serving.{DiesIn, Ends, Forwards, Founded, FromQueue, IsReturned, ListStep, Lists, LosesSender}
use Rattle.transcript_laws.specs.Serving.{Queues as QueuesOne, Receives, Returns, ServerStep, Stays, Takes, told_by}
use Rattle.transcript_laws.proofs.Following.EndLemmas.{left_any, senderless_any}
use Rattle.transcript_laws.proofs.Following.KeepLemmas.{queued_other, received_other, returned_other, this_last}
use Rattle.transcript_laws.proofs.Following.SendLemmas.{lacks_both}
use Rattle.transcript_laws.proofs.Following.StandLemmas.{holds_not_lacks, queues_not_lacks}

module _ (number : Number) where
  abbrev test : Message → Bool
  test = is_of_number number

  -- ---- lists

  pub number_of : (x : Message) → test x ≡ true → x.number ≡ number
  number_of x e = let same : x.number.0 ≡ number.0 = eqb-true x.number.0 number.0 e in λ i. record { 0 = same i }

  pub oldest_other : (xs : List Message) (x : Message) → oldest xs ≡ Some x → list_any test xs ≡ false → (test x ≡ false) × (list_any test (drop 1 xs) ≡ false)
  oldest_other [] x first e = absurd (none-some x first)
  oldest_other (y ∷ xs) x first e =
      let parts = or_parts (test y) (list_any test xs) e in
      (ap test (sym (same_Some y x first)) ∙ parts.0, parts.1)

  -- the oldest of none but others, before none
  all_other : (xs : List Message) (x : Message) → oldest xs ≡ Some x → test x ≡ false → list_any test (drop 1 xs) ≡ false → list_any test xs ≡ false
  all_other [] x first e rest = refl
  all_other (y ∷ xs) x first e rest = (λ i. (ap test (same_Some y x first) ∙ e) i || rest i)

  pub oldest_listed : (xs : List Message) (x : Message) → oldest xs ≡ Some x → test x ≡ true → list_any test xs ≡ true
  oldest_listed [] x first e = absurd (none-some x first)
  oldest_listed (y ∷ xs) x first e = (λ i. (ap test (same_Some y x first) ∙ e) i || list_any test xs)

  before_last : (xs : List Message) (x : Message) → list_any test (xs ++ x ∷ []) ≡ false → list_any test xs ≡ false
  before_last xs x e = (or_parts (list_any test xs) (list_any test (x ∷ [])) (sym (list_any-append test xs (x ∷ [])) ∙ e)).0

  before_received : (b : Bool) (xs : List Message) (x : Message) → list_any test (if b then xs ++ x ∷ [] else xs) ≡ false → list_any test xs ≡ false
  before_received true xs x e = before_last xs x e
  before_received false xs x e = e

  -- what is left out of it is of the process
  pub sent_away : (pid : Pid) (xs : List Message) → list_any test xs ≡ true → list_any test (filter (λ x. not (is_sent_from pid x)) xs) ≡ false
      → list_any (λ x. test x && is_sent_from pid x) xs ≡ true
  sent_away pid [] some none = absurd (false≢true some)
  sent_away pid (x ∷ xs) some none = go (λ r s. sent_away pid xs r s) (test x) (is_sent_from pid x) refl refl some none
    where
      go : (list_any test xs ≡ true → list_any test (filter (λ y. not (is_sent_from pid y)) xs) ≡ false → list_any (λ y. test y && is_sent_from pid y) xs ≡ true)
          → (t b : Bool) → test x ≡ t → is_sent_from pid x ≡ b → (t || list_any test xs) ≡ true
          → list_any test (cond (not b) (x ∷ filter (λ y. not (is_sent_from pid y)) xs) (filter (λ y. not (is_sent_from pid y)) xs)) ≡ false
          → ((test x && is_sent_from pid x) || list_any (λ y. test y && is_sent_from pid y) xs) ≡ true
      go rest true true p q r s = (λ i. (p i && q i) || list_any (λ y. test y && is_sent_from pid y) xs)
      go rest true false p q r s = absurd (false≢true (sym (or_parts (test x) (list_any test (filter (λ y. not (is_sent_from pid y)) xs)) s).0 ∙ p))
      go rest false true p q r s = (λ i. (p i && is_sent_from pid x) || rest r s i)
      go rest false false p q r s =
          (λ i. (p i && is_sent_from pid x)
          || rest r (or_parts (test x) (list_any test (filter (λ y. not (is_sent_from pid y)) xs)) s).1 i)

  -- ---- one server

  pub lacks : (server : Server) → list_any test server.queued ≡ false → list_any test server.held ≡ false → keeping number (Some server) ≡ Lacks
  lacks server p q = (λ i. keeping_by (p i) (q i))

  pub lacks_parts : (server : Server) → keeping number (Some server) ≡ Lacks → (list_any test server.queued ≡ false) × (list_any test server.held ≡ false)
  lacks_parts server e = lacks_both (list_any test server.queued) (list_any test server.held) e

  pub queued_at : (server : Server) → list_any test server.queued ≡ true → keeping number (Some server) ≢ Lacks
  queued_at server e none = queues_not_lacks (sym (ap (λ b. keeping_by b (list_any test server.held)) e) ∙ none)

  -- ---- it comes

  module _ (n : ℕ) (cause : Cause) (m next : Machine) (Dies : Pid → Type 0) where
    list_comes : (before after : Server) → ListStep n cause m next Dies before after → keeping number (Some before) ≡ Lacks
        → (keeping number (Some after) ≡ Lacks) ⊎ Brings number n cause m
    list_comes before after (QueuesOne x a is) none = go (test x) refl
      where
        go : (b : Bool) → test x ≡ b → (keeping number (Some after) ≡ Lacks) ⊎ Brings number n cause m
        go true e = inr (record { message = x; numbered = number_of x e; arrives = a })
        go false e = inl (ap (λ (s : Server). keeping number (Some s)) is ∙ (queued_other number x before e ∙ none))
    list_comes before after (Receives x who a empty own waits is) none = go (test x) refl
      where
        go : (b : Bool) → test x ≡ b → (keeping number (Some after) ≡ Lacks) ⊎ Brings number n cause m
        go true e = inr (record { message = x; numbered = number_of x e; arrives = a })
        go false e = inl (ap (λ (s : Server). keeping number (Some s)) is ∙ (received_other number x before e ∙ none))
    list_comes before after (Takes x who first own r is) none =
        let parts = lacks_parts before none in
        let other = oldest_other before.queued x first parts.0 in
        inl (ap (λ (s : Server). keeping number (Some s)) is
        ∙ (received_other number x (without_oldest before) other.0 ∙ lacks (without_oldest before) other.1 parts.1))
    list_comes before after (Returns k r is) none =
        let parts = lacks_parts before none in
        inl (ap (λ (s : Server). keeping number (Some s)) is
        ∙ lacks (without_held k before) parts.0 (left_any number (λ x. not (is_of_number k x)) before.held parts.1))
    list_comes before after (Forwards to x r from kept is) none =
        let parts = lacks_parts before none in
        inl (ap (λ (s : Server). keeping number (Some s)) is
        ∙ lacks (without_held x.number before) parts.0 (left_any number (λ y. not (is_of_number x.number y)) before.held parts.1))
    list_comes before after (LosesSender pid dies is) none =
        let parts = lacks_parts before none in
        inl (ap (λ (s : Server). keeping number (Some s)) is
        ∙ lacks (with_senderless_from pid (without_queued_from pid before))
        (left_any number (λ x. not (is_sent_from pid x)) before.queued parts.0) (senderless_any number pid before.held ∙ parts.1))

    lacks_next : ServerStep n cause m next Dies → keeping number (m.servers n) ≡ Lacks
        → (keeping number (next.servers n) ≡ Lacks) ⊎ Brings number n cause m
    lacks_next (Stays e) none = inl (ap (keeping number) e ∙ none)
    lacks_next (Founded server was now queued held) none =
        inl (ap (keeping number) now ∙ lacks server (ap (list_any test) queued) (ap (list_any test) held))
    lacks_next (Ends server there e why) none = inl (ap (keeping number) e)
    lacks_next (Lists before after was now step) none = go (list_comes before after step (sym (ap (keeping number) was) ∙ none))
      where
        go : (keeping number (Some after) ≡ Lacks) ⊎ Brings number n cause m → (keeping number (next.servers n) ≡ Lacks) ⊎ Brings number n cause m
        go (inl e) = inl (ap (keeping number) now ∙ e)
        go (inr b) = inr b

    -- what is at the server afterwards was there before, or is brought there
    pub server_comes : ServerStep n cause m next Dies → IsAt number n next → IsAt number n m ⊎ Brings number n cause m
    server_comes step at = go (keeping number (m.servers n)) refl
      where
        from_none : (keeping number (next.servers n) ≡ Lacks) ⊎ Brings number n cause m → IsAt number n m ⊎ Brings number n cause m
        from_none (inl e) = absurd (at e)
        from_none (inr b) = inr b

        go : (k : Keeping) → keeping number (m.servers n) ≡ k → IsAt number n m ⊎ Brings number n cause m
        go Queues e = inl (λ none. queues_not_lacks (sym e ∙ none))
        go Holds e = inl (λ none. holds_not_lacks (sym e ∙ none))
        go Lacks e = from_none (lacks_next step e)

  -- ---- it goes

  -- to another server
  pub record IsElsewhere (next : Machine) : Type 0 where
    pub to : ℕ
    pub at : IsAt number to next

  module _ (n : ℕ) (cause : Cause) (m next : Machine) where
    abbrev Goes : Type 0
    Goes = EndsAt number n cause m ⊎ IsElsewhere next

    list_goes : (before after : Server) → m.servers n ≡ Some before → ListStep n cause m next (DiesIn (told_by cause m)) before after
        → keeping number (Some before) ≢ Lacks → keeping number (Some after) ≡ Lacks → Goes
    list_goes before after there (QueuesOne x a is) some none =
        let parts = lacks_parts (with_queued x before) (sym (ap (λ (s : Server). keeping number (Some s)) is) ∙ none) in
        absurd (some (lacks before (before_last before.queued x parts.0) parts.1))
    list_goes before after there (Receives x who a empty own waits is) some none =
        let parts = lacks_parts (with_received x before) (sym (ap (λ (s : Server). keeping number (Some s)) is) ∙ none) in
        absurd (some (lacks before parts.0 (before_received (is_answered x.kind) before.held x parts.1)))
    list_goes before after there (Takes x who first own r is) some none = go (test x) refl
      where
        parts : (list_any test (drop 1 before.queued) ≡ false) × (list_any test (if is_answered x.kind then before.held ++ x ∷ [] else before.held) ≡ false)
        parts = lacks_parts (with_received x (without_oldest before)) (sym (ap (λ (s : Server). keeping number (Some s)) is) ∙ none)

        by_answer : test x ≡ true → (b : Bool) → is_answered x.kind ≡ b → Goes
        by_answer e true q =
            absurd (false≢true (sym parts.1
            ∙ (ap (λ c. list_any test (if c then before.held ++ x ∷ [] else before.held)) q ∙ this_last number before.held x e)))
        by_answer e false q =
            inl (ByDelivery who x (record { n = n; server = before; there = there; own = own; reaches = FromQueue first r }) refl (number_of x e) q)

        go : (b : Bool) → test x ≡ b → Goes
        go true e = by_answer e (is_answered x.kind) refl
        go false e =
            absurd (some (lacks before (all_other before.queued x first e parts.0) (before_received (is_answered x.kind) before.held x parts.1)))
    list_goes before after there (Returns k r is) some none = go (same_or_not k.0 number.0)
      where
        go : (k.0 ≡ number.0) ⊎ (k.0 ≢ number.0) → Goes
        go (inl same) =
            let equal : k ≡ number = λ i. record { 0 = same i } in
            inl (ByReturn before there (subst (λ j. IsReturned j before cause m) equal r))
        go (inr apart) =
            absurd (some (sym (returned_other number k before (λ same. apart (sym same))) ∙ (sym (ap (λ (s : Server). keeping number (Some s)) is) ∙ none)))
    list_goes before after there (Forwards to x r from kept is) some none = go (same_or_not x.number.0 number.0)
      where
        go : (x.number.0 ≡ number.0) ⊎ (x.number.0 ≢ number.0) → Goes
        go (inl same) =
            let equal : x.number ≡ number = λ i. record { 0 = same i } in
            inr (record { to = to; at = subst (λ j. keeping j (next.servers to) ≢ Lacks) equal kept })
        go (inr apart) =
            absurd (some (sym (returned_other number x.number before (λ same. apart (sym same)))
            ∙ (sym (ap (λ (s : Server). keeping number (Some s)) is) ∙ none)))
    list_goes before after there (LosesSender pid dies is) some none = go (list_any test before.queued) refl
      where
        parts : (list_any test (filter (λ x. not (is_sent_from pid x)) before.queued) ≡ false) × (list_any test (map (senderless_from pid) before.held) ≡ false)
        parts =
            lacks_parts (with_senderless_from pid (without_queued_from pid before)) (sym (ap (λ (s : Server). keeping number (Some s)) is) ∙ none)

        go : (b : Bool) → list_any test before.queued ≡ b → Goes
        go true e = inl (BySender before pid there dies (sent_away pid before.queued e parts.0))
        go false e = absurd (some (lacks before e (sym (senderless_any number pid before.held) ∙ parts.1)))

    -- what was at the server and isn't there afterwards is ended there, or is at another
    pub server_goes : ServerStep n cause m next (DiesIn (told_by cause m)) → IsAt number n m → keeping number (next.servers n) ≡ Lacks → Goes
    server_goes (Stays e) some none = absurd (some (sym (ap (keeping number) e) ∙ none))
    server_goes (Founded server was now queued held) some none = absurd (some (ap (keeping number) was))
    server_goes (Ends server there e why) some none = inl (ByServer server there why)
    server_goes (Lists before after was now step) some none =
        list_goes before after was step (λ e. some (ap (keeping number) was ∙ e)) (sym (ap (keeping number) now) ∙ none)
