-- Sets of numbers by what is at any server, where each number is that of at most one message: they are what is at the one server.
use Rattle.std.proofs.Common.{◌≡◌, ◌≢◌, ℕ, zero, suc, ◌+◌, ◌<◌, ◌≤◌, Bool, true, false, ◌⊎◌, inl, inr, List, [], ◌∷◌, get_or, length, Option, Some, None, refl, sym, ap, ◌∙◌, arith, subst}
use Rattle.std.specs.Prelude.{◌&&◌, ◌||◌, is_some}
use Rattle.std.specs.List.{All, list_any}
use Rattle.std.proofs.lemmas.Bool.{eq-eqb, false≢true, or_from}
use Rattle.std.proofs.lemmas.List.Elements.{All-cons, All-head, All-nil, All-tail}
use Rattle.xk_base.specs.declared.ids.Number.{Number}
use Rattle.xk_base.specs.declared.messages.Message.{Message}
use Rattle.xk_base.specs.Tables.Counting.{least_below}
use Rattle.xk_base.proofs.CountingLemmas.{least_below-None, least_below-none}
use Rattle.machine_model.specs.Ending.Closing.{any_server, server_passes}
use Rattle.machine_model.specs.Messaging.MessageCounts.{HasAtMostOne, HasOne, count_at, count_in}
use Rattle.machine_model.specs.Messaging.Messages.{is_of_number}
use Rattle.machine_model.specs.State.Machine.{Machine, Server}
use Rattle.machine_model.specs.State.Servers.{messages_of}
use Rattle.machine_model.proofs.Matching.CountLemmas.{count_in-append, none_pass, one_if}
use Rattle.machine_model.proofs.Matching.OneMessageLemmas.{one_is_there, same_or_not}

-- ---- any server

-- none passes
pub no_server : (m : Machine) (test : ℕ → Server → Bool) → ((n : ℕ) (server : Server) → m.servers n ≡ Some server → test n server ≡ false)
    → any_server m test ≡ false
unfolding any_server
no_server m test h = ap is_some (least_below-None m.next_serial (λ n. server_passes (test n) (m.servers n)) (λ n l. at n (m.servers n) refl))
  where
    at : (n : ℕ) (o : Option Server) → m.servers n ≡ o → server_passes (test n) o ≡ false
    at n None e = refl
    at n (Some server) e = h n server e

-- one passes
pub a_server : (m : Machine) (test : ℕ → Server → Bool) (k : ℕ) (server : Server) → m.servers k ≡ Some server → k < m.next_serial
    → test k server ≡ true → any_server m test ≡ true
unfolding any_server
a_server m test k server e low passes = go (least_below m.next_serial (λ n. server_passes (test n) (m.servers n))) refl
  where
    go : (o : Option ℕ) → least_below m.next_serial (λ n. server_passes (test n) (m.servers n)) ≡ o → is_some o ≡ true
    go (Some n) q = refl
    go None q =
        absurd (false≢true (sym (least_below-none m.next_serial (λ n. server_passes (test n) (m.servers n)) q k low)
        ∙ ap (server_passes (test k)) e ∙ passes))

-- all but one fail
pub only_server : (m : Machine) (test : ℕ → Server → Bool) (k : ℕ) (server : Server) → m.servers k ≡ Some server → k < m.next_serial
    → ((n : ℕ) (other : Server) → n ≢ k → m.servers n ≡ Some other → test n other ≡ false)
    → any_server m test ≡ test k server
only_server m test k server e low others = go (test k server) refl
  where
    here : (other : Server) → m.servers k ≡ Some other → test k server ≡ false → test k other ≡ false
    here other q f = sym (ap (server_passes (test k)) (sym e ∙ q)) ∙ f

    go : (b : Bool) → test k server ≡ b → any_server m test ≡ b
    go true q = a_server m test k server e low q
    go false q = no_server m test (λ n other f. elim (same_or_not n k) [
      | inl same ↦ subst (λ j. (x : Server) → m.servers j ≡ Some x → test j x ≡ false) (sym same) (λ x g. here x g q) other f
      | inr apart ↦ others n other apart f
    ])

-- ---- lists with one message of a number

-- none of the number, and so none of it that passes
pub none_listed : (number : Number) (Q : Message → Bool) (xs : List Message) → count_in (is_of_number number) xs ≡ 0
    → list_any (λ y. is_of_number number y && Q y) xs ≡ false
none_listed number Q xs e = go xs (none_pass (is_of_number number) xs e)
  where
    go : (ys : List Message) → All (λ y. is_of_number number y ≡ false) ys → list_any (λ y. is_of_number number y && Q y) ys ≡ false
    go [] all = refl
    go (y ∷ ys) all =
        or_from (is_of_number number y && Q y) (list_any (λ z. is_of_number number z && Q z) ys)
        (ap (λ b. b && Q y) (All-head (λ z. is_of_number number z ≡ false) y ys all)) (go ys (All-tail (λ z. is_of_number number z ≡ false) y ys all))

-- no two messages of the list have one number
abbrev pub AreApart : List Message → Type 0
AreApart xs = (number : Number) → count_in (is_of_number number) xs ≤ 1

-- then one of a message's number that passes is the message
pub one_listed : (Q : Message → Bool) (xs : List Message) → AreApart xs
    → All (λ x. list_any (λ y. is_of_number x.number y && Q y) xs ≡ Q x) xs
unfolding count_in
one_listed Q [] apart = All-nil (λ x. list_any (λ y. is_of_number x.number y && Q y) [] ≡ Q x)
one_listed Q (x ∷ xs) apart =
    All-cons (λ z. list_any (λ y. is_of_number z.number y && Q y) (x ∷ xs) ≡ Q z) x xs here
    (λ j d low. there (get_or xs j d) (counted xs j d low) (one_listed Q xs rest j d low))
  where
    self : (z : Message) → is_of_number z.number z ≡ true
    self z = eq-eqb z.number.0 z.number.0 refl

    rest : AreApart xs
    rest number = let both : one_if (is_of_number number x) + count_in (is_of_number number) xs ≤ 1 = apart number in omega arith

    -- an element is counted
    counted : (ys : List Message) (j : ℕ) (d : Message) → j < length ys → 1 ≤ count_in (is_of_number (get_or ys j d).number) ys
    counted ys j d low = go (count_in (is_of_number (get_or ys j d).number) ys) refl
      where
        go : (c : ℕ) → count_in (is_of_number (get_or ys j d).number) ys ≡ c → 1 ≤ c
        go zero e = absurd (false≢true (sym (none_pass (is_of_number (get_or ys j d).number) ys e j d low) ∙ self (get_or ys j d)))
        go (suc c) e = omega arith

    or_false : (b : Bool) → (b || false) ≡ b
    or_false true = refl
    or_false false = refl

    here : list_any (λ y. is_of_number x.number y && Q y) (x ∷ xs) ≡ Q x
    here =
        let one : one_if (is_of_number x.number x) ≡ 1 = ap one_if (self x) in
        let both : one_if (is_of_number x.number x) + count_in (is_of_number x.number) xs ≤ 1 = apart x.number in
        let none : count_in (is_of_number x.number) xs ≡ 0 = omega arith in
        (λ i. (self x i && Q x) || none_listed x.number Q xs none i) ∙ or_false (Q x)

    there : (z : Message) → 1 ≤ count_in (is_of_number z.number) xs → list_any (λ y. is_of_number z.number y && Q y) xs ≡ Q z
        → list_any (λ y. is_of_number z.number y && Q y) (x ∷ xs) ≡ Q z
    there z some same = go (is_of_number z.number x) refl
      where
        go : (b : Bool) → is_of_number z.number x ≡ b → ((b && Q x) || list_any (λ y. is_of_number z.number y && Q y) xs) ≡ Q z
        go false e = same
        go true e =
            let one : one_if (is_of_number z.number x) ≡ 1 = ap one_if e in
            let both : one_if (is_of_number z.number x) + count_in (is_of_number z.number) xs ≤ 1 = apart z.number in
            absurd (omega arith)

-- an element's number is counted
pub number_counted : (xs : List Message) (j : ℕ) (d : Message) → j < length xs → 1 ≤ count_in (is_of_number (get_or xs j d).number) xs
number_counted xs j d low = go (count_in (is_of_number (get_or xs j d).number) xs) refl
  where
    go : (c : ℕ) → count_in (is_of_number (get_or xs j d).number) xs ≡ c → 1 ≤ c
    go zero e =
        absurd (false≢true (sym (none_pass (is_of_number (get_or xs j d).number) xs e j d low)
        ∙ eq-eqb (get_or xs j d).number.0 (get_or xs j d).number.0 refl))
    go (suc c) e = omega arith

-- ---- servers with one message of a number

module _ (s : ℕ → Option Server) (apart : (number : Number) → HasAtMostOne s (is_of_number number)) where
  -- where a message of the number is
  pub only_at : (number : Number) (k : ℕ) → 1 ≤ count_at (is_of_number number) (s k)
      → (n : ℕ) → n ≢ k → count_at (is_of_number number) (s n) ≡ 0
  only_at number k some n other = elim (apart number) [
    | inl none ↦ let here : count_at (is_of_number number) (s k) ≡ 0 = none k in absurd (omega arith)
    | inr one ↦ one.elsewhere n (λ same. other (same ∙ sym (one_is_there s (is_of_number number) one k some)))
  ]

  at_most : (number : Number) (k : ℕ) → count_at (is_of_number number) (s k) ≤ 1
  at_most number k = elim (apart number) [
    | inl none ↦ let here : count_at (is_of_number number) (s k) ≡ 0 = none k in omega arith
    | inr one ↦ go one (same_or_not k one.serial)
  ]
    where
      go : (one : HasOne s (is_of_number number)) → (k ≡ one.serial) ⊎ (k ≢ one.serial) → count_at (is_of_number number) (s k) ≤ 1
      go one (inl same) =
          let here : count_at (is_of_number number) (s k) ≡ 1 = ap (λ j. count_at (is_of_number number) (s j)) same ∙ one.here in omega arith
      go one (inr other) = let none : count_at (is_of_number number) (s k) ≡ 0 = one.elsewhere k other in omega arith

  -- the messages of a server have numbers of their own, and so have its queue and what it holds
  module _ (k : ℕ) (server : Server) (there : s k ≡ Some server) where
    sum_of : (number : Number) → count_in (is_of_number number) server.queued + count_in (is_of_number number) server.held ≤ 1
    sum_of number =
        let most : count_at (is_of_number number) (s k) ≤ 1 = at_most number k in
        let same : count_at (is_of_number number) (s k) ≡ count_in (is_of_number number) server.queued + count_in (is_of_number number) server.held =
        ap (count_at (is_of_number number)) there ∙ count_in-append (is_of_number number) server.queued server.held in
        omega arith

    pub messages_apart : AreApart (messages_of server)
    messages_apart number =
        let most : count_at (is_of_number number) (s k) ≤ 1 = at_most number k in
        let same : count_at (is_of_number number) (s k) ≡ count_in (is_of_number number) (messages_of server) =
        ap (count_at (is_of_number number)) there in
        omega arith

    pub queued_apart : AreApart server.queued
    queued_apart number =
        let sum : count_in (is_of_number number) server.queued + count_in (is_of_number number) server.held ≤ 1 = sum_of number in omega arith

    pub held_apart : AreApart server.held
    held_apart number =
        let sum : count_in (is_of_number number) server.queued + count_in (is_of_number number) server.held ≤ 1 = sum_of number in omega arith

    -- a queued message's number isn't held, and a held one's isn't queued
    pub queued_not_held : (j : ℕ) (d : Message) → j < length server.queued → count_in (is_of_number (get_or server.queued j d).number) server.held ≡ 0
    queued_not_held j d low =
        let some : 1 ≤ count_in (is_of_number (get_or server.queued j d).number) server.queued = number_counted server.queued j d low in
        let sum : count_in (is_of_number (get_or server.queued j d).number) server.queued + count_in (is_of_number (get_or server.queued j d).number) server.held ≤ 1 =
        sum_of (get_or server.queued j d).number in
        omega arith

    pub held_not_queued : (j : ℕ) (d : Message) → j < length server.held → count_in (is_of_number (get_or server.held j d).number) server.queued ≡ 0
    held_not_queued j d low =
        let some : 1 ≤ count_in (is_of_number (get_or server.held j d).number) server.held = number_counted server.held j d low in
        let sum : count_in (is_of_number (get_or server.held j d).number) server.queued + count_in (is_of_number (get_or server.held j d).number) server.held ≤ 1 =
        sum_of (get_or server.held j d).number in
        omega arith

    some_queued : (j : ℕ) (d : Message) → j < length server.queued → 1 ≤ count_at (is_of_number (get_or server.queued j d).number) (s k)
    some_queued j d low =
        let some : 1 ≤ count_in (is_of_number (get_or server.queued j d).number) server.queued = number_counted server.queued j d low in
        let same : count_at (is_of_number (get_or server.queued j d).number) (s k)
        ≡ count_in (is_of_number (get_or server.queued j d).number) server.queued + count_in (is_of_number (get_or server.queued j d).number) server.held =
        ap (count_at (is_of_number (get_or server.queued j d).number)) there
        ∙ count_in-append (is_of_number (get_or server.queued j d).number) server.queued server.held in
        omega arith

    some_held : (j : ℕ) (d : Message) → j < length server.held → 1 ≤ count_at (is_of_number (get_or server.held j d).number) (s k)
    some_held j d low =
        let some : 1 ≤ count_in (is_of_number (get_or server.held j d).number) server.held = number_counted server.held j d low in
        let same : count_at (is_of_number (get_or server.held j d).number) (s k)
        ≡ count_in (is_of_number (get_or server.held j d).number) server.queued + count_in (is_of_number (get_or server.held j d).number) server.held =
        ap (count_at (is_of_number (get_or server.held j d).number)) there
        ∙ count_in-append (is_of_number (get_or server.held j d).number) server.queued server.held in
        omega arith

    -- at any other server there is none of its number
    pub queued_only_here : (j : ℕ) (d : Message) → j < length server.queued → (n : ℕ) → n ≢ k
        → count_at (is_of_number (get_or server.queued j d).number) (s n) ≡ 0
    queued_only_here j d low = only_at (get_or server.queued j d).number k (some_queued j d low)

    pub held_only_here : (j : ℕ) (d : Message) → j < length server.held → (n : ℕ) → n ≢ k
        → count_at (is_of_number (get_or server.held j d).number) (s n) ≡ 0
    held_only_here j d low = only_at (get_or server.held j d).number k (some_held j d low)
