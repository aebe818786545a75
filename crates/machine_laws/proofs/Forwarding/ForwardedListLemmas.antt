-- A message leaves what one server holds, and arrives at another server, perhaps with other words: what that does to counts, and what
-- holds of all servers afterwards.
use Rattle.std.proofs.Common.{◌≡◌, ◌≢◌, ℕ, ◌+◌, ◌≤◌, Bool, true, false, inl, inr, List, [], ◌∷◌, ◌++◌, cond, filter, Option, Some, refl, sym, ap, ◌∙◌, arith, subst, append_assoc}
use Rattle.std.specs.Prelude.{find, not}
use Rattle.std.proofs.lemmas.Bool.{eq-eqb}
use Rattle.std.proofs.lemmas.Option.{none-some, same_Some}
use Rattle.xk_base.specs.declared.messages.Message.{Message}
use Rattle.machine_model.specs.Messaging.MessageCounts.{HasAtMostOne, HasIf, HasNone, HasOne, count_at, count_in}
use Rattle.machine_model.specs.Messaging.Messages.{is_of_number}
use Rattle.machine_model.specs.State.Machine.{Server}
use Rattle.machine_model.specs.State.Servers.{messages_of}
use Rattle.machine_model.proofs.Matching.CountLemmas.{HasMore, more_count, none_pass, one_if}
use Rattle.machine_model.proofs.Matching.OneMessageLemmas.{CountAlike, GetsMessage, gets_alike, gets_one, loses_one, same_or_not}
use Rattle.machine_laws.proofs.Messaging.ClosedServerLemmas.{all_kept}
use Rattle.machine_laws.proofs.Messaging.FilterLemmas.{filter_alike}
use Rattle.machine_laws.proofs.Messaging.OneServerLemmas.{after, gets, loses, now, now_elsewhere, now_here}

-- ---- the message that is found in a list, as the only one of its number

abbrev pub others_of : Message → Message → Bool
others_of x y = not (is_of_number x.number y)

-- where none is of the number, all are kept
kept_all : (x : Message) (xs : List Message) → count_in (is_of_number x.number) xs ≡ 0 → filter (others_of x) xs ≡ xs
kept_all x xs e =
    filter_alike (others_of x) (λ y. true) xs (λ j d low. ap not (none_pass (is_of_number x.number) xs e j d low)) ∙ all_kept xs

behind_more : (y : Message) (old new : List Message) (x : Message) → HasMore old new x → HasMore (y ∷ old) (y ∷ new) x
behind_more y old new x h = record {
  before = y ∷ h.before;
  behind = h.behind;
  less = ap (λ zs. y ∷ zs) h.less;
  more = ap (λ zs. y ∷ zs) h.more;
}

pub after_more : (front old new : List Message) (x : Message) → HasMore old new x → HasMore (front ++ old) (front ++ new) x
after_more front old new x h = record {
  before = front ++ h.before;
  behind = h.behind;
  less = ap (λ zs. front ++ zs) h.less ∙ sym (append_assoc front h.before h.behind);
  more = ap (λ zs. front ++ zs) h.more ∙ sym (append_assoc front h.before (x ∷ h.behind));
}

pub taken_out : (test : Message → Bool) (xs : List Message) (x : Message) → find test xs ≡ Some x
    → count_in (is_of_number x.number) xs ≤ 1 → HasMore (filter (others_of x) xs) xs x
unfolding count_in
taken_out test [] x e one = absurd (none-some x e)
taken_out test (y ∷ xs) x e one = go (λ later less. taken_out test xs x later less) (test y) e (is_of_number x.number y) refl
  where
    self : is_of_number x.number x ≡ true
    self = eq-eqb x.number.0 x.number.0 refl

    sum : one_if (is_of_number x.number y) + count_in (is_of_number x.number) xs ≤ 1
    sum = one

    go : (find test xs ≡ Some x → count_in (is_of_number x.number) xs ≤ 1 → HasMore (filter (others_of x) xs) xs x)
        → (b : Bool) → cond b (Some y) (find test xs) ≡ Some x → (c : Bool) → is_of_number x.number y ≡ c
        → HasMore (cond (not (is_of_number x.number y)) (y ∷ filter (others_of x) xs) (filter (others_of x) xs)) (y ∷ xs) x
    go rest true q c p =
        let same : y ≡ x = same_Some y x q in
        let here : is_of_number x.number y ≡ true = ap (is_of_number x.number) same ∙ self in
        let counted : one_if (is_of_number x.number y) ≡ 1 = ap one_if here in
        let none : count_in (is_of_number x.number) xs ≡ 0 = omega (arith, sum) in
        record {
          before = [];
          behind = xs;
          less = (λ i. cond (not (here i)) (y ∷ filter (others_of x) xs) (filter (others_of x) xs)) ∙ kept_all x xs none;
          more = ap (λ z. z ∷ xs) same;
        }
    go rest false q false p =
        let counted : one_if (is_of_number x.number y) ≡ 0 = ap one_if p in
        subst (λ zs. HasMore zs (y ∷ xs) x) (λ i. cond (not (sym p i)) (y ∷ filter (others_of x) xs) (filter (others_of x) xs))
        (behind_more y (filter (others_of x) xs) xs x (rest q (omega (arith, sum))))
    go rest false q true p =
        let counted : one_if (is_of_number x.number y) ≡ 1 = ap one_if p in
        let less : HasMore (filter (others_of x) xs) xs x = rest q (omega (arith, sum)) in
        let more : count_in (is_of_number x.number) xs ≡ one_if (is_of_number x.number x) + count_in (is_of_number x.number) (filter (others_of x) xs) =
        more_count (filter (others_of x) xs) xs x less (is_of_number x.number) in
        let mine : one_if (is_of_number x.number x) ≡ 1 = ap one_if self in
        absurd (omega (arith, sum))

-- ---- both servers

-- A message that leaves the held list of server `a`, and what arrives for it at server `b`.
pub record Passage (s : ℕ → Option Server) (k : ℕ) (a : Server) (j : ℕ) (b : Server) (x y : Message) (held queued_there held_there : List Message) : Type 0 where
  pub from : s k ≡ Some a
  pub to : s j ≡ Some b
  pub apart : j ≢ k
  pub less : HasMore (a.queued ++ held) (messages_of a) x
  pub more : HasMore (messages_of b) (queued_there ++ held_there) y

module _ (s : ℕ → Option Server) (k : ℕ) (a : Server) (j : ℕ) (b : Server) (x y : Message) (held queued_there held_there : List Message)
    (way : Passage s k a j b x y held queued_there held_there) where
  abbrev pub between : ℕ → Option Server
  between = now s k a way.from a.queued held

  pub still_there : between j ≡ Some b
  still_there = now_elsewhere s k a way.from a.queued held j way.apart ∙ way.to

  abbrev pub passed_on : ℕ → Option Server
  passed_on = now between j b still_there queued_there held_there

  leaves : GetsMessage between s k x
  leaves = loses s k a way.from a.queued held x way.less

  arrives : GetsMessage between passed_on j y
  arrives = gets between j b still_there queued_there held_there y way.more

  -- what holds of both servers and of all others holds of all
  pub of_servers : (Q : ℕ → Server → Type 0) → Q k (after s k a way.from a.queued held) → Q j (after between j b still_there queued_there held_there)
      → ((n : ℕ) (server : Server) → n ≢ k → n ≢ j → s n ≡ Some server → Q n server)
      → (n : ℕ) (server : Server) → passed_on n ≡ Some server → Q n server
  of_servers Q here there others n server e = elim (same_or_not n j) [
    | inl same ↦
        let is : after between j b still_there queued_there held_there ≡ server =
        same_Some (after between j b still_there queued_there held_there) server
        (sym (now_here between j b still_there queued_there held_there) ∙ sym (ap passed_on same) ∙ e) in
        subst (λ (z : Server). Q n z) is (subst (λ i. Q i (after between j b still_there queued_there held_there)) (sym same) there)
    | inr other ↦ elsewhere other (sym (now_elsewhere between j b still_there queued_there held_there n other) ∙ e)
  ]
    where
      elsewhere : n ≢ j → between n ≡ Some server → Q n server
      elsewhere other f = elim (same_or_not n k) [
        | inl same ↦
            let is : after s k a way.from a.queued held ≡ server =
            same_Some (after s k a way.from a.queued held) server (sym (now_here s k a way.from a.queued held) ∙ sym (ap between same) ∙ f) in
            subst (λ (z : Server). Q n z) is (subst (λ i. Q i (after s k a way.from a.queued held)) (sym same) here)
        | inr far ↦ others n server far other (sym (now_elsewhere s k a way.from a.queued held n far) ∙ f)
      ]

  -- ---- counts of a test that says the same of both messages

  module _ (test : Message → Bool) (alike : test y ≡ test x) where
    counts_pass : test x ≡ false → CountAlike s passed_on test
    counts_pass fails n =
        gets_alike between passed_on j y arrives test (alike ∙ fails) n ∙ sym (gets_alike between s k x leaves test fails n)

    -- where one passes, some server has one
    some_there : {A : Type 0} → test x ≡ true → HasNone s test → A
    some_there passes none =
        let counted : count_in test (messages_of a) ≡ one_if (test x) + count_in test (a.queued ++ held) =
        more_count (a.queued ++ held) (messages_of a) x way.less test in
        let one : one_if (test x) ≡ 1 = ap one_if passes in
        let zero : count_in test (messages_of a) ≡ 0 = sym (ap (count_at test) way.from) ∙ none k in
        absurd (omega (arith, counted, one, zero))

    gone_between : test x ≡ true → HasOne s test → HasNone between test
    gone_between passes one = loses_one between s k x leaves test passes one

    pub one_passes : HasOne s test → HasOne passed_on test
    one_passes one = go (test x) refl
      where
        go : (c : Bool) → test x ≡ c → HasOne passed_on test
        go true passes = gets_one between passed_on j y arrives test (alike ∙ passes) (gone_between passes one)
        go false fails = record {
          serial = one.serial;
          here = counts_pass fails one.serial ∙ one.here;
          elsewhere = λ n other. counts_pass fails n ∙ one.elsewhere n other;
        }

    none_passes : HasNone s test → HasNone passed_on test
    none_passes none = go (test x) refl
      where
        go : (c : Bool) → test x ≡ c → HasNone passed_on test
        go true passes = some_there passes none
        go false fails = λ n. counts_pass fails n ∙ none n

    pub if_passes : (c : Bool) → HasIf c s test → HasIf c passed_on test
    if_passes true one = one_passes one
    if_passes false none = none_passes none

    pub most_passes : HasAtMostOne s test → HasAtMostOne passed_on test
    most_passes (inl none) = inl (none_passes none)
    most_passes (inr one) = inr (one_passes one)

    -- .. and while it is at neither server
    pub most_between : HasAtMostOne s test → HasAtMostOne between test
    most_between (inl none) = go (test x) refl
      where
        go : (c : Bool) → test x ≡ c → HasAtMostOne between test
        go true passes = some_there passes none
        go false fails = inl (λ n. sym (gets_alike between s k x leaves test fails n) ∙ none n)
    most_between (inr one) = go (test x) refl
      where
        go : (c : Bool) → test x ≡ c → HasAtMostOne between test
        go true passes = inl (gone_between passes one)
        go false fails = inr (record {
          serial = one.serial;
          here = sym (gets_alike between s k x leaves test fails one.serial) ∙ one.here;
          elsewhere = λ n other. sym (gets_alike between s k x leaves test fails n) ∙ one.elsewhere n other;
        })
