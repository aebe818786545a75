-- At most one message of all servers passes a test: what keeps it so, and what one message more or less at one server does to it.
use Rattle.std.proofs.Common.{◌≡◌, ◌≢◌, ℕ, ◌+◌, ◌≤◌, Bool, true, false, ◌⊎◌, inl, inr, Option, Some, None, refl, sym, ap, ◌∙◌, arith, subst}
use Rattle.std.specs.Prelude.{◌==◌}
use Rattle.std.proofs.lemmas.Bool.{eq-eqb, eqb-true, false≢true}
use Rattle.xk_base.specs.declared.messages.Message.{Message}
use Rattle.machine_model.specs.Messaging.MessageCounts.{HasAtMostOne, HasIf, HasNone, HasOne, count_at, count_in}
use Rattle.machine_model.specs.State.Machine.{Server}
use Rattle.machine_model.specs.State.Servers.{messages_of}
use Rattle.machine_model.proofs.Matching.CountLemmas.{HasMore, more_count, one_if}

-- ---- servers that count alike

abbrev pub CountAlike : (ℕ → Option Server) → (ℕ → Option Server) → (Message → Bool) → Type 0
CountAlike old new test = (n : ℕ) → count_at test (new n) ≡ count_at test (old n)

module _ (old new : ℕ → Option Server) (test : Message → Bool) (alike : CountAlike old new test) where
  pub none_alike : HasNone old test → HasNone new test
  none_alike h n = alike n ∙ h n

  pub one_alike : HasOne old test → HasOne new test
  one_alike h = record {
    serial = h.serial;
    here = alike h.serial ∙ h.here;
    elsewhere = λ n other. alike n ∙ h.elsewhere n other;
  }

  pub if_alike : (b : Bool) → HasIf b old test → HasIf b new test
  if_alike true h = one_alike h
  if_alike false h = none_alike h

  pub most_alike : HasAtMostOne old test → HasAtMostOne new test
  most_alike (inl none) = inl (none_alike none)
  most_alike (inr one) = inr (one_alike one)

-- ---- where the one is

-- numbers are the same or not
pub same_or_not : (a b : ℕ) → (a ≡ b) ⊎ (a ≢ b)
same_or_not a b = go (a == b) refl
  where
    go : (c : Bool) → (a == b) ≡ c → (a ≡ b) ⊎ (a ≢ b)
    go true e = inl (eqb-true a b e)
    go false e = inr (λ same. false≢true (sym e ∙ eq-eqb a b same))

-- a server that has some has the one
pub one_is_there : (servers : ℕ → Option Server) (test : Message → Bool) (h : HasOne servers test) (n : ℕ) → 1 ≤ count_at test (servers n)
    → n ≡ h.serial
one_is_there servers test h n l = elim (same_or_not n h.serial) [
  | inl same ↦ same
  | inr other ↦ let none : count_at test (servers n) ≡ 0 = h.elsewhere n other in absurd (omega arith)
]

-- the server that has it
pub record HasServer (servers : ℕ → Option Server) (test : Message → Bool) : Type 0 where
  pub serial : ℕ
  pub server : Server
  pub live : servers serial ≡ Some server
  pub some : 1 ≤ count_in test (messages_of server)

pub one_server : (servers : ℕ → Option Server) (test : Message → Bool) → HasOne servers test → HasServer servers test
one_server servers test h = go (servers h.serial) refl h.here
  where
    go : (o : Option Server) → servers h.serial ≡ o → count_at test o ≡ 1 → HasServer servers test
    go None e one = absurd (omega arith)
    go (Some server) e one = record { serial = h.serial; server = server; live = e; some = omega arith }

-- ---- one server's lists have one message more

pub record GetsMessage (old new : ℕ → Option Server) (serial : ℕ) (x : Message) : Type 0 where
  pub before : Server
  pub after : Server
  pub was : old serial ≡ Some before
  pub now : new serial ≡ Some after
  pub others : (n : ℕ) → n ≢ serial → new n ≡ old n
  pub more : HasMore (messages_of before) (messages_of after) x

module _ (old new : ℕ → Option Server) (serial : ℕ) (x : Message) (g : GetsMessage old new serial x) (test : Message → Bool) where
  gets_here : count_at test (new serial) ≡ one_if (test x) + count_at test (old serial)
  gets_here =
      ap (count_at test) g.now ∙ more_count (messages_of g.before) (messages_of g.after) x g.more test
      ∙ ap (λ o. one_if (test x) + count_at test o) (sym g.was)

  -- a message that fails the test changes no count
  pub gets_alike : test x ≡ false → CountAlike old new test
  gets_alike fails n = elim (same_or_not n serial) [
    | inl same ↦ subst (λ k. count_at test (new k) ≡ count_at test (old k)) (sym same) here
    | inr other ↦ ap (count_at test) (g.others n other)
  ]
    where
      here : count_at test (new serial) ≡ count_at test (old serial)
      here =
          let gets : count_at test (new serial) ≡ one_if (test x) + count_at test (old serial) = gets_here in
          let nothing : one_if (test x) ≡ 0 = ap one_if fails in
          omega arith

  -- one that passes is the one where there was none
  pub gets_one : test x ≡ true → HasNone old test → HasOne new test
  gets_one passes none =
      let gets : count_at test (new serial) ≡ one_if (test x) + count_at test (old serial) = gets_here in
      let one : one_if (test x) ≡ 1 = ap one_if passes in
      let before : count_at test (old serial) ≡ 0 = none serial in
      record {
        serial = serial;
        here = omega arith;
        elsewhere = λ n other. ap (count_at test) (g.others n other) ∙ none n;
      }

  -- .. and without the one that passes there is none
  pub loses_one : test x ≡ true → HasOne new test → HasNone old test
  loses_one passes h n = elim (same_or_not n serial) [
    | inl same ↦ subst (λ k. count_at test (old k) ≡ 0) (sym same) here
    | inr other ↦ ap (count_at test) (sym (g.others n other)) ∙ h.elsewhere n (λ same. other (same ∙ sym at))
  ]
    where
      gets : count_at test (new serial) ≡ one_if (test x) + count_at test (old serial)
      gets = gets_here

      one : one_if (test x) ≡ 1
      one = ap one_if passes

      at : serial ≡ h.serial
      at = one_is_there new test h serial (omega (arith, gets, one))

      here : count_at test (old serial) ≡ 0
      here =
          let now : count_at test (new serial) ≡ 1 = ap (λ k. count_at test (new k)) at ∙ h.here in
          omega (arith, gets, one)
