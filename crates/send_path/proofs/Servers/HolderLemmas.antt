-- The server of the caller's process that holds a message of a number and a kind.
use Rattle.std.proofs.Common.{◌≡◌, ℕ, ◌<◌, Bool, true, false, [], get_or, length, Option, Some, None, refl, sym, ap, subst, ◌∙◌, arith}
use Rattle.std.specs.Prelude.{◌≢◌, ◌==◌, ◌&&◌, find}
use Rattle.std.specs.List.{list_any}
use Rattle.std.specs.Option.{option_and_then, option_map}
use Rattle.std.proofs.lemmas.Bool.{eqb-true, false≢true}
use Rattle.machine_laws.proofs.Messaging.AnyServerLemmas.{held_only_here, none_listed}
use Rattle.machine_laws.proofs.Messaging.ListedLemmas.{at_listed, listed_right}
use Rattle.machine_laws.proofs.Returning.GivenBackLemmas.{found_at}
use Rattle.machine_laws.proofs.Returning.ReturnCallLemmas.{unique}
use Rattle.machine_model.specs.Messaging.MessageCounts.{count_at}
use Rattle.machine_model.specs.Messaging.Messages.{is_of_number}
use Rattle.machine_model.specs.Messaging.ReturnCalls.{held_at, held_by_caller, holder_of, holds}
use Rattle.machine_model.specs.Runs.Matched.{Matched}
use Rattle.machine_model.specs.State.Machine.{Machine, Server}
use Rattle.xk_base.specs.Tables.Sids.{serial_of}
use Rattle.machine_model.specs.State.Servers.{is_server_of, messages_of}
use Rattle.xk_base.proofs.CountingLemmas.{least_below-None, least_below-Some}
use Rattle.xk_base.specs.declared.ids.Number.{Number}
use Rattle.xk_base.specs.declared.messages.Message.{Message}
use Rattle.send_path.proofs.Servers.HeldListLemmas.{find_both, none_both}

and_false : (a : Bool) → (a && false) ≡ false
and_false true = refl
and_false false = refl

module _ (m : Machine) (h : Matched m) (number : Number) (kind : Message → Bool) where
  abbrev test : Message → Bool
  test x = is_of_number number x && kind x

  abbrev passes : ℕ → Bool
  passes n = is_server_of m.cursor.pid (m.servers n) && holds test (m.servers n)

  none_passes : ((n : ℕ) (other : Server) → m.servers n ≡ Some other → (other.pid.0 == m.cursor.pid.0) ≡ true → list_any test other.held ≡ false)
      → holder_of m test ≡ None
  unfolding holder_of
  none_passes none = ap (option_map serial_of) (least_below-None m.next_serial passes (λ n l. at n (m.servers n) refl))
    where
      at : (n : ℕ) (o : Option Server) → m.servers n ≡ o → (is_server_of m.cursor.pid o && holds test o) ≡ false
      at n None e = refl
      at n (Some other) e = go (other.pid.0 == m.cursor.pid.0) refl
        where
          go : (b : Bool) → (other.pid.0 == m.cursor.pid.0) ≡ b → (b && list_any test other.held) ≡ false
          go false q = refl
          go true q = none n other e q

  -- no server of the process holds one of that number
  pub held_nowhere : ((n : ℕ) (other : Server) → m.servers n ≡ Some other → (other.pid.0 == m.cursor.pid.0) ≡ true
      → find (is_of_number number) other.held ≡ None) → held_by_caller m test ≡ None
  held_nowhere none =
      ap (option_and_then (held_at m test)) (none_passes (λ n other e q. none_both (is_of_number number) kind other.held (none n other e q)))

  module _ (k : ℕ) (server : Server) (live : m.servers k ≡ Some server) (own : (server.pid.0 == m.cursor.pid.0) ≡ true) (x : Message)
      (found : find (is_of_number number) server.held ≡ Some x) where
    place : (j : ℕ) × (d : Message) × (j < length server.held) × (get_or server.held j d ≡ x) × (is_of_number number x ≡ true)
    place = found_at (is_of_number number) server.held x found

    same : (get_or server.held place.0 place.1).number ≡ number
    same =
        ap (λ (y : Message). y.number) place.3
        ∙ (λ i. record { 0 = eqb-true x.number.0 number.0 place.4 i })

    -- another server has none of that number
    pub none_elsewhere : (n : ℕ) → n ≢ k → count_at (is_of_number number) (m.servers n) ≡ 0
    none_elsewhere n ne =
        subst (λ (q : Number). count_at (is_of_number q) (m.servers n) ≡ 0) same
        (held_only_here m.servers h.body.servers.numbers k server live place.0 place.1 place.2 n ne)

    -- it is of another kind
    pub held_otherwise : kind x ≡ false → held_by_caller m test ≡ None
    held_otherwise q = ap (option_and_then (held_at m test)) (none_passes (λ n other e p. at n other e (list_any test (messages_of other)) refl))
      where
        its : kind (get_or server.held place.0 place.1) ≡ false
        its = ap kind place.3 ∙ q

        at : (n : ℕ) (other : Server) → m.servers n ≡ Some other → (b : Bool) → list_any test (messages_of other) ≡ b → list_any test other.held ≡ false
        at n other e false r = listed_right test other.queued other.held r
        at n other e true r =
            absurd (false≢true (sym its ∙ unique m h k server live place.0 place.1 place.2 [] kind n other e
            (subst (λ (p : Number). list_any (λ z. is_of_number p z && kind z) (messages_of other) ≡ true) (sym same) r)))

    module _ (q : kind x ≡ true) where
      here : passes k ≡ true
      here =
          (λ i. is_server_of m.cursor.pid (live i) && holds test (live i))
          ∙ (λ i. own i && at_listed test server.held place.0 place.1 place.2 (ap test place.3 ∙ (λ j. place.4 j && q j)) i)

      other : (n : ℕ) → n ≢ k → passes n ≡ false
      other n ne = go (m.servers n) refl
        where
          go : (o : Option Server) → m.servers n ≡ o → (is_server_of m.cursor.pid o && holds test o) ≡ false
          go None e = refl
          go (Some y) e =
              ap (λ b. (y.pid.0 == m.cursor.pid.0) && b)
              (listed_right test y.queued y.held
              (none_listed number kind (messages_of y) (sym (ap (count_at (is_of_number number)) e) ∙ none_elsewhere n ne)))
              ∙ and_false (y.pid.0 == m.cursor.pid.0)

      pub holder_is : holder_of m test ≡ Some (serial_of k)
      unfolding holder_of
      holder_is =
          ap (option_map serial_of)
          (least_below-Some m.next_serial passes k (h.rest.above.serials k server live) here (λ j l. other j (λ e. absurd (omega arith))))

      pub message_is : held_by_caller m test ≡ Some x
      message_is =
          ap (option_and_then (held_at m test)) holder_is
          ∙ ap (option_and_then (λ (s : Server). find test s.held)) live
          ∙ find_both (is_of_number number) kind server.held x found q
