-- What a change of a server's lists makes of how it keeps a message.
use Rattle.std.proofs.Common.{◌≡◌, ◌≢◌, ℕ, Bool, true, false, List, [], ◌∷◌, ◌++◌, cond, filter, Option, Some, None, refl, sym, ap, ◌∙◌}
use Rattle.std.specs.Prelude.{◌||◌, not, if◌then◌else◌, nat_eq}
use Rattle.std.specs.List.{list_any}
use Rattle.std.specs.Option.{option_map}
use Rattle.std.proofs.lemmas.Bool.{eqb-true, eq-eqb, false≢true}
use Rattle.std.proofs.lemmas.List.Folds.{list_any-append}
use Rattle.xk_base.specs.declared.ids.Number.{Number}
use Rattle.xk_base.specs.declared.ids.Serial.{Serial}
use Rattle.xk_base.specs.declared.messages.Message.{Message}
use Rattle.xk_base.specs.Calls.Kinds.{is_answered}
use Rattle.machine_model.specs.Messaging.Messages.{is_of_number, with_queued, with_received, without_held}
use Rattle.machine_model.specs.State.Machine.{Machine, Server}
use Rattle.machine_model.specs.State.Servers.{change_server}
use Rattle.transcript_laws.specs.Following.{Holds, Keeping, Lacks, Queues, keeping, keeping_by}

or_false : (b : Bool) → (b || false) ≡ b
or_false true = refl
or_false false = refl

or_true : (b : Bool) → (b || true) ≡ true
or_true true = refl
or_true false = refl

-- how a message is kept that was received
abbrev pub received_as : Bool → Keeping
received_as true = Holds
received_as false = Lacks

module _ (number : Number) where
  abbrev test : Message → Bool
  test = is_of_number number

  -- ---- lists

  -- one message more at the end
  any_last : (xs : List Message) (x : Message) → list_any test (xs ++ x ∷ []) ≡ (list_any test xs || test x)
  any_last xs x = list_any-append test xs (x ∷ []) ∙ ap (λ b. list_any test xs || b) (or_false (test x))

  pub other_last : (xs : List Message) (x : Message) → test x ≡ false → list_any test (xs ++ x ∷ []) ≡ list_any test xs
  other_last xs x e = any_last xs x ∙ (ap (λ b. list_any test xs || b) e ∙ or_false (list_any test xs))

  pub this_last : (xs : List Message) (x : Message) → test x ≡ true → list_any test (xs ++ x ∷ []) ≡ true
  this_last xs x e = any_last xs x ∙ (ap (λ b. list_any test xs || b) e ∙ or_true (list_any test xs))

  -- others are taken out
  pub any_kept : (keep : Message → Bool) → ((x : Message) → test x ≡ true → keep x ≡ true) → (xs : List Message)
      → list_any test (filter keep xs) ≡ list_any test xs
  any_kept keep h [] = refl
  any_kept keep h (x ∷ xs) = go (keep x) (test x) refl refl (any_kept keep h xs)
    where
      go : (k b : Bool) → keep x ≡ k → test x ≡ b → list_any test (filter keep xs) ≡ list_any test xs
          → list_any test (cond k (x ∷ filter keep xs) (filter keep xs)) ≡ (b || list_any test xs)
      go true b p q r = (λ i. q i || r i)
      go false true p q r = absurd (false≢true (sym p ∙ h x q))
      go false false p q r = r

  -- .. all of the number are
  pub none_kept : (keep : Message → Bool) → ((x : Message) → test x ≡ true → keep x ≡ false) → (xs : List Message)
      → list_any test (filter keep xs) ≡ false
  none_kept keep h [] = refl
  none_kept keep h (x ∷ xs) = go (keep x) (test x) refl refl (none_kept keep h xs)
    where
      go : (k b : Bool) → keep x ≡ k → test x ≡ b → list_any test (filter keep xs) ≡ false
          → list_any test (cond k (x ∷ filter keep xs) (filter keep xs)) ≡ false
      go false b p q r = r
      go true true p q r = absurd (false≢true (sym (h x q) ∙ p))
      go true false p q r = (λ i. q i || r i)

  -- ---- a server

  pub queued_other : (x : Message) (server : Server) → test x ≡ false → keeping number (Some (with_queued x server)) ≡ keeping number (Some server)
  queued_other x server e = ap (λ b. keeping_by b (list_any test server.held)) (other_last server.queued x e)

  pub queued_this : (x : Message) (server : Server) → test x ≡ true → keeping number (Some (with_queued x server)) ≡ Queues
  queued_this x server e = ap (λ b. keeping_by b (list_any test server.held)) (this_last server.queued x e)

  received_held : (x : Message) (xs : List Message) → test x ≡ false → list_any test (if is_answered x.kind then xs ++ x ∷ [] else xs) ≡ list_any test xs
  received_held x xs e = go (is_answered x.kind)
    where
      go : (b : Bool) → list_any test (if b then xs ++ x ∷ [] else xs) ≡ list_any test xs
      go true = other_last xs x e
      go false = refl

  pub received_other : (x : Message) (server : Server) → test x ≡ false → keeping number (Some (with_received x server)) ≡ keeping number (Some server)
  received_other x server e = ap (keeping_by (list_any test server.queued)) (received_held x server.held e)

  pub received_this : (x : Message) (server : Server) → test x ≡ true → list_any test server.queued ≡ false → list_any test server.held ≡ false
      → keeping number (Some (with_received x server)) ≡ received_as (is_answered x.kind)
  received_this x server e queued held =
      ap (λ b. keeping_by b (list_any test (if is_answered x.kind then server.held ++ x ∷ [] else server.held))) queued ∙ go (is_answered x.kind)
    where
      go : (b : Bool) → keeping_by false (list_any test (if b then server.held ++ x ∷ [] else server.held)) ≡ received_as b
      go true = ap (keeping_by false) (this_last server.held x e)
      go false = ap (keeping_by false) held

  -- a held one is returned
  pub returned_other : (k : Number) (server : Server) → (number.0 ≡ k.0 → ⊥) → keeping number (Some (without_held k server)) ≡ keeping number (Some server)
  returned_other k server apart = ap (keeping_by (list_any test server.queued)) (any_kept (λ x. not (is_of_number k x)) keeps server.held)
    where
      keeps : (x : Message) → test x ≡ true → not (is_of_number k x) ≡ true
      keeps x e = go (is_of_number k x) refl
        where
          go : (b : Bool) → is_of_number k x ≡ b → not b ≡ true
          go false q = refl
          go true q = absurd (apart (sym (eqb-true x.number.0 number.0 e) ∙ eqb-true x.number.0 k.0 q))

  pub returned_this : (server : Server) → list_any test server.queued ≡ false → keeping number (Some (without_held number server)) ≡ Lacks
  returned_this server queued =
      (λ i. keeping_by (queued i) (none_kept (λ x. not (is_of_number number x)) (λ x e. ap not e) server.held i))

  -- ---- one server of a machine

  pub change_elsewhere : (serial : Serial) (f : Server → Server) (m : Machine) (n : ℕ) → n ≢ serial.0
      → keeping number ((change_server serial f m).servers n) ≡ keeping number (m.servers n)
  change_elsewhere serial f m n other = go (nat_eq n serial.0) refl
    where
      go : (b : Bool) → nat_eq n serial.0 ≡ b → keeping number (if b then option_map f (m.servers serial.0) else m.servers n) ≡ keeping number (m.servers n)
      go true e = absurd (other (eqb-true n serial.0 e))
      go false e = refl

  pub change_here : (serial : Serial) (f : Server → Server) (m : Machine) (server : Server) → m.servers serial.0 ≡ Some server
      → keeping number ((change_server serial f m).servers serial.0) ≡ keeping number (Some (f server))
  change_here serial f m server e =
      ap (λ b. keeping number (if b then option_map f (m.servers serial.0) else m.servers serial.0)) (eq-eqb serial.0 serial.0 refl)
      ∙ ap (λ o. keeping number (option_map f o)) e

  -- a change that leaves how the server keeps it leaves that of all
  pub change_same : (serial : Serial) (f : Server → Server) (m : Machine)
      → ((server : Server) → m.servers serial.0 ≡ Some server → keeping number (Some (f server)) ≡ keeping number (Some server))
      → (n : ℕ) → keeping number ((change_server serial f m).servers n) ≡ keeping number (m.servers n)
  change_same serial f m same n = go (nat_eq n serial.0) refl
    where
      here : (o : Option Server) → m.servers serial.0 ≡ o → keeping number (option_map f o) ≡ keeping number o
      here None e = refl
      here (Some server) e = same server e

      go : (b : Bool) → nat_eq n serial.0 ≡ b → keeping number (if b then option_map f (m.servers serial.0) else m.servers n) ≡ keeping number (m.servers n)
      go true e = here (m.servers serial.0) refl ∙ ap (λ j. keeping number (m.servers j)) (sym (eqb-true n serial.0 e))
      go false e = refl
