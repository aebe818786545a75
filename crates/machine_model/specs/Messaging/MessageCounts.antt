-- How many messages of all servers pass a test: none, exactly one, at most one. No bound of serials is needed to say it.
use Rattle.std.specs.Prelude.{◌≡◌, ◌≢◌, ℕ, ◌+◌, ◌⊎◌, Bool, true, false, List, [], ◌∷◌, if◌then◌else◌, Option, Some, None}
use Rattle.xk_base.specs.declared.messages.Message.{Message}
use Rattle.machine_model.specs.State.Machine.{Server}
use Rattle.machine_model.specs.State.Servers.{messages_of}

-- of a list
unfoldable pub count_in : (Message → Bool) → List Message → ℕ
count_in test [] = 0
count_in test (message ∷ messages) = (if test message then 1 else 0) + count_in test messages

-- of a server, queued and held together
abbrev pub count_at : (Message → Bool) → Option Server → ℕ
count_at test None = 0
count_at test (Some server) = count_in test (messages_of server)

-- no message of any server passes
abbrev pub HasNone : (ℕ → Option Server) → (Message → Bool) → Type 0
HasNone servers test = (n : ℕ) → count_at test (servers n) ≡ 0

-- exactly one message passes, and it is at the server of this serial
pub record HasOne (servers : ℕ → Option Server) (test : Message → Bool) : Type 0 where
  pub serial : ℕ
  pub here : count_at test (servers serial) ≡ 1
  pub elsewhere : (n : ℕ) → n ≢ serial → count_at test (servers n) ≡ 0

-- exactly one where there is to be one, and else none
abbrev pub HasIf : Bool → (ℕ → Option Server) → (Message → Bool) → Type 0
HasIf true servers test = HasOne servers test
HasIf false servers test = HasNone servers test

abbrev pub HasAtMostOne : (ℕ → Option Server) → (Message → Bool) → Type 0
HasAtMostOne servers test = HasNone servers test ⊎ HasOne servers test
