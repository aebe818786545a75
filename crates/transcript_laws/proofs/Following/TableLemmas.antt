-- Every served call leads each message as its records say.
use Rattle.std.proofs.Common.{◌≡◌, ℕ, Bool, true, false, List, Option, Some, None, refl, sym, ap, ◌∙◌}
use Rattle.std.specs.Prelude.{◌||◌, ◌&&◌, ◌==◌, slice_index, if◌then◌else◌, nat_eq}
use Rattle.std.proofs.lemmas.Bool.{eqb-true}
use Rattle.xk_base.specs.declared.ids.Number.{Number}
use Rattle.syscall_codec.specs.CallNumbers.{create_server_with_address, receive_message}
use Rattle.syscall_codec.specs.CallNumbers.{try_receive_message}
use Rattle.syscall_codec.specs.CallWords.{call_number}
use Rattle.syscall_codec.specs.ReplyWords.{new_server_words}
use Rattle.xk_base.specs.Tables.Connections.{cid_for}
use Rattle.machine_model.specs.State.Threads.{answer_to}
use Rattle.machine_model.specs.Calling.Calls.{call}
use Rattle.machine_model.specs.Calling.ServerCalls.{named_sid, new_serial, new_server}
use Rattle.machine_model.specs.Runs.Matched.{Matched}
use Rattle.machine_model.specs.State.Connections.{own_connections}
use Rattle.machine_model.specs.State.Machine.{Machine, Server}
use Rattle.machine_model.specs.State.Order.{ready_at}
use Rattle.call_effects.proofs.ServedLemmas.{OfServed, done}
use Rattle.transcript_laws.specs.Following.{is_message_of, keeping}
use Rattle.transcript_laws.proofs.Following.EndLemmas.{destroy_follows, terminate_follows}
use Rattle.transcript_laws.proofs.Following.ForwardLemmas.{passes_follows}
use Rattle.transcript_laws.proofs.Following.ReceiveLemmas.{taken_follows}
use Rattle.transcript_laws.proofs.Following.ReturnLemmas.{returns_follows}
use Rattle.transcript_laws.proofs.Following.SendLemmas.{sends_follows}
use Rattle.transcript_laws.proofs.Following.ServedLemmas.{Follows, none_quiet, one_quiet, simple}
use Rattle.transcript_laws.proofs.Following.TellLemmas.{IsQuiet}
use Rattle.call_effects.specs.Effects.{Effect}
use Rattle.call_effects.specs.Verdicts.{Plan}
use Rattle.transcript_laws.proofs.CallKindLemmas.{of_kinds}
use Rattle.transcript_laws.proofs.CallKindUseLemmas.{is_alone, none_keeps, of_either, own_run}
use Rattle.transcript_laws.specs.CallKinds.{AnswersCaller, ByWaiting, CallKind, DestroysServer, EndsProcess, FindsNone, FoundsServer, IsFounding, IsKeeping, Keeps, PassesMessage, ReturnsMessage, SendsMessage, TakesMessage, WithWords, founding, reaches_others}
use Rattle.machine_model.specs.State.Threads.{Answers}
use Rattle.transcript_laws.proofs.Following.SayLemmas.{asks}
use Rattle.transcript_laws.specs.Serving.{is_receive}

-- a call that keeps to its process asks nothing of messages
alone_asks : (k : ℕ) → reaches_others k ≡ false → asks k ≡ false
alone_asks k alone = let none = is_alone k alone in λ i. none.forward i || (none.returns i || none.destroy i)

module _ (number : Number) (m : Machine) (h : Matched m) (ready : ready_at m m.cursor ≡ true) (w : List ℕ) where
  -- the caller alone is answered, with other words than a message's
  quietly : (words : List ℕ) → is_message_of number words ≡ false → IsQuiet (answer_to m.cursor words) number (λ id. false)
  quietly words silent = one_quiet number (λ id. false) m.cursor words silent

  -- a call that keeps to its process leaves each message
  keeps_follows : asks (call_number w) ≡ false → (effects : List Effect) (answers : Answers) → IsKeeping m effects answers
      → Follows number m w (done m (record { effects = effects; answers = answers; gone = None }))
  keeps_follows none effects answers it =
      let leaves = own_run m effects m it.own in
      simple number m w h (call_number w) refl none _ (λ n. ap (λ (s : ℕ → Option Server). keeping number (s n)) leaves.servers) leaves.next_number
      (by effects answers it.answered) refl refl leaves.processes
    where
      by : (effects : List Effect) (answers : Answers) → AnswersCaller m effects answers → IsQuiet answers number (λ id. false)
      by _ _ (WithWords effects words plain) = quietly words (ap (λ b. b && (slice_index words 1 == number.0)) plain)
      by _ _ (ByWaiting state) = none_quiet number (λ id. false)

  -- a new server has no message
  founds_follows : call_number w ≡ create_server_with_address → IsFounding m w → Follows number m w (done m (founding m w))
  founds_follows e it =
      simple number m w h create_server_with_address e refl _ (λ n. go n (nat_eq n m.next_serial) refl) refl
      (quietly (new_server_words (named_sid w) (cid_for (new_serial m) (own_connections m))) refl) refl refl refl
    where
      go : (n : ℕ) (b : Bool) → nat_eq n m.next_serial ≡ b
          → keeping number (if b then Some (new_server m (named_sid w)) else m.servers n) ≡ keeping number (m.servers n)
      go n true q = sym (ap (keeping number) (ap m.servers (eqb-true n m.next_serial q) ∙ it.fresh))
      go n false q = refl

  receives_asks : is_receive (call_number w) ≡ true → asks (call_number w) ≡ false
  receives_asks = of_either (λ k. asks k ≡ false) receive_message try_receive_message (call_number w) refl refl

  kind_follows : (plan : Plan) → CallKind m (call_number w) w plan → Follows number m w (done m plan)
  kind_follows _ (Keeps effects answers alone other it) = keeps_follows (alone_asks (call_number w) alone) effects answers it
  kind_follows _ (FoundsServer e it) = founds_follows e it
  kind_follows _ (SendsMessage is it) = sends_follows number m h w is it
  kind_follows _ (TakesMessage is its x first) =
      taken_follows number m h ready w (call_number w) refl (receives_asks is) its.serial its.server its.there x first
  kind_follows _ (FindsNone is its empty) = keeps_follows (receives_asks is) _ _ (none_keeps m (call_number w) its.serial)
  kind_follows _ (ReturnsMessage is it) = returns_follows number m h w is it
  kind_follows _ (PassesMessage e it) = passes_follows number m h ready w e it
  kind_follows _ (DestroysServer e its) = destroy_follows number m h w e its.serial
  kind_follows _ (EndsProcess e) = terminate_follows number m h w e

  pub served_follows : OfServed (Follows number m w) (call m w)
  served_follows = of_kinds m h w (Follows number m w) kind_follows
