-- What a change of one server does at each, and what answers mean.
use Rattle.std.proofs.Common.{◌≡◌, ◌≢◌, ◌⊎◌, ℕ, inl, inr, Bool, true, false, List, Option, Some, None, refl, sym, ap, ◌∙◌, subst}
use Rattle.std.specs.Prelude.{if◌then◌else◌, nat_eq}
use Rattle.std.specs.Option.{option_map, option_or}
use Rattle.std.proofs.lemmas.Bool.{eqb-true}
use Rattle.std.proofs.lemmas.Option.{none-some, same_Some}
use Rattle.xk_base.specs.declared.errors.XousError.TheVariants.{ServerNotFound}
use Rattle.xk_base.specs.declared.ids.Number.{Number}
use Rattle.xk_base.specs.declared.ids.Pid.{Pid}
use Rattle.xk_base.specs.declared.ids.Serial.{Serial}
use Rattle.xk_base.specs.declared.ids.Sid.{Sid}
use Rattle.xk_base.specs.declared.ids.ThreadId.{ThreadId}
use Rattle.xk_base.specs.declared.messages.Message.{Message}
use Rattle.syscall_codec.specs.ReplyWords.{refused_words}
use Rattle.xk_base.specs.Tables.Circle.{same_thread}
use Rattle.xk_base.specs.Tables.Sids.{serial_of}
use Rattle.machine_model.specs.Calling.ServerCalls.{named_server, named_sid}
use Rattle.machine_model.specs.Ending.Closing.{refused_server}
use Rattle.machine_model.specs.Runs.Matched.{waits_for}
use Rattle.machine_model.specs.Runs.Moments.{Cause}
use Rattle.machine_model.specs.State.Changes.{Change}
use Rattle.machine_model.specs.State.Machine.{Machine, Server}
use Rattle.machine_model.specs.State.Order.{actor}
use Rattle.machine_model.specs.State.Views.{memory_of}
use Rattle.machine_model.specs.State.Servers.{change_server, with_sid}
use Rattle.machine_model.specs.Stepping.Acts.{call_by, is_call_served}
use Rattle.machine_model.specs.State.Threads.{Answers, answer_to, both_answers, no_answers}
use Rattle.machine_laws.proofs.Threading.ThreadPutLemmas.{alike}
use Rattle.machine_laws.proofs.Threading.ThreadStepLemmas.{turned_to}
use Rattle.transcript_laws.specs.Answered.{IsReturnedWith}
use Rattle.transcript_laws.specs.Following.{Lacks, keeping}
use Rattle.transcript_laws.specs.Serving.{Arrives, AtOnce, Ends, Forwards, Founded, FromQueue, IsDestroyed, IsForwarded, IsForwardedTo}
use Rattle.transcript_laws.specs.Serving.{IsMeant, IsReceiver, IsReturned, IsSent, IsServedBy, ListStep, Lists, LosesSender, Queues}
use Rattle.transcript_laws.specs.Serving.{Reaches, Receives, Returns, ServerStep, Stays, Takes}

-- ---- servers

-- one server changes
pub one_changes : (cause : Cause) (serial : Serial) (f : Server → Server) (m next : Machine) (Dies : Pid → Type 0)
    → next.servers ≡ (change_server serial f m).servers
    → ((server : Server) → m.servers serial.0 ≡ Some server → ListStep serial.0 cause m next Dies server (f server)) → (n : ℕ)
    → ServerStep n cause m next Dies
one_changes cause serial f m next Dies servers each n = go (nat_eq n serial.0) refl
  where
    at_n : next.servers n ≡ (change_server serial f m).servers n
    at_n = ap (λ (s : ℕ → Option Server). s n) servers

    here : n ≡ serial.0 → (o : Option Server) → m.servers serial.0 ≡ o → next.servers n ≡ option_map f o → ServerStep n cause m next Dies
    here same None e now = Stays (now ∙ sym (ap m.servers same ∙ e))
    here same (Some server) e now =
        Lists server (f server) (ap m.servers same ∙ e) now (subst (λ k. ListStep k cause m next Dies server (f server)) (sym same) (each server e))

    go : (b : Bool) → nat_eq n serial.0 ≡ b → ServerStep n cause m next Dies
    go true e =
        here (eqb-true n serial.0 e) (m.servers serial.0) refl
        (at_n ∙ ap (λ b. if b then option_map f (m.servers serial.0) else m.servers n) e)
    go false e = Stays (at_n ∙ ap (λ b. if b then option_map f (m.servers serial.0) else m.servers n) e)

-- the words of a call are the same from the state that is turned to its thread
pub call_turned : (m : Machine) (who : ThreadId) → call_by (turned_to who m) who ≡ call_by m who
unfolding call_by memory_of
call_turned m who = refl

-- ---- answers

-- the server that has the message is gone afterwards; `servers` are those then
pub record LosesServer (number : Number) (m : Machine) (servers : ℕ → Option Server) : Type 0 where
  pub n : ℕ
  pub had : keeping number (m.servers n) ≢ Lacks
  pub gone : servers n ≡ None

-- the words are those of its return, or say that there is no server, which is gone then
abbrev pub IsAnswerBy : Number → List ℕ → Machine → (ℕ → Option Server) → Type 0
IsAnswerBy number words m servers = IsReturnedWith number words m ⊎ ((words ≡ refused_words ServerNotFound) × LosesServer number m servers)

-- from the state that is turned to the thread whose step it is to the one before
module _ (cause : Cause) (m : Machine) (cursor : ThreadId) (acts : actor m ≡ Some cursor) (turned : actor (turned_to cursor m) ≡ Some cursor) where
  abbrev like : Machine
  like = turned_to cursor m

  pub went_like : (who : ThreadId) (words : List ℕ) → is_call_served like who words ≡ true → is_call_served m who words ≡ true
  unfolding is_call_served
  went_like who words e = e

  named_like : (sid : Sid) (serial : Serial) → named_server like sid ≡ serial → named_server m sid ≡ serial
  unfolding with_sid
  named_like sid serial e = e

  abbrev pub served_like : (pid : Pid) (words : List ℕ) → IsServedBy pid words cause like → IsServedBy pid words cause m
  served_like pid words s =
      let same : cursor ≡ s.who = same_Some cursor s.who (sym turned ∙ s.by_who) in
      record {
        who = s.who;
        step = s.step;
        by_who = acts ∙ ap Some same;
        of_process = s.of_process;
        call = sym (ap (λ v. call_by m v) same) ∙ (sym (call_turned m cursor) ∙ (ap (λ v. call_by (turned_to cursor m) v) same ∙ s.call));
        served = went_like s.who words s.served;
      }

  receiver_like : (n : ℕ) (who : ThreadId) → IsReceiver n who cause like → IsReceiver n who cause m
  receiver_like n who r = record {
    words = r.words;
    served = served_like who.pid r.words r.served;
    caller = r.caller;
    receives = r.receives;
    names = named_like (named_sid r.words) (serial_of n) r.names;
  }

  returned_like : (number : Number) (server : Server) → IsReturned number server cause like → IsReturned number server cause m
  returned_like number server r = record {
    words = r.words;
    served = served_like server.pid r.words r.served;
    returns = r.returns;
    token = r.token;
    held = r.held;
  }

  destroyed_like : (n : ℕ) (server : Server) → IsDestroyed n server cause like → IsDestroyed n server cause m
  destroyed_like n server r = record {
    words = r.words;
    served = served_like server.pid r.words r.served;
    destroys = r.destroys;
    names = named_like (named_sid r.words) (serial_of n) r.names;
  }

  abbrev passed_like : (n : ℕ) (x : Message) → IsForwardedTo n x cause like → IsForwardedTo n x cause m
  passed_like n x r = record {
    from = r.from;
    server = r.server;
    there = r.there;
    words = r.words;
    served = served_like r.server.pid r.words r.served;
    forwards = r.forwards;
    leads = r.leads;
    apart = r.apart;
    place = r.place;
    held = r.held;
    held_there = r.held_there;
    token = r.token;
    lends = r.lends;
    first = r.first;
    is = r.is;
  }

  pub arrives_like : (n : ℕ) (x : Message) → Arrives n x cause like → Arrives n x cause m
  arrives_like n x (IsSent r) = IsSent (record {
    pid = r.pid;
    words = r.words;
    served = served_like r.pid r.words r.served;
    sends = r.sends;
    leads = r.leads;
    kind = r.kind;
    named = r.named;
    first = r.first;
    is = r.is;
  })
  arrives_like n x (IsForwarded r) = IsForwarded (passed_like n x r)

  list_like : (n : ℕ) (next : Machine) (Dies : Pid → Type 0) (before after : Server) → ListStep n cause like next Dies before after
      → ListStep n cause m next Dies before after
  list_like n next Dies before after (Queues x a is) = Queues x (arrives_like n x a) is
  list_like n next Dies before after (Receives x who a empty own waits is) = Receives x who (arrives_like n x a) empty own waits is
  list_like n next Dies before after (Takes x who first own r is) = Takes x who first own (receiver_like n who r) is
  list_like n next Dies before after (Returns k r is) = Returns k (returned_like k before r) is
  list_like n next Dies before after (Forwards to x r from kept is) = Forwards to x (passed_like to x r) from kept is
  list_like n next Dies before after (LosesSender pid dies is) = LosesSender pid dies is

  pub step_like : (next : Machine) (Dies : Pid → Type 0) (n : ℕ) → ServerStep n cause like next Dies → ServerStep n cause m next Dies
  step_like next Dies n (Stays e) = Stays e
  step_like next Dies n (Founded server none now queued held) = Founded server none now queued held
  step_like next Dies n (Ends server there e why) = Ends server there e (by why)
    where
      by : Dies server.pid ⊎ IsDestroyed n server cause like → Dies server.pid ⊎ IsDestroyed n server cause m
      by (inl dies) = inl dies
      by (inr r) = inr (destroyed_like n server r)
  step_like next Dies n (Lists before after was now step) = Lists before after was now (list_like n next Dies before after step)

  reaches_like : (n : ℕ) (server : Server) (who : ThreadId) (x : Message) → Reaches n server who x cause like → Reaches n server who x cause m
  reaches_like n server who x (FromQueue first r) = FromQueue first (receiver_like n who r)
  reaches_like n server who x (AtOnce empty a waits) = AtOnce empty (arrives_like n x a) waits

  pub meant_like : (who : ThreadId) (words : List ℕ) → IsMeant who words cause like → IsMeant who words cause m
  meant_like who words (inl e) = inl e
  meant_like who words (inr e) =
      let d = e.1 in
      inr (e.0, record { n = d.n; server = d.server; there = d.there; own = d.own; reaches = reaches_like d.n d.server who e.0 d.reaches }, e.2)

  pub answer_like : (servers : ℕ → Option Server) (number : Number) (words : List ℕ) → IsAnswerBy number words like servers → IsAnswerBy number words m servers
  answer_like servers number words (inr (e, left)) = inr (e, record { n = left.n; had = left.had; gone = left.gone })
  answer_like servers number words (inl r) =
      let same : cursor ≡ r.who = same_Some cursor r.who (sym turned ∙ r.acts) in
      inl (record {
        who = r.who;
        acts = acts ∙ ap Some same;
        call = r.call;
        calls = sym (ap (λ v. call_by m v) same) ∙ (sym (call_turned m cursor) ∙ (ap (λ v. call_by (turned_to cursor m) v) same ∙ r.calls));
        returns = r.returns;
        token = r.token;
        given = r.given;
      })

-- the next state may differ in all but its servers, and who dies may be told otherwise
module _ (cause : Cause) (m next other : Machine) (servers : other.servers ≡ next.servers) (Dies Others : Pid → Type 0)
    (dies_too : (pid : Pid) → Dies pid → Others pid) where
  list_to : (n : ℕ) (before after : Server) → ListStep n cause m next Dies before after → ListStep n cause m other Others before after
  list_to n before after (Queues x a is) = Queues x a is
  list_to n before after (Receives x who a empty own waits is) = Receives x who a empty own waits is
  list_to n before after (Takes x who first own r is) = Takes x who first own r is
  list_to n before after (Returns k r is) = Returns k r is
  list_to n before after (Forwards to x r from kept is) =
      Forwards to x r from (subst (λ (s : ℕ → Option Server). keeping x.number (s to) ≢ Lacks) (sym servers) kept) is
  list_to n before after (LosesSender pid dies is) = LosesSender pid (dies_too pid dies) is

  pub step_to : (n : ℕ) → ServerStep n cause m next Dies → ServerStep n cause m other Others
  step_to n (Stays e) = Stays (ap (λ (s : ℕ → Option Server). s n) servers ∙ e)
  step_to n (Founded server none now queued held) = Founded server none (ap (λ (s : ℕ → Option Server). s n) servers ∙ now) queued held
  step_to n (Ends server there e why) = Ends server there (ap (λ (s : ℕ → Option Server). s n) servers ∙ e) (by why)
    where
      by : Dies server.pid ⊎ IsDestroyed n server cause m → Others server.pid ⊎ IsDestroyed n server cause m
      by (inl dies) = inl (dies_too server.pid dies)
      by (inr r) = inr r
  step_to n (Lists before after was now step) =
      Lists before after was (ap (λ (s : ℕ → Option Server). s n) servers ∙ now) (list_to n before after step)

-- ---- who is answered, and what

-- a thread that waits for the answer to a message gets that answer
abbrev pub IsSendersAnswer : Machine → (ℕ → Option Server) → ThreadId → List ℕ → Type 0
IsSendersAnswer m servers id words = (number : Number) → waits_for m.threads id number ≡ true → IsAnswerBy number words m servers

-- these words for the thread are meant, as a message's and as an answer
abbrev pub IsTold : Cause → Machine → (ℕ → Option Server) → ThreadId → List ℕ → Type 0
IsTold cause m servers id words = IsMeant id words cause m × IsSendersAnswer m servers id words

abbrev pub AreMeant : Cause → Machine → (ℕ → Option Server) → Answers → Type 0
AreMeant cause m servers answers = (id : ThreadId) (words : List ℕ) → answers id ≡ Some words → IsTold cause m servers id words

-- whoever of these waits for an answer loses the server that has the message
abbrev pub LoseTheirServer : Machine → (ℕ → Option Server) → (ThreadId → Bool) → Type 0
LoseTheirServer m servers test =
    (id : ThreadId) → test id ≡ true → (number : Number) → waits_for m.threads id number ≡ true → LosesServer number m servers

module _ (cause : Cause) (m : Machine) (servers : ℕ → Option Server) where
  pub none_meant : AreMeant cause m servers no_answers
  none_meant id words e = absurd (none-some words e)

  pub one_meant : (who : ThreadId) (words : List ℕ) → IsTold cause m servers who words → AreMeant cause m servers (answer_to who words)
  one_meant who words is id others e = go (same_thread id who) refl e
    where
      go : (b : Bool) → same_thread id who ≡ b → (if b then Some words else None) ≡ Some others → IsTold cause m servers id others
      go true p q =
          subst (λ v. IsTold cause m servers v others) (sym (alike id who p)) (subst (IsTold cause m servers who) (same_Some words others q) is)
      go false p q = absurd (none-some others q)

  pub both_meant : (f g : Answers) → AreMeant cause m servers f → AreMeant cause m servers g → AreMeant cause m servers (both_answers f g)
  both_meant f g p q id words e = go (f id) refl e
    where
      go : (o : Option (List ℕ)) → f id ≡ o → option_or o (g id) ≡ Some words → IsTold cause m servers id words
      go None r s = q id words s
      go (Some some) r s = p id words (r ∙ s)

  pub refused_meant : (test : ThreadId → Bool) → LoseTheirServer m servers test → AreMeant cause m servers (refused_server test)
  refused_meant test lose id words e = go (test id) refl e
    where
      go : (b : Bool) → test id ≡ b → (if b then refused_server (λ x. true) id else None) ≡ Some words → IsTold cause m servers id words
      go true p q =
          subst (IsTold cause m servers id) (same_Some (refused_words ServerNotFound) words q) (inl refl, λ number waits. inr (refl, lose id p number waits))
      go false p q = absurd (none-some words q)

-- ---- a served call

pub record Serves (cause : Cause) (m : Machine) (change : Change) : Type 0 where
  pub servers : (n : ℕ) → ServerStep n cause m change.machine (λ pid. change.gone ≡ Some pid)
  pub answers : AreMeant cause m change.machine.servers change.answers
  pub delivery : change.delivery ≡ None
