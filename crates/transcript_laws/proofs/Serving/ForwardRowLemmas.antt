-- What an accepted forward does at each server.
use Rattle.std.proofs.Common.{◌≡◌, ◌≢◌, ℕ, Bool, true, false, List, Option, Some, None, refl, sym, ap, ◌∙◌, subst}
use Rattle.std.specs.Prelude.{if◌then◌else◌, is_some, nat_eq}
use Rattle.std.specs.Option.{option_map}
use Rattle.std.proofs.lemmas.Bool.{and_parts, eq-eqb, eqb-true}
use Rattle.std.proofs.lemmas.Option.{slice_get-get_or}
use Rattle.xk_base.specs.declared.ids.Pid.{Pid}
use Rattle.xk_base.specs.declared.ids.Serial.{Serial}
use Rattle.xk_base.specs.declared.ids.Vpn.{Vpn}
use Rattle.xk_base.specs.declared.messages.Message.{Message}
use Rattle.syscall_codec.specs.CallNumbers.{forward_message}
use Rattle.syscall_codec.specs.CallWords.{call_number, forward_cid, forward_token}
use Rattle.syscall_codec.specs.ReplyWords.{plain_words}
use Rattle.xk_base.specs.Tables.Connections.{connected_to}
use Rattle.machine_model.specs.Messaging.ForwardCalls.{is_passable_of, passed_number, passed_to, with_first}
use Rattle.machine_model.specs.Messaging.Messages.{is_lend, is_lend_of, is_of_number, without_held}
use Rattle.machine_model.specs.Messaging.Receivers.{receiver}
use Rattle.machine_model.specs.Runs.Matched.{Matched}
use Rattle.machine_model.specs.Runs.Moments.{Cause}
use Rattle.machine_model.specs.State.Machine.{Machine, Server}
use Rattle.machine_model.specs.State.Servers.{change_server}
use Rattle.machine_model.specs.State.Threads.{answer_to}
use Rattle.machine_laws.proofs.Returning.GivenBackLemmas.{found_at}
use Rattle.call_effects.specs.Effects.{arriving, at_server}
use Rattle.call_effects.specs.Rows.MessageRows.{arrival_answers}
use Rattle.call_effects.proofs.ServedLemmas.{done}
use Rattle.call_effects.specs.Held.{IsHeld}
use Rattle.transcript_laws.specs.Following.{Lacks, keeping}
use Rattle.transcript_laws.specs.Serving.{Forwards, IsForwarded, IsForwardedTo, IsServedBy, ListStep, Lists, ServerStep, Stays}
use Rattle.transcript_laws.proofs.Following.SendLemmas.{arrival_kept, lend_answered}
use Rattle.transcript_laws.proofs.Serving.AtServerLemmas.{AreMeant, Serves, both_meant}
use Rattle.transcript_laws.proofs.Serving.ArrivalLemmas.{arrival_meant, arrival_step}
use Rattle.transcript_laws.specs.CallKinds.{IsPassing, passing, place_at_server}

module _ (cause : Cause) (m : Machine) (h : Matched m) (w : List ℕ) (served_by : (pid : Pid) → m.cursor.pid ≡ pid → IsServedBy pid w cause m)
    (plain : (servers : ℕ → Option Server) → AreMeant cause m servers (answer_to m.cursor plain_words)) where
  abbrev Goes : Machine → ℕ → Type 0
  Goes next n = ServerStep n cause m next (λ pid. None ≡ Some pid)

  -- what is passable is a lend
  pub lends_of : (x : Message) → is_passable_of (passed_number w) x ≡ true → is_lend x.kind ≡ true
  lends_of x passes =
      (and_parts (is_of_number (passed_number w) x) (is_lend x.kind)
      (and_parts (is_lend_of (passed_number w) x) (is_some x.sender) passes).0).1

  -- the message as it arrives at the other server
  abbrev pub passed_to_it : call_number w ≡ forward_message → (x : Message) (at : IsHeld m (is_passable_of (passed_number w)) x) (to : Serial) → to.0 ≢ at.serial.0
      → passed_to m (forward_cid w) ≡ Some to → (first : Vpn) → IsForwardedTo to.0 (with_first first x) cause m
  passed_to_it e x at to apart leads first =
      let place = found_at (is_passable_of (passed_number w)) at.server.held x at.found in
      let lend = (and_parts (is_lend_of (passed_number w) x) (is_some x.sender) place.4).0 in
      let named : x.number.0 ≡ forward_token w = eqb-true x.number.0 (forward_token w) (and_parts (is_of_number (passed_number w) x) (is_lend x.kind) lend).0 in
      record {
        from = at.serial.0;
        server = at.server;
        there = at.there;
        words = w;
        served = served_by at.server.pid (sym at.own);
        forwards = e;
        leads = ap (λ (p : Pid). connected_to (m.process p.0).connections (forward_cid w)) at.own ∙ leads;
        apart = apart;
        place = place.0;
        held = x;
        held_there = slice_get-get_or at.server.held place.0 place.1 place.2 ∙ ap Some place.3;
        token = sym named;
        lends = lends_of x place.4;
        first = first;
        is = refl;
      }

  forwarded : (x : Message) (at : IsHeld m (is_passable_of (passed_number w)) x) (to : Serial) → to.0 ≢ at.serial.0 → (target : Server)
      → m.servers to.0 ≡ Some target → (first : Vpn) → call_number w ≡ forward_message → passed_to m (forward_cid w) ≡ Some to → (next : Machine)
      → next.servers ≡ (change_server to (at_server (arriving (receiver m to) (with_first first x))) (change_server at.serial (without_held x.number) m)).servers
      → (n : ℕ) → Goes next n
  forwarded x at to apart target target_there first e leads next servers n = go (nat_eq n to.0) refl
    where
      passes : IsForwardedTo to.0 (with_first first x) cause m
      passes = passed_to_it e x at to apart leads first

      now : (b : Bool) → nat_eq n to.0 ≡ b
          → next.servers n ≡ (if b then option_map (at_server (arriving (receiver m to) (with_first first x))) ((change_server at.serial (without_held x.number) m).servers to.0)
          else (change_server at.serial (without_held x.number) m).servers n)
      now b e =
          ap (λ (s : ℕ → Option Server). s n) servers
          ∙ ap (λ c. if c then option_map (at_server (arriving (receiver m to) (with_first first x))) ((change_server at.serial (without_held x.number) m).servers to.0)
          else (change_server at.serial (without_held x.number) m).servers n) e

      still_there : (change_server at.serial (without_held x.number) m).servers to.0 ≡ m.servers to.0
      still_there = by (nat_eq to.0 at.serial.0) refl
        where
          by : (b : Bool) → nat_eq to.0 at.serial.0 ≡ b → (if b then option_map (without_held x.number) (m.servers at.serial.0) else m.servers to.0) ≡ m.servers to.0
          by true q = absurd (apart (eqb-true to.0 at.serial.0 q))
          by false q = refl

      arrived : Server
      arrived = at_server (arriving (receiver m to) (with_first first x)) target

      here : n ≡ to.0 → next.servers n ≡ Some arrived → Goes next n
      here same e =
          Lists target arrived (ap m.servers same ∙ target_there) e
          (subst (λ k. ListStep k cause m next (λ pid. None ≡ Some pid) target arrived) (sym same)
          (arrival_step cause m h to (with_first first x) (IsForwarded passes) next (λ pid. None ≡ Some pid) target target_there))

      -- it is at the other server then
      at_target : (keeping x.number (next.servers to.0)) ≢ Lacks
      at_target lacks =
          arrival_kept x.number (with_first first x) (eq-eqb x.number.0 x.number.0 refl) (lend_answered x.kind (lends_of x at.passes)) (receiver m to) target
          (sym (ap (keeping x.number) there) ∙ lacks)
        where
          there : next.servers to.0 ≡ Some arrived
          there =
              ap (λ (s : ℕ → Option Server). s to.0) servers
              ∙ (ap (λ b. if b then option_map (at_server (arriving (receiver m to) (with_first first x))) ((change_server at.serial (without_held x.number) m).servers to.0)
              else (change_server at.serial (without_held x.number) m).servers to.0) (eq-eqb to.0 to.0 refl)
              ∙ ap (option_map (at_server (arriving (receiver m to) (with_first first x)))) (still_there ∙ target_there))

      go : (b : Bool) → nat_eq n to.0 ≡ b → Goes next n
      go true q =
          here (eqb-true n to.0 q)
          (now true q ∙ ap (option_map (at_server (arriving (receiver m to) (with_first first x)))) (still_there ∙ target_there))
      go false q = by (nat_eq n at.serial.0) refl
        where
          by : (b : Bool) → nat_eq n at.serial.0 ≡ b → Goes next n
          by true r =
              Lists at.server (without_held x.number at.server) (ap m.servers (eqb-true n at.serial.0 r) ∙ at.there)
              (now false q ∙ (ap (λ c. if c then option_map (without_held x.number) (m.servers at.serial.0) else m.servers n) r
              ∙ ap (option_map (without_held x.number)) at.there))
              (Forwards to.0 (with_first first x) (passed_to_it e x at to apart leads first) (sym (eqb-true n at.serial.0 r)) at_target refl)
          by false r = Stays (now false q ∙ ap (λ c. if c then option_map (without_held x.number) (m.servers at.serial.0) else m.servers n) r)

  pub passes_serves : call_number w ≡ forward_message → (it : IsPassing m w)
      → Serves cause m (done m (passing m it.message it.held.serial it.to.serial (place_at_server it.to.server it.first)))
  passes_serves e it = record {
    servers = forwarded it.message it.held it.to.serial it.apart it.to.server it.to.there it.first e it.to.leads _ refl;
    answers = both_meant cause m _ (arrival_answers (receiver m it.to.serial) (with_first it.first it.message)) (answer_to m.cursor plain_words)
        (arrival_meant cause m h it.to.serial (with_first it.first it.message)
        (IsForwarded (passed_to_it e it.message it.held it.to.serial it.apart it.to.leads it.first)) _) (plain _);
    delivery = refl;
  }
