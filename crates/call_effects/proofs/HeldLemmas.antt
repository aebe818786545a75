-- The message that the search finds is held by a server of the caller's process.
use Rattle.std.proofs.Common.{◌≡◌, ℕ, Bool, true, false, List, [], ◌∷◌, cond, Option, Some, None, refl, sym, ap, ◌∙◌}
use Rattle.std.specs.Prelude.{◌&&◌, find}
use Rattle.std.specs.Option.{option_and_then, option_map}
use Rattle.std.proofs.lemmas.Bool.{and_parts, eqb-true}
use Rattle.std.proofs.lemmas.Option.{none-some, same_Some}
use Rattle.xk_base.specs.declared.messages.Message.{Message}
use Rattle.xk_base.specs.Tables.Counting.{least_below}
use Rattle.xk_base.specs.Tables.Sids.{serial_of}
use Rattle.xk_base.proofs.CountingLemmas.{least_below-passes}
use Rattle.machine_model.specs.Messaging.ReturnCalls.{held_at, held_by_caller, holder_of, holds}
use Rattle.machine_model.specs.State.Machine.{Machine, Server}
use Rattle.machine_model.specs.State.Servers.{is_server_of}
use Rattle.call_effects.specs.Held.{IsHeld}

-- what is found passes
found_passes : (test : Message → Bool) (xs : List Message) (x : Message) → find test xs ≡ Some x → test x ≡ true
found_passes test [] x e = absurd (none-some x e)
found_passes test (y ∷ xs) x e = go (λ later. found_passes test xs x later) (test y) refl e
  where
    go : (find test xs ≡ Some x → test x ≡ true) → (b : Bool) → test y ≡ b → cond b (Some y) (find test xs) ≡ Some x → test x ≡ true
    go later true q r = sym (ap test (same_Some y x r)) ∙ q
    go later false q r = later r

module _ (m : Machine) (test : Message → Bool) (x : Message) where
  abbrev own_holds : ℕ → Bool
  own_holds n = is_server_of m.cursor.pid (m.servers n) && holds test (m.servers n)

  own_server : (o : Option Server) (server : Server) → o ≡ Some server → is_server_of m.cursor.pid o ≡ true → server.pid ≡ m.cursor.pid
  own_server o server q own =
      let same : server.pid.0 ≡ m.cursor.pid.0 = eqb-true server.pid.0 m.cursor.pid.0 (sym (ap (is_server_of m.cursor.pid) q) ∙ own) in
      λ i. record { 0 = same i }

  pub is_held : held_by_caller m test ≡ Some x → IsHeld m test x
  unfolding holder_of
  is_held e = go (least_below m.next_serial own_holds) refl e
    where
      at_server : (n : ℕ) → least_below m.next_serial own_holds ≡ Some n → (o : Option Server) → m.servers n ≡ o
          → option_and_then (λ server. find test server.held) o ≡ Some x → IsHeld m test x
      at_server n q None there f = absurd (none-some x f)
      at_server n q (Some server) there f = record {
        serial = serial_of n;
        is = ap (option_map serial_of) q;
        server = server;
        there = there;
        own = own_server (m.servers n) server there
            (and_parts (is_server_of m.cursor.pid (m.servers n)) (holds test (m.servers n)) (least_below-passes m.next_serial own_holds n q)).0;
        found = f;
        passes = found_passes test server.held x f;
      }

      go : (o : Option ℕ) → least_below m.next_serial own_holds ≡ o → option_and_then (held_at m test) (option_map serial_of o) ≡ Some x
          → IsHeld m test x
      go None q f = absurd (none-some x f)
      go (Some n) q f = at_server n q (m.servers n) refl f
