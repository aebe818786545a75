-- DestroyServer: the server of the identifier is one of the caller's process, or the call is refused.
use Rattle.xk_ports.specs.declared.store.SwapStore.{Ghosts as SwapStore}
use Rattle.std.proofs.Common.{◌≡◌, Bool, true, false, ◌∷◌, [], Some, None, refl, sym, ap, ◌∙◌}
use Rattle.std.specs.Prelude.{not, unwrap_or}
use Rattle.std.proofs.lemmas.Bool.{false≢true}
use Rattle.kill_path.specs.Rows.{destroy_row}
use Rattle.machine_model.specs.Calling.ServerCalls.{destroy_served, own_server_refusals}
use Rattle.machine_model.specs.State.Changes.{Outcome, Refused, Served, unless_refused}
use Rattle.machine_model.specs.State.Machine.{Machine}
use Rattle.machine_model.specs.State.Servers.{is_own, with_sid}
use Rattle.xk_parts.specs.Seats.{own_serial}
use Rattle.send_path.proofs.Servers.MachineLemmas.{IsOwn, not_own, own_found}
use Rattle.server_table.specs.ServersOf.{servers_of}
use Rattle.xk_base.specs.declared.errors.XousError.TheVariants.{ServerNotFound}
use Rattle.xk_base.specs.declared.ids.Serial.{Serial}
use Rattle.xk_base.specs.declared.ids.Sid.{Sid}
use Rattle.xk_kernel.specs.Sound.{IsWhole}
use Rattle.xk_kernel.specs.State.{machine_of}
use Rattle.xk_kernel.specs.declared.kernel.Kernel.{Kernel}
use Rattle.xk_kernel.proofs.Messaging.PartsLemmas.{machine_tables, tables}
use Rattle.send_path.proofs.Taken.{without_memory}
use Rattle.xk_parts.specs.Parts.{machine_at, no_store}

refused_first : (b : Bool) (o : Outcome) → b ≡ false → unless_refused ((not b, ServerNotFound) ∷ []) o ≡ Refused ServerNotFound
refused_first false o e = refl
refused_first true o e = absurd (false≢true (sym e))

served_last : (b : Bool) (o : Outcome) → b ≡ true → unless_refused ((not b, ServerNotFound) ∷ []) o ≡ o
served_last true o e = refl
served_last false o e = absurd (false≢true e)

module _ {W : Type 0} (S : SwapStore W) (k : Kernel W) (whole : IsWhole S k) (sid : Sid) where
  abbrev m : Machine
  m = machine_of S.held k

  abbrev row : Outcome
  row = unless_refused (own_server_refusals m sid) (Served (destroy_served m sid))

  shown : machine_at no_store.held k.cursor (without_memory (tables k)) m ≡ m
  shown = machine_tables S.held k (tables k) whole.threads

  pub refuses : None ≡ own_serial k.cursor.pid sid (servers_of k.servers) → row ≡ Refused ServerNotFound
  refuses e =
      refused_first (is_own m (with_sid m sid)) (Served (destroy_served m sid))
      (sym (ap (λ x. is_own x (with_sid x sid)) shown) ∙ not_own k.cursor (tables k) m sid (sym e))

  pub destroys : (serial : Serial) → Some serial ≡ own_serial k.cursor.pid sid (servers_of k.servers) → row ≡ destroy_row serial m
  destroys serial e =
      let own : IsOwn k.cursor (tables k) m sid serial = own_found k.cursor (tables k) m sid serial (sym e) in
      let its : with_sid m sid ≡ Some serial = sym (ap (λ x. with_sid x sid) shown) ∙ own.its in
      served_last (is_own m (with_sid m sid)) (Served (destroy_served m sid)) (sym (ap (λ x. is_own x (with_sid x sid)) shown) ∙ own.own)
      ∙ ap (λ o. destroy_row (unwrap_or o (record { 0 = 0 })) m) its
