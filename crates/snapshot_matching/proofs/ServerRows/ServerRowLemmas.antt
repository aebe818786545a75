-- Servers by their serials, and their messages, told from the rows.
use Rattle.std.proofs.Common.{◌≡◌, ℕ, ◌≤◌, ◌<◌, Bool, true, cond, eqb, List, [], ◌∷◌, ◌++◌, map, Some, None, refl, sym, ap, subst, ◌∙◌, arith, inl, inr, ◌↔◌}
use Rattle.std.specs.Prelude.{IsTrue}
use Rattle.std.specs.List.{find, list_all, All}
use Rattle.std.specs.Option.{option_map}
use Rattle.std.proofs.lemmas.Bool.{cases_Bool, and_parts}
use Rattle.std.proofs.lemmas.List.{map-append}
use Rattle.std.proofs.lemmas.List.Elements.{All-nil, All-cons, All-head, All-tail}
use Rattle.std.proofs.lemmas.List.Folds.{list_all-append}
use Rattle.xk_base.specs.declared.messages.Message.{Message}
use Rattle.machine_model.specs.State.Machine.{Server}
use Rattle.machine_model.specs.State.Servers.{messages_of}
use Rattle.snapshot_rows.specs.declared.state.MessageRow.{MessageRow}
use Rattle.snapshot_rows.specs.declared.state.ServerRow.{ServerRow}
use Rattle.snapshot_rows.specs.Order.{after, server_key, Ascend}
use Rattle.snapshot_rows.specs.Machines.{message_of, server_of, servers_of}
use Rattle.snapshot_matching.specs.ServerParts.{all_messages}
use Rattle.snapshot_rows.proofs.KeyLemmas.{some, some_same, mapped, found_passes, all_pass, number_is, number_own}

-- where the server of each serial passes a test, all servers do
pub servers_pass : (good : ServerRow → Bool) (rows : List ServerRow) → Ascend server_key rows
    → ((n : ℕ) (s : ServerRow) → find (λ r. eqb (server_key r) n) rows ≡ Some s → good s ≡ true) → list_all good rows ≡ true
servers_pass good rows ascend each =
    all_pass server_key (λ k r. eqb (server_key r) k) (λ a b. a < b) (λ before s. after before ≤ server_key s) (λ before s low. omega arith) (number_is server_key) (number_own server_key)
    (λ k low. omega arith) (λ a b c low next. omega arith) good None rows ascend each

-- a server that was found has the serial
pub found_server : (n : ℕ) (rows : List ServerRow) (s : ServerRow) → find (λ r. eqb (server_key r) n) rows ≡ Some s → s.serial ≡ n
found_server n [] s e = absurd cc
found_server n (y ∷ rows) s e =
    elim (cases_Bool (eqb (server_key y) n)) [
      | inl does ↦ (
          let here : some y ≡ some s = sym (ap (λ (b : Bool). cond b (some y) (find (λ r. eqb (server_key r) n) rows)) does) ∙ e in
          subst (λ (z : ServerRow). z.serial ≡ n) (some_same y s here) (number_is server_key n y does)
          )
      | inr doesnt ↦ found_server n rows s (sym (ap (λ (b : Bool). cond b (some y) (find (λ r. eqb (server_key r) n) rows)) doesnt) ∙ e)
    ]

-- What a test of each row tells of each server that there is.
pub servers_told : (good : ServerRow → Bool) (P : ℕ → Server → Type 0) → ((s : ServerRow) → IsTrue (good s) ↔ P s.serial (server_of s))
    → (rows : List ServerRow) → Ascend server_key rows
    → IsTrue (list_all good rows) ↔ ((n : ℕ) (server : Server) → servers_of rows n ≡ Some server → P n server)
servers_told good P tells rows ascend = (
  λ all n server e. (
      let m = mapped server_of (find (λ r. eqb (server_key r) n) rows) server e in
      let key = found_server n rows m.0 m.1 in
      let row = (tells m.0).0 (found_passes (λ (r : ServerRow). eqb (server_key r) n) good rows m.0 all m.1) in
      subst (λ (u : Server). P n u) m.2 (subst (λ (k : ℕ). P k (server_of m.0)) key row)
      ),
  λ each.
      servers_pass good rows ascend (λ (n : ℕ) (s : ServerRow) (e : find (λ r. eqb (server_key r) n) rows ≡ Some s). (
      let key = found_server n rows s e in
      (tells s).1 (subst (λ (k : ℕ). P k (server_of s)) (sym key) (each n (server_of s) (ap (option_map server_of) e)))
      )),
)

-- ---- messages

-- what a test of each row tells of each thing that is made of one
pub each_told : {A B : Type 0} (f : A → B) (good : A → Bool) (P : B → Type 0) → ((x : A) → IsTrue (good x) ↔ P (f x))
    → (rows : List A) → IsTrue (list_all good rows) ↔ All P (map f rows)
each_told f good P tells [] = (λ holds. All-nil P, λ all. refl)
each_told f good P tells (x ∷ rows) = (
  λ holds. (
      let both = and_parts (good x) (list_all good rows) holds in
      All-cons P (f x) (map f rows) ((tells x).0 both.0) ((each_told f good P tells rows).0 both.1)
      ),
  λ all. (
      let first : good x ≡ true = (tells x).1 (All-head P (f x) (map f rows) all) in
      let rest : list_all good rows ≡ true = (each_told f good P tells rows).1 (All-tail P (f x) (map f rows) all) in
      rw (first, rest) refl
      ),
)

pub messages_told : (good : MessageRow → Bool) (P : Message → Type 0) → ((m : MessageRow) → IsTrue (good m) ↔ P (message_of m))
    → (s : ServerRow) → IsTrue (all_messages good s) ↔ All P (messages_of (server_of s))
messages_told good P tells s =
    let each = each_told message_of good P tells (s.queued ++ s.held) in
    let tests = list_all-append good s.queued s.held in
    let rows = map-append message_of s.queued s.held in (
      λ holds. subst (All P) rows (each.0 (tests ∙ holds)),
      λ all. sym tests ∙ each.1 (subst (All P) (sym rows) all),
    )
