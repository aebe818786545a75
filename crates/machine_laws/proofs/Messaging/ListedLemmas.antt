-- Whether a list has a message that passes, and a machine a server that does: what it takes, and what follows.
use Rattle.std.proofs.Common.{◌≡◌, ℕ, zero, suc, ◌<◌, Bool, true, false, List, [], ◌∷◌, ◌++◌, get_or, length, Option, Some, None, refl, sym, ◌∙◌, arith}
use Rattle.std.specs.Prelude.{◌||◌, is_some}
use Rattle.std.specs.List.{All, list_any}
use Rattle.std.proofs.lemmas.Bool.{false≢true, or_from, or_parts}
use Rattle.std.proofs.lemmas.List.Elements.{All-head, All-tail}
use Rattle.xk_base.specs.declared.messages.Message.{Message}
use Rattle.xk_base.specs.Tables.Counting.{least_below}
use Rattle.xk_base.proofs.CountingLemmas.{least_below-passes}
use Rattle.machine_model.specs.Ending.Closing.{any_server, server_passes}
use Rattle.machine_model.specs.Messaging.MessageCounts.{count_in}
use Rattle.machine_model.specs.State.Machine.{Machine, Server}
use Rattle.machine_model.proofs.Matching.CountLemmas.{none_pass}

pub all_fail : (test : Message → Bool) (xs : List Message) → All (λ x. test x ≡ false) xs → list_any test xs ≡ false
all_fail test [] all = refl
all_fail test (x ∷ xs) all =
    or_from (test x) (list_any test xs) (All-head (λ y. test y ≡ false) x xs all) (all_fail test xs (All-tail (λ y. test y ≡ false) x xs all))

pub not_counted : (test : Message → Bool) (xs : List Message) → count_in test xs ≡ 0 → list_any test xs ≡ false
not_counted test xs e = all_fail test xs (none_pass test xs e)

-- where one passes
pub listed_at : (test : Message → Bool) (xs : List Message) → list_any test xs ≡ true
    → (j : ℕ) × (d : Message) × (j < length xs) × (test (get_or xs j d) ≡ true)
listed_at test [] e = absurd (false≢true e)
listed_at test (x ∷ xs) e = go (λ later. listed_at test xs later) (test x) refl e
  where
    go : (list_any test xs ≡ true → (j : ℕ) × (d : Message) × (j < length xs) × (test (get_or xs j d) ≡ true))
        → (b : Bool) → test x ≡ b → (b || list_any test xs) ≡ true
        → (j : ℕ) × (d : Message) × (j < length (x ∷ xs)) × (test (get_or (x ∷ xs) j d) ≡ true)
    go rest true q r = (0, x, omega arith, q)
    go rest false q r =
        let later = rest r in
        let low : later.0 < length xs = later.2 in
        (suc later.0, later.1, omega arith, later.3)

-- one that passes is found
pub at_listed : (test : Message → Bool) (xs : List Message) (j : ℕ) (d : Message) → j < length xs → test (get_or xs j d) ≡ true
    → list_any test xs ≡ true
at_listed test xs j d low e = go (list_any test xs) refl
  where
    fails : (ys : List Message) → list_any test ys ≡ false → All (λ y. test y ≡ false) ys
    fails [] q i c l = absurd (omega arith)
    fails (y ∷ ys) q zero c l = (or_parts (test y) (list_any test ys) q).0
    fails (y ∷ ys) q (suc i) c l = fails ys (or_parts (test y) (list_any test ys) q).1 i c (omega arith)

    go : (b : Bool) → list_any test xs ≡ b → b ≡ true
    go true q = refl
    go false q = absurd (false≢true (sym (fails xs q j d low) ∙ e))

pub listed_left : (test : Message → Bool) (xs ys : List Message) → list_any test (xs ++ ys) ≡ false → list_any test xs ≡ false
listed_left test [] ys e = refl
listed_left test (x ∷ xs) ys e =
    let parts = or_parts (test x) (list_any test (xs ++ ys)) e in
    or_from (test x) (list_any test xs) parts.0 (listed_left test xs ys parts.1)

-- the server that passes
pub record PassingServer (m : Machine) (test : ℕ → Server → Bool) : Type 0 where
  pub serial : ℕ
  pub server : Server
  pub live : m.servers serial ≡ Some server
  pub passes : test serial server ≡ true

pub passing_server : (m : Machine) (test : ℕ → Server → Bool) → any_server m test ≡ true → PassingServer m test
unfolding any_server
passing_server m test e = go (least_below m.next_serial (λ n. server_passes (test n) (m.servers n))) refl e
  where
    at : (n : ℕ) (o : Option Server) → m.servers n ≡ o → server_passes (test n) o ≡ true → PassingServer m test
    at n None q r = absurd (false≢true r)
    at n (Some server) q r = record { serial = n; server = server; live = q; passes = r }

    go : (o : Option ℕ) → least_below m.next_serial (λ n. server_passes (test n) (m.servers n)) ≡ o → is_some o ≡ true → PassingServer m test
    go None q r = absurd (false≢true r)
    go (Some n) q r = at n (m.servers n) refl (least_below-passes m.next_serial (λ k. server_passes (test k) (m.servers k)) n q)

pub listed_right : (test : Message → Bool) (xs ys : List Message) → list_any test (xs ++ ys) ≡ false → list_any test ys ≡ false
listed_right test [] ys e = e
listed_right test (x ∷ xs) ys e = listed_right test xs ys (or_parts (test x) (list_any test (xs ++ ys)) e).1
