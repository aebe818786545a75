-- Servers are matched, but for their messages' numbers, exactly where tests of the rows hold.
use Rattle.std.proofs.Common.{◌≡◌, ℕ, ◌+◌, ◌≤◌, ◌<◌, Bool, true, false, not, eqb, ltb, leb, List, [], ◌∷◌, length, map, Option, Some, None, refl, sym, ap, subst, ◌∙◌, arith, inl, inr, ◌↔◌}
use Rattle.std.specs.Prelude.{◌||◌, is_some, nat_eq, IsTrue}
use Rattle.std.specs.Cmp.Lexicographic.{pointwise}
use Rattle.std.specs.List.{find, list_all, All}
use Rattle.std.specs.Option.{option_map}
use Rattle.std.proofs.lemmas.Bool.{cases_Bool, and_parts, eqb-true, eq-eqb, ltb-true, lt-ltb, leb-true, le-leb, both_ways, ne_eqb, cases_lt}
use Rattle.std.proofs.lemmas.List.{length-map}
use Rattle.xk_base.specs.Tables.Counting.{count_below}
use Rattle.xk_base.proofs.CountingLemmas.{count_below-one, count_below-none, count_below-same}
use Rattle.xk_base.specs.Tables.Sids.{same_sid}
use Rattle.machine_model.specs.State.Machine.{Server}
use Rattle.machine_model.specs.State.Servers.{messages_of, slots_used}
use Rattle.snapshot_rows.specs.declared.state.ServerRow.{ServerRow}
use Rattle.snapshot_rows.specs.declared.state.ProcRow.{ProcRow}
use Rattle.snapshot_rows.specs.Order.{after, server_key, AreInOrder, Ascend}
use Rattle.snapshot_rows.specs.Machines.{message_of, server_of, servers_of, processes_of}
use Rattle.snapshot_matching.specs.ServerParts.{is_server_living, has_slots, is_apart, is_below_next}
use Rattle.snapshot_rows.proofs.KeyLemmas.{either, key_above, number_is, number_own}
use Rattle.snapshot_matching.proofs.ServerRows.ServerRowLemmas.{servers_told, messages_told}

same : {A : Type 0} → A ↔ A
same = (λ x. x, λ x. x)

-- ---- of living processes

pub living_told : (procs : List ProcRow) (rows : List ServerRow) → Ascend server_key rows
    → IsTrue (list_all (is_server_living procs) rows) ↔ ((n : ℕ) (server : Server) → servers_of rows n ≡ Some server → IsTrue (processes_of procs server.pid.0).alive)
living_told procs rows ascend = servers_told (is_server_living procs) (λ n server. IsTrue (processes_of procs server.pid.0).alive) (λ s. same) rows ascend

-- ---- slots

slot_told : (s : ServerRow) → IsTrue (has_slots s) ↔ slots_used (server_of s) ≤ 128
slot_told s =
    let queued : length (map message_of s.queued) ≡ length s.queued = length-map s.queued message_of in
    let held : length (map message_of s.held) ≡ length s.held = length-map s.held message_of in (
      λ holds. (let few = leb-true (length s.queued + length s.held) 128 holds in omega (arith, few, queued, held)),
      λ few. le-leb (length s.queued + length s.held) 128 (omega (arith, few, queued, held)),
    )

pub slots_told : (rows : List ServerRow) → Ascend server_key rows
    → IsTrue (list_all has_slots rows) ↔ ((n : ℕ) (server : Server) → servers_of rows n ≡ Some server → slots_used server ≤ 128)
slots_told rows ascend = servers_told has_slots (λ n server. slots_used server ≤ 128) slot_told rows ascend

-- ---- identifiers

Apart : List ServerRow → ℕ → Server → Type 0
Apart rows n server = (b : ℕ) (t : Server) → servers_of rows b ≡ Some t → IsTrue (same_sid server.sid t.sid) → n ≡ b

pair_told : (s t : ServerRow) → IsTrue (is_apart s t) ↔ (IsTrue (same_sid (server_of s).sid (server_of t).sid) → s.serial ≡ t.serial)
pair_told s t = (
  λ holds sids. (
      elim (cases_Bool (eqb s.serial t.serial)) [
        | inl one ↦ eqb-true s.serial t.serial one
        | inr two ↦ (
            let differ : not (pointwise nat_eq s.sid t.sid) ≡ true = either (eqb s.serial t.serial) _ two holds in
            absurd (both_ways (pointwise nat_eq s.sid t.sid) (not_true _ differ) sids)
            )
      ]
      ),
  λ apart. (
      elim (cases_Bool (pointwise nat_eq s.sid t.sid)) [
        | inl sids ↦ (let one : eqb s.serial t.serial ≡ true = eq-eqb _ _ (apart sids) in rw one refl)
        | inr differ ↦ differing (eqb s.serial t.serial) (pointwise nat_eq s.sid t.sid) differ
      ]
      ),
)
  where
    not_true : (b : Bool) → not b ≡ true → b ≡ false
    not_true true e = absurd cc
    not_true false e = refl

    differing : (a b : Bool) → b ≡ false → (a || not b) ≡ true
    differing true b e = refl
    differing false true e = absurd cc
    differing false false e = refl

one_told : (rows : List ServerRow) → Ascend server_key rows → (s : ServerRow) → IsTrue (list_all (is_apart s) rows) ↔ Apart rows s.serial (server_of s)
unfolding Apart
one_told rows ascend s = servers_told (is_apart s) (λ b t. IsTrue (same_sid (server_of s).sid t.sid) → s.serial ≡ b) (pair_told s) rows ascend

pub sids_told : (rows : List ServerRow) → Ascend server_key rows
    → IsTrue (list_all (λ s. list_all (is_apart s) rows) rows)
    ↔ ((a b : ℕ) (s t : Server) → servers_of rows a ≡ Some s → servers_of rows b ≡ Some t → IsTrue (same_sid s.sid t.sid) → a ≡ b)
unfolding Apart
sids_told rows ascend =
    let told = servers_told (λ s. list_all (is_apart s) rows) (Apart rows) (one_told rows ascend) rows ascend in
    (λ holds a b s t e f. told.0 holds a s e b t f, λ apart. told.1 (λ a s e b t f. apart a b s t e f))

-- ---- few

-- whether there is a server of a serial
is_there : List ServerRow → ℕ → Bool
is_there rows n = is_some (servers_of rows n)

none_there : (n : ℕ) → is_there [] n ≡ false
unfolding is_there
none_there n = refl

there_first : (y : ServerRow) (rows : List ServerRow) (n : ℕ) → is_there (y ∷ rows) n ≡ (eqb y.serial n || is_there rows n)
unfolding is_there
there_first y rows n =
    elim (cases_Bool (eqb y.serial n)) [
      | inl does ↦ rw does refl
      | inr doesnt ↦ rw doesnt refl
    ]

-- one more row is at most one more server
count_one_more : (m k : ℕ) (f g : ℕ → Bool) → ((n : ℕ) → f n ≡ (eqb k n || g n)) → count_below m f ≤ count_below m g + 1
count_one_more m k f g is = elim (cases_lt k m) [
  | inl low ↦ (
      elim (cases_Bool (g k)) [
        | inl there ↦ (
            let alike = count_below-same m f g (λ n l. is n ∙ there_already k n g there) in omega (arith, alike)
            )
        | inr new ↦ (
            let one = count_below-one m k f g low (is k ∙ ap (λ (b : Bool). b || g k) (eq-eqb k k refl)) new
            (λ n l other. is n ∙ ap (λ (b : Bool). b || g n) (ne_eqb k n (λ e. other (sym e)))) in omega (arith, one)
            )
      ]
      )
  | inr high ↦ (
      let alike = count_below-same m f g (λ n l. is n ∙ ap (λ (b : Bool). b || g n) (ne_eqb k n (λ e. omega arith))) in omega (arith, alike)
      )
]
  where
    there_already : (k n : ℕ) (g : ℕ → Bool) → g k ≡ true → (eqb k n || g n) ≡ g n
    there_already k n g there = elim (cases_Bool (eqb k n)) [
      | inl is ↦ (let own : g n ≡ true = subst (λ (z : ℕ). g z ≡ true) (eqb-true k n is) there in rw (is, own) refl)
      | inr other ↦ rw other refl
    ]

few_at_most : (rows : List ServerRow) (bound : ℕ) → count_below bound (is_there rows) ≤ length rows
few_at_most [] bound = let none = count_below-none bound (is_there []) (λ k l. none_there k) in omega (arith, none)
few_at_most (y ∷ rows) bound =
    let more = count_one_more bound y.serial (is_there (y ∷ rows)) (is_there rows) (there_first y rows) in
    let before = few_at_most rows bound in
    omega (arith, more, before)

-- no row behind a serial has it
absent : (y : ServerRow) (rows : List ServerRow) → AreInOrder (λ before s. after before ≤ server_key s) server_key (Some (server_key y)) rows → is_there rows y.serial ≡ false
unfolding is_there
absent y rows forms = go (find (λ r. eqb (server_key r) y.serial) rows) refl
  where
    go : (o : Option ServerRow) → find (λ r. eqb (server_key r) y.serial) rows ≡ o → is_some (option_map server_of o) ≡ false
    go None e = refl
    go (Some s) e =
        let above = key_above server_key (λ k r. eqb (server_key r) k) (λ a b. a < b) (λ before s. after before ≤ server_key s) (λ before s low. omega arith) (number_is server_key) (number_own server_key)
        (λ k low. omega arith) (λ a b c low next. omega arith) y.serial y.serial rows s forms e in
        absurd (omega (arith, above))

-- above all serials
top : List ServerRow → ℕ
top [] = 0
top (s ∷ rows) = s.serial + 1 + top rows

few_at_least : (before : Option ℕ) (rows : List ServerRow) (bound : ℕ) → AreInOrder (λ before s. after before ≤ server_key s) server_key before rows → top rows ≤ bound
    → length rows ≤ count_below bound (is_there rows)
unfolding top
few_at_least before [] bound forms high = omega arith
few_at_least before (y ∷ rows) bound forms high =
    let rest = few_at_least (Some (server_key y)) rows bound forms.1 (omega arith) in
    let here : is_there (y ∷ rows) y.serial ≡ true = there_first y rows y.serial ∙ ap (λ (b : Bool). b || is_there rows y.serial) (eq-eqb y.serial y.serial refl) in
    let one = count_below-one bound y.serial (is_there (y ∷ rows)) (is_there rows) (omega arith) here (absent y rows forms.1)
    (λ n l other. there_first y rows n ∙ ap (λ (b : Bool). b || is_there rows n) (ne_eqb y.serial n (λ e. other (sym e)))) in
    omega (arith, rest, one)

pub few_told : (rows : List ServerRow) → Ascend server_key rows
    → IsTrue (leb (length rows) 64) ↔ ((bound : ℕ) → count_below bound (λ n. is_some (servers_of rows n)) ≤ 64)
unfolding is_there
few_told rows ascend = (
  λ holds bound. (
      let few = leb-true (length rows) 64 holds in
      let most = few_at_most rows bound in
      omega (arith, few, most)
      ),
  λ few. (
      let least = few_at_least None rows (top rows) ascend (omega arith) in
      let most = few (top rows) in
      le-leb (length rows) 64 (omega (arith, least, most))
      ),
)

-- ---- below the next serial and the next number

IsBelow : ℕ → ℕ → ℕ → Server → Type 0
IsBelow number serial n server = (n < serial) × All (λ message. message.number.0 < number) (messages_of server)

below_told : (number serial : ℕ) (s : ServerRow) → IsTrue (is_below_next number serial s) ↔ IsBelow number serial s.serial (server_of s)
unfolding IsBelow
below_told number serial s =
    let messages = messages_told (λ m. ltb m.number number) (λ message. message.number.0 < number) (λ m. (ltb-true m.number number, lt-ltb m.number number)) s in (
      λ holds. (
          let both = and_parts (ltb s.serial serial) _ holds in
          (ltb-true s.serial serial both.0, messages.0 both.1)
          ),
      λ below. (
          let low : ltb s.serial serial ≡ true = lt-ltb s.serial serial below.0 in
          rw (low, messages.1 below.1) refl
          ),
    )

pub servers_below_told : (number serial : ℕ) (rows : List ServerRow) → Ascend server_key rows
    → IsTrue (list_all (is_below_next number serial) rows) ↔ ((n : ℕ) (server : Server) → servers_of rows n ≡ Some server
    → (n < serial) × All (λ message. message.number.0 < number) (messages_of server))
unfolding IsBelow
servers_below_told number serial rows ascend = servers_told (is_below_next number serial) (IsBelow number serial) (below_told number serial) rows ascend
