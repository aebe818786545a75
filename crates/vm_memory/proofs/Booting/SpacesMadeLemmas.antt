-- The spaces of the processes, made one after the other.
use Rattle.xk_base.specs.Tables.Circle.{is_pid}
use Rattle.std.proofs.Common.{◌≡◌, ℕ, ◌+◌, ◌*◌, ◌<◌, ◌≤◌, true, Some, refl, ap, ◌∙◌, ◌⊎◌, inl, inr, arith}
use Rattle.std.specs.Prelude.{nat_le, nat_lt, is_some}
use Rattle.std.proofs.lemmas.Bool.{cases_eq, and_parts, leb-true, ltb-true}
use Rattle.xk_base.specs.declared.ids.Place.{Place}
use Rattle.xk_base.specs.Numbers.Windows.{window_at}
use Rattle.phys_pages.specs.Ram.{Area, RamBytes, area}
use Rattle.ledger_model.specs.Places.{is_user_place}
use Rattle.sv32_space.specs.declared.sides.Entry.TheVariants.{Free}
use Rattle.sv32_space.specs.Spaces.{root_at, IsMade}
use Rattle.sv32_space.specs.SpelledEntries.{entries}

-- the first k spaces are made, and empty
pub record AreMade (procs k : ℕ) (old now : RamBytes) : Type 0 where
  pub made : (pid : ℕ) → 2 ≤ pid → pid < k + 2 → IsMade now pid
  pub free : (q : Place) → is_user_place procs q ≡ true → q.pid.0 < k + 2 → entries procs now q ≡ Some Free
  pub area : area now ≡ area old

pub space_fits : (procs k : ℕ) (old now : RamBytes) → k < procs → 21 * procs ≤ (area old).frames → AreMade procs k old now → 21 * k + 21 ≤ (area now).frames
space_fits procs k old now low fits h =
    let same : (area now).frames ≡ (area old).frames = ap (λ (a : Area). a.frames) h.area in
    omega arith

pub none_made : (procs : ℕ) (ram : RamBytes) → AreMade procs 0 ram ram
none_made procs ram = record { made = λ pid low high. absurd (omega arith); free = λ q user high. absurd (few q user high); area = refl }
  where
    few : (q : Place) → is_user_place procs q ≡ true → q.pid.0 < 0 + 2 → ⊥
    few q user high =
        let parts : (is_pid procs q.pid.0 ≡ true) × (is_some (window_at q.vpn.0) ≡ true) = and_parts (is_pid procs q.pid.0) (is_some (window_at q.vpn.0)) user in
        let more : (nat_le 2 q.pid.0 ≡ true) × (nat_lt q.pid.0 (procs + 2) ≡ true) = and_parts (nat_le 2 q.pid.0) (nat_lt q.pid.0 (procs + 2)) parts.0 in
        let two : 2 ≤ q.pid.0 = leb-true 2 q.pid.0 more.0 in
        omega arith

-- what `new_space` does with the space of the process k + 2
pub record IsNewSpace (procs k : ℕ) (now new : RamBytes) : Type 0 where
  pub made : (pid : ℕ) → 2 ≤ pid → root_at pid ≡ 21 * k → IsMade new pid
  pub free : (q : Place) → root_at q.pid.0 ≡ 21 * k → is_user_place procs q ≡ true → entries procs new q ≡ Some Free
  pub others : (pid : ℕ) → (root_at pid + 21 ≤ 21 * k) ⊎ (21 * k + 21 ≤ root_at pid) → IsMade now pid → IsMade new pid
  pub entered : (q : Place) → (root_at q.pid.0 + 21 ≤ 21 * k) ⊎ (21 * k + 21 ≤ root_at q.pid.0) → entries procs new q ≡ entries procs now q
  pub area : area new ≡ area now

pub space_more : (procs k : ℕ) (old now new : RamBytes) → AreMade procs k old now → IsNewSpace procs k now new → AreMade procs (k + 1) old new
space_more procs k old now new h s = record {
  made = λ pid low high. elim (cases_eq pid (k + 2)) [
    | inl same ↦ s.made pid low (omega arith)
    | inr apart ↦ s.others pid (inl (omega arith)) (h.made pid low (omega arith))
  ];
  free = λ q user high. elim (cases_eq q.pid.0 (k + 2)) [
    | inl same ↦ s.free q (omega arith) user
    | inr apart ↦ s.entered q (inl (before q user apart high)) ∙ h.free q user (omega arith)
  ];
  area = s.area ∙ h.area;
}
  where
    before : (q : Place) → is_user_place procs q ≡ true → (q.pid.0 ≡ k + 2 → ⊥) → q.pid.0 < k + 1 + 2 → root_at q.pid.0 + 21 ≤ 21 * k
    before q user apart high =
        let parts : (is_pid procs q.pid.0 ≡ true) × (is_some (window_at q.vpn.0) ≡ true) = and_parts (is_pid procs q.pid.0) (is_some (window_at q.vpn.0)) user in
        let more : (nat_le 2 q.pid.0 ≡ true) × (nat_lt q.pid.0 (procs + 2) ≡ true) = and_parts (nat_le 2 q.pid.0) (nat_lt q.pid.0 (procs + 2)) parts.0 in
        let two : 2 ≤ q.pid.0 = leb-true 2 q.pid.0 more.0 in
        omega arith

-- all of them
pub all_made : (procs : ℕ) (old now : RamBytes) → AreMade procs procs old now → (pid : ℕ) → is_pid procs pid ≡ true → IsMade now pid
all_made procs old now h pid process =
    let parts : (nat_le 2 pid ≡ true) × (nat_lt pid (procs + 2) ≡ true) = and_parts (nat_le 2 pid) (nat_lt pid (procs + 2)) process in
    h.made pid (leb-true 2 pid parts.0) (ltb-true pid (procs + 2) parts.1)

pub all_free : (procs : ℕ) (old now : RamBytes) → AreMade procs procs old now → (q : Place) → is_user_place procs q ≡ true → entries procs now q ≡ Some Free
all_free procs old now h q user =
    let parts : (is_pid procs q.pid.0 ≡ true) × (is_some (window_at q.vpn.0) ≡ true) = and_parts (is_pid procs q.pid.0) (is_some (window_at q.vpn.0)) user in
    let more : (nat_le 2 q.pid.0 ≡ true) × (nat_lt q.pid.0 (procs + 2) ≡ true) = and_parts (nat_le 2 q.pid.0) (nat_lt q.pid.0 (procs + 2)) parts.0 in
    h.free q user (ltb-true q.pid.0 (procs + 2) more.1)
