-- The key of the node of a run.
use Rattle.std.proofs.Common.{◌≡◌, ◌<◌, ◌≤◌, ◌+◌, ◌^◌, ◌∙◌, ℕ, suc, Bool, true, false, List, [], ◌∷◌, ◌++◌, length, take, Option, Some, None, is_some, refl, sym, ap, subst, arith}
use Rattle.std.specs.Int.{from_bool, to_le_bytes, w32}
use Rattle.std.specs.Prelude.{get_or, map}
use Rattle.std.proofs.Math.Seq.{take-suc}
use Rattle.std.specs.List.{flat_map}
use Rattle.std.proofs.lemmas.List.{flat_map_more, map-append}
use Rattle.std.proofs.lemmas.List.{get_or_past}
use Rattle.machine_laws.specs.Reserved.{IsReservedByThread}
use Rattle.machine_model.specs.Runs.Matched.{Matched}
use Rattle.machine_model.specs.State.Machine.{Machine}
use Rattle.order_search.specs.Keys.{IsToldOf, came_byte, came_list, exits_bytes, exit_bytes, has_bound}
use Rattle.order_model.specs.declared.exits.Exit.{Exit}
use Rattle.order_model.specs.Moves.{Asked, Point}
use Rattle.order_model.specs.Nodes.{node_of}
use Rattle.order_search.specs.Spelled.{IsExitTold, IsSpelled}
use Rattle.order_model.specs.Asking.{bound_of, came_of}
use Rattle.suspend_image.specs.Saveable.{IsSaveable, IsSpellable}
use Rattle.suspend_image.specs.Spelling.{machine_bytes}
use Rattle.suspend_image.specs.StateBytes.{saved_bytes, saved_parts}
use Rattle.suspend_image.specs.Words.{word_bytes}
use Rattle.xk_base.specs.Tables.Counting.{listed_below}
use Rattle.xk_base.specs.declared.limits.TheConstants.{STEP_LIMIT}

-- ---- bytes of the events that came

same_byte : (b : Bool) → from_bool b ≡ came_byte b
same_byte true = refl
same_byte false = refl

-- the byte of the next event
pub next_byte : (came : List Bool) (k byte : ℕ) (b : Bool) (bytes more : List ℕ) → byte ≡ from_bool b
    → bytes ≡ map came_byte (take k came) → more ≡ bytes ++ byte ∷ [] → take (k + 1) came ≡ take k came ++ b ∷ []
    → more ≡ map came_byte (take (k + 1) came)
next_byte came k byte b bytes more is so_far added further =
    added
    ∙ ((λ i. so_far i ++ (is ∙ same_byte b) i ∷ [])
    ∙ (sym (map-append came_byte (take k came) (b ∷ [])) ∙ ap (map came_byte) (sym further)))

pub one_more : (came : List Bool) (k : ℕ) (d : Bool) → k < length came → take (k + 1) came ≡ take k came ++ get_or came k d ∷ []
one_more came k d low = let next : k + 1 ≡ suc k = omega arith in ap (λ (n : ℕ). take n came) next ∙ take-suc came k d low

-- a list of all events is told by what it tells of each
listed_came : (came : List Bool) → came_list (length came) (came_of came) ≡ came
unfolding came_list
listed_came [] = refl
listed_came (b ∷ rest) =
    let next : (k : ℕ) → k + 1 ≡ suc k = λ k. omega arith in
    let behind : (λ (k : ℕ). came_of (b ∷ rest) (k + 1)) ≡ came_of rest = λ i k. came_of (b ∷ rest) (next k i) in
    ap (λ (cs : List Bool). b ∷ cs) (ap (came_list (length rest)) behind ∙ listed_came rest)

-- ---- bytes of what processes ended with

-- those of the next pid
pub next_exit : (exits : ℕ → Option Exit) (k : ℕ) (old bytes more : List ℕ)
    → bytes ≡ old ++ flat_map (λ pid. exit_bytes (exits pid)) (listed_below k (λ pid. true)) → more ≡ bytes ++ exit_bytes (exits k)
    → more ≡ old ++ flat_map (λ pid. exit_bytes (exits pid)) (listed_below (k + 1) (λ pid. true))
unfolding listed_below
next_exit exits k old bytes more so_far added =
    let next : suc k ≡ k + 1 = omega arith in
    let f = λ (pid : ℕ). exit_bytes (exits pid) in
    subst (λ (n : ℕ). more ≡ old ++ flat_map f (listed_below n (λ pid. true))) next
    (added ∙ (ap (λ (xs : List ℕ). xs ++ f k) so_far ∙ flat_map_more f old (listed_below k (λ pid. true)) k))

-- ---- what is told of the point

pub bounded : (o : Option ℕ) → is_some o ≡ has_bound (bound_of o)
bounded None = refl
bounded (Some bound) = refl

-- where a run is
abbrev pub there : Machine → List ℕ → List Bool → ℕ → (ℕ → Option Exit) → Point
there m console came preempted exits =
    record { state = m; console = console; came = came_of came; exits = exits; preempted = preempted }

pub told_of : (asked : Asked) (m : Machine) (console : List ℕ) (came : List Bool) (preempted : ℕ) (exits : ℕ → Option Exit)
    (bytes told consoled : List ℕ) (counts : Bool) → bytes ≡ saved_bytes m → counts ≡ has_bound asked.bound
    → told ≡ map came_byte came ++ (to_le_bytes w32 preempted ++ exits_bytes exits) → length came ≡ length asked.once → consoled ≡ console
    → IsToldOf asked (there m console came preempted exits) bytes counts told consoled
told_of asked m console came preempted exits bytes told consoled counts is bound beside few same =
    let all : came_list (length asked.once) (came_of came) ≡ came =
    ap (λ (n : ℕ). came_list n (came_of came)) (sym few) ∙ listed_came came in
    record {
      bytes_are = is;
      counts_is = bound;
      beside_is = beside ∙ ap (λ (cs : List Bool). map came_byte cs ++ (to_le_bytes w32 preempted ++ exits_bytes exits)) (sym all);
      console_is = same;
    }

-- state bytes have all that a key is made of
saved_long : (m : Machine) → 36 ≤ length (saved_bytes m)
unfolding saved_bytes saved_parts machine_bytes word_bytes
saved_long m = omega arith

pub long_enough : (bytes : List ℕ) (m : Machine) → bytes ≡ saved_bytes m → 36 ≤ length bytes
long_enough bytes m is = subst (λ (b : List ℕ). 36 ≤ length b) (sym is) (saved_long m)

-- ---- that it is told whole

-- a state that was saved is one that state bytes spell
pub spellable_of : (old new : Machine) → new ≡ old → Matched old → old.steps ≤ STEP_LIMIT → IsReservedByThread old
    → (new.steps ≤ STEP_LIMIT → IsReservedByThread new → IsSaveable new) → IsSpellable old
spellable_of old new same matched within reserved saveable =
    let low : new.steps ≤ STEP_LIMIT = subst (λ (m : Machine). m.steps ≤ STEP_LIMIT) (sym same) within in
    record { matched = matched; saveable = subst IsSaveable same (saveable low (subst IsReservedByThread (sym same) reserved)) }

pub spelled_of : (asked : Asked) (m : Machine) (console : List ℕ) (came : List Bool) (preempted : ℕ) (exits : ℕ → Option Exit)
    → IsSpellable m → length came ≡ length asked.once → preempted < 2 ^ 32 → ((pid : ℕ) → IsExitTold pid (exits pid))
    → IsSpelled asked (node_of asked (there m console came preempted exits))
spelled_of asked m console came preempted exits spellable few word told = record {
  state = m;
  spellable = spellable;
  is = refl;
  came = λ k high. get_or_past came k false (omega (arith, high, few));
  preempted = word;
  exits = told;
}
