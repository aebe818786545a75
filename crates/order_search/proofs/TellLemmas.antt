-- Equal bytes are equal nodes.
use Rattle.std.proofs.Common.{◌≡◌, ◌<◌, ◌≤◌, ◌⊎◌, ◌^◌, ◌∙◌, inl, inr, ℕ, List, [], ◌++◌, length, take, drop, map, refl, sym, ap, subst, append_assoc, arith}
use Rattle.std.specs.Int.{to_le_bytes, w32}
use Rattle.std.specs.Prelude.{Ok}
use Rattle.xk_base.specs.Tables.Circle.{id_at}
use Rattle.xk_base.specs.declared.limits.TheConstants.{STEP_LIMIT}
use Rattle.machine_model.specs.Runs.Matched.{Matched}
use Rattle.machine_model.specs.State.Machine.{Machine}
use Rattle.suspend_image.proofs.Saved.StateAgainLemmas.{saved_once, saved_spelled}
use Rattle.suspend_image.proofs.SpelledAgain.WordAgainLemmas.{word_again}
use Rattle.suspend_image.specs.Reading.{word_at}
use Rattle.suspend_image.specs.Saveable.{IsSaveable, IsSpellable}
use Rattle.suspend_image.specs.Spelling.{machine_bytes, with_header}
use Rattle.suspend_image.specs.StateBytes.{saved_bytes, saved_parts}
use Rattle.suspend_image.specs.Words.{word, word_bytes}
use Rattle.order_model.specs.Moves.{Bound, Point, Unbounded, UpTo}
use Rattle.order_model.specs.Nodes.{set_aside}
use Rattle.order_search.proofs.MarkLemmas.{marks_tell}
use Rattle.order_search.proofs.ToldLemmas.{bytes_tell_word, came_tell, exits_tell}
use Rattle.order_search.specs.Keys.{beside_bytes, came_byte, came_list, exits_bytes}
use Rattle.order_search.specs.Marks.{marked}
use Rattle.order_search.specs.Spelled.{BytesTellNodes, IsSpelled}

-- ---- states without a cursor, after so many steps

abbrev placed : ℕ → Machine → Machine
placed steps m = record m { cursor = id_at 0; steps = steps }

-- more steps may have been done, since no more numbers were given than that
placed_matched : (steps : ℕ) (m : Machine) → m.steps ≤ steps → Matched m → Matched (placed steps m)
placed_matched steps m more h =
    let number = h.rest.stepped.number_steps in
    let serial = h.rest.stepped.serial_steps in
    record {
      body = h.body;
      rest = record {
        handlers = h.rest.handlers;
        claims = h.rest.claims;
        above = h.rest.above;
        stepped = record { number_steps = omega (arith, number, more); serial_steps = omega (arith, serial, more) };
        timer = h.rest.timer;
      };
    }

placed_saveable : (steps : ℕ) (m : Machine) → steps ≤ STEP_LIMIT → IsSaveable m → IsSaveable (placed steps m)
placed_saveable steps m few h = record {
  sizes = record {
    registers = h.sizes.registers;
    identifiers = h.sizes.identifiers;
    words = h.sizes.words;
    whole = h.sizes.whole;
  };
  capacity = h.capacity;
  some_process = h.some_process;
  steps = few;
  cursor = grind (arith, h.some_process);
  compare = h.compare;
  reserved_by = h.reserved_by;
  reserved_at = h.reserved_at;
  threads = h.threads;
  servers = h.servers;
  claims = h.claims;
  loans = h.loans;
  orphans = h.orphans;
}

-- the parts after so many steps, from those after others
abbrev counted_as : ℕ → List ℕ → List ℕ
counted_as steps parts = take 8 parts ++ (word steps ++ drop 12 parts)

placed_parts : (steps n : ℕ) (m : Machine) → counted_as steps (saved_parts (placed n m)) ≡ saved_parts (placed steps m)
unfolding saved_parts machine_bytes word_bytes
placed_parts steps n m = refl

placed_once : (steps : ℕ) (m other : Machine) → m.steps ≤ steps → other.steps ≤ steps → steps ≤ STEP_LIMIT → IsSpellable m → IsSpellable other
    → saved_parts (placed steps m) ≡ saved_parts (placed steps other) → placed steps m ≡ placed steps other
unfolding saved_bytes
placed_once steps m other low low' few h h' same =
    saved_once (placed steps m) (placed steps other) (placed_matched steps m low h.matched) (placed_saveable steps m few h.saveable)
    (placed_matched steps other low' h'.matched) (placed_saveable steps other few h'.saveable) (ap with_header same)

steps_word : (m : Machine) → take 4 (drop 8 (saved_parts (placed m.steps m))) ≡ word m.steps
unfolding saved_parts machine_bytes word_bytes
steps_word m = refl

-- a word is told by its bytes
word_tells : (m n : ℕ) (x y : List ℕ) → m < 2 ^ 32 → n < 2 ^ 32 → word m ++ x ≡ word n ++ y → (m ≡ n) × (x ≡ y)
word_tells m n x y fits fits' same =
    let read : Ok (m, x) ≡ Ok (n, y) =
    sym (word_again m x (record { at_least = omega arith; at_most = omega (arith, fits) }))
    ∙ (ap word_at same ∙ word_again n y (record { at_least = omega arith; at_most = omega (arith, fits') })) in
    let pair : (m, x) ≡ (n, y) = cc in
    (ap (λ (p : ℕ × List ℕ). p.0) pair, ap (λ (p : ℕ × List ℕ). p.1) pair)

steps_told : (m other : Machine) → m.steps ≤ STEP_LIMIT → other.steps ≤ STEP_LIMIT
    → saved_parts (placed m.steps m) ≡ saved_parts (placed other.steps other) → m.steps ≡ other.steps
steps_told m other few few' same =
    let words : word m.steps ≡ word other.steps = sym (steps_word m) ∙ (ap (λ (parts : List ℕ). take 4 (drop 8 parts)) same ∙ steps_word other) in
    (word_tells m.steps other.steps [] [] (omega (arith, few)) (omega (arith, few')) (ap (λ (w : List ℕ). w ++ []) words)).0

-- **States of nodes are told by their parts.**
aside_once : (bound : Bound) (m other : Machine) → IsSpellable m → IsSpellable other
    → saved_parts (set_aside bound m) ≡ saved_parts (set_aside bound other) → set_aside bound m ≡ set_aside bound other
aside_once Unbounded m other h h' same =
    let parts : saved_parts (placed STEP_LIMIT m) ≡ saved_parts (placed STEP_LIMIT other) =
    sym (placed_parts STEP_LIMIT 0 m) ∙ (ap (counted_as STEP_LIMIT) same ∙ placed_parts STEP_LIMIT 0 other) in
    let top : STEP_LIMIT ≤ STEP_LIMIT = omega arith in
    ap (λ (x : Machine). record x { steps = 0 })
    (placed_once STEP_LIMIT m other h.saveable.steps h'.saveable.steps top h h' parts)
aside_once (UpTo bound) m other h h' same =
    let steps : m.steps ≡ other.steps = steps_told m other h.saveable.steps h'.saveable.steps same in
    let parts : saved_parts (placed m.steps m) ≡ saved_parts (placed m.steps other) =
    same ∙ ap (λ (n : ℕ). saved_parts (placed n other)) (sym steps) in
    let here : m.steps ≤ m.steps = omega arith in
    let there : other.steps ≤ m.steps = omega (arith, steps) in
    placed_once m.steps m other here there h.saveable.steps h h' parts
    ∙ ap (λ (n : ℕ). placed n other) steps

-- ---- their number of bytes

same_long : (bound : Bound) (m : Machine) → length (saved_bytes (set_aside bound m)) ≡ length (saved_bytes m)
unfolding saved_bytes saved_parts machine_bytes word_bytes
same_long Unbounded m = refl
same_long (UpTo bound) m = refl

few_bytes : (bound : Bound) (m : Machine) → IsSpellable m → length (saved_bytes (set_aside bound m)) < 2 ^ 32
few_bytes bound m h =
    let few = (saved_spelled m h.matched h.saveable).spelled.few in
    omega (arith, same_long bound m, few)

parts_long : (m other : Machine) → length (saved_bytes m) ≡ length (saved_bytes other) → length (saved_parts m) ≡ length (saved_parts other)
unfolding saved_bytes word_bytes
parts_long m other same = omega (arith, same)

-- ---- nodes

pub bytes_tell_nodes : BytesTellNodes
bytes_tell_nodes asked one other h h' same =
    let few : (node : Point) → IsSpelled asked node → length (saved_bytes node.state) < 2 ^ 32 =
    λ node is. subst (λ (m : Machine). length (saved_bytes m) < 2 ^ 32) is.is (few_bytes asked.bound is.state is.spellable) in
    let size = word_tells (length (saved_bytes one.state)) (length (saved_bytes other.state))
    (marked (saved_parts one.state) ++ (beside_bytes asked one ++ one.console))
    (marked (saved_parts other.state) ++ (beside_bytes asked other ++ other.console)) (few one h) (few other h') same in
    let state = marks_tell (saved_parts one.state) (saved_parts other.state) (beside_bytes asked one ++ one.console)
    (beside_bytes asked other ++ other.console) (parts_long one.state other.state size.0) size.1 in
    let came_of = λ (node : Point). map came_byte (came_list (length asked.once) node.came) in
    let told = λ (node : Point). to_le_bytes w32 node.preempted ++ exits_bytes node.exits in
    let beside : came_of one ++ (told one ++ one.console) ≡ came_of other ++ (told other ++ other.console) =
    sym (append_assoc (came_of one) (told one) one.console) ∙ (state.1 ∙ append_assoc (came_of other) (told other) other.console) in
    let came = came_tell (length asked.once) one.came other.came (told one ++ one.console) (told other ++ other.console) beside in
    let counted : to_le_bytes w32 one.preempted ++ (exits_bytes one.exits ++ one.console)
    ≡ to_le_bytes w32 other.preempted ++ (exits_bytes other.exits ++ other.console) =
    sym (append_assoc (to_le_bytes w32 one.preempted) (exits_bytes one.exits) one.console)
    ∙ (came.1 ∙ append_assoc (to_le_bytes w32 other.preempted) (exits_bytes other.exits) other.console) in
    let count = bytes_tell_word one.preempted other.preempted (exits_bytes one.exits ++ one.console) (exits_bytes other.exits ++ other.console)
    h.preempted h'.preempted counted in
    let exits = exits_tell one.exits other.exits h.exits h'.exits one.console other.console count.1 in
    let parts : saved_parts (set_aside asked.bound h.state) ≡ saved_parts (set_aside asked.bound h'.state) =
    ap saved_parts h.is ∙ (state.0 ∙ ap saved_parts (sym h'.is)) in
    let states : one.state ≡ other.state =
    sym h.is ∙ (aside_once asked.bound h.state h'.state h.spellable h'.spellable parts ∙ h'.is) in
    λ i. record {
      state = states i;
      console = exits.1 i;
      came = λ k. each k (half k) came.0 i;
      exits = exits.0 i;
      preempted = count.0 i;
    }
  where
    half : (k : ℕ) → (k < length asked.once) ⊎ (length asked.once ≤ k)
    half k = grind arith

    each : (k : ℕ) → (k < length asked.once) ⊎ (length asked.once ≤ k) → ((j : ℕ) → j < length asked.once → one.came j ≡ other.came j)
        → one.came k ≡ other.came k
    each k (inl low) told = told k low
    each k (inr high) told = h.came k high ∙ sym (h'.came k high)
