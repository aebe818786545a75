-- A step along a chain of messages.
use Rattle.std.proofs.Common.{◌≡◌, ℕ, ◌<◌, ◌≤◌, List, [], ◌∷◌, map, length, get_or, Option, Some, None, refl, ap, sym, subst, ◌∙◌, arith}
use Rattle.std.specs.Iterator.{YieldsFirstRef, item_count, MakesProgress}
use Rattle.std.specs.Option.{option_copied, option_map}
use Rattle.std.proofs.lemmas.List.{length-map}
use Rattle.std.proofs.lemmas.Option.{none-some, same_Some}
use Rattle.xk_base.specs.Tables.RowMap.{row_map}
use Rattle.xk_base.specs.declared.messages.Message.{Message}
use Rattle.msg_queue.specs.Chains.{IsChain, chain, no_slot}
use Rattle.msg_queue.specs.Listings.{IsListing, listed}
use Rattle.msg_queue.specs.Seats.{message_of}
use Rattle.msg_queue.specs.Shown.{messages}
use Rattle.msg_queue.specs.Spots.{AreFilledBy}
use Rattle.msg_queue.specs.declared.held.Held.{Held}
use Rattle.msg_queue.proofs.ChangeLemmas.{is_slot}
use Rattle.msg_queue.proofs.Rings.ChainLemmas.{Leads, chain_is, leads_first, leads_rest}
use Rattle.msg_queue.proofs.Rings.TimesLemmas.{absent_rest, times_head}
use Rattle.msg_queue.proofs.Seats.MessageLemmas.{contents_cons, length-contents, the_content, used_first, used_rest}
use denote.Bor.{Bor}

-- nothing stands in a chain at its end
pub listed_end : (slots : List (Option Held)) (words : List ℕ) (slot : ℕ) → slot ≡ no_slot → listed slots words slot ≡ []
listed_end slots words slot none =
    let empty : IsChain words slot [] = record { links = ap (λ s. s ∷ []) none; within = λ n past. refl } in
    ap (λ xs. map message_of (messages slots xs)) (chain_is words slot [] empty (omega arith))

-- the first slot of a chain that isn't at its end has a message, and the others stand behind it
pub record IsStep (slots : List (Option Held)) (words : List ℕ) (slot : ℕ) : Type 0 where
  pub low : slot < 128
  pub message : Message
  pub there : option_map message_of (row_map slots slot) ≡ Some message
  pub first : listed slots words slot ≡ message ∷ listed slots words (get_or words slot 0)
  pub rest : IsListing slots words (get_or words slot 0)

step_to : (slots : List (Option Held)) (words : List ℕ) (slot : ℕ) (behind : List ℕ) → IsListing slots words slot → chain words slot ≡ slot ∷ behind
    → IsStep slots words slot
step_to slots words slot behind l e =
    let next : ℕ = get_or words slot 0 in
    let here : IsChain words slot (slot ∷ behind) = subst (λ xs. IsChain words slot xs) e l.chained in
    let short : length (slot ∷ behind) ≤ 128 = subst (λ xs. length xs ≤ 128) e l.few in
    let full : AreFilledBy slots (slot ∷ behind) = subst (λ xs. AreFilledBy slots xs) e l.filled in
    let onward : IsChain words next behind = record {
      links = leads_rest words slot slot behind here.links;
      within = λ n past. absent_rest n slot behind (here.within n past);
    } in
    let same : chain words next ≡ behind = chain_is words next behind onward (omega arith) in
    let held = the_content (row_map slots slot) (used_first slots slot behind full) in
    record {
      low = is_slot slot (slot ∷ behind) here.within (omega (arith, times_head slot behind));
      message = message_of held.0;
      there = ap (option_map message_of) held.1;
      first = ap (λ xs. map message_of (messages slots xs)) e ∙ ap (map message_of) (contents_cons slots slot held.0 behind held.1)
          ∙ ap (λ xs. message_of held.0 ∷ map message_of (messages slots xs)) (sym same);
      rest = record {
        slots_many = l.slots_many;
        words_many = l.words_many;
        chained = subst (λ xs. IsChain words next xs) (sym same) onward;
        few = subst (λ xs. length xs ≤ 128) (sym same) (omega arith);
        filled = subst (λ xs. AreFilledBy slots xs) (sym same) (used_rest slots slot behind full);
      };
    }

pub step : (slots : List (Option Held)) (words : List ℕ) (slot : ℕ) → IsListing slots words slot → (slot ≡ no_slot → ⊥) → IsStep slots words slot
step slots words slot l some = go (chain words slot) refl
  where
    go : (xs : List ℕ) → chain words slot ≡ xs → IsStep slots words slot
    go [] e =
        let leads : Leads words slot [] = subst (λ xs. Leads words slot xs) e l.chained.links in
        let none : slot ≡ no_slot = cc in
        absurd (some none)
    go (x ∷ behind) e =
        let leads : Leads words slot (x ∷ behind) = subst (λ xs. Leads words slot xs) e l.chained.links in
        step_to slots words slot behind l (e ∙ ap (λ y. y ∷ behind) (sym (leads_first words slot x behind leads)))

-- there are as many messages as slots
pub length-listed : (slots : List (Option Held)) (words : List ℕ) (slot : ℕ) → IsListing slots words slot → length (listed slots words slot) ≡ length (chain words slot)
length-listed slots words slot l =
    length-map (messages slots (chain words slot)) message_of ∙ length-contents slots (chain words slot) l.filled

-- ---- as an iterator's step

-- the first message came, and the others are left
pub first_yielded : (r : Option (Bor Message)) (old new : List Message) (message : Message) → option_copied r ≡ Some message → old ≡ message ∷ new
    → YieldsFirstRef (λ (left : List Message). left) old r new
first_yielded None old new message e is = absurd (none-some message e)
first_yielded (Some x) old new message e is = is ∙ ap (λ y. y ∷ new) (sym (same_Some x.now message e))

-- so there are fewer
pub fewer_left : (r : Option (Bor Message)) (old new : List Message) → YieldsFirstRef (λ (left : List Message). left) old r new
    → MakesProgress (λ (left : List Message). Unit {0}) (item_count (λ (left : List Message). left)) old r new
fewer_left None old new h = record { on = λ _. tt; keeps = tt; rests = λ _. tt }
fewer_left (Some x) old new h = record { on = λ _. (tt, tt, omega (arith, ap length h)); keeps = tt; rests = λ _. tt }
