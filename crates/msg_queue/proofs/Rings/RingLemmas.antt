-- A ring after a slot went from the free chain to another, or back.
use Rattle.std.proofs.Common.{◌≡◌, ℕ, ◌+◌, ◌<◌, ◌≤◌, List, [], ◌∷◌, ◌++◌, length, get_or, set, ap, ◌∙◌, inl, inr, arith, length-append}
use Rattle.std.proofs.lemmas.Bool.{cases_lt, ne_eqb}
use Rattle.std.proofs.lemmas.List.{length-set}
use Rattle.msg_queue.specs.Chains.{no_slot, times, last_from, IsChain}
use Rattle.msg_queue.specs.Linking.{linked_words, linked_first, linked_last, unlinked_words, unlinked_first, unlinked_last}
use Rattle.msg_queue.specs.Rings.{Links, AreChains}
use Rattle.msg_queue.proofs.Rings.TimesLemmas.{times-append, times_head, last_is_among}
use Rattle.msg_queue.proofs.Rings.ChainLemmas.{leads_rest, leads_kept}
use Rattle.msg_queue.proofs.Rings.LinkLemmas.{first_linked}
use Rattle.msg_queue.proofs.ChangeLemmas.{is_slot, linked_chain, linked_kept, linked_last_is, once_middle, unlinked_chain, unlinked_kept, unlinked_last_is, length-linked_words, length-unlinked_words}

-- the ring with queued and held in each other's place
abbrev pub exchanged : Links → Links
exchanged l = record { next = l.next; free = l.free; queued = l.held; last_queued = l.last_held; held = l.queued; last_held = l.last_queued }

pub chains_exchanged : (l : Links) (f q h : List ℕ) → AreChains l f q h → AreChains (exchanged l) f h q
chains_exchanged l f q h r = record {
  words = r.words;
  free_chain = r.free_chain;
  queued_chain = r.held_chain;
  held_chain = r.queued_chain;
  ends_queued = r.ends_held;
  ends_held = r.ends_queued;
  each = λ slot low. omega (arith, r.each slot low);
  all = omega (arith, r.all);
}

-- no slot is in two chains, nor twice in one
pub at_most_once : (l : Links) (f q h : List ℕ) → AreChains l f q h → (slot : ℕ) → times slot f + (times slot q + times slot h) ≤ 1
at_most_once l f q h r slot = elim (cases_lt slot 128) [
  | inl low ↦ omega (arith, r.each slot low)
  | inr high ↦ omega (arith, r.free_chain.within slot high, r.queued_chain.within slot high, r.held_chain.within slot high)
]

-- the slot before a place of one chain is in no other
last_elsewhere : (ys others : List ℕ) → times no_slot others ≡ 0 → ((slot : ℕ) → times slot ys + times slot others ≤ 1) → times (last_from no_slot ys) others ≡ 0
last_elsewhere [] others none apart = none
last_elsewhere (y ∷ ys) others none apart = omega (arith, apart (last_from y ys), last_is_among y ys)

-- ---- from the free chain to the queued

-- the ring after its first free slot came behind `before` into the queued chain
abbrev pub occupied : Links → ℕ → Links
occupied l before = record l {
  next = linked_words l.next l.queued before l.free;
  free = get_or l.next l.free 0;
  queued = linked_first l.queued before l.free;
  last_queued = linked_last l.last_queued before l.free;
}

pub chains_occupied : (l : Links) (f ys zs h : List ℕ) → AreChains l (l.free ∷ f) (ys ++ zs) h → AreChains (occupied l (last_from no_slot ys)) f (ys ++ l.free ∷ zs) h
chains_occupied l f ys zs h r =
    let slot = l.free in
    let before = last_from no_slot ys in
    let once : ((n : ℕ) → times n (slot ∷ f) + (times n (ys ++ zs) + times n h) ≤ 1) = at_most_once l (slot ∷ f) (ys ++ zs) h r in
    let low : slot < 128 = is_slot slot (slot ∷ f) r.free_chain.within (omega (arith, times_head slot f)) in
    let absent : times slot f + (times slot (ys ++ zs) + times slot h) ≡ 0 = omega (arith, once slot, times_head slot f) in
    let free_after : IsChain l.next (get_or l.next slot 0) f = record {
      links = leads_rest l.next slot slot f r.free_chain.links;
      within = λ n g. omega (arith, r.free_chain.within n g);
    } in
    record {
      words = length-linked_words l.next l.queued before slot ∙ r.words;
      free_chain = linked_kept l.next l.queued before slot (get_or l.next slot 0) f
          (last_elsewhere ys f (omega (arith, r.free_chain.within 128 (omega arith))) (λ n. omega (arith, once n, times-append n ys zs)))
          (omega arith) free_after;
      queued_chain = linked_chain l.next l.queued ys zs slot r.words low (λ n. omega (arith, once n)) (omega arith) r.queued_chain;
      held_chain = linked_kept l.next l.queued before slot l.held h
          (last_elsewhere ys h (r.held_chain.within 128 (omega arith)) (λ n. omega (arith, once n, times-append n ys zs)))
          (omega arith) r.held_chain;
      ends_queued = ap (λ x. linked_last x before slot) r.ends_queued ∙ linked_last_is ys zs slot (λ n. omega (arith, once n)) r.queued_chain.within;
      ends_held = r.ends_held;
      each = λ n g. omega (arith, r.each n g, times-append n ys zs, times-append n ys (slot ∷ zs));
      all = omega (arith, r.all, length-append ys zs, length-append ys (slot ∷ zs));
    }

-- ---- from the queued chain to the free

-- the ring after the slot behind `before` left the queued chain and became the first free one
abbrev pub vacated : Links → ℕ → ℕ → Links
vacated l before slot = record l {
  next = set (unlinked_words l.next before slot) slot l.free;
  free = slot;
  queued = unlinked_first l.next l.queued before slot;
  last_queued = unlinked_last l.last_queued before slot;
}

-- a word that a chain does not read
chain_kept : (next : List ℕ) (slot word first : ℕ) (xs : List ℕ) → times slot xs ≡ 0 → IsChain next first xs → IsChain (set next slot word) first xs
chain_kept next slot word first xs absent h = record { links = leads_kept next slot word first xs absent h.links; within = h.within }

pub chains_vacated : (l : Links) (f ys zs h : List ℕ) (slot : ℕ) → AreChains l f (ys ++ slot ∷ zs) h → AreChains (vacated l (last_from no_slot ys) slot) (slot ∷ f) (ys ++ zs) h
chains_vacated l f ys zs h slot r =
    let before = last_from no_slot ys in
    let words = unlinked_words l.next before slot in
    let once : ((n : ℕ) → times n f + (times n (ys ++ slot ∷ zs) + times n h) ≤ 1) = at_most_once l f (ys ++ slot ∷ zs) h r in
    let among : 0 < times slot (ys ++ slot ∷ zs) = omega (arith, times-append slot ys (slot ∷ zs), times_head slot zs) in
    let low : slot < 128 = is_slot slot (ys ++ slot ∷ zs) r.queued_chain.within among in
    let size : length words ≡ 128 = length-unlinked_words l.next before slot ∙ r.words in
    let free_before : IsChain words l.free f = unlinked_kept l.next before slot l.free f
    (last_elsewhere ys f (r.free_chain.within 128 (omega arith)) (λ n. omega (arith, once n, times-append n ys (slot ∷ zs)))) r.free_chain in
    let held_before : IsChain words l.held h = unlinked_kept l.next before slot l.held h
    (last_elsewhere ys h (r.held_chain.within 128 (omega arith)) (λ n. omega (arith, once n, times-append n ys (slot ∷ zs)))) r.held_chain in
    record {
      words = length-set words slot l.free ∙ size;
      free_chain = record {
        links = first_linked words l.free slot f (omega arith) (omega (arith, once slot)) free_before.links;
        within = λ n g. grind (arith, r.free_chain.within n g, ne_eqb slot n);
      };
      queued_chain = chain_kept words slot l.free (unlinked_first l.next l.queued before slot) (ys ++ zs) (once_middle ys zs slot (λ n. omega (arith, once n)))
          (unlinked_chain l.next l.queued ys zs slot r.words (λ n. omega (arith, once n)) r.queued_chain);
      held_chain = chain_kept words slot l.free l.held h (omega (arith, once slot)) held_before;
      ends_queued = ap (λ x. unlinked_last x before slot) r.ends_queued ∙ unlinked_last_is ys zs slot (λ n. omega (arith, once n));
      ends_held = r.ends_held;
      each = λ n g. omega (arith, r.each n g, times-append n ys zs, times-append n ys (slot ∷ zs));
      all = omega (arith, r.all, length-append ys zs, length-append ys (slot ∷ zs));
    }
