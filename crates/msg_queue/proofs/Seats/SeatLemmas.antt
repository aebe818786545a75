-- What a ring shows after a slot went from the free chain to another, or back.
use Rattle.std.proofs.Common.{◌≡◌, ℕ, suc, ◌+◌, ◌<◌, ◌≤◌, List, [], ◌∷◌, ◌++◌, length, take, drop, get_or, set, Option, Some, None, refl, ap, sym, subst, ◌∙◌, add-one, arith}
use Rattle.std.proofs.lemmas.List.{get_or-set_same, take-append-drop, drop_more, take_all}
use Rattle.std.proofs.lemmas.List.Edits.{insert_end}
use Rattle.std.proofs.lemmas.List.Elements.{filter_map-append}
use Rattle.std.specs.List.{insert}
use Rattle.xk_base.specs.Tables.RowMap.{row_map}
use Rattle.msg_queue.specs.Chains.{no_slot, chain, times, last_from}
use Rattle.msg_queue.specs.Rings.{Links, AreChains, AreFilled, IsRing}
use Rattle.msg_queue.specs.Seats.{Seat, used_of, with_queued, without_queued_at}
use Rattle.msg_queue.specs.Shown.{messages, seat_shown}
use Rattle.msg_queue.specs.declared.held.Held.{Held}
use Rattle.msg_queue.proofs.Rings.TimesLemmas.{times-append, times_head}
use Rattle.msg_queue.proofs.Rings.ChainLemmas.{Leads, leads_first, chain_is}
use Rattle.msg_queue.proofs.ChangeLemmas.{is_slot, once_middle}
use Rattle.msg_queue.proofs.Rings.RingLemmas.{at_most_once, occupied, chains_occupied, vacated, chains_vacated}
use Rattle.msg_queue.proofs.Seats.MessageLemmas.{contents_kept, contents_cons, length-contents, take-contents, drop-contents}
use Rattle.msg_queue.proofs.Seats.FilledLemmas.{filled_occupied, filled_vacated}

-- a ring of these chains shows the messages in them
pub record IsRingOf (slots : List (Option Held)) (links : Links) (seat : Seat) : Type 0 where
  pub sound : IsRing slots links
  pub shows : seat_shown slots links ≡ seat

pub ring_of_chains : (slots : List (Option Held)) (l : Links) (f q h : List ℕ) → AreChains l f q h → AreFilled slots f q h
    → IsRingOf slots l (record { queued = messages slots q; held = messages slots h })
ring_of_chains slots l f q h r filled =
    let ef : chain l.next l.free ≡ f = chain_is l.next l.free f r.free_chain (omega (arith, r.all)) in
    let eq : chain l.next l.queued ≡ q = chain_is l.next l.queued q r.queued_chain (omega (arith, r.all)) in
    let eh : chain l.next l.held ≡ h = chain_is l.next l.held h r.held_chain (omega (arith, r.all)) in
    record {
      sound = record { chains = rw (ef, eq, eh) r; filled = rw (ef, eq, eh) filled };
      shows = rw (eq, eh) refl;
    }

-- ---- a full ring

pub used_is : (slots : List (Option Held)) (l : Links) → IsRing slots l
    → used_of (seat_shown slots l) ≡ length (chain l.next l.queued) + length (chain l.next l.held)
used_is slots l r =
    omega (arith, length-contents slots (chain l.next l.queued) r.filled.queued_slots, length-contents slots (chain l.next l.held) r.filled.held_slots)

pub used_is_few : (slots : List (Option Held)) (l : Links) → IsRing slots l → used_of (seat_shown slots l) ≤ 128
used_is_few slots l r = omega (arith, used_is slots l r, r.chains.all)

-- the free chain begins with a slot exactly where the ring is not full
pub full_from_free : (slots : List (Option Held)) (l : Links) → IsRing slots l → l.free ≡ no_slot → used_of (seat_shown slots l) ≡ 128
full_from_free slots l r none = go (chain l.next l.free) refl
  where
    go : (f : List ℕ) → chain l.next l.free ≡ f → used_of (seat_shown slots l) ≡ 128
    go [] e = omega (arith, used_is slots l r, r.chains.all, ap length e)
    go (x ∷ f) e =
        let leads : Leads l.next l.free (x ∷ f) = subst (λ xs. Leads l.next l.free xs) e r.chains.free_chain.links in
        let first : l.free ≡ x = leads_first l.next l.free x f leads in
        let among : 0 < times 128 (x ∷ f) = subst (λ n. 0 < times n (x ∷ f)) (sym first ∙ none) (omega (arith, times_head x f)) in
        let absent : times 128 (x ∷ f) ≡ 0 = subst (λ xs. times 128 xs ≡ 0) e (r.chains.free_chain.within 128 (omega arith)) in
        absurd (omega arith)

pub free_from_full : (slots : List (Option Held)) (l : Links) → IsRing slots l → used_of (seat_shown slots l) ≡ 128 → l.free ≡ no_slot
free_from_full slots l r full = go (chain l.next l.free) refl
  where
    go : (f : List ℕ) → chain l.next l.free ≡ f → l.free ≡ no_slot
    go [] e =
        let leads : Leads l.next l.free [] = subst (λ xs. Leads l.next l.free xs) e r.chains.free_chain.links in
        cc
    go (x ∷ f) e = absurd (omega (arith, used_is slots l r, r.chains.all, ap length e))

-- the first free slot, and the free slots behind it
pub free_first : (slots : List (Option Held)) (l : Links) → IsRing slots l → used_of (seat_shown slots l) < 128
    → (f : List ℕ) × (chain l.next l.free ≡ l.free ∷ f)
free_first slots l r room = go (chain l.next l.free) refl
  where
    go : (f : List ℕ) → chain l.next l.free ≡ f → (f : List ℕ) × (chain l.next l.free ≡ l.free ∷ f)
    go [] e = absurd (omega (arith, used_is slots l r, r.chains.all, ap length e))
    go (x ∷ f) e =
        let leads : Leads l.next l.free (x ∷ f) = subst (λ xs. Leads l.next l.free xs) e r.chains.free_chain.links in
        (f, e ∙ ap (λ y. y ∷ f) (sym (leads_first l.next l.free x f leads)))

pub free_is_slot : (slots : List (Option Held)) (l : Links) → IsRing slots l → used_of (seat_shown slots l) < 128 → l.free < 128
free_is_slot slots l r room =
    let first = free_first slots l r room in
    is_slot l.free (chain l.next l.free) r.chains.free_chain.within (rw first.1 (omega (arith, times_head l.free first.0)))

-- ---- a message comes

occupied_of : (slots : List (Option Held)) (l : Links) (f ys zs h : List ℕ) (m : Held)
    → AreChains l (l.free ∷ f) (ys ++ zs) h → AreFilled slots (l.free ∷ f) (ys ++ zs) h
    → IsRingOf (set slots l.free (Some m)) (occupied l (last_from no_slot ys))
    (record { queued = messages slots ys ++ m ∷ messages slots zs; held = messages slots h })
occupied_of slots l f ys zs h m r filled =
    let slot = l.free in
    let after = set slots slot (Some m) in
    let once = at_most_once l (slot ∷ f) (ys ++ zs) h r in
    let low : slot < 128 = is_slot slot (slot ∷ f) r.free_chain.within (omega (arith, times_head slot f)) in
    let absent : times slot f + (times slot ys + times slot zs) + times slot h ≡ 0 = omega (arith, once slot, times_head slot f, times-append slot ys zs) in
    let filled_after : AreFilled after f (ys ++ slot ∷ zs) h = filled_occupied slots f ys zs h slot m low (omega arith) (omega arith) filled in
    let ring = ring_of_chains after (occupied l (last_from no_slot ys)) f (ys ++ slot ∷ zs) h (chains_occupied l f ys zs h r) filled_after in
    let front : messages after ys ≡ messages slots ys = contents_kept slots slot (Some m) ys (omega arith) in
    let back : messages after zs ≡ messages slots zs = contents_kept slots slot (Some m) zs (omega arith) in
    let held : messages after h ≡ messages slots h = contents_kept slots slot (Some m) h (omega arith) in
    let here : messages after (slot ∷ zs) ≡ m ∷ messages after zs = contents_cons after slot m zs (get_or-set_same slots slot (Some m) None (omega (arith, filled.size))) in
    let middle : messages after (ys ++ slot ∷ zs) ≡ messages after ys ++ messages after (slot ∷ zs) = filter_map-append (row_map after) ys (slot ∷ zs) in
    let queued : messages after (ys ++ slot ∷ zs) ≡ messages slots ys ++ m ∷ messages slots zs = cc in
    record { sound = ring.sound; shows = ring.shows ∙ cc }

-- the queued slots before place i and from it on
queued_split : (i : ℕ) (q : List ℕ) → q ≡ take i q ++ drop i q
queued_split i q = sym (take-append-drop i q)

pub seat_occupied : (slots : List (Option Held)) (l : Links) (i : ℕ) (m : Held) → IsRing slots l → used_of (seat_shown slots l) < 128
    → IsRingOf (set slots l.free (Some m)) (occupied l (last_from no_slot (take i (chain l.next l.queued))))
    (record (seat_shown slots l) { queued = insert (seat_shown slots l).queued i m })
seat_occupied slots l i m r room =
    let first = free_first slots l r room in
    let q = chain l.next l.queued in
    let h = chain l.next l.held in
    let P : List ℕ → List ℕ → Type 0 = λ f xs. AreChains l f xs h in
    let Q : List ℕ → List ℕ → Type 0 = λ f xs. AreFilled slots f xs h in
    let chains : AreChains l (l.free ∷ first.0) (take i q ++ drop i q) h = subst (λ f. P f (take i q ++ drop i q)) first.1 (subst (P (chain l.next l.free)) (queued_split i q) r.chains) in
    let filled : AreFilled slots (l.free ∷ first.0) (take i q ++ drop i q) h = subst (λ f. Q f (take i q ++ drop i q)) first.1 (subst (Q (chain l.next l.free)) (queued_split i q) r.filled) in
    let ring = occupied_of slots l first.0 (take i q) (drop i q) h m chains filled in
    let front : messages slots (take i q) ≡ take i (messages slots q) = take-contents i slots q r.filled.queued_slots in
    let back : messages slots (drop i q) ≡ drop i (messages slots q) = drop-contents i slots q r.filled.queued_slots in
    record { sound = ring.sound; shows = ring.shows ∙ cc }

-- the newest queued comes behind the last
pub seat_put : (slots : List (Option Held)) (l : Links) (m : Held) → IsRing slots l → used_of (seat_shown slots l) < 128
    → IsRingOf (set slots l.free (Some m)) (occupied l l.last_queued) (with_queued m (seat_shown slots l))
seat_put slots l m r room =
    let q = chain l.next l.queued in
    let size : length (messages slots q) ≡ length q = length-contents slots q r.filled.queued_slots in
    let last : last_from no_slot (take (length q) q) ≡ l.last_queued = ap (last_from no_slot) (take_all (length q) q (omega arith)) ∙ sym r.chains.ends_queued in
    let end : insert (messages slots q) (length q) m ≡ messages slots q ++ m ∷ [] = subst (λ n. insert (messages slots q) n m ≡ messages slots q ++ m ∷ []) size (insert_end (messages slots q) m) in
    let ring = seat_occupied slots l (length q) m r room in
    let ring' = subst (λ b. IsRingOf (set slots l.free (Some m)) (occupied l b) (record (seat_shown slots l) { queued = insert (messages slots q) (length q) m })) last ring in
    record { sound = ring'.sound; shows = ring'.shows ∙ ap (λ xs. record (seat_shown slots l) { queued = xs }) end }

-- ---- a message leaves

vacated_of : (slots : List (Option Held)) (l : Links) (f ys zs h : List ℕ) (slot : ℕ)
    → AreChains l f (ys ++ slot ∷ zs) h → AreFilled slots f (ys ++ slot ∷ zs) h
    → IsRingOf (set slots slot None) (vacated l (last_from no_slot ys) slot) (record { queued = messages slots ys ++ messages slots zs; held = messages slots h })
vacated_of slots l f ys zs h slot r filled =
    let after = set slots slot None in
    let once = at_most_once l f (ys ++ slot ∷ zs) h r in
    let among : 0 < times slot (ys ++ slot ∷ zs) = omega (arith, times-append slot ys (slot ∷ zs), times_head slot zs) in
    let low : slot < 128 = is_slot slot (ys ++ slot ∷ zs) r.queued_chain.within among in
    let absent : times slot (ys ++ zs) ≡ 0 = once_middle ys zs slot (λ n. omega (arith, once n)) in
    let absent' : times slot h ≡ 0 = omega (arith, once slot) in
    let filled_after : AreFilled after (slot ∷ f) (ys ++ zs) h = filled_vacated slots f ys zs h slot low absent absent' filled in
    let ring = ring_of_chains after (vacated l (last_from no_slot ys) slot) (slot ∷ f) (ys ++ zs) h (chains_vacated l f ys zs h slot r) filled_after in
    let queued : messages after (ys ++ zs) ≡ messages slots (ys ++ zs) = contents_kept slots slot None (ys ++ zs) absent in
    let held : messages after h ≡ messages slots h = contents_kept slots slot None h absent' in
    let parts : messages slots (ys ++ zs) ≡ messages slots ys ++ messages slots zs = filter_map-append (row_map slots) ys zs in
    record { sound = ring.sound; shows = ring.shows ∙ cc }

-- the queued slots around place i
queued_around : (i : ℕ) (q : List ℕ) → i < length q → q ≡ take i q ++ get_or q i no_slot ∷ drop (suc i) q
queued_around i q within = sym (take-append-drop i q) ∙ ap (λ xs. take i q ++ xs) (drop_more q i no_slot within ∙ ap (λ n. get_or q i no_slot ∷ drop n q) (add-one i))

pub seat_vacated : (slots : List (Option Held)) (l : Links) (i : ℕ) → IsRing slots l → i < length (chain l.next l.queued)
    → IsRingOf (set slots (get_or (chain l.next l.queued) i no_slot) None)
    (vacated l (last_from no_slot (take i (chain l.next l.queued))) (get_or (chain l.next l.queued) i no_slot))
    (without_queued_at i (seat_shown slots l))
seat_vacated slots l i r within =
    let f = chain l.next l.free in
    let q = chain l.next l.queued in
    let h = chain l.next l.held in
    let slot = get_or q i no_slot in
    let chains : AreChains l f (take i q ++ slot ∷ drop (suc i) q) h = subst (λ xs. AreChains l f xs h) (queued_around i q within) r.chains in
    let filled : AreFilled slots f (take i q ++ slot ∷ drop (suc i) q) h = subst (λ xs. AreFilled slots f xs h) (queued_around i q within) r.filled in
    let ring = vacated_of slots l f (take i q) (drop (suc i) q) h slot chains filled in
    let front : messages slots (take i q) ≡ take i (messages slots q) = take-contents i slots q r.filled.queued_slots in
    let back : messages slots (drop (suc i) q) ≡ drop (suc i) (messages slots q) = drop-contents (suc i) slots q r.filled.queued_slots in
    record { sound = ring.sound; shows = ring.shows ∙ cc }
