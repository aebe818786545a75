-- The edges that leave a node are met one after another.
use Rattle.std.proofs.Common.{◌≡◌, ◌<◌, ℕ, zero, suc, true, List, [], ◌∷◌, ◌++◌, Option, Some, None, sym, ap, subst, ◌∙◌, refl, arith, ◌⊎◌, inl, inr, append_assoc, append-nil}
use Rattle.std.specs.Prelude.{slice_get}
use Rattle.std.specs.declared.cmp.Ordering.{Ordering}
use Rattle.graph_search.specs.declared.found.Edge.{Edge}
use Rattle.graph_search.specs.declared.space.Successor.{Successor}
use Rattle.graph_search.specs.Edges.{IsKeyAt}
use Rattle.graph_search.specs.Searching.{IsAnew, IsKnown, Meets, MeetsInTurn, Progress, has}
use Rattle.graph_search.specs.Told.{IsFound}
use Rattle.graph_search.proofs.ListLemmas.{IsBehind, front_or_behind}
use Rattle.graph_search.proofs.FoundLemmas.{found_front}
use Rattle.graph_search.proofs.GrowLemmas.{AreFound, found_on, stays_true}

at_most : (i n : ℕ) → i < suc n → (i < n) ⊎ (i ≡ n)
at_most i n h = grind arith

no_element : {A : Type 0} (x : A) → None ≡ Some x → ⊥
no_element x h = cc

module _ {Node Label Key Note : Type 0} (after : Node → Label → Option Node) (IsKey : Node → Key → Type 0) (cmp : Key → Key → Ordering)
    (start : Node) (from : ℕ) (m : Node) (told : List (Successor Label Key))
    (each : (i : ℕ) (s : Successor Label Key) → slice_get told i ≡ Some s → IsKeyAt after IsKey (after m s.label) s.key) where
  -- the first n edges were met: their keys are seen, and edges from the node were added
  pub record AreMet (n : ℕ) (old new : Progress Label Key Note) : Type 0 where
    pub more : List (Edge Label)
    pub is : new ≡ record old { edges = old.edges ++ more; keys = new.keys }
    pub found : AreFound after IsKey cmp start (old.edges ++ more) new.keys
    pub from_is : (k : ℕ) (e : Edge Label) → slice_get more k ≡ Some e → e.from ≡ from
    pub there : (i : ℕ) (s : Successor Label Key) → i < n → slice_get told i ≡ Some s → has cmp new.keys s.key ≡ true

  met_none : (p : Progress Label Key Note) → AreFound after IsKey cmp start p.edges p.keys → AreMet zero p p
  met_none p found = record {
    more = [];
    is = ap (λ (es : List (Edge Label)). record p { edges = es }) (sym (append-nil p.edges));
    found = subst (λ (es : List (Edge Label)). AreFound after IsKey cmp start es p.keys) (sym (append-nil p.edges)) found;
    from_is = λ k e h. absurd (no_element e h);
    there = λ i s less. absurd (let no : ⊥ = omega (arith, less) in no);
  }

  module _ (n : ℕ) (s : Successor Label Key) (is : slice_get told n ≡ Some s) (old mid new : Progress Label Key Note)
      (before : AreMet n old mid) where
    there_too : ((q : Key) → has cmp mid.keys q ≡ true → has cmp new.keys q ≡ true) → has cmp new.keys s.key ≡ true
        → (i : ℕ) (t : Successor Label Key) → i < suc n → slice_get told i ≡ Some t → has cmp new.keys t.key ≡ true
    there_too kept now i t less at = go (at_most i n less)
      where
        go : (i < n) ⊎ (i ≡ n) → has cmp new.keys t.key ≡ true
        go (inl h) = kept t.key (before.there i t h at)
        go (inr h) =
            let same : s ≡ t = cc in
            subst (λ (x : Successor Label Key). has cmp new.keys x.key ≡ true) same now

    met_known : IsKnown cmp from s mid new → AreMet (suc n) old new
    met_known known =
        let keys : new.keys ≡ mid.keys = ap (λ (p : Progress Label Key Note). p.keys) known.is in
        let has_it : (q : Key) → has cmp mid.keys q ≡ true → has cmp new.keys q ≡ true =
        λ q h. subst (λ (ks : List Key). has cmp ks q ≡ true) (sym keys) h in
        record {
          more = before.more;
          is = known.is ∙ (before.is ∙ ap (λ (ks : List Key). record old { edges = old.edges ++ before.more; keys = ks }) (sym keys));
          found = subst (AreFound after IsKey cmp start (old.edges ++ before.more)) (sym keys) before.found;
          from_is = before.from_is;
          there = there_too has_it (has_it s.key known.known);
        }

    met_anew : AreFound after IsKey cmp start old.edges old.keys → IsFound after start old.edges from m → IsAnew cmp from s mid new
        → AreMet (suc n) old new
    met_anew first here anew =
        let edge : Edge Label = record { from = from; label = s.label } in
        let grown : AreFound after IsKey cmp start ((old.edges ++ before.more) ++ edge ∷ []) new.keys =
        found_on after IsKey cmp start (old.edges ++ before.more) mid.keys new.keys from m s before.found
        (found_front after start old.edges before.more from m first.tree here) (each n s is) anew.unseen anew.keys in
        record {
          more = before.more ++ edge ∷ [];
          is = anew.is
              ∙ (ap (λ (p : Progress Label Key Note). record p { edges = p.edges ++ edge ∷ []; keys = new.keys }) before.is
              ∙ ap (λ (es : List (Edge Label)). record old { edges = es; keys = new.keys }) (append_assoc old.edges before.more (edge ∷ [])));
          found = subst (λ (es : List (Edge Label)). AreFound after IsKey cmp start es new.keys) (append_assoc old.edges before.more (edge ∷ [])) grown;
          from_is = λ k e h. from_is edge refl k e (front_or_behind before.more (edge ∷ []) k e h);
          there = there_too (λ q h. anew.keys q ∙ stays_true _ (has cmp mid.keys q) h) anew.there;
        }
      where
        last : (edge e : Edge Label) → edge.from ≡ from → (i : ℕ) → slice_get (edge ∷ []) i ≡ Some e → e.from ≡ from
        last edge e is zero at = let same : edge ≡ e = cc in ap (λ (x : Edge Label). x.from) (sym same) ∙ is
        last edge e is (suc i) at = absurd (no_element e at)

        from_is : (edge : Edge Label) → edge.from ≡ from → (k : ℕ) (e : Edge Label)
            → (slice_get before.more k ≡ Some e) ⊎ IsBehind before.more (edge ∷ []) k e → e.from ≡ from
        from_is edge is k e (inl h) = before.from_is k e h
        from_is edge is k e (inr b) = last edge e is b.place b.is

  pub met : (n : ℕ) (old new : Progress Label Key Note) → AreFound after IsKey cmp start old.edges old.keys
      → IsFound after start old.edges from m → MeetsInTurn cmp from told n old new → AreMet n old new
  met zero old new first here same = subst (AreMet zero old) (sym same) (met_none old first)
  met (suc n) old new first here turn = go (met n old turn.0 first here turn.1.1.1.0) turn.1.1.1.1
    where
      go : AreMet n old turn.0 → Meets cmp from turn.1.0 turn.0 new → AreMet (suc n) old new
      go before (inl known) = met_known n turn.1.0 turn.1.1.0 old turn.0 new before known
      go before (inr anew) = met_anew n turn.1.0 turn.1.1.0 old turn.0 new before first here anew

-- ---- what stays as it was

-- a search after it is as before, but for what was found and what waits
pub record GoesOn {Label Key Note : Type 0} (old new : Progress Label Key Note) : Type 0 where
  pub strategy : new.strategy ≡ old.strategy
  pub notes : new.notes ≡ old.notes
  pub more : List (Edge Label)
  pub edges : new.edges ≡ old.edges ++ more

module _ {Label Key Note : Type 0} where
  pub goes_nowhere : (old new : Progress Label Key Note) → new ≡ old → GoesOn old new
  goes_nowhere old new same = record {
    strategy = ap (λ (p : Progress Label Key Note). p.strategy) same;
    notes = ap (λ (p : Progress Label Key Note). p.notes) same;
    more = [];
    edges = ap (λ (p : Progress Label Key Note). p.edges) same ∙ sym (append-nil old.edges);
  }

  pub goes_further : (old mid new : Progress Label Key Note) → GoesOn old mid → GoesOn mid new → GoesOn old new
  goes_further old mid new a b = record {
    strategy = b.strategy ∙ a.strategy;
    notes = b.notes ∙ a.notes;
    more = a.more ++ b.more;
    edges = b.edges ∙ (ap (λ (es : List (Edge Label)). es ++ b.more) a.edges ∙ append_assoc old.edges a.more b.more);
  }

module _ {Label Key Note : Type 0} (cmp : Key → Key → Ordering) (from : ℕ) (s : Successor Label Key) (old new : Progress Label Key Note) where
  pub meets_waiting : Meets cmp from s old new → new.waiting ≡ old.waiting
  meets_waiting (inl known) = ap (λ (p : Progress Label Key Note). p.waiting) known.is
  meets_waiting (inr anew) = ap (λ (p : Progress Label Key Note). p.waiting) anew.is

  pub meets_goes : Meets cmp from s old new → GoesOn old new
  meets_goes (inl known) = goes_nowhere old new known.is
  meets_goes (inr anew) = record {
    strategy = ap (λ (p : Progress Label Key Note). p.strategy) anew.is;
    notes = ap (λ (p : Progress Label Key Note). p.notes) anew.is;
    more = (record { from = from; label = s.label }) ∷ [];
    edges = ap (λ (p : Progress Label Key Note). p.edges) anew.is;
  }

module _ {Label Key Note : Type 0} where
  pub in_turn_goes : (cmp : Key → Key → Ordering) (from : ℕ) (told : List (Successor Label Key)) (n : ℕ) (old new : Progress Label Key Note)
      → MeetsInTurn cmp from told n old new → GoesOn old new
  in_turn_goes cmp from told zero old new same = goes_nowhere old new same
  in_turn_goes cmp from told (suc n) old new turn =
      goes_further old turn.0 new (in_turn_goes cmp from told n old turn.0 turn.1.1.1.0) (meets_goes cmp from turn.1.0 turn.0 new turn.1.1.1.1)
