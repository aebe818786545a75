-- Edges that wait.
use Rattle.std.proofs.Common.{◌≡◌, ◌+◌, ℕ, zero, suc, List, [], ◌∷◌, ◌++◌, drop, length, Some, None, sym, ap, ◌∙◌, refl, arith, ◌⊎◌, inl, inr, append_assoc, append-nil}
use Rattle.std.specs.Prelude.{slice_get}
use Rattle.std.proofs.lemmas.Option.{slice_get_within}
use Rattle.graph_search.specs.declared.search.Waiting.{Waiting}
use Rattle.graph_search.specs.declared.space.Successor.{Successor}
use Rattle.graph_search.specs.Searching.{Progress, put_off}
use Rattle.graph_search.proofs.ListLemmas.{IsBehind, front_or_behind, slice_get-behind, slice_get-front}

-- an element behind the first n
pub get_dropped : {A : Type 0} (n : ℕ) (xs : List A) (i : ℕ) (x : A) → slice_get (drop n xs) i ≡ Some x → slice_get xs (n + i) ≡ Some x
get_dropped zero xs i x is = ap (slice_get xs) (omega arith) ∙ is
get_dropped (suc n) [] i x is = absurd (let no : ⊥ = cc in no)
get_dropped (suc n) (y ∷ xs) i x is =
    let e : suc n + i ≡ suc (n + i) = omega arith in
    ap (slice_get (y ∷ xs)) e ∙ get_dropped n xs i x is

module _ {Label Key : Type 0} (from : ℕ) where
  abbrev one : Successor Label Key → Waiting Label Key
  one s = record { from = from; edge = s }

  -- what waits is one of the edges
  pub record IsPutOff (told : List (Successor Label Key)) (w : Waiting Label Key) : Type 0 where
    pub from_is : w.from ≡ from
    pub place : ℕ
    pub is : slice_get told place ≡ Some w.edge

  pub is_put_off : (told : List (Successor Label Key)) (i : ℕ) (w : Waiting Label Key) → slice_get (put_off from told) i ≡ Some w → IsPutOff told w
  is_put_off [] i w is = absurd (let no : ⊥ = cc in no)
  is_put_off (s ∷ told) i w is = go (front_or_behind (put_off from told) (one s ∷ []) i w is) (is_put_off told i w)
    where
      last : (k : ℕ) → slice_get (one s ∷ []) k ≡ Some w → IsPutOff (s ∷ told) w
      last zero at =
          let same : one s ≡ w = cc in
          record {
            from_is = ap (λ (x : Waiting Label Key). x.from) (sym same);
            place = 0;
            is = ap (λ (x : Waiting Label Key). Some x.edge) same;
          }
      last (suc k) at = absurd (let no : None ≡ Some w = at in let n : ⊥ = cc in n)

      go : (slice_get (put_off from told) i ≡ Some w) ⊎ IsBehind (put_off from told) (one s ∷ []) i w
          → (slice_get (put_off from told) i ≡ Some w → IsPutOff told w) → IsPutOff (s ∷ told) w
      go (inl h) before = let b : IsPutOff told w = before h in record { from_is = b.from_is; place = suc b.place; is = b.is }
      go (inr b) before = last b.place b.is

  -- and each of them waits
  pub in_put_off : (told : List (Successor Label Key)) (place : ℕ) (s : Successor Label Key) → slice_get told place ≡ Some s
      → (i : ℕ) × (slice_get (put_off from told) i ≡ Some (one s))
  in_put_off [] place s is = absurd (let no : ⊥ = cc in no)
  in_put_off (t ∷ told) zero s is =
      let same : t ≡ s = cc in (
        length (put_off from told) + 0,
        slice_get-behind (put_off from told) (one t ∷ []) 0 ∙ ap (λ (x : Successor Label Key). Some (one x)) same,
      )
  in_put_off (t ∷ told) (suc place) s is =
      let before : (i : ℕ) × (slice_get (put_off from told) i ≡ Some (one s)) = in_put_off told place s is in (
        before.0,
        slice_get-front (put_off from told) (one t ∷ []) before.0 (slice_get_within (put_off from told) before.0 (one s) before.1) ∙ before.1,
      )

-- ---- one after another they wait

drop_all : {A : Type 0} (xs : List A) → drop (length xs) xs ≡ []
drop_all [] = refl
drop_all (x ∷ xs) = drop_all xs

drop_one : {A : Type 0} (n : ℕ) (xs : List A) (x : A) → slice_get xs n ≡ Some x → drop n xs ≡ x ∷ drop (suc n) xs
drop_one n [] x is = absurd (let no : ⊥ = cc in no)
drop_one {A = A} zero (y ∷ xs) x is = let same : y ≡ x = cc in ap (λ (z : A). z ∷ xs) same
drop_one (suc n) (y ∷ xs) x is = drop_one n xs x is

module _ {Label Key Note : Type 0} (from : ℕ) (told : List (Successor Label Key)) (p : Progress Label Key Note) where
  -- the last of the edges wait
  abbrev pub waits_from : ℕ → Progress Label Key Note
  waits_from n = record p { waiting = p.waiting ++ put_off from (drop n told) }

  pub waits_none : (n : ℕ) → n ≡ length told → p ≡ waits_from n
  waits_none n all =
      ap (λ (ws : List (Waiting Label Key)). record p { waiting = ws })
      (sym (append-nil p.waiting)
      ∙ ap (λ (ss : List (Successor Label Key)). p.waiting ++ put_off from ss) (sym (ap (λ (k : ℕ). drop k told) all ∙ drop_all told)))

  pub waits_next : (left n : ℕ) (s : Successor Label Key) (q : Progress Label Key Note) (waiting : List (Waiting Label Key)) → left ≡ suc n
      → slice_get told n ≡ Some s → q ≡ waits_from left → waiting ≡ q.waiting ++ (record { from = from; edge = s }) ∷ []
      → record q { waiting = waiting } ≡ waits_from n
  waits_next left n s q waiting is there before pushed =
      let one : Waiting Label Key = record { from = from; edge = s } in
      let front : q.waiting ≡ p.waiting ++ put_off from (drop left told) = ap (λ (r : Progress Label Key Note). r.waiting) before in
      let dropped : drop n told ≡ s ∷ drop left told = drop_one n told s there ∙ ap (λ (k : ℕ). s ∷ drop k told) (sym is) in
      let same : waiting ≡ p.waiting ++ put_off from (drop n told) =
      pushed
      ∙ (ap (λ (ws : List (Waiting Label Key)). ws ++ one ∷ []) front
      ∙ (append_assoc p.waiting (put_off from (drop left told)) (one ∷ [])
      ∙ ap (λ (ss : List (Successor Label Key)). p.waiting ++ put_off from ss) (sym dropped))) in
      ap (λ (r : Progress Label Key Note). record r { waiting = waiting }) before ∙ ap (λ (ws : List (Waiting Label Key)). record p { waiting = ws }) same
