-- Laws of specs/Tables/RowMap.antt: a list of places read and written as a map.
use Rattle.std.proofs.Common.{◌≡◌, ℕ, ◌<◌, List, length, get_or, set, replicate, Option, None, nat_eq, ap, ◌∙◌, inl, inr, arith}
use Rattle.std.proofs.lemmas.Bool.{cases_lt, cases_eq, cond-true, cond-false, eq-eqb, ne_eqb}
use Rattle.std.proofs.lemmas.List.{get_or-set_same, get_or-set_other, get_or_default, get_or_past, get_or-replicate, length-replicate}
use Rattle.xk_base.specs.Tables.Counting.{put_at}
use Rattle.xk_base.specs.Tables.RowMap.{row_map}

-- what is read inside the list is what the map has
pub row_map_read : {V : Type 0} (xs : List (Option V)) (k : ℕ) (d : Option V) → k < length xs → get_or xs k d ≡ row_map xs k
row_map_read xs k d l = get_or_default xs k d None l

-- a write of a place changes the map there alone
pub row_map_set : {V : Type 0} (xs : List (Option V)) (k : ℕ) (v : Option V) → k < length xs → row_map (set xs k v) ≡ put_at nat_eq (row_map xs) k v
row_map_set {V} xs k v l = λ i q. at q i
  where
    at : (q : ℕ) → row_map (set xs k v) q ≡ put_at nat_eq (row_map xs) k v q
    at q = elim (cases_eq q k) [
      | inl same ↦
          rw (cond-true (nat_eq q k) v (get_or xs q None) (eq-eqb q k same))
          (ap (λ j. get_or (set xs k v) j None) same ∙ get_or-set_same xs k v None l)
      | inr apart ↦
          rw (cond-false (nat_eq q k) v (get_or xs q None) (ne_eqb q k apart)) (get_or-set_other xs k q v None apart)
    ]

-- empty places are the map without a key
pub row_map_replicate : {V : Type 0} (n : ℕ) → row_map {V = V} (replicate n None) ≡ (λ _. None)
row_map_replicate {V} n = λ i q. at q i
  where
    at : (q : ℕ) → row_map {V = V} (replicate n None) q ≡ None
    at q = elim (cases_lt q n) [
      | inl inside ↦ get_or-replicate n q None None inside
      | inr past ↦ get_or_past (replicate {A = Option V} n None) q None (omega (arith, length-replicate {A = Option V} n None))
    ]

-- all of them
pub ruleset row_map_laws = (row_map_set, row_map_replicate, row_map_read)
