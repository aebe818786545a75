-- A slot comes into a chain, and leaves it.
use Rattle.std.proofs.Common.{◌≡◌, ℕ, ◌<◌, ◌≤◌, List, [], ◌∷◌, ◌++◌, length, get_or, set, refl, sym, subst, ◌∙◌, arith}
use Rattle.std.proofs.lemmas.List.{get_or-set_same, get_or-set_other, length-set}
use Rattle.msg_queue.specs.Chains.{times, last_from}
use Rattle.msg_queue.proofs.Rings.TimesLemmas.{times-append, times_head, absent_head, absent_rest, last_is_among}
use Rattle.msg_queue.proofs.Rings.ChainLemmas.{Leads, leads_first, leads_rest, leads_to, leads_kept}

-- ---- at the front

pub first_linked : (next : List ℕ) (first slot : ℕ) (xs : List ℕ) → slot < length next → times slot xs ≡ 0 → Leads next first xs → Leads (set next slot first) slot (slot ∷ xs)
first_linked next first slot xs within absent h =
    leads_to (set next slot first) slot slot first xs refl (get_or-set_same next slot first 0 within) (leads_kept next slot first first xs absent h)

-- ---- behind a slot of the chain

-- the slot behind `before`: two words change
abbrev pub put_behind : List ℕ → ℕ → ℕ → List ℕ
put_behind next before slot = set (set next slot (get_or next before 0)) before slot

-- the slot behind `before` is passed over: one word changes
abbrev pub passed_over : List ℕ → ℕ → ℕ → List ℕ
passed_over next before slot = set next before (get_or next slot 0)

pub put_behind_kept : (next : List ℕ) (before slot first : ℕ) (xs : List ℕ) → times before xs ≡ 0 → times slot xs ≡ 0 → Leads next first xs → Leads (put_behind next before slot) first xs
put_behind_kept next before slot first xs apart absent h =
    leads_kept (set next slot (get_or next before 0)) before slot first xs apart (leads_kept next slot (get_or next before 0) first xs absent h)

-- each slot of the chain is in it once
abbrev pub IsOnce : List ℕ → Type 0
IsOnce xs = (slot : ℕ) → times slot xs ≤ 1

once_rest : (x : ℕ) (xs : List ℕ) → IsOnce (x ∷ xs) → IsOnce xs
once_rest x xs h slot = omega (arith, h slot)

once_head : (x : ℕ) (xs : List ℕ) → IsOnce (x ∷ xs) → times x xs ≡ 0
once_head x xs h = omega (arith, h x, times_head x xs)

-- the last of the slots behind x is not x
last_apart : (x y : ℕ) (ys zs : List ℕ) → times x ((y ∷ ys) ++ zs) ≡ 0 → x ≡ last_from y ys → ⊥
last_apart x y ys zs h e =
    let among : 0 < times x (y ∷ ys) = subst (λ l. 0 < times l (y ∷ ys)) (sym e) (last_is_among y ys) in
    omega (arith, times-append x (y ∷ ys) zs)

pub behind_linked : (next : List ℕ) (first x : ℕ) (xs zs : List ℕ) (slot : ℕ)
    → slot < length next → last_from x xs < length next → IsOnce ((x ∷ xs) ++ zs) → times slot ((x ∷ xs) ++ zs) ≡ 0
    → Leads next first ((x ∷ xs) ++ zs) → Leads (put_behind next (last_from x xs) slot) first ((x ∷ xs) ++ slot ∷ zs)
behind_linked next first x [] zs slot within within' once absent h =
    let N = put_behind next x slot in
    let apart = absent_head slot x zs absent in
    let size : length (set next slot (get_or next x 0)) ≡ length next = length-set next slot (get_or next x 0) in
    let word : get_or N x 0 ≡ slot = get_or-set_same (set next slot (get_or next x 0)) x slot 0 (omega arith) in
    let word' : get_or N slot 0 ≡ get_or next x 0 =
    get_or-set_other (set next slot (get_or next x 0)) x slot slot 0 apart ∙ get_or-set_same next slot (get_or next x 0) 0 within in
    let rest : Leads N (get_or next x 0) zs = put_behind_kept next x slot (get_or next x 0) zs (once_head x zs once) (absent_rest slot x zs absent) (leads_rest next first x zs h) in
    leads_to N first x slot (slot ∷ zs) (leads_first next first x zs h) word (leads_to N slot slot (get_or next x 0) zs refl word' rest)
behind_linked next first x (y ∷ ys) zs slot within within' once absent h =
    let B = last_from y ys in
    let N = put_behind next B slot in
    let rest : Leads N (get_or next x 0) ((y ∷ ys) ++ slot ∷ zs) =
    behind_linked next (get_or next x 0) y ys zs slot within within' (once_rest x ((y ∷ ys) ++ zs) once) (absent_rest slot x ((y ∷ ys) ++ zs) absent)
    (leads_rest next first x ((y ∷ ys) ++ zs) h) in
    let apart = last_apart x y ys zs (once_head x ((y ∷ ys) ++ zs) once) in
    let word : get_or N x 0 ≡ get_or next x 0 =
    get_or-set_other (set next slot (get_or next B 0)) B x slot 0 apart
    ∙ get_or-set_other next slot x (get_or next B 0) 0 (λ e. absent_head slot x ((y ∷ ys) ++ zs) absent (sym e)) in
    leads_to N first x (get_or next x 0) ((y ∷ ys) ++ slot ∷ zs) (leads_first next first x ((y ∷ ys) ++ zs) h) word rest

pub behind_passed : (next : List ℕ) (first x : ℕ) (xs zs : List ℕ) (slot : ℕ)
    → last_from x xs < length next → IsOnce ((x ∷ xs) ++ slot ∷ zs)
    → Leads next first ((x ∷ xs) ++ slot ∷ zs) → Leads (passed_over next (last_from x xs) slot) first ((x ∷ xs) ++ zs)
behind_passed next first x [] zs slot within once h =
    let N = passed_over next x slot in
    let behind : Leads next (get_or next x 0) (slot ∷ zs) = leads_rest next first x (slot ∷ zs) h in
    let word : get_or N x 0 ≡ get_or next slot 0 = get_or-set_same next x (get_or next slot 0) 0 within in
    let rest : Leads N (get_or next slot 0) zs =
    leads_kept next x (get_or next slot 0) (get_or next slot 0) zs (absent_rest x slot zs (once_head x (slot ∷ zs) once)) (leads_rest next (get_or next x 0) slot zs behind) in
    leads_to N first x (get_or next slot 0) zs (leads_first next first x (slot ∷ zs) h) word rest
behind_passed next first x (y ∷ ys) zs slot within once h =
    let B = last_from y ys in
    let N = passed_over next B slot in
    let rest : Leads N (get_or next x 0) ((y ∷ ys) ++ zs) =
    behind_passed next (get_or next x 0) y ys zs slot within (once_rest x ((y ∷ ys) ++ slot ∷ zs) once) (leads_rest next first x ((y ∷ ys) ++ slot ∷ zs) h) in
    let apart = last_apart x y ys (slot ∷ zs) (once_head x ((y ∷ ys) ++ slot ∷ zs) once) in
    let word : get_or N x 0 ≡ get_or next x 0 = get_or-set_other next B x (get_or next slot 0) 0 apart in
    leads_to N first x (get_or next x 0) ((y ∷ ys) ++ zs) (leads_first next first x ((y ∷ ys) ++ slot ∷ zs) h) word rest
