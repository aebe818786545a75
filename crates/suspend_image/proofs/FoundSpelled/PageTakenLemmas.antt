-- A page and an orphan, as they were read, are what their spelling says; their bytes stand at the place that the row tells.
use Rattle.std.proofs.Common.{◌≡◌, ℕ, ◌+◌, ◌-◌, ◌≤◌, Bool, true, false, not, cond, eqb, ltb, leb, List, [], ◌∷◌, ◌++◌, length, take, drop, Option, Some, Ok, Err, refl, sym, ap, subst, ◌∙◌, arith}
use Rattle.std.specs.Prelude.{◌&&◌}
use Rattle.std.proofs.lemmas.Bool.{ltb-false, leb-true, eqb-true, and_parts}
use Rattle.std.proofs.lemmas.List.{take-append-drop, drop_at, length-append, length-drop}
use Rattle.snapshot_rows.specs.declared.state.PageRow.{PageRow}
use Rattle.snapshot_rows.specs.declared.state.OrphanRow.{OrphanRow}
use Rattle.snapshot_rows.specs.Machines.{contents_at}
use Rattle.suspend_image.specs.Spelling.{page_words, orphan_words, page_bytes, orphan_bytes}
use Rattle.suspend_image.specs.Reading.{greatest, word_at}
use Rattle.snapshot_rows.specs.Order.{least_first, least_second}
use Rattle.suspend_image.specs.Rows.{page_bytes_at, front_word, is_holder_pid, holder_pid_at, page_at, orphan_at}
use Rattle.suspend_image.specs.Forms.{IsWord, IsField, StandsBefore, IsPageRow, IsOrphanRow}
use Rattle.suspend_image.proofs.SpelledAgain.PageAgainLemmas.{drop_word, front_again, holder_tells}
use Rattle.suspend_image.proofs.FoundSpelled.TakenLemmas.{step, guard_ok, ok_is, IsEnd, Takes, taken, taken_both, Words, no_words, word_taken, in_taken, if_taken}

-- ---- the bytes of a page

-- where bytes stand that are the last ones of a file
stand_at : (file bytes : List ℕ) → IsEnd file bytes → (length bytes ≤ length file) × (drop (length file - length bytes) file ≡ bytes)
stand_at file bytes ended =
    let all : length file ≡ length ended.front + length bytes = ap (λ (b : List ℕ). length b) ended.parts ∙ length-append ended.front bytes in
    let place : length file - length bytes ≡ length ended.front = omega arith in
    (omega arith, rw place (ap (drop (length ended.front)) ended.parts ∙ drop_at ended.front bytes (length ended.front) refl))

pub contents_taken : (there : Bool) (file bytes : List ℕ) (x : ℕ × List ℕ) → IsEnd file bytes → page_bytes_at there (length file) bytes ≡ Ok x
    → Takes file bytes (cond there (contents_at file x.0) []) x.1 × StandsBefore there (length file) (length x.1) x.0
unfolding page_bytes_at
contents_taken true file bytes x ended e =
    let made : ℕ × List ℕ = (length file - length bytes, drop 4096 bytes) in
    let g = guard_ok (ltb (length bytes) 4096) (length bytes) made x e in
    let long : 4096 ≤ length bytes = ltb-false _ _ g.0 in
    let stands = stand_at file bytes ended in
    let within = stands.0 in
    let contents : contents_at file (length file - length bytes) ≡ take 4096 bytes = ap (take 4096) stands.1 in
    let parts : bytes ≡ contents_at file (length file - length bytes) ++ drop 4096 bytes = sym (take-append-drop 4096 bytes) ∙ ap (λ (b : List ℕ). b ++ drop 4096 bytes) (sym contents) in
    subst (λ (y : ℕ × List ℕ). Takes file bytes (contents_at file y.0) y.1 × StandsBefore true (length file) (length y.1) y.0) g.1
    (taken file bytes (contents_at file (length file - length bytes)) (drop 4096 bytes) ended parts, omega (arith, length-drop 4096 bytes))
contents_taken false file bytes x ended e =
    let made : ℕ × List ℕ = (0, bytes) in
    subst (λ (y : ℕ × List ℕ). Takes file bytes [] y.1 × StandsBefore false (length file) (length y.1) y.0) (ok_is made x e)
    (record { parts = refl; ended = ended }, refl)

-- ---- the holder

pub guard_kept : {A : Type 0} (b : Bool) (left : ℕ) (x y : A) → cond b (Ok x) (Err left) ≡ Ok y → (b ≡ true) × (x ≡ y)
guard_kept true left x y e = (refl, cc)
guard_kept false left x y e = absurd cc

holder_field : (none : Bool) (n pid : ℕ) → cond none (eqb pid 0) (leb 2 pid && leb pid (n + 1)) ≡ true → IsField (not none) 2 (n + 1) pid
holder_field true n pid e = let nothing = eqb-true pid 0 e in record { at_least = omega arith; at_most = omega arith }
holder_field false n pid e = let both = and_parts (leb 2 pid) (leb pid (n + 1)) e in record { at_least = leb-true _ _ both.0; at_most = leb-true _ _ both.1 }

-- the kind that was looked at is the one that is read two words on
kind_seen : (file bytes behind : List ℕ) (page kind : ℕ) → Words file bytes (page ∷ kind ∷ []) behind → IsWord kind → front_word (drop 4 bytes) ≡ Some kind
kind_seen file bytes behind page kind words fits =
    ap (λ (b : List ℕ). front_word (drop 4 b)) words.parts ∙ ap front_word (drop_word page (kind ∷ []) behind) ∙ front_again kind [] behind fits

-- ---- a page

pub page_taken : (file : List ℕ) (n : ℕ) (before : Option (ℕ × ℕ)) (bytes : List ℕ) (x : PageRow × List ℕ) → IsEnd file bytes → page_at (length file) n before bytes ≡ Ok x
    → Takes file bytes (page_bytes file x.0) x.1 × IsPageRow (length file) n before (length x.1) x.0
unfolding page_at page_bytes holder_pid_at
page_taken file n before bytes x ended e =
    step _ _ _ e (λ pid r1 e1. step _ _ _ e1 (λ page r2 e2. step _ _ _ e2 (λ right r3 e3. step _ _ _ e3 (λ holder r4 e4.
    step _ _ _ e4 (λ holder_page r5 e5. step _ _ _ e5 (λ kind r6 e6. step _ _ _ e6 (λ number r7 e7. step _ _ _ e7 (λ place r8 e8.
    step _ _ _ r4 (λ holder_word r9 e9. (
    let kept = guard_kept (is_holder_pid n (front_word (drop 4 holder_word.1)) holder_word.0) (length right.1) holder_word holder e9 in
    let is_holder : is_holder_pid n (front_word (drop 4 holder.1)) holder.0 ≡ true =
    subst (λ (y : ℕ × List ℕ). is_holder_pid n (front_word (drop 4 y.1)) y.0 ≡ true) kept.1 kept.0 in
    let read : word_at right.1 ≡ Ok holder = subst (λ (y : ℕ × List ℕ). word_at right.1 ≡ Ok y) kept.1 r9 in
    let t1 = in_taken file bytes [] bytes (least_first 2 before) (n + 1) pid (no_words file bytes ended) r1 in
    let t2 = in_taken file bytes (pid.0 ∷ []) pid.1 (least_second 0 before pid.0) greatest page t1.0 r2 in
    let t3 = in_taken file bytes (pid.0 ∷ page.0 ∷ []) page.1 0 7 right t2.0 r3 in
    let t4 = word_taken file bytes (pid.0 ∷ page.0 ∷ right.0 ∷ []) right.1 holder t3.0 read in
    let t5 = if_taken file bytes (pid.0 ∷ page.0 ∷ right.0 ∷ holder.0 ∷ []) holder.1 (not (eqb holder.0 0)) 0 greatest holder_page t4.0 r5 in
    let t6 = in_taken file bytes (pid.0 ∷ page.0 ∷ right.0 ∷ holder.0 ∷ holder_page.0 ∷ []) holder_page.1 0 2 kind t5.0 r6 in
    let t7 = if_taken file bytes (pid.0 ∷ page.0 ∷ right.0 ∷ holder.0 ∷ holder_page.0 ∷ kind.0 ∷ []) kind.1 (not (eqb kind.0 0)) 0 greatest number t6.0 r7 in
    let t8 = contents_taken (ltb right.0 4) file number.1 place t7.0.ended r8 in
    let s5 = if_taken file holder.1 [] holder.1 (not (eqb holder.0 0)) 0 greatest holder_page (no_words file holder.1 t4.0.ended) r5 in
    let s6 = in_taken file holder.1 (holder_page.0 ∷ []) holder_page.1 0 2 kind s5.0 r6 in
    let kind_most = t6.1.at_most in
    let kind_word : IsWord kind.0 = record { at_least = omega arith; at_most = omega arith } in
    let seen = kind_seen file holder.1 kind.1 holder_page.0 kind.0 s6.0 kind_word in
    let field = holder_field (eqb kind.0 0) n holder.0 (subst (λ (k : Option ℕ). is_holder_pid n k holder.0 ≡ true) seen is_holder) in
    let same : eqb holder.0 0 ≡ eqb kind.0 0 = holder_tells (eqb kind.0 0) n holder.0 field in
    let made : PageRow × List ℕ = (
      record {
        pid = pid.0;
        page = page.0;
        right = right.0;
        holder_pid = holder.0;
        holder_page = holder_page.0;
        kind = kind.0;
        number = number.0;
        from = place.0;
      },
      place.1,
    ) in
    let all = taken_both file bytes (page_words made.0) number.1 (cond (ltb right.0 4) (contents_at file place.0) []) place.1 t7.0 t8.0 in
    subst (λ (y : PageRow × List ℕ). Takes file bytes (page_bytes file y.0) y.1 × IsPageRow (length file) n before (length y.1) y.0) (ok_is made x e8) (
      all,
      record {
        pid = t1.1;
        page = t2.1;
        right = t3.1;
        holder_pid = field;
        holder_page = subst (λ (none : Bool). IsField (not none) 0 greatest holder_page.0) same t5.1;
        kind = t6.1;
        number = t7.1;
        from = t8.1;
      },
    )
    ))))))))))

-- ---- an orphan

pub orphan_taken : (file : List ℕ) (n : ℕ) (before : Option (ℕ × ℕ)) (bytes : List ℕ) (x : OrphanRow × List ℕ) → IsEnd file bytes → orphan_at (length file) n before bytes ≡ Ok x
    → Takes file bytes (orphan_bytes file x.0) x.1 × IsOrphanRow (length file) n before (length x.1) x.0
unfolding orphan_at orphan_bytes
orphan_taken file n before bytes x ended e =
    step _ _ _ e (λ pid r1 e1. step _ _ _ e1 (λ page r2 e2. step _ _ _ e2 (λ kind r3 e3. step _ _ _ e3 (λ number r4 e4. step _ _ _ e4 (λ place r5 e5. (
    let t1 = in_taken file bytes [] bytes (least_first 2 before) (n + 1) pid (no_words file bytes ended) r1 in
    let t2 = in_taken file bytes (pid.0 ∷ []) pid.1 (least_second 0 before pid.0) greatest page t1.0 r2 in
    let t3 = in_taken file bytes (pid.0 ∷ page.0 ∷ []) page.1 1 2 kind t2.0 r3 in
    let t4 = word_taken file bytes (pid.0 ∷ page.0 ∷ kind.0 ∷ []) kind.1 number t3.0 r4 in
    let t5 = contents_taken true file number.1 place t4.0.ended r5 in
    let made : OrphanRow × List ℕ = (record { pid = pid.0; page = page.0; kind = kind.0; number = number.0; from = place.0 }, place.1) in
    let all = taken_both file bytes (orphan_words made.0) number.1 (contents_at file place.0) place.1 t4.0 t5.0 in
    subst (λ (y : OrphanRow × List ℕ). Takes file bytes (orphan_bytes file y.0) y.1 × IsOrphanRow (length file) n before (length y.1) y.0) (ok_is made x e5)
    (all, record { pid = t1.1; page = t2.1; kind = t3.1; number = t4.1; from = t5.1 })
    ))))))
