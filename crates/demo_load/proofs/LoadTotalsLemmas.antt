-- Totals with a record more.
use Rattle.std.proofs.Common.{◌≡◌, ◌⊎◌, inl, inr, ℕ, ◌+◌, ◌%◌, ◌^◌, ◌<◌, Bool, true, false, cond, List, [], ◌∷◌, ◌++◌, refl, sym, ap, ◌∙◌, arith}
use Rattle.std.specs.List.{count_by, sum_by}
use Rattle.std.proofs.lemmas.List.Sums.{sum_by_push}
use Rattle.xk_base.specs.declared.ids.Pid.{Pid}
use Rattle.xk_base.specs.declared.ids.ThreadId.{ThreadId}
use Rattle.xk_base.specs.declared.records.Rec.{Rec}
use Rattle.xk_base.specs.declared.records.What.TheVariants.{Byte, End, Fault, Irq, Retry}
use Rattle.demo_load.specs.Totals.{IsWithin, ended_with, is_gone, is_send, totals_of}
use Rattle.demo_load.specs.declared.totals.Totals.{Totals}

count_more : (p : Rec → Bool) (b : Bool) (before : List Rec) (rec : Rec) → p rec ≡ b → count_by p (before ++ rec ∷ []) ≡ count_by p before + cond b 1 0
count_more p b before rec is = sum_by_push (λ x. cond (p x) 1 0) before rec ∙ ap (λ (t : Bool). count_by p before + cond t 1 0) is

sum_more : (w : ℕ) (before : List Rec) (rec : Rec) → ended_with rec.what ≡ w
    → sum_by (λ r. ended_with r.what) (before ++ rec ∷ []) % 2 ^ 32 ≡ (sum_by (λ r. ended_with r.what) before % 2 ^ 32 + w) % 2 ^ 32
sum_more w before rec is =
    let more : sum_by (λ r. ended_with r.what) (before ++ rec ∷ []) ≡ sum_by (λ r. ended_with r.what) before + ended_with rec.what =
    sum_by_push (λ r. ended_with r.what) before rec in
    omega (arith, more, is)

-- the totals of records and one more
totals_more : (send gone : Bool) (w : ℕ) (before : List Rec) (rec : Rec) → is_send rec.what ≡ send → ended_with rec.what ≡ w → is_gone rec.what ≡ gone
    → let t = totals_of before in
    totals_of (before ++ rec ∷ []) ≡ record { sends = t.sends + cond send 1 0; sum = (t.sum + w) % 2 ^ 32; gone = t.gone + cond gone 1 0 }
unfolding totals_of
totals_more send gone w before rec sent ended died = λ i. record {
  sends = count_more (λ r. is_send r.what) send before rec sent i;
  sum = sum_more w before rec ended i;
  gone = count_more (λ r. is_gone r.what) gone before rec died i;
}

sum_fits : (before : List Rec) → (totals_of before).sum < 2 ^ 32
unfolding totals_of
sum_fits before = omega arith

-- what is counted of the record was added
pub counted_one : (send gone : Bool) (w : ℕ) (old new : Totals) (before : List Rec) (rec : Rec)
    → is_send rec.what ≡ send → ended_with rec.what ≡ w → is_gone rec.what ≡ gone
    → new.sends ≡ old.sends + cond send 1 0 → new.sum ≡ (old.sum + w) % 2 ^ 32 → new.gone ≡ old.gone + cond gone 1 0
    → old ≡ totals_of before → new ≡ totals_of (before ++ rec ∷ [])
counted_one send gone w old new before rec sent ended died sends sum deaths is =
    let same : new ≡ record { sends = old.sends + cond send 1 0; sum = (old.sum + w) % 2 ^ 32; gone = old.gone + cond gone 1 0 } =
    λ i. record { sends = sends i; sum = sum i; gone = deaths i } in
    same
    ∙ (ap (λ (t : Totals). record { sends = t.sends + cond send 1 0; sum = (t.sum + w) % 2 ^ 32; gone = t.gone + cond gone 1 0 }) is
    ∙ sym (totals_more send gone w before rec sent ended died))

-- nothing is counted of it
pub counted_none : (old : Totals) (before : List Rec) (rec : Rec) → is_send rec.what ≡ false → ended_with rec.what ≡ 0 → is_gone rec.what ≡ false
    → old ≡ totals_of before → old ≡ totals_of (before ++ rec ∷ [])
counted_none old before rec sent ended died is =
    let fits = sum_fits before in
    counted_one false false 0 old old before rec sent ended died (omega arith) (omega (arith, fits, ap (λ (t : Totals). t.sum) is)) (omega arith) is

-- a send alone, and a death alone
pub counted_send : (old : Totals) (before : List Rec) (rec : Rec) → is_send rec.what ≡ true → ended_with rec.what ≡ 0 → is_gone rec.what ≡ false
    → old ≡ totals_of before → record { sends = old.sends + 1; sum = old.sum; gone = old.gone } ≡ totals_of (before ++ rec ∷ [])
counted_send old before rec sent ended died is =
    let fits = sum_fits before in
    let sum : old.sum ≡ (old.sum + 0) % 2 ^ 32 = omega (arith, fits, ap (λ (t : Totals). t.sum) is) in
    counted_one true false 0 old (record { sends = old.sends + 1; sum = old.sum; gone = old.gone }) before rec sent ended died refl sum (omega arith) is

pub counted_gone : (old : Totals) (before : List Rec) (rec : Rec) → is_send rec.what ≡ false → ended_with rec.what ≡ 0 → is_gone rec.what ≡ true
    → old ≡ totals_of before → record { sends = old.sends; sum = old.sum; gone = old.gone + 1 } ≡ totals_of (before ++ rec ∷ [])
counted_gone old before rec sent ended died is =
    let fits = sum_fits before in
    let sum : old.sum ≡ (old.sum + 0) % 2 ^ 32 = omega (arith, fits, ap (λ (t : Totals). t.sum) is) in
    counted_one false true 0 old (record { sends = old.sends; sum = old.sum; gone = old.gone + 1 }) before rec sent ended died (omega arith) sum refl is

-- a word alone
pub counted_word : (w : ℕ) (old : Totals) (before : List Rec) (rec : Rec) → is_send rec.what ≡ false → ended_with rec.what ≡ w → is_gone rec.what ≡ false
    → old ≡ totals_of before → record { sends = old.sends; sum = (old.sum + w) % 2 ^ 32; gone = old.gone } ≡ totals_of (before ++ rec ∷ [])
counted_word w old before rec sent ended died is =
    counted_one false false w old (record { sends = old.sends; sum = (old.sum + w) % 2 ^ 32; gone = old.gone }) before rec sent ended died (omega arith) refl (omega arith) is

-- a record of which nothing is counted
pub counted_other : (old : Totals) (before : List Rec) (rec : Rec)
    → (((who : ThreadId) × (rec.what ≡ Retry who))
    ⊎ (((who : ThreadId) × (byte : ℕ) × (rec.what ≡ Byte who byte))
    ⊎ (((who : ThreadId) × (cause : ℕ) × (value : ℕ) × (rec.what ≡ Fault who cause value))
    ⊎ (((who : ThreadId) × (rec.what ≡ End who))
    ⊎ ((pid : Pid) × (number : ℕ) × (rec.what ≡ Irq pid number))))))
    → old ≡ totals_of before → old ≡ totals_of (before ++ rec ∷ [])
counted_other old before rec (inl (who, is)) = counted_none old before rec (rw is refl) (rw is refl) (rw is refl)
counted_other old before rec (inr (inl (who, byte, is))) = counted_none old before rec (rw is refl) (rw is refl) (rw is refl)
counted_other old before rec (inr (inr (inl (who, cause, value, is)))) = counted_none old before rec (rw is refl) (rw is refl) (rw is refl)
counted_other old before rec (inr (inr (inr (inl (who, is))))) = counted_none old before rec (rw is refl) (rw is refl) (rw is refl)
counted_other old before rec (inr (inr (inr (inr (pid, number, is))))) = counted_none old before rec (rw is refl) (rw is refl) (rw is refl)

-- nothing was counted at the start
pub within_start : (steps : ℕ) → IsWithin steps (totals_of [])
unfolding totals_of
within_start steps = record { sends = omega arith; gone = omega arith }
