-- The lines of processes, one after another.
use Rattle.std.proofs.Common.{◌≡◌, ◌∙◌, ◌+◌, ◌<◌, ℕ, suc, List, [], ◌∷◌, ◌++◌, ap, sym, arith, append_assoc, append-nil, length, take, drop, get_or, length-take, drop-cons}
use Rattle.std.proofs.lemmas.List.{take-append-drop}
use Rattle.std.proofs.Math.Seq.{take-suc}
use Rattle.boot_plan.specs.declared.plans.ProcPlan.{ProcPlan}
use Rattle.xous_program.specs.Summary.{process_line, process_lines}

lines_append : (pid : ℕ) (xs ys : List ProcPlan) → process_lines pid (xs ++ ys) ≡ process_lines pid xs ++ process_lines (length xs + pid) ys
lines_append pid [] ys =
    let same : pid ≡ 0 + pid = omega arith in ap (λ (n : ℕ). process_lines n ys) same
lines_append pid (x ∷ xs) ys =
    let same : length xs + suc pid ≡ suc (length xs) + pid = omega arith in
    ap (λ (text : List ℕ). process_line pid x ++ text) (lines_append (suc pid) xs ys ∙ ap (λ (n : ℕ). process_lines (suc pid) xs ++ process_lines n ys) same)
    ∙ sym (append_assoc (process_line pid x) (process_lines (suc pid) xs) (process_lines (suc (length xs) + pid) ys))

front_pid : (ps : List ProcPlan) (i pid : ℕ) → i < length ps → pid ≡ i + 2 → length (take i ps) + 2 ≡ pid
front_pid ps i pid inside at = omega (arith, length-take i ps)

pub lines_split : (ps : List ProcPlan) (i pid : ℕ) (d : ProcPlan) → i < length ps → pid ≡ i + 2
    → process_lines 2 ps ≡ process_lines 2 (take i ps) ++ (process_line pid (get_or ps i d) ++ process_lines (suc pid) (drop (suc i) ps))
lines_split ps i pid d inside at =
    ap (process_lines 2) (sym (take-append-drop i ps))
    ∙ (lines_append 2 (take i ps) (drop i ps)
    ∙ (ap (λ (n : ℕ). process_lines 2 (take i ps) ++ process_lines n (drop i ps)) (front_pid ps i pid inside at)
    ∙ ap (λ (rest : List ProcPlan). process_lines 2 (take i ps) ++ process_lines pid rest) (drop-cons ps i d inside)))

pub lines_next : (ps : List ProcPlan) (i pid : ℕ) (d : ProcPlan) → i < length ps → pid ≡ i + 2
    → process_lines 2 (take (suc i) ps) ≡ process_lines 2 (take i ps) ++ process_line pid (get_or ps i d)
lines_next ps i pid d inside at =
    ap (process_lines 2) (take-suc ps i d inside)
    ∙ (lines_append 2 (take i ps) (get_or ps i d ∷ [])
    ∙ (ap (λ (n : ℕ). process_lines 2 (take i ps) ++ process_lines n (get_or ps i d ∷ [])) (front_pid ps i pid inside at)
    ∙ ap (λ (text : List ℕ). process_lines 2 (take i ps) ++ text) (append-nil (process_line pid (get_or ps i d)))))
