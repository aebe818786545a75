-- The numbers of the machine, and each kind of row, as they were read, are what their spelling says, and have the form.
use Rattle.std.proofs.Common.{◌≡◌, ℕ, ◌+◌, ◌≤◌, Bool, true, false, not, cond, eqb, ltb, List, [], ◌∷◌, ◌++◌, length, Option, Ok, refl, sym, subst, ◌∙◌, append_assoc, arith}
use Rattle.std.specs.Prelude.{◌||◌}
use Rattle.std.specs.List.{flat_map}
use Rattle.std.proofs.lemmas.Bool.{ltb-false, eqb-true, eqb-false}
use Rattle.snapshot_rows.specs.declared.state.ProcRow.{ProcRow}
use Rattle.snapshot_rows.specs.declared.state.ThreadRow.{ThreadRow}
use Rattle.snapshot_rows.specs.declared.state.MessageRow.{MessageRow}
use Rattle.snapshot_rows.specs.declared.state.ServerRow.{ServerRow}
use Rattle.snapshot_rows.specs.declared.state.ClaimRow.{ClaimRow}
use Rattle.suspend_image.specs.Words.{word_bytes}
use Rattle.suspend_image.specs.Spelling.{proc_bytes, thread_bytes, message_bytes, server_bytes, claim_bytes}
use Rattle.suspend_image.specs.Reading.{greatest, word_at, word_in}
use Rattle.snapshot_rows.specs.Order.{after, least_first, least_second}
use Rattle.suspend_image.specs.Rows.{proc_at, waits_at, thread_at, sender_pid_at, message_at, server_at, claim_at}
use Rattle.suspend_image.specs.Forms.{IsWithin, IsWord, IsField, IsProcRow, IsThreadRow, IsMessageRow, IsServerRow, IsClaimRow, waits_bounds}
use Rattle.suspend_image.proofs.FoundSpelled.TakenLemmas.{step, guard_ok, neither, ok_is, IsEnd, Takes, taken_both, Words, no_words, word_taken, in_taken, if_taken, four_taken, many_taken, items_taken}

-- ---- a claim

pub claim_taken : (file : List ℕ) (n : ℕ) (before : Option ℕ) (bytes : List ℕ) (x : ClaimRow × List ℕ) → IsEnd file bytes → claim_at n before bytes ≡ Ok x
    → Takes file bytes (claim_bytes x.0) x.1 × IsClaimRow n before x.0
unfolding claim_at claim_bytes
claim_taken file n before bytes x ended e =
    step _ _ _ e (λ number r1 e1. step _ _ _ e1 (λ pid r2 e2. step _ _ _ e2 (λ handler r3 e3. step _ _ _ e3 (λ arg r4 e4. step _ _ _ e4 (λ pending r5 e5. (
    let t1 = in_taken file bytes [] bytes (after before) greatest number (no_words file bytes ended) r1 in
    let t2 = in_taken file bytes (number.0 ∷ []) number.1 2 (n + 1) pid t1.0 r2 in
    let t3 = word_taken file bytes (number.0 ∷ pid.0 ∷ []) pid.1 handler t2.0 r3 in
    let t4 = word_taken file bytes (number.0 ∷ pid.0 ∷ handler.0 ∷ []) handler.1 arg t3.0 r4 in
    let t5 = in_taken file bytes (number.0 ∷ pid.0 ∷ handler.0 ∷ arg.0 ∷ []) arg.1 0 1 pending t4.0 r5 in
    let made : ClaimRow × List ℕ = (record { number = number.0; pid = pid.0; handler = handler.0; arg = arg.0; pending = pending.0 }, pending.1) in
    subst (λ (y : ClaimRow × List ℕ). Takes file bytes (claim_bytes y.0) y.1 × IsClaimRow n before y.0) (ok_is made x e5)
    (t5.0, record { number = t1.1; pid = t2.1; handler = t3.1; arg = t4.1; pending = t5.1 })
    ))))))

-- ---- a process

pub proc_taken : (file bytes : List ℕ) (x : ProcRow × List ℕ) → IsEnd file bytes → proc_at bytes ≡ Ok x → Takes file bytes (proc_bytes x.0) x.1 × IsProcRow x.0
unfolding proc_at proc_bytes
proc_taken file bytes x ended e =
    step _ _ _ e (λ alive r1 e1. step _ _ _ e1 (λ heap r2 e2. step _ _ _ e2 (λ count r3 e3. step _ _ _ e3 (λ serials r4 e4. (
    let t1 = in_taken file bytes [] bytes 0 1 alive (no_words file bytes ended) r1 in
    let t2 = word_taken file bytes (alive.0 ∷ []) alive.1 heap t1.0 r2 in
    let t3 = word_taken file bytes (alive.0 ∷ heap.0 ∷ []) heap.1 count t2.0 r3 in
    let t4 = many_taken file bytes (alive.0 ∷ heap.0 ∷ count.0 ∷ []) count.1 count.0 serials t3.0 r4 in
    let made : ProcRow × List ℕ = (record { alive = alive.0; heap = heap.0; serials = serials.0 }, serials.1) in
    let words = subst (λ (k : ℕ). Words file bytes (alive.0 ∷ heap.0 ∷ k ∷ serials.0) serials.1) (sym t4.many) t4.words in
    subst (λ (y : ProcRow × List ℕ). Takes file bytes (proc_bytes y.0) y.1 × IsProcRow y.0) (ok_is made x e4)
    (words, record { alive = t1.1; heap = t2.1; many = subst IsWord (sym t4.many) t3.1; serials = t4.fit })
    )))))

-- ---- a thread

abbrev bounds_by : Bool → Bool → ℕ × ℕ
bounds_by nothing joins = cond nothing (0, 0) (cond joins (1, 31) (0, greatest))

waits_by : (file bytes numbers rest : List ℕ) (nothing joins : Bool) (x : ℕ × List ℕ) → Words file bytes numbers rest
    → cond nothing (word_in 0 0 rest) (cond joins (word_in 1 31 rest) (word_at rest)) ≡ Ok x
    → Words file bytes (numbers ++ x.0 ∷ []) x.1 × IsWithin (bounds_by nothing joins).0 (bounds_by nothing joins).1 x.0
waits_by file bytes numbers rest true joins x so_far e = in_taken file bytes numbers rest 0 0 x so_far e
waits_by file bytes numbers rest false true x so_far e = in_taken file bytes numbers rest 1 31 x so_far e
waits_by file bytes numbers rest false false x so_far e = word_taken file bytes numbers rest x so_far e

waits_taken : (file bytes numbers rest : List ℕ) (state : ℕ) (x : ℕ × List ℕ) → Words file bytes numbers rest → waits_at state rest ≡ Ok x
    → Words file bytes (numbers ++ x.0 ∷ []) x.1 × IsWithin (waits_bounds state).0 (waits_bounds state).1 x.0
unfolding waits_at
waits_taken file bytes numbers rest state x so_far e = waits_by file bytes numbers rest _ _ x so_far e

pub thread_taken : (file : List ℕ) (n : ℕ) (before : Option (ℕ × ℕ)) (bytes : List ℕ) (x : ThreadRow × List ℕ) → IsEnd file bytes → thread_at n before bytes ≡ Ok x
    → Takes file bytes (thread_bytes x.0) x.1 × IsThreadRow n before x.0
unfolding thread_at thread_bytes
thread_taken file n before bytes x ended e =
    step _ _ _ e (λ pid r1 e1. step _ _ _ e1 (λ tid r2 e2. step _ _ _ e2 (λ pc r3 e3. step _ _ _ e3 (λ state r4 e4.
    step _ _ _ e4 (λ waits r5 e5. step _ _ _ e5 (λ regs r6 e6. (
    let t1 = in_taken file bytes [] bytes (least_first 2 before) (n + 1) pid (no_words file bytes ended) r1 in
    let t2 = in_taken file bytes (pid.0 ∷ []) pid.1 (least_second 1 before pid.0) 31 tid t1.0 r2 in
    let t3 = word_taken file bytes (pid.0 ∷ tid.0 ∷ []) tid.1 pc t2.0 r3 in
    let t4 = in_taken file bytes (pid.0 ∷ tid.0 ∷ pc.0 ∷ []) pc.1 0 4 state t3.0 r4 in
    let t5 = waits_taken file bytes (pid.0 ∷ tid.0 ∷ pc.0 ∷ state.0 ∷ []) state.1 state.0 waits t4.0 r5 in
    let t6 = many_taken file bytes (pid.0 ∷ tid.0 ∷ pc.0 ∷ state.0 ∷ waits.0 ∷ []) waits.1 31 regs t5.0 r6 in
    let made : ThreadRow × List ℕ = (record { pid = pid.0; tid = tid.0; pc = pc.0; state = state.0; waits = waits.0; regs = regs.0 }, regs.1) in
    subst (λ (y : ThreadRow × List ℕ). Takes file bytes (thread_bytes y.0) y.1 × IsThreadRow n before y.0) (ok_is made x e6)
    (t6.words, record { pid = t1.1; tid = t2.1; pc = t3.1; state = t4.1; waits = t5.1; registers = t6.many; regs = t6.fit })
    )))))))

-- ---- a message

sender_fits : (none : Bool) (n pid : ℕ) → eqb pid 0 ≡ none → eqb pid 1 ≡ false → pid ≤ n + 1 → IsField (not none) 2 (n + 1) pid
sender_fits true n pid none other most = let zero_is = eqb-true pid 0 none in record { at_least = omega arith; at_most = omega arith }
sender_fits false n pid none other most =
    let some = eqb-false pid 0 none in
    let second = eqb-false pid 1 other in
    record { at_least = omega (arith, some, second); at_most = most }

sender_taken : (file bytes numbers rest : List ℕ) (n : ℕ) (x : ℕ × List ℕ) → Words file bytes numbers rest → sender_pid_at n rest ≡ Ok x
    → Words file bytes (numbers ++ x.0 ∷ []) x.1 × IsField (not (eqb x.0 0)) 2 (n + 1) x.0
unfolding sender_pid_at
sender_taken file bytes numbers rest n x so_far e =
    step _ _ _ e (λ pid r1 e1. (
    let g = guard_ok (eqb pid.0 1 || ltb (n + 1) pid.0) (length rest) pid x e1 in
    let both = neither (eqb pid.0 1) (ltb (n + 1) pid.0) g.0 in
    subst (λ (y : ℕ × List ℕ). Words file bytes (numbers ++ y.0 ∷ []) y.1 × IsField (not (eqb y.0 0)) 2 (n + 1) y.0) g.1
    ((word_taken file bytes numbers rest pid so_far r1).0, sender_fits (eqb pid.0 0) n pid.0 refl both.0 (ltb-false _ _ both.1))
    ))

pub message_taken : (file : List ℕ) (n : ℕ) (bytes : List ℕ) (x : MessageRow × List ℕ) → IsEnd file bytes → message_at n bytes ≡ Ok x
    → Takes file bytes (message_bytes x.0) x.1 × IsMessageRow n x.0
unfolding message_at message_bytes
message_taken file n bytes x ended e =
    step _ _ _ e (λ number r1 e1. step _ _ _ e1 (λ pid r2 e2. step _ _ _ e2 (λ tid r3 e3. step _ _ _ e3 (λ kind r4 e4.
    step _ _ _ e4 (λ id r5 e5. step _ _ _ e5 (λ words r6 e6. step _ _ _ e6 (λ first r7 e7. step _ _ _ e7 (λ count r8 e8. (
    let t1 = word_taken file bytes [] bytes number (no_words file bytes ended) r1 in
    let t2 = sender_taken file bytes (number.0 ∷ []) number.1 n pid t1.0 r2 in
    let t3 = if_taken file bytes (number.0 ∷ pid.0 ∷ []) pid.1 (not (eqb pid.0 0)) 1 31 tid t2.0 r3 in
    let t4 = in_taken file bytes (number.0 ∷ pid.0 ∷ tid.0 ∷ []) tid.1 1 5 kind t3.0 r4 in
    let t5 = word_taken file bytes (number.0 ∷ pid.0 ∷ tid.0 ∷ kind.0 ∷ []) kind.1 id t4.0 r5 in
    let front = number.0 ∷ pid.0 ∷ tid.0 ∷ kind.0 ∷ id.0 ∷ [] in
    let t6 = four_taken file bytes front id.1 words t5.0 r6 in
    let t7 = if_taken file bytes (front ++ words.0) words.1 _ 0 greatest first t6.words r7 in
    let t8 = if_taken file bytes ((front ++ words.0) ++ first.0 ∷ []) first.1 _ 0 greatest count t7.0 r8 in
    let made : MessageRow × List ℕ =
    (record { number = number.0; sender_pid = pid.0; sender_tid = tid.0; kind = kind.0; id = id.0; words = words.0; first = first.0; count = count.0 }, count.1) in
    let joined : ((front ++ words.0) ++ first.0 ∷ []) ++ count.0 ∷ [] ≡ front ++ (words.0 ++ first.0 ∷ count.0 ∷ []) = simp append_assoc in
    let all = subst (λ (numbers : List ℕ). Words file bytes numbers count.1) joined t8.0 in
    subst (λ (y : MessageRow × List ℕ). Takes file bytes (message_bytes y.0) y.1 × IsMessageRow n y.0) (ok_is made x e8)
    (all, record { number = t1.1; sender_pid = t2.1; sender_tid = t3.1; kind = t4.1; id = t5.1; four = t6.four; words = t6.fit; first = t7.1; count = t8.1 })
    )))))))))

-- ---- a server

pub server_taken : (file : List ℕ) (n : ℕ) (before : Option ℕ) (bytes : List ℕ) (x : ServerRow × List ℕ) → IsEnd file bytes → server_at n before bytes ≡ Ok x
    → Takes file bytes (server_bytes x.0) x.1 × IsServerRow n before x.0
unfolding server_at server_bytes
server_taken file n before bytes x ended e =
    step _ _ _ e (λ sid r1 e1. step _ _ _ e1 (λ serial r2 e2. step _ _ _ e2 (λ pid r3 e3. step _ _ _ e3 (λ many_queued r4 e4.
    step _ _ _ e4 (λ many_held r5 e5. step _ _ _ e5 (λ queued r6 e6. step _ _ _ e6 (λ held r7 e7. (
    let t1 = four_taken file bytes [] bytes sid (no_words file bytes ended) r1 in
    let t2 = in_taken file bytes sid.0 sid.1 (after before) greatest serial t1.words r2 in
    let t3 = in_taken file bytes (sid.0 ++ serial.0 ∷ []) serial.1 2 (n + 1) pid t2.0 r3 in
    let t4 = word_taken file bytes ((sid.0 ++ serial.0 ∷ []) ++ pid.0 ∷ []) pid.1 many_queued t3.0 r4 in
    let t5 = word_taken file bytes (((sid.0 ++ serial.0 ∷ []) ++ pid.0 ∷ []) ++ many_queued.0 ∷ []) many_queued.1 many_held t4.0 r5 in
    let t6 = items_taken file (message_at n) message_bytes (IsMessageRow n) (message_taken file n) many_queued.0 many_held.1 queued t5.0.ended r6 in
    let t7 = items_taken file (message_at n) message_bytes (IsMessageRow n) (message_taken file n) many_held.0 queued.1 held t6.takes.ended r7 in
    let made : ServerRow × List ℕ = (record { sid = sid.0; serial = serial.0; pid = pid.0; queued = queued.0; held = held.0 }, held.1) in
    let joined : (((sid.0 ++ serial.0 ∷ []) ++ pid.0 ∷ []) ++ many_queued.0 ∷ []) ++ many_held.0 ∷ [] ≡ sid.0 ++ serial.0 ∷ pid.0 ∷ many_queued.0 ∷ many_held.0 ∷ [] = simp append_assoc in
    let counted : sid.0 ++ serial.0 ∷ pid.0 ∷ many_queued.0 ∷ many_held.0 ∷ [] ≡ sid.0 ++ serial.0 ∷ pid.0 ∷ length queued.0 ∷ length held.0 ∷ [] = rw (t6.many, t7.many) refl in
    let words = subst (λ (numbers : List ℕ). Words file bytes numbers many_held.1) (joined ∙ counted) t5.0 in
    let messages = taken_both file many_held.1 (flat_map message_bytes queued.0) queued.1 (flat_map message_bytes held.0) held.1 t6.takes t7.takes in
    let all = taken_both file bytes (word_bytes (sid.0 ++ serial.0 ∷ pid.0 ∷ length queued.0 ∷ length held.0 ∷ [])) many_held.1
    (flat_map message_bytes queued.0 ++ flat_map message_bytes held.0) held.1 words messages in
    subst (λ (y : ServerRow × List ℕ). Takes file bytes (server_bytes y.0) y.1 × IsServerRow n before y.0) (ok_is made x e7) (
      all,
      record {
        four = t1.four;
        sid = t1.fit;
        serial = t2.1;
        pid = t3.1;
        many_queued = subst IsWord (sym t6.many) t4.1;
        many_held = subst IsWord (sym t7.many) t5.1;
        queued = t6.forms;
        held = t7.forms;
      },
    )
    ))))))))
