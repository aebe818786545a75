-- The first message of a process at a seat: it can leave, and one message fewer of the process is left there.
use Rattle.std.proofs.Common.{◌≡◌, ℕ, suc, ◌+◌, ◌<◌, ◌≤◌, Bool, true, false, List, [], ◌∷◌, ◌++◌, cond, get_or, map, set, Option, Some, None, refl, sym, ap, subst, ◌∙◌, arith}
use Rattle.std.specs.Prelude.{◌==◌, ◌||◌, ◌&&◌, All, IfSome, IsSome, if◌then◌else◌, is_some, not}
use Rattle.std.specs.List.{list_any, remove}
use Rattle.std.specs.Option.{option_map_or}
use Rattle.std.proofs.lemmas.Bool.{false≢true}
use Rattle.std.proofs.lemmas.List.{map-append, set-get_or}
use Rattle.std.proofs.lemmas.List.Elements.{All-cons, All-head, All-tail}
use Rattle.std.proofs.lemmas.Option.{none-some, same_Some}
use Rattle.ledger_model.specs.Ledger.{Ledger}
use Rattle.ledger_model.specs.Steps.{end_loan, orphan_loan}
use Rattle.ledger_model.specs.Loans.{LoanRun, Loans}
use Rattle.machine_model.proofs.Matching.CountLemmas.{count_in-append, one_if}
use Rattle.machine_model.specs.Messaging.MessageCounts.{count_in}
use Rattle.machine_model.specs.Messaging.Messages.{is_sent_from}
use Rattle.msg_queue.specs.Seats.{IsFirstOf, Seat, changed_at, empty_seat, is_awaited_in, is_of_number, message_of, of_number, message_place, seat_of, without_queued}
use Rattle.msg_queue.specs.declared.held.Held.{Held}
use Rattle.xk_parts.specs.Seats.{messages_at}
use Rattle.xk_parts.specs.Sound.{IsLenderOf, HasKnownSender, IsLoanFit, IsLoanFitOf}
use Rattle.xk_base.specs.Calls.Kinds.{is_answered}
use Rattle.xk_base.specs.Tables.Circle.{is_thread_id}
use Rattle.xk_base.specs.declared.ids.Number.{Number}
use Rattle.xk_base.specs.declared.ids.Pid.{Pid}
use Rattle.xk_base.specs.declared.ids.ThreadId.{ThreadId}
use Rattle.kill_path.specs.Leaving.{IsLeavable, IsLoanOrphanable, IsOrphanable, alone, first_alone, is_queued, with_alone}
use Rattle.kill_path.proofs.Messages.LeaveStepLemmas.{none_of, number_count}
use Rattle.kill_path.proofs.Messages.LeavingLemmas.{found_number, placed}
use Rattle.kill_path.proofs.Servers.OpenLemmas.{fit_endable}

-- ---- who waits

-- a message that a thread of the process waits for is one from the process
pub awaited_is_sent : (pid : Pid) (h : Held) → HasKnownSender h → is_awaited_in pid h ≡ is_sent_from pid h.msg
unfolding is_awaited_in
awaited_is_sent pid h known = go h.msg.sender refl known
  where
    none : (b : Bool) → (b && false) ≡ false
    none true = refl
    none false = refl

    go : (o : Option ThreadId) → h.msg.sender ≡ o → IfSome o (λ id. (is_thread_id 64 id ≡ true) × (is_answered h.msg.kind ≡ true))
        → (is_answered h.msg.kind && option_map_or (λ (who : ThreadId). who.pid.0 == pid.0) o false) ≡ option_map_or (λ (who : ThreadId). who.pid.0 == pid.0) o false
    go None e k = none (is_answered h.msg.kind)
    go (Some who) e k = ap (λ b. b && (who.pid.0 == pid.0)) k.1

-- none waits
pub none_sent : (pid : Pid) (hs : List Held) → All HasKnownSender hs → All (λ h. is_awaited_in pid h ≡ false) hs → All (λ h. is_sent_from pid h.msg ≡ false) hs
none_sent pid hs known none j d low = sym (awaited_is_sent pid (get_or hs j d) (known j d low)) ∙ none j d low

-- ---- lists with at most one message of the number

any_fails : (p : Held → Bool) (number : Number) (hs : List Held) → All (λ h. is_of_number number h ≡ false) hs → list_any (λ h. p h && is_of_number number h) hs ≡ false
any_fails p number [] all = refl
any_fails p number (x ∷ xs) all =
    (λ i. (p x && All-head (λ h. is_of_number number h ≡ false) x xs all i) || list_any (λ h. p h && is_of_number number h) xs)
    ∙ either (p x) (list_any (λ h. p h && is_of_number number h) xs) (any_fails p number xs (All-tail (λ h. is_of_number number h ≡ false) x xs all))
  where
    either : (a b : Bool) → b ≡ false → ((a && false) || b) ≡ false
    either true b e = e
    either false b e = e

-- where one of it passes, each of it does
pub each_passes : (p : Held → Bool) (number : Number) (hs : List Held) → number_count number hs ≤ 1
    → list_any (λ h. p h && is_of_number number h) hs ≡ true → All (λ h. is_of_number number h ≡ true → p h ≡ true) hs
unfolding count_in
each_passes p number [] few e = absurd (false≢true e)
each_passes p number (x ∷ xs) few e = go (is_of_number number x) refl few e (λ f g. each_passes p number xs f g)
  where
    Passes : Held → Type 0
    Passes h = is_of_number number h ≡ true → p h ≡ true

    here : (a b : Bool) → b ≡ false → ((a && true) || b) ≡ true → a ≡ true
    here true b e f = refl
    here false b e f = sym e ∙ f

    later : (a b : Bool) → ((a && false) || b) ≡ true → b ≡ true
    later true b f = f
    later false b f = f

    go : (b : Bool) → is_of_number number x ≡ b → (if b then 1 else 0) + number_count number xs ≤ 1
        → ((p x && b) || list_any (λ h. p h && is_of_number number h) xs) ≡ true
        → (number_count number xs ≤ 1 → list_any (λ h. p h && is_of_number number h) xs ≡ true → All Passes xs)
        → All Passes (x ∷ xs)
    go true q one f rest =
        let none : number_count number xs ≡ 0 = omega arith in
        All-cons Passes x xs (λ same. here (p x) (list_any (λ h. p h && is_of_number number h) xs) (any_fails p number xs (none_of number xs none)) f)
        (λ j d low same. absurd (false≢true (sym (none_of number xs none j d low) ∙ same)))
    go false q one f rest =
        All-cons Passes x xs (λ same. absurd (false≢true (sym q ∙ same))) (rest (omega arith) (later (p x) (list_any (λ h. p h && is_of_number number h) xs) f))

-- where one of it passes, one of it is found
pub one_found : (p : Held → Bool) (number : Number) (hs : List Held) → list_any (λ h. p h && is_of_number number h) hs ≡ true → IsSome (of_number number hs)
one_found p number [] e = absurd (false≢true e)
one_found p number (x ∷ xs) e = go (is_of_number number x) e (λ f. one_found p number xs f)
  where
    later : (a b : Bool) → ((a && false) || b) ≡ true → b ≡ true
    later true b f = f
    later false b f = f

    go : (b : Bool) → ((p x && b) || list_any (λ h. p h && is_of_number number h) xs) ≡ true
        → (list_any (λ h. p h && is_of_number number h) xs ≡ true → IsSome (of_number number xs)) → IsSome (cond b (Some x) (of_number number xs))
    go true f rest = refl
    go false f rest = rest (later (p x) (list_any (λ h. p h && is_of_number number h) xs) f)

-- what holds of all holds of the one found
pub of_found : (P : Held → Type 0) (number : Number) (hs : List Held) (h : Held) → All P hs → of_number number hs ≡ Some h → P h
of_found P number [] h all e = absurd (none-some h e)
of_found P number (x ∷ xs) h all e = go (is_of_number number x) e (of_found P number xs h (All-tail P x xs all))
  where
    go : (b : Bool) → cond b (Some x) (of_number number xs) ≡ Some h → (of_number number xs ≡ Some h → P h) → P h
    go true f rest = subst P (same_Some x h f) (All-head P x xs all)
    go false f rest = rest f

pub found_its : (number : Number) (hs : List Held) (h : Held) → of_number number hs ≡ Some h → is_of_number number h ≡ true
found_its number hs h e =
    let p = placed number hs (ap is_some e) in
    ap (is_of_number number) (sym (same_Some p.message h (sym p.found ∙ e))) ∙ p.its

-- what is found of two lists is found of the first, or else of the second
pub found_both : (number : Number) (xs ys : List Held) (h : Held) → of_number number xs ≡ Some h → of_number number (xs ++ ys) ≡ Some h
found_both number [] ys h e = absurd (none-some h e)
found_both number (x ∷ xs) ys h e = go (is_of_number number x) e (found_both number xs ys h)
  where
    go : (b : Bool) → cond b (Some x) (of_number number xs) ≡ Some h → (of_number number xs ≡ Some h → of_number number (xs ++ ys) ≡ Some h)
        → cond b (Some x) (of_number number (xs ++ ys)) ≡ Some h
    go true f rest = f
    go false f rest = rest f

pub found_second : (number : Number) (xs ys : List Held) → of_number number xs ≡ None → of_number number (xs ++ ys) ≡ of_number number ys
found_second number [] ys e = refl
found_second number (x ∷ xs) ys e = go (is_of_number number x) e (found_second number xs ys)
  where
    go : (b : Bool) → cond b (Some x) (of_number number xs) ≡ None → (of_number number xs ≡ None → of_number number (xs ++ ys) ≡ of_number number ys)
        → cond b (Some x) (of_number number (xs ++ ys)) ≡ of_number number ys
    go true f rest = absurd (none-some x (sym f))
    go false f rest = rest f

-- ---- none of the number is queued

pub nothing_removed : (number : Number) (hs : List Held) → of_number number hs ≡ None → remove hs (message_place number hs) ≡ hs
nothing_removed number [] e = refl
nothing_removed number (x ∷ xs) e = go (is_of_number number x) e (nothing_removed number xs)
  where
    go : (b : Bool) → cond b (Some x) (of_number number xs) ≡ None → (of_number number xs ≡ None → remove xs (message_place number xs) ≡ xs)
        → remove (x ∷ xs) (cond (not b) (1 + message_place number xs) 0) ≡ x ∷ xs
    go true f rest = absurd (none-some x (sym f))
    go false f rest =
        let next : 1 + message_place number xs ≡ suc (message_place number xs) = omega arith in
        ap (remove (x ∷ xs)) next ∙ ap (λ ys. x ∷ ys) (rest f)

pub seat_unchanged : (seats : List Seat) (k : ℕ) (number : Number) → of_number number (seat_of seats k).queued ≡ None → changed_at k (without_queued number) seats ≡ seats
seat_unchanged seats k number e =
    (λ i. set seats k (record (seat_of seats k) { queued = nothing_removed number (seat_of seats k).queued e i }))
    ∙ set-get_or seats k empty_seat

-- a queued message that ends leaves
pub queued_leaves : (procs : ℕ) (number : Number) (seat : Seat) (h : Held) (old new : Ledger) → of_number number seat.queued ≡ Some h
    → new ≡ end_loan h.msg.number old → new ≡ (if is_queued number seat then end_loan number old else orphan_loan procs number old)
queued_leaves procs number seat h old new e ends =
    ends ∙ ap (λ n. end_loan n old) (found_number number seat.queued h e)
    ∙ sym (ap (λ b. if b then end_loan number old else orphan_loan procs number old) (ap is_some e))

-- ---- the first of a process can leave

lent_from : (all : Loans) (pid : Pid) (h : Held) (who : ThreadId) → h.msg.sender ≡ Some who → IsLoanFit all pid h → IsOrphanable all h
lent_from all pid h who sent fit = go h.loan fit
  where
    has_lender : (run : LoanRun) (o : Option ThreadId) → o ≡ Some who → IsLenderOf o run.lender → IsSome run.lender
    has_lender run None q l = absurd (none-some who q)
    has_lender run (Some sender) q l = ap is_some l.1

    go : (o : Option LoanRun) → IsLoanFitOf all pid h.msg o → IsLoanOrphanable all h.msg.number o
    go None f = f
    go (Some run) f = (f.stands, f.number, has_lender run h.msg.sender sent f.lender)

sender_is : (pid : Pid) (h : Held) → is_sent_from pid h.msg ≡ true → (who : ThreadId) × (h.msg.sender ≡ Some who)
sender_is pid h e = go h.msg.sender refl e
  where
    go : (o : Option ThreadId) → h.msg.sender ≡ o → option_map_or (λ (who : ThreadId). who.pid.0 == pid.0) o false ≡ true → (who : ThreadId) × (h.msg.sender ≡ Some who)
    go None q f = absurd (false≢true f)
    go (Some who) q f = (who, q)

pub sent_is_some : (pid : Pid) (h : Held) → is_sent_from pid h.msg ≡ true → is_some h.msg.sender ≡ true
sent_is_some pid h e = ap is_some (sender_is pid h e).1

module _ (all : Loans) (owner pid : Pid) (number : Number) (seat : Seat) (fit : All (IsLoanFit all owner) (messages_at seat))
    (known : All HasKnownSender (messages_at seat)) (few : number_count number (messages_at seat) ≤ 1) (first : IsFirstOf pid (messages_at seat) (Some number)) where
  -- each message of the number is from the process
  pub each_sent : All (λ h. is_of_number number h ≡ true → is_sent_from pid h.msg ≡ true) (messages_at seat)
  each_sent j d low at =
      sym (awaited_is_sent pid (get_or (messages_at seat) j d) (known j d low))
      ∙ each_passes (is_awaited_in pid) number (messages_at seat) few first.found j d low at

  pub found_sent : (h : Held) → of_number number (messages_at seat) ≡ Some h → is_sent_from pid h.msg ≡ true
  found_sent h e =
      of_found (λ x. is_of_number number x ≡ true → is_sent_from pid x.msg ≡ true) number (messages_at seat) h each_sent e
      (found_its number (messages_at seat) h e)

  pub held_there : of_number number seat.queued ≡ None → IsSome (of_number number seat.held)
  held_there e =
      subst (λ o. IsSome o) (found_second number seat.queued seat.held e) (one_found (is_awaited_in pid) number (messages_at seat) first.found)

  pub can_leave : IsLeavable all number seat
  can_leave = record {
    queued = λ h e. fit_endable all owner h (of_found (IsLoanFit all owner) number (messages_at seat) h fit (found_both number seat.queued seat.held h e));
    there = held_there;
    held = λ none h e.
        let found : of_number number (messages_at seat) ≡ Some h = found_second number seat.queued seat.held none ∙ e in
        let who = sender_is pid h (found_sent h found) in
        lent_from all owner h who.0 who.1 (of_found (IsLoanFit all owner) number (messages_at seat) h fit found);
  }

-- ---- fewer are left

-- how many of these are from the process
abbrev pub sent_count : Pid → List Held → ℕ
sent_count pid hs = count_in (is_sent_from pid) (map message_of hs)

removed_counts : (pid : Pid) (number : Number) (hs : List Held) (h : Held) → of_number number hs ≡ Some h
    → sent_count pid hs ≡ one_if (is_sent_from pid h.msg) + sent_count pid (remove hs (message_place number hs))
unfolding count_in
removed_counts pid number [] h e = absurd (none-some h e)
removed_counts pid number (x ∷ xs) h e = go (is_of_number number x) e (removed_counts pid number xs h)
  where
    go : (b : Bool) → cond b (Some x) (of_number number xs) ≡ Some h
        → (of_number number xs ≡ Some h → sent_count pid xs ≡ one_if (is_sent_from pid h.msg) + sent_count pid (remove xs (message_place number xs)))
        → one_if (is_sent_from pid x.msg) + sent_count pid xs
        ≡ one_if (is_sent_from pid h.msg) + sent_count pid (remove (x ∷ xs) (cond (not b) (1 + message_place number xs) 0))
    go true f rest = ap (λ (y : Held). one_if (is_sent_from pid y.msg) + sent_count pid xs) (same_Some x h f)
    go false f rest =
        let next : 1 + message_place number xs ≡ suc (message_place number xs) = omega arith in
        let same : sent_count pid (remove (x ∷ xs) (1 + message_place number xs)) ≡ one_if (is_sent_from pid x.msg) + sent_count pid (remove xs (message_place number xs)) =
        ap (λ k. sent_count pid (remove (x ∷ xs) k)) next in
        let others : sent_count pid xs ≡ one_if (is_sent_from pid h.msg) + sent_count pid (remove xs (message_place number xs)) = rest f in
        omega arith

alone_counts : (pid : Pid) (number : Number) (hs : List Held) (h : Held) → of_number number hs ≡ Some h
    → sent_count pid hs ≡ one_if (is_sent_from pid h.msg) + sent_count pid (first_alone number hs)
unfolding count_in
alone_counts pid number [] h e = absurd (none-some h e)
alone_counts pid number (x ∷ xs) h e = go (is_of_number number x) e (alone_counts pid number xs h)
  where
    go : (b : Bool) → cond b (Some x) (of_number number xs) ≡ Some h
        → (of_number number xs ≡ Some h → sent_count pid xs ≡ one_if (is_sent_from pid h.msg) + sent_count pid (first_alone number xs))
        → one_if (is_sent_from pid x.msg) + sent_count pid xs
        ≡ one_if (is_sent_from pid h.msg) + sent_count pid (if b then alone x ∷ xs else x ∷ first_alone number xs)
    go true f rest =
        let same : one_if (is_sent_from pid x.msg) ≡ one_if (is_sent_from pid h.msg) = ap (λ (y : Held). one_if (is_sent_from pid y.msg)) (same_Some x h f) in
        let left : sent_count pid (alone x ∷ xs) ≡ 0 + sent_count pid xs = refl in
        omega arith
    go false f rest =
        let others : sent_count pid xs ≡ one_if (is_sent_from pid h.msg) + sent_count pid (first_alone number xs) = rest f in
        omega arith

both_counts : (pid : Pid) (xs ys : List Held) → sent_count pid (xs ++ ys) ≡ sent_count pid xs + sent_count pid ys
both_counts pid xs ys =
    ap (count_in (is_sent_from pid)) (map-append message_of xs ys) ∙ count_in-append (is_sent_from pid) (map message_of xs) (map message_of ys)

module _ (pid : Pid) (number : Number) (seat : Seat) where
  pub fewer_queued : (h : Held) → of_number number seat.queued ≡ Some h → is_sent_from pid h.msg ≡ true
      → sent_count pid (messages_at (without_queued number seat)) < sent_count pid (messages_at seat)
  fewer_queued h e sent =
      let left = remove seat.queued (message_place number seat.queued) in
      let before : sent_count pid (messages_at seat) ≡ sent_count pid seat.queued + sent_count pid seat.held = both_counts pid seat.queued seat.held in
      let after : sent_count pid (messages_at (without_queued number seat)) ≡ sent_count pid left + sent_count pid seat.held = both_counts pid left seat.held in
      let one : sent_count pid seat.queued ≡ one_if (is_sent_from pid h.msg) + sent_count pid left = removed_counts pid number seat.queued h e in
      let is : one_if (is_sent_from pid h.msg) ≡ 1 = ap one_if sent in
      omega arith

  pub fewer_alone : (h : Held) → of_number number seat.held ≡ Some h → is_sent_from pid h.msg ≡ true
      → sent_count pid (messages_at (with_alone number seat)) < sent_count pid (messages_at seat)
  fewer_alone h e sent =
      let left = first_alone number seat.held in
      let before : sent_count pid (messages_at seat) ≡ sent_count pid seat.queued + sent_count pid seat.held = both_counts pid seat.queued seat.held in
      let after : sent_count pid (messages_at (with_alone number seat)) ≡ sent_count pid seat.queued + sent_count pid left = both_counts pid seat.queued left in
      let one : sent_count pid seat.held ≡ one_if (is_sent_from pid h.msg) + sent_count pid left = alone_counts pid number seat.held h e in
      let is : one_if (is_sent_from pid h.msg) ≡ 1 = ap one_if sent in
      omega arith
