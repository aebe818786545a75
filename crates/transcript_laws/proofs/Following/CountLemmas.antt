-- What the records say of a message, counted: it is delivered once for its send and once for each forward, and returned once.
use Rattle.std.proofs.Common.{◌≡◌, ℕ, ◌+◌, ◌≤◌, ◌⊎◌, inl, inr, Bool, true, false, List, [], ◌∷◌, ◌++◌, length, map, refl, sym, ap, ◌∙◌, subst, arith}
use Rattle.std.specs.Prelude.{◌==◌, ◌&&◌, ◌||◌, if◌then◌else◌, not, slice_index}
use Rattle.std.proofs.lemmas.Bool.{and_parts, eqb-true, false≢true, or_parts}
use Rattle.xk_base.specs.declared.events.Event.{Event}
use Rattle.xk_base.specs.declared.ids.Number.{Number}
use Rattle.xk_base.specs.declared.ids.ThreadId.{ThreadId}
use Rattle.xk_base.specs.declared.records.Rec.{Rec}
use Rattle.xk_base.specs.declared.records.What.{What}
use Rattle.xk_base.specs.declared.records.What.TheVariants.{Call, Reply, Retry, Byte, Fault, End, Irq, Gone}
use Rattle.syscall_codec.specs.CallNumbers.{destroy_server, forward_message, return_memory, return_scalar1, return_scalar2, send_message}
use Rattle.syscall_codec.specs.CallNumbers.{try_send_message}
use Rattle.syscall_codec.specs.CallWords.{call_number, forward_token, return_token}
use Rattle.xk_base.specs.Calls.Kinds.{is_waiting_kind}
use Rattle.machine_laws.specs.Records.{records_of}
use Rattle.machine_laws.specs.HistoryMoments.{moments_of}
use Rattle.machine_laws.proofs.Histories.MomentLemmas.{history_is_run}
use Rattle.machine_model.specs.Runs.Matched.{Matched}
use Rattle.machine_model.specs.Runs.Moments.{IsRun, Moment, state_at}
use Rattle.machine_model.specs.State.Machine.{Machine}
use Rattle.machine_model.proofs.Matching.CountLemmas.{one_if}
use Rattle.machine_laws.proofs.Stepping.EveryStepLemmas.{every_cause_keeps}
use Rattle.transcript_laws.specs.DeliveredOnce.{AreDeliveriesOnce, DeliveredOnce, HasForward, IsSilent, deliveries_in, due, forwards_in}
use Rattle.transcript_laws.specs.DeliveredOnce.{in_hand, returns_in}
use Rattle.transcript_laws.specs.Following.{Accepted, Delivered, Forwarded, Held, LostHeld, LostQueued, Over, Queued, Returned, Leads}
use Rattle.transcript_laws.specs.Following.{LeadInTurn, Standing, Stays, Unsent, is_delivery_of, is_end_in, is_forward_of}
use Rattle.transcript_laws.specs.Following.{is_last_delivery_of, is_message_of, is_return_call, is_return_of, is_send_in, is_served_by}
use Rattle.transcript_laws.specs.Following.{left_by, moves}
use Rattle.transcript_laws.proofs.Following.StandLemmas.{some_standing}
use Rattle.transcript_laws.proofs.Following.StepLemmas.{run_leads}

-- ---- what a record is, it is alone

-- by whether it delivers, forwards and returns
pub record IsOnly (number : Number) (what : What) (later : List What) (delivers forwards returns : Bool) : Type 0 where
  pub delivery : is_delivery_of number what ≡ delivers
  pub forward : is_forward_of number what later ≡ forwards
  pub returned : is_return_of number what later ≡ returns

-- a call of a number is no other
forwards_not : (number : Number) (who : ThreadId) (words : List ℕ) (later : List What) (k : ℕ) → call_number words ≡ k → (k == forward_message) ≡ false
    → is_forward_of number (Call who words) later ≡ false
forwards_not number who words later k e none =
    (λ i. (ap (λ j. j == forward_message) e ∙ none) i && ((forward_token words == number.0) && is_served_by who later))

returns_not : (number : Number) (who : ThreadId) (words : List ℕ) (later : List What) (k : ℕ) → call_number words ≡ k → is_return_call k ≡ false
    → is_return_of number (Call who words) later ≡ false
returns_not number who words later k e none = (λ i. (ap is_return_call e ∙ none) i && ((return_token words == number.0) && is_served_by who later))

module _ (number : Number) where
  -- a call of such a number moves nothing
  other_call : (who : ThreadId) (words : List ℕ) (later : List What) (k : ℕ) → call_number words ≡ k → (k == forward_message) ≡ false → is_return_call k ≡ false
      → IsOnly number (Call who words) later false false false
  other_call who words later k e f r = record {
    delivery = refl;
    forward = forwards_not number who words later k e f;
    returned = returns_not number who words later k e r;
  }

  send_only : (what : What) (later : List What) → is_send_in what ≡ true → IsOnly number what later false false false
  send_only (Call who words) later e = go (call_number words == send_message) (call_number words == try_send_message) refl refl e
    where
      go : (a b : Bool) → (call_number words == send_message) ≡ a → (call_number words == try_send_message) ≡ b → (a || b) ≡ true
          → IsOnly number (Call who words) later false false false
      go true b p q r = other_call who words later send_message (eqb-true (call_number words) send_message p) refl refl
      go false true p q r = other_call who words later try_send_message (eqb-true (call_number words) try_send_message q) refl refl
      go false false p q r = absurd (false≢true r)
  send_only (Reply who words) later e = absurd (false≢true e)
  send_only (Retry who) later e = absurd (false≢true e)
  send_only (Byte who byte) later e = absurd (false≢true e)
  send_only (Fault who cause value) later e = absurd (false≢true e)
  send_only (End who) later e = absurd (false≢true e)
  send_only (Irq pid k) later e = absurd (false≢true e)
  send_only (Gone pid) later e = absurd (false≢true e)

  forward_only : (what : What) (later : List What) → is_forward_of number what later ≡ true → IsOnly number what later false true false
  forward_only (Call who words) later e =
      let parts = and_parts (call_number words == forward_message) ((forward_token words == number.0) && is_served_by who later) e in
      record {
        delivery = refl;
        forward = e;
        returned = returns_not number who words later forward_message (eqb-true (call_number words) forward_message parts.0) refl;
      }
  forward_only (Reply who words) later e = absurd (false≢true e)
  forward_only (Retry who) later e = absurd (false≢true e)
  forward_only (Byte who byte) later e = absurd (false≢true e)
  forward_only (Fault who cause value) later e = absurd (false≢true e)
  forward_only (End who) later e = absurd (false≢true e)
  forward_only (Irq pid k) later e = absurd (false≢true e)
  forward_only (Gone pid) later e = absurd (false≢true e)

  -- the number of a return isn't that of a forward
  return_not_forward : (k : ℕ) → is_return_call k ≡ true → (k == forward_message) ≡ false
  return_not_forward k e = go (k == return_memory) (k == return_scalar1) (k == return_scalar2) refl refl refl e
    where
      go : (a b c : Bool) → (k == return_memory) ≡ a → (k == return_scalar1) ≡ b → (k == return_scalar2) ≡ c → (a || (b || c)) ≡ true → (k == forward_message) ≡ false
      go true b c p q r s = ap (λ j. j == forward_message) (eqb-true k return_memory p)
      go false true c p q r s = ap (λ j. j == forward_message) (eqb-true k return_scalar1 q)
      go false false true p q r s = ap (λ j. j == forward_message) (eqb-true k return_scalar2 r)
      go false false false p q r s = absurd (false≢true s)

  return_only : (what : What) (later : List What) → is_return_of number what later ≡ true → IsOnly number what later false false true
  return_only (Call who words) later e =
      let parts = and_parts (is_return_call (call_number words)) ((return_token words == number.0) && is_served_by who later) e in
      record {
        delivery = refl;
        forward = forwards_not number who words later (call_number words) refl (return_not_forward (call_number words) parts.0);
        returned = e;
      }
  return_only (Reply who words) later e = absurd (false≢true e)
  return_only (Retry who) later e = absurd (false≢true e)
  return_only (Byte who byte) later e = absurd (false≢true e)
  return_only (Fault who cause value) later e = absurd (false≢true e)
  return_only (End who) later e = absurd (false≢true e)
  return_only (Irq pid k) later e = absurd (false≢true e)
  return_only (Gone pid) later e = absurd (false≢true e)

  end_only : (what : What) (later : List What) → is_end_in what later ≡ true → IsOnly number what later false false false
  end_only (Call who words) later e =
      let parts = and_parts (call_number words == destroy_server) (is_served_by who later) e in
      other_call who words later destroy_server (eqb-true (call_number words) destroy_server parts.0) refl refl
  end_only (Reply who words) later e = absurd (false≢true e)
  end_only (Retry who) later e = absurd (false≢true e)
  end_only (Byte who byte) later e = absurd (false≢true e)
  end_only (Fault who cause value) later e = absurd (false≢true e)
  end_only (End who) later e = absurd (false≢true e)
  end_only (Irq pid k) later e = absurd (false≢true e)
  end_only (Gone pid) later e = record { delivery = refl; forward = refl; returned = refl }

  still_only : (what : What) (later : List What) → moves number what later ≡ false → IsOnly number what later false false false
  still_only what later e =
      let parts = or_parts (is_delivery_of number what) (is_forward_of number what later || is_return_of number what later) e in
      let others = or_parts (is_forward_of number what later) (is_return_of number what later) parts.1 in
      record { delivery = parts.0; forward = others.0; returned = others.1 }

  -- ---- one record, counted

  -- one where it is not over
  abbrev lives : Standing → ℕ
  lives Unsent = 1
  lives Queued = 1
  lives Held = 1
  lives Over = 0

  record IsCounted (what : What) (later : List What) (a b : Standing) : Type 0 where
    deliveries : one_if (is_delivery_of number what) + due b ≤ due a + one_if (is_forward_of number what later)
    hands : (one_if (is_forward_of number what later) + one_if (is_return_of number what later)) + in_hand b ≤ in_hand a + one_if (is_delivery_of number what)
    returns : one_if (is_return_of number what later) + lives b ≤ lives a

  by_counts : (what : What) (later : List What) (a b : Standing) (d f r : Bool) → IsOnly number what later d f r
      → one_if d + due b ≤ due a + one_if f → (one_if f + one_if r) + in_hand b ≤ in_hand a + one_if d → one_if r + lives b ≤ lives a
      → IsCounted what later a b
  by_counts what later a b d f r only x y z =
      let p : one_if (is_delivery_of number what) ≡ one_if d = ap one_if only.delivery in
      let q : one_if (is_forward_of number what later) ≡ one_if f = ap one_if only.forward in
      let s : one_if (is_return_of number what later) ≡ one_if r = ap one_if only.returned in
      record { deliveries = omega (arith, p, q, x); hands = omega (arith, p, q, s, y); returns = omega (arith, s, z) }

  delivered_counts : (who : ThreadId) (words : List ℕ) (later : List What) → is_message_of number words ≡ true
      → IsCounted (Reply who words) later Queued (left_by words)
  delivered_counts who words later e = go (is_waiting_kind (slice_index words 2))
    where
      go : (b : Bool) → IsCounted (Reply who words) later Queued (if b then Held else Over)
      go true = by_counts (Reply who words) later Queued Held true false false (record { delivery = e; forward = refl; returned = refl })
          (omega arith) (omega arith) (omega arith)
      go false = by_counts (Reply who words) later Queued Over true false false (record { delivery = e; forward = refl; returned = refl })
          (omega arith) (omega arith) (omega arith)

  says_counts : (what : What) (later : List What) (a b : Standing) → Leads number what later a b → IsCounted what later a b
  says_counts what later _ _ (Accepted _ _ e) = by_counts what later Unsent Queued false false false (send_only what later e) (omega arith) (omega arith) (omega arith)
  says_counts _ later _ _ (Delivered who words _ e) = delivered_counts who words later e
  says_counts what later _ _ (Forwarded _ _ e) = by_counts what later Held Queued false true false (forward_only what later e) (omega arith) (omega arith) (omega arith)
  says_counts what later _ _ (Returned _ _ e) = by_counts what later Held Over false false true (return_only what later e) (omega arith) (omega arith) (omega arith)
  says_counts what later _ _ (LostQueued _ _ e) = by_counts what later Queued Over false false false (end_only what later e) (omega arith) (omega arith) (omega arith)
  says_counts what later _ _ (LostHeld _ _ e) = by_counts what later Held Over false false false (end_only what later e) (omega arith) (omega arith) (omega arith)
  says_counts what later _ _ (Stays _ _ a e) = by_counts what later a a false false false (still_only what later e) (omega arith) (omega arith) (omega arith)

  -- ---- lists, counted

  record AreCounted (told : List What) (a b : Standing) : Type 0 where
    deliveries : deliveries_in number told + due b ≤ due a + forwards_in number told
    hands : (forwards_in number told + returns_in number told) + in_hand b ≤ in_hand a + deliveries_in number told
    returns : returns_in number told + lives b ≤ lives a

  all_counted : (told : List What) (a b : Standing) → LeadInTurn number told a b → AreCounted told a b
  unfolding LeadInTurn deliveries_in forwards_in returns_in
  all_counted [] a b says =
      subst (AreCounted [] a) says (record { deliveries = omega arith; hands = omega arith; returns = omega arith })
  all_counted (what ∷ told) a b says =
      let here = says_counts what told a says.0 says.1 in
      let rest = all_counted told says.0 b says.2 in
      let x : one_if (is_delivery_of number what) + due says.0 ≤ due a + one_if (is_forward_of number what told) = here.deliveries in
      let y : (one_if (is_forward_of number what told) + one_if (is_return_of number what told)) + in_hand says.0 ≤ in_hand a + one_if (is_delivery_of number what) =
      here.hands in
      let z : one_if (is_return_of number what told) + lives says.0 ≤ lives a = here.returns in
      let u : deliveries_in number told + due b ≤ due says.0 + forwards_in number told = rest.deliveries in
      let v : (forwards_in number told + returns_in number told) + in_hand b ≤ in_hand says.0 + deliveries_in number told = rest.hands in
      let t : returns_in number told + lives b ≤ lives says.0 = rest.returns in
      record { deliveries = omega arith; hands = omega arith; returns = omega arith }

  lives_once : (a : Standing) → lives a ≤ 1
  lives_once Unsent = omega arith
  lives_once Queued = omega arith
  lives_once Held = omega arith
  lives_once Over = omega arith

  -- ---- order

  -- the records behind some others lead from a standing of their own
  front_off : (before rest : List What) (a b : Standing) → LeadInTurn number (before ++ rest) a b → (c : Standing) × LeadInTurn number rest c b
  unfolding LeadInTurn
  front_off [] rest a b says = (a, says)
  front_off (what ∷ before) rest a b says = front_off before rest says.0 b says.2

  -- delivered before, and not to be delivered without a forward
  abbrev is_past : Standing → Bool
  is_past Unsent = false
  is_past Queued = false
  is_past Held = true
  is_past Over = true

  past_by : (words : List ℕ) → is_past (left_by words) ≡ true
  past_by words = go (is_waiting_kind (slice_index words 2))
    where
      go : (b : Bool) → is_past (if b then Held else Over) ≡ true
      go true = refl
      go false = refl

  delivery_leaves : (what : What) (later : List What) (a b : Standing) → Leads number what later a b → is_delivery_of number what ≡ true → is_past b ≡ true
  delivery_leaves what later _ _ (Accepted _ _ e) d = absurd (false≢true (sym (send_only what later e).delivery ∙ d))
  delivery_leaves _ later _ _ (Delivered who words _ e) d = past_by words
  delivery_leaves what later _ _ (Forwarded _ _ e) d = absurd (false≢true (sym (forward_only what later e).delivery ∙ d))
  delivery_leaves what later _ _ (Returned _ _ e) d = refl
  delivery_leaves what later _ _ (LostQueued _ _ e) d = refl
  delivery_leaves what later _ _ (LostHeld _ _ e) d = refl
  delivery_leaves what later _ _ (Stays _ _ a e) d = absurd (false≢true (sym (still_only what later e).delivery ∙ d))

  delivery_finds : (what : What) (later : List What) (a b : Standing) → Leads number what later a b → is_delivery_of number what ≡ true → is_past a ≡ false
  delivery_finds what later _ _ (Accepted _ _ e) d = refl
  delivery_finds _ later _ _ (Delivered who words _ e) d = refl
  delivery_finds what later _ _ (Forwarded _ _ e) d = absurd (false≢true (sym (forward_only what later e).delivery ∙ d))
  delivery_finds what later _ _ (Returned _ _ e) d = absurd (false≢true (sym (return_only what later e).delivery ∙ d))
  delivery_finds what later _ _ (LostQueued _ _ e) d = refl
  delivery_finds what later _ _ (LostHeld _ _ e) d = absurd (false≢true (sym (end_only what later e).delivery ∙ d))
  delivery_finds what later _ _ (Stays _ _ a e) d = absurd (false≢true (sym (still_only what later e).delivery ∙ d))

  -- a record leaves the past behind only as a forward
  past_left : (what : What) (later : List What) (a b : Standing) → Leads number what later a b → is_past a ≡ true
      → (is_forward_of number what later ≡ true) ⊎ (is_past b ≡ true)
  past_left what later _ _ (Accepted _ _ e) p = absurd (false≢true p)
  past_left _ later _ _ (Delivered who words _ e) p = absurd (false≢true p)
  past_left what later _ _ (Forwarded _ _ e) p = inl e
  past_left what later _ _ (Returned _ _ e) p = inr refl
  past_left what later _ _ (LostQueued _ _ e) p = inr refl
  past_left what later _ _ (LostHeld _ _ e) p = inr refl
  past_left what later _ _ (Stays _ _ a e) p = inr p

  one_more : (what : What) (told later : List What) → HasForward number told later → HasForward number (what ∷ told) later
  one_more what told later f = record {
    before = what ∷ f.before;
    what = f.what;
    behind = f.behind;
    here = ap (λ xs. what ∷ xs) f.here;
    forwards = f.forwards;
  }

  needs_forward : (between later : List What) (two : What) (a b : Standing) → is_past a ≡ true → is_delivery_of number two ≡ true
      → LeadInTurn number (between ++ (two ∷ later)) a b → HasForward number between (two ∷ later)
  unfolding LeadInTurn
  needs_forward [] later two a b past d says = absurd (false≢true (sym (delivery_finds two later a says.0 says.1 d) ∙ past))
  needs_forward (what ∷ between) later two a b past d says =
      go (λ p. needs_forward between later two says.0 b p d says.2) (past_left what (between ++ (two ∷ later)) a says.0 says.1 past)
    where
      go : (is_past says.0 ≡ true → HasForward number between (two ∷ later))
          → (is_forward_of number what (between ++ (two ∷ later)) ≡ true) ⊎ (is_past says.0 ≡ true) → HasForward number (what ∷ between) (two ∷ later)
      go rest (inl e) = record { before = []; what = what; behind = between; here = refl; forwards = e }
      go rest (inr p) = one_more what between (two ∷ later) (rest p)

  -- what is over stays so
  over_stays : (what : What) (later : List What) (a b : Standing) → Leads number what later a b → a ≡ Over → (moves number what later ≡ false) × (b ≡ Over)
  over_stays what later _ _ (Accepted _ _ e) p = absurd (let q : Unsent ≡ Over = p in cc)
  over_stays _ later _ _ (Delivered who words _ e) p = absurd (let q : Queued ≡ Over = p in cc)
  over_stays what later _ _ (Forwarded _ _ e) p = absurd (let q : Held ≡ Over = p in cc)
  over_stays what later _ _ (Returned _ _ e) p = absurd (let q : Held ≡ Over = p in cc)
  over_stays what later _ _ (LostQueued _ _ e) p = absurd (let q : Queued ≡ Over = p in cc)
  over_stays what later _ _ (LostHeld _ _ e) p = absurd (let q : Held ≡ Over = p in cc)
  over_stays what later _ _ (Stays _ _ a e) p = (e, p)

  pub over_silent : (told : List What) (a b : Standing) → a ≡ Over → LeadInTurn number told a b → IsSilent number told × (b ≡ Over)
  unfolding LeadInTurn IsSilent
  over_silent [] a b p says = (tt, sym says ∙ p)
  over_silent (what ∷ told) a b p says =
      let here = over_stays what told a says.0 says.1 p in
      let rest = over_silent told says.0 b here.1 says.2 in
      ((here.0, rest.0), rest.1)

  return_ends : (what : What) (later : List What) (a b : Standing) → Leads number what later a b → is_return_of number what later ≡ true → b ≡ Over
  return_ends what later _ _ (Accepted _ _ e) r = absurd (false≢true (sym (send_only what later e).returned ∙ r))
  return_ends _ later _ _ (Delivered who words _ e) r = absurd (false≢true r)
  return_ends what later _ _ (Forwarded _ _ e) r = absurd (false≢true (sym (forward_only what later e).returned ∙ r))
  return_ends what later _ _ (Returned _ _ e) r = refl
  return_ends what later _ _ (LostQueued _ _ e) r = refl
  return_ends what later _ _ (LostHeld _ _ e) r = refl
  return_ends what later _ _ (Stays _ _ a e) r = absurd (false≢true (sym (still_only what later e).returned ∙ r))

  last_delivery_ends : (what : What) (later : List What) (a b : Standing) → Leads number what later a b → is_last_delivery_of number what ≡ true → b ≡ Over
  last_delivery_ends (Call who words) later a b says l = absurd (false≢true l)
  last_delivery_ends (Reply who words) later a b says l = go a b says (and_parts (is_message_of number words) (not (is_waiting_kind (slice_index words 2))) l)
    where
      go : (a b : Standing) → Leads number (Reply who words) later a b
          → (is_message_of number words ≡ true) × (not (is_waiting_kind (slice_index words 2)) ≡ true) → b ≡ Over
      go _ _ (Accepted _ _ e) parts = absurd (false≢true e)
      go _ _ (Delivered _ _ _ e) parts = by (is_waiting_kind (slice_index words 2)) parts.1
        where
          by : (b : Bool) → not b ≡ true → (if b then Held else Over) ≡ Over
          by true q = absurd (false≢true q)
          by false q = refl
      go _ _ (Forwarded _ _ e) parts = absurd (false≢true e)
      go _ _ (Returned _ _ e) parts = refl
      go _ _ (LostQueued _ _ e) parts = refl
      go _ _ (LostHeld _ _ e) parts = refl
      go _ _ (Stays _ _ a e) parts = absurd (false≢true (sym (still_only (Reply who words) later e).delivery ∙ parts.0))
  last_delivery_ends (Retry who) later a b says l = absurd (false≢true l)
  last_delivery_ends (Byte who byte) later a b says l = absurd (false≢true l)
  last_delivery_ends (Fault who cause value) later a b says l = absurd (false≢true l)
  last_delivery_ends (End who) later a b says l = absurd (false≢true l)
  last_delivery_ends (Irq pid k) later a b says l = absurd (false≢true l)
  last_delivery_ends (Gone pid) later a b says l = absurd (false≢true l)

  last_ends : (what : What) (later : List What) (a b : Standing) → Leads number what later a b
      → (is_return_of number what later || is_last_delivery_of number what) ≡ true → b ≡ Over
  last_ends what later a b says e = go (is_return_of number what later) refl e
    where
      go : (r : Bool) → is_return_of number what later ≡ r → (r || is_last_delivery_of number what) ≡ true → b ≡ Over
      go true r l = return_ends what later a b says r
      go false r l = last_delivery_ends what later a b says l

  -- ---- all

  pub told_once : (told : List What) (a b : Standing) → LeadInTurn number told a b → AreDeliveriesOnce number told a
  unfolding LeadInTurn
  told_once told a b says =
      let counted = all_counted told a b says in
      let x : deliveries_in number told + due b ≤ due a + forwards_in number told = counted.deliveries in
      let y : (forwards_in number told + returns_in number told) + in_hand b ≤ in_hand a + deliveries_in number told = counted.hands in
      let z : returns_in number told + lives b ≤ lives a = counted.returns in
      let once : lives a ≤ 1 = lives_once a in
      record {
        deliveries = omega arith;
        passed_on = omega arith;
        returns = omega arith;
        between = between;
        ended = ended;
      }
    where
      between : (before between later : List What) (one two : What) → told ≡ before ++ (one ∷ between ++ (two ∷ later))
          → is_delivery_of number one ≡ true → is_delivery_of number two ≡ true → HasForward number between (two ∷ later)
      between before middle later one two e d f =
          let at = front_off before (one ∷ middle ++ (two ∷ later)) a b (subst (λ xs. LeadInTurn number xs a b) e says) in
          needs_forward middle later two at.1.0 b (delivery_leaves one (middle ++ (two ∷ later)) at.0 at.1.0 at.1.1 d) f at.1.2

      ended : (before later : List What) (what : What) → told ≡ before ++ (what ∷ later)
          → (is_return_of number what later || is_last_delivery_of number what) ≡ true → IsSilent number later
      ended before later what e r =
          let at = front_off before (what ∷ later) a b (subst (λ xs. LeadInTurn number xs a b) e says) in
          (over_silent later at.1.0 b (last_ends what later at.0 at.1.0 at.1.1 r) at.1.2).0

-- ---- runs and histories

-- the last state of a run is matched
pub last_matched : (start : Machine) (moments : List Moment) → Matched start → IsRun start moments → Matched (state_at start moments (length moments))
unfolding IsRun state_at
last_matched start [] h run = h
last_matched start (moment ∷ moments) h run =
    last_matched moment.machine moments (subst Matched (sym run.0) (every_cause_keeps moment.cause start h)) run.1

pub run_delivers : (start : Machine) (moments : List Moment) → Matched start → IsRun start moments → DeliveredOnce start moments
run_delivers start moments h run number a stands =
    let last = some_standing number (state_at start moments (length moments)) (last_matched start moments h run) in
    told_once number (map (λ (rec : Rec). rec.what) (records_of start moments)) a last.0 (run_leads start moments h run number a last.0 stands last.1)

pub history_delivers : (events : List Event) (limit : ℕ) (start : Machine) → Matched start → DeliveredOnce start (moments_of events limit start)
history_delivers events limit start h = run_delivers start (moments_of events limit start) h (history_is_run events limit start)
