-- Each call changes no part but those of its row.
use Rattle.std.proofs.Common.{◌≡◌, ℕ, Bool, true, false, List, [], ◌∷◌, Option, Some, None, refl, sym, ap, ◌∙◌, subst, unwrap_or, ◌&&◌}
use Rattle.std.specs.Prelude.{◌==◌, ◌||◌, if◌then◌else◌}
use Rattle.std.specs.List.{list_any}
use Rattle.std.proofs.lemmas.Bool.{and_parts, eqb-true, false≢true}
use Rattle.xk_base.specs.declared.messages.Message.{Message}
use Rattle.xk_base.specs.declared.ids.Serial.{Serial}
use Rattle.syscall_codec.specs.CallWords.{call_number, forward_cid}
use Rattle.syscall_codec.specs.ReplyWords.{plain_words}
use Rattle.machine_model.specs.State.Machine.{Machine, Receiving}
use Rattle.machine_model.specs.State.Changes.{Outcome}
use Rattle.machine_model.specs.Ending.Closing.{closed, senders_held_gone, senders_queued_gone}
use Rattle.machine_model.specs.Ending.Ends.{forgotten}
use Rattle.machine_model.specs.Calling.ServerCalls.{named_server, named_sid}
use Rattle.machine_model.specs.Messaging.ForwardCalls.{next_arrival, passable, passed_number}
use Rattle.machine_model.specs.Messaging.ReceiveCalls.{oldest_queued}
use Rattle.machine_model.specs.State.Order.{turn}
use Rattle.call_effects.specs.Footprints.{CallsLeaveTheRest, LeavesAllBut, Part, LedgerPart, ThreadsPart, ProcessesPart, ServersPart, ClaimsPart, PendingPart, ComparePart, CursorPart, NumberPart, SerialPart, are_among, footprint, names, part_code, touched}
use Rattle.call_effects.specs.Effects.{Effect, Pages, HasHeap, Starts, Waits, Awaits, EndsTurn, Founds, Connects, TakesNumber, Serves, ClosesServers, Unqueues, Orphans, Forgets, Claims, Frees, apply}
use Rattle.call_effects.proofs.LeadingLemmas.{Leads, verdict_leads}
use Rattle.machine_model.proofs.Calling.TableLemmas.{OfRows, ◌also◌, of_questions, of_row}
use Rattle.call_effects.specs.Verdicts.{Row, Verdict, all_effects, answers_caller, answers_nobody, meant}
use Rattle.call_effects.proofs.MeantLemmas.{calls_meant}
use Rattle.call_effects.specs.Deciding.{decide, rows, unhandled_row}
use Rattle.machine_model.specs.Calling.Questions.{questions}
use Rattle.call_effects.specs.Rows.QuestionRows.{question_row}
use Rattle.syscall_codec.specs.CallNumbers.{forward_message}
use Rattle.call_effects.specs.Rows.MessageRows.{forward_row, passed_if, receive_row, taken_or, try_receive_row}

-- ---- parts among parts

-- a part that is none of the others is none of those among them
unnamed : (parts others : List Part) (part : Part) → are_among others parts ≡ true → names others part ≡ false → names parts part ≡ false
unnamed [] others part among none = refl
unnamed (first ∷ rest) others part among none = go (part_code part == part_code first) refl (λ among. unnamed rest others part among none)
  where
    both : (names others first ≡ true) × (are_among others rest ≡ true)
    both = and_parts (names others first) (are_among others rest) among

    go : (b : Bool) → (part_code part == part_code first) ≡ b → (are_among others rest ≡ true → names rest part ≡ false)
        → (b || names rest part) ≡ false
    go false e later = later both.1
    go true e later =
        absurd (false≢true (sym none ∙ (ap (λ (code : ℕ). list_any (λ other. code == part_code other) others) (eqb-true (part_code part) (part_code first) e)
        ∙ both.0)))

-- ---- one machine, and one that differs from it in these parts

-- the one machine with these parts of the other
abbrev with_parts : List Part → Machine → Machine → Machine
with_parts parts m n = record m {
  ledger = if names parts LedgerPart then n.ledger else m.ledger;
  threads = if names parts ThreadsPart then n.threads else m.threads;
  process = if names parts ProcessesPart then n.process else m.process;
  servers = if names parts ServersPart then n.servers else m.servers;
  claims = if names parts ClaimsPart then n.claims else m.claims;
  pending = if names parts PendingPart then n.pending else m.pending;
  compare = if names parts ComparePart then n.compare else m.compare;
  cursor = if names parts CursorPart then n.cursor else m.cursor;
  next_number = if names parts NumberPart then n.next_number else m.next_number;
  next_serial = if names parts SerialPart then n.next_serial else m.next_serial;
}

left : {A : Type 0} (b : Bool) (x y : A) → b ≡ false → (if b then y else x) ≡ x
left b x y none = ap (λ b. if b then y else x) none

leaves_all_but : (parts : List Part) (m n : Machine) → LeavesAllBut parts m (with_parts parts m n)
leaves_all_but parts m n = record {
  ledger = left (names parts LedgerPart) m.ledger n.ledger;
  threads = left (names parts ThreadsPart) m.threads n.threads;
  process = left (names parts ProcessesPart) m.process n.process;
  servers = left (names parts ServersPart) m.servers n.servers;
  claims = left (names parts ClaimsPart) m.claims n.claims;
  pending = left (names parts PendingPart) m.pending n.pending;
  compare = left (names parts ComparePart) m.compare n.compare;
  cursor = left (names parts CursorPart) m.cursor n.cursor;
  next_number = left (names parts NumberPart) m.next_number n.next_number;
  next_serial = left (names parts SerialPart) m.next_serial n.next_serial;
  capacity = refl;
  processes = refl;
  steps = refl;
  reserved = refl;
}

-- more parts are left no less
widened : (parts others : List Part) (m n : Machine) → are_among others parts ≡ true → LeavesAllBut parts m n → LeavesAllBut others m n
widened parts others m n among h = record {
  ledger = λ none. h.ledger (unnamed parts others LedgerPart among none);
  threads = λ none. h.threads (unnamed parts others ThreadsPart among none);
  process = λ none. h.process (unnamed parts others ProcessesPart among none);
  servers = λ none. h.servers (unnamed parts others ServersPart among none);
  claims = λ none. h.claims (unnamed parts others ClaimsPart among none);
  pending = λ none. h.pending (unnamed parts others PendingPart among none);
  compare = λ none. h.compare (unnamed parts others ComparePart among none);
  cursor = λ none. h.cursor (unnamed parts others CursorPart among none);
  next_number = λ none. h.next_number (unnamed parts others NumberPart among none);
  next_serial = λ none. h.next_serial (unnamed parts others SerialPart among none);
  capacity = h.capacity;
  processes = h.processes;
  steps = h.steps;
  reserved = h.reserved;
}

as_before : (parts : List Part) (m : Machine) → LeavesAllBut parts m m
as_before parts m = record {
  ledger = λ none. refl;
  threads = λ none. refl;
  process = λ none. refl;
  servers = λ none. refl;
  claims = λ none. refl;
  pending = λ none. refl;
  compare = λ none. refl;
  cursor = λ none. refl;
  next_number = λ none. refl;
  next_serial = λ none. refl;
  capacity = refl;
  processes = refl;
  steps = refl;
  reserved = refl;
}

one_after_the_other : (parts : List Part) (a b c : Machine) → LeavesAllBut parts a b → LeavesAllBut parts b c → LeavesAllBut parts a c
one_after_the_other parts a b c h k = record {
  ledger = λ none. k.ledger none ∙ h.ledger none;
  threads = λ none. k.threads none ∙ h.threads none;
  process = λ none. k.process none ∙ h.process none;
  servers = λ none. k.servers none ∙ h.servers none;
  claims = λ none. k.claims none ∙ h.claims none;
  pending = λ none. k.pending none ∙ h.pending none;
  compare = λ none. k.compare none ∙ h.compare none;
  cursor = λ none. k.cursor none ∙ h.cursor none;
  next_number = λ none. k.next_number none ∙ h.next_number none;
  next_serial = λ none. k.next_serial none ∙ h.next_serial none;
  capacity = k.capacity ∙ h.capacity;
  processes = k.processes ∙ h.processes;
  steps = k.steps ∙ h.steps;
  reserved = k.reserved ∙ h.reserved;
}

-- ---- effects

touches_its_parts : (effect : Effect) (m : Machine) → LeavesAllBut (touched effect) m (apply effect m)
unfolding turn closed senders_queued_gone senders_held_gone forgotten
touches_its_parts (Pages step) m = leaves_all_but (touched (Pages step)) m (apply (Pages step) m)
touches_its_parts (HasHeap n) m = leaves_all_but (touched (HasHeap n)) m (apply (HasHeap n) m)
touches_its_parts (Starts who thread) m = leaves_all_but (touched (Starts who thread)) m (apply (Starts who thread) m)
touches_its_parts (Waits who state) m = leaves_all_but (touched (Waits who state)) m (apply (Waits who state) m)
touches_its_parts (Awaits true number) m = leaves_all_but (touched (Awaits true number)) m (apply (Awaits true number) m)
touches_its_parts (Awaits false number) m = as_before (touched (Awaits false number)) m
touches_its_parts EndsTurn m = leaves_all_but (touched EndsTurn) m (apply EndsTurn m)
touches_its_parts (Founds server) m = leaves_all_but (touched (Founds server)) m (apply (Founds server) m)
touches_its_parts (Connects serial) m = leaves_all_but (touched (Connects serial)) m (apply (Connects serial) m)
touches_its_parts TakesNumber m = leaves_all_but (touched TakesNumber) m (apply TakesNumber m)
touches_its_parts (Serves serial step) m = leaves_all_but (touched (Serves serial step)) m (apply (Serves serial step) m)
touches_its_parts (ClosesServers which) m = leaves_all_but (touched (ClosesServers which)) m (apply (ClosesServers which) m)
touches_its_parts (Unqueues pid) m = leaves_all_but (touched (Unqueues pid)) m (apply (Unqueues pid) m)
touches_its_parts (Orphans pid) m = leaves_all_but (touched (Orphans pid)) m (apply (Orphans pid) m)
touches_its_parts (Forgets pid) m = leaves_all_but (touched (Forgets pid)) m (apply (Forgets pid) m)
touches_its_parts (Claims k claim) m = leaves_all_but (touched (Claims k claim)) m (apply (Claims k claim) m)
touches_its_parts (Frees k) m = leaves_all_but (touched (Frees k)) m (apply (Frees k) m)

-- ---- rows

-- an effect touches no part but these
abbrev touches_among : List Part → Effect → Bool
touches_among parts effect = are_among parts (touched effect)

-- no effect of the row touches a part but these
abbrev IsWithin : Row → List Part → Type 0
IsWithin row parts = (m : Machine) (w : List ℕ) → all_effects (touches_among parts) (row m w) ≡ true

forward_within : IsWithin forward_row (LedgerPart ∷ ServersPart ∷ [])
forward_within m w = go (passable m (passed_number w))
  where
    go : (o : Option Message)
        → all_effects (touches_among (LedgerPart ∷ ServersPart ∷ []))
        (passed_if m (passed_number w) (forward_cid w) (unwrap_or (next_arrival m (passed_number w) (forward_cid w)) (record { 0 = 0 })) o) ≡ true
    go None = refl
    go (Some message) = refl

-- a receive, where what comes without a message touches these
taken_within : (parts : List Part) (m : Machine) (serial : Serial) (o : Option Message) (verdict : Verdict) → names parts ServersPart ≡ true
    → all_effects (touches_among parts) verdict ≡ true → all_effects (touches_among parts) (taken_or m serial o verdict) ≡ true
taken_within parts m serial None verdict named of = of
taken_within parts m serial (Some message) verdict named of = ap (λ b. (b && true) && true) named

receive_within : IsWithin receive_row (ThreadsPart ∷ ServersPart ∷ [])
receive_within m w =
    let serial = named_server m (named_sid w) in
    taken_within (ThreadsPart ∷ ServersPart ∷ []) m serial (oldest_queued m serial) (answers_nobody (Waits m.cursor (Receiving serial) ∷ [])) refl refl

try_receive_within : IsWithin try_receive_row (ServersPart ∷ [])
try_receive_within m w =
    let serial = named_server m (named_sid w) in
    taken_within (ServersPart ∷ []) m serial (oldest_queued m serial) (answers_caller m plain_words []) refl refl

-- ---- the table

-- each row of verdicts is within the parts of its number
abbrev WithinItsParts : ℕ → Row → Type 0
WithinItsParts number row = IsWithin row (footprint number)

table_within : OfRows (λ number. true) WithinItsParts rows
table_within =
    (λ m w. refl)
    also (λ m w. refl)
    also (λ m w. refl)
    also (λ m w. refl)
    also (λ m w. refl)
    also (λ m w. refl)
    also (λ m w. refl)
    also (λ m w. refl)
    also receive_within
    also (λ m w. refl)
    also (λ m w. refl)
    also (λ m w. refl)
    also (λ m w. refl)
    also (λ m w. refl)
    also (λ m w. refl)
    also (λ m w. refl)
    also (λ m w. refl)
    also (λ m w. refl)
    also (λ m w. refl)
    also try_receive_within
    also (λ m w. refl)
    also (λ m w. refl)
    also of_questions (λ number. true) WithinItsParts question_row (λ number question m w. refl) questions ((forward_message, forward_row) ∷ [])
    (forward_within also tt)

-- ---- calls

-- what is served leaves all but these parts
abbrev OutcomeLeaves : List Part → Machine → Outcome → Type 0
OutcomeLeaves parts m outcome = Leads (LeavesAllBut parts) m outcome

decided_within : (m : Machine) (w : List ℕ) → OutcomeLeaves (footprint (call_number w)) m (meant m (decide m w))
unfolding decide
decided_within m w =
    verdict_leads (LeavesAllBut parts) (touches_among parts) (as_before parts) (one_after_the_other parts)
    (λ effect n among. widened (touched effect) parts n (apply effect n) among (touches_its_parts effect n)) m (decide m w)
    (of_row (λ number. true) WithinItsParts (call_number w) refl unhandled_row (λ m w. refl) rows table_within m w)
  where
    parts : List Part
    parts = footprint (call_number w)

pub calls_leave_the_rest : CallsLeaveTheRest
calls_leave_the_rest m w change e =
    (subst (OutcomeLeaves (footprint (call_number w)) m) (sym (calls_meant m w) ∙ e) (decided_within m w)).0
