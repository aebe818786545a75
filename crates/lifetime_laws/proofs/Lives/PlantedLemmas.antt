-- Each of the wrong kernels is refused.
use Rattle.std.proofs.Common.{◌≡◌, ◌≢◌, ℕ, Bool, true, false, List, Some, None, is_some, refl, sym, ap, ◌∙◌, inl, inr}
use Rattle.std.specs.Prelude.{if◌then◌else◌}
use Rattle.std.proofs.lemmas.Bool.{false≢true}
use Rattle.std.proofs.lemmas.Option.{none-some, same_Some}
use Rattle.xk_base.specs.declared.ids.Pid.{Pid}
use Rattle.xk_base.specs.declared.ids.Place.{Place}
use Rattle.syscall_codec.specs.CallNumbers.{increase_heap, map_memory}
use Rattle.syscall_codec.specs.CallWords.{call_number}
use Rattle.ledger_model.specs.Ledger.{Homed, Ledger, Orphan, Orphaned, Page, PageLoan, PageName, loan_at, loan_of}
use Rattle.ledger_model.specs.Places.{in_run, moved}
use Rattle.ledger_model.proofs.PlaceLemmas.{moved-back, moved-in_run}
use Rattle.machine_model.specs.Messaging.MessageCounts.{HasNone}
use Rattle.machine_model.specs.Messaging.Messages.{is_lend_of}
use Rattle.machine_model.specs.Runs.LoanSpan.{IsServedCallOf, is_send}
use Rattle.machine_model.specs.Runs.Matched.{is_living}
use Rattle.machine_model.specs.Runs.Moments.{ByKill, ByStep, Cause, Moment}
use Rattle.machine_model.specs.State.Machine.{Machine}
use Rattle.machine_model.specs.Stepping.Acts.{call_by}
use Rattle.machine_laws.proofs.Stepping.CauseCaseLemmas.{is_step}
use Rattle.confidentiality_laws.proofs.Keeping.StandingPageLemmas.{homed_once, not_both}
use Rattle.lifetime_laws.specs.Causes.{IsCallOf}
use Rattle.lifetime_laws.specs.Deeds.{Allocated, Bereft, Deed, Forwarded, GivenBack, GivenUp, Grown, Lent, LivesOn, Mapped, Moved}
use Rattle.lifetime_laws.specs.Deeds.{OwnerDied, Reduced, Released, Shrunk, Stays, StaysOrphan, Stored, Unmapped, stands}
use Rattle.lifetime_laws.specs.Planted.{DoublingIsRefused, ForgettingIsRefused, LosingIsRefused, MisplacingIsRefused, doubled}

-- ---- names

place_named : PageName → Place
place_named (Homed p) = p
place_named (Orphaned q) = q

orphaned_once : (p q : Place) → Orphaned p ≡ Orphaned q → p ≡ q
unfolding place_named
orphaned_once p q e = ap place_named e

-- ---- causes

no_kill_step : (pid : Pid) (cause : Cause) → cause ≡ ByKill pid → cause ≡ ByStep → ⊥
no_kill_step pid cause kill step = false≢true (ap is_step (sym kill ∙ step))

-- a moment has one call
same_words : (a b : Pid) (v w : List ℕ) (before : Machine) (moment : Moment) → IsServedCallOf a v before moment → IsServedCallOf b w before moment
    → v ≡ w
same_words a b v w before moment one other =
    same_Some v w (sym one.call
    ∙ (ap (call_by before) (same_Some one.who other.who (sym one.by_who ∙ other.by_who)) ∙ other.call))

-- a send is no call of another number
no_send : (a b : Pid) (number : ℕ) → is_send number ≡ false → (before : Machine) (moment : Moment)
    → (one : IsCallOf a number before moment) → (words : List ℕ) → IsServedCallOf b words before moment → is_send (call_number words) ≡ true → ⊥
no_send a b number not before moment one words served sends =
    false≢true (sym not ∙ (ap is_send (sym one.named)
    ∙ (ap (λ w. is_send (call_number w)) (same_words a b one.words words before moment one.served served) ∙ sends)))

-- ---- a page that is doubled

module _ (before : Machine) (moment : Moment) (from : Place) (n : ℕ) (to p : Place)
    (is : moment.machine.ledger ≡ doubled from n to before.ledger) (free : (q : Place) → in_run to n q ≡ true → before.ledger.home q ≡ None) where
  -- no page leaves
  none_leaves : (q : Place) (page : Page) → before.ledger.home q ≡ Some page → moment.machine.ledger.home q ≡ None → ⊥
  none_leaves q page there gone = go (in_run to n q) refl (sym (ap (λ (l : Ledger). l.home q) is) ∙ gone)
    where
      go : (b : Bool) → in_run to n q ≡ b → (if b then before.ledger.home (moved to from q) else before.ledger.home q) ≡ None → ⊥
      go true e f = none-some page (sym (free q e) ∙ there)
      go false e f = none-some page (sym f ∙ there)

  not_from : (q : Place) → in_run to n q ≡ true → (old new : PageName) (deed : Deed) → stands before.ledger old ≡ true
      → LivesOn before moment old deed new → new ≡ Homed q → ⊥
  not_from q inside _ _ _ st (Stays x page was now) e = none-some page (sym (free q inside) ∙ (ap before.ledger.home (sym (homed_once x q e)) ∙ was))
  not_from q inside _ _ _ st (StaysOrphan x orphan was now) e = not_both q x (sym e)
  not_from q inside _ _ _ st (Stored name pid instruction store same) e =
      false≢true (sym (ap is_some (free q inside)) ∙ (ap (stands before.ledger) (sym e) ∙ st))
  not_from q inside _ _ _ st (Reduced x page right was unlent within now call) e =
      none-some page (sym (free q inside) ∙ (ap before.ledger.home (sym (homed_once x q e)) ∙ was))
  not_from q inside _ _ _ st (Lent x page loan kind was unlent now lends sent) e =
      none-some page (sym (free q inside) ∙ (ap before.ledger.home (sym (homed_once x q e)) ∙ was))
  not_from q inside _ _ _ st (Forwarded x page loan on was lent now forwarded) e =
      none-some page (sym (free q inside) ∙ (ap before.ledger.home (sym (homed_once x q e)) ∙ was))
  not_from q inside _ _ _ st (GivenBack x page loan was lent now ended) e =
      none-some page (sym (free q inside) ∙ (ap before.ledger.home (sym (homed_once x q e)) ∙ was))
  not_from q inside _ _ _ st (Moved x y page number was unlent none now left sent) e = none_leaves x page was left
  not_from q inside _ _ _ st (Bereft home x orphan none now was number kind dies) e = not_both q x (sym e)

not_allocated : (before : Machine) (moment : Moment) (pid : Pid) (words : List ℕ) → IsServedCallOf pid words before moment
    → is_send (call_number words) ≡ true → (new : PageName) → Allocated before moment new → ⊥
not_allocated before moment pid words served sends _ (Mapped p page none now new unlent call) =
    no_send p.pid pid map_memory refl before moment call words served sends
not_allocated before moment pid words served sends _ (Grown p none now call) =
    no_send p.pid pid increase_heap refl before moment call words served sends

pub doubling_refused : DoublingIsRefused
doubling_refused before moment from n to p page number is free inside there sent lives = elim (lives.comes (Homed q) (ap is_some now)) [
  | inl old ↦ not_from before moment from n to p is free q new old.0 (Homed q) old.2.lives.0 old.1 old.2.lives.1 refl
  | inr made ↦ not_allocated before moment p.pid sent.words sent.served sent.sends (Homed q) made.1
]
  where
    q : Place
    q = moved from to p

    new : in_run to n (moved from to p) ≡ true
    new = moved-in_run from to p n inside

    now : moment.machine.ledger.home (moved from to p) ≡ Some page
    now =
        ap (λ (l : Ledger). l.home (moved from to p)) is
        ∙ (ap (λ b. if b then before.ledger.home (moved to from (moved from to p)) else before.ledger.home (moved from to p)) new
        ∙ (ap before.ledger.home (moved-back from to p n inside) ∙ there))

-- ---- a page that is forgotten

module _ (before : Machine) (moment : Moment) (pid : Pid) (p : Place) (page : Page) (kill : moment.cause ≡ ByKill pid)
    (there : before.ledger.home p ≡ Some page) (gone : moment.machine.ledger.home p ≡ None) where
  not_now : (x : Place) (later : Page) → Homed x ≡ Homed p → moment.machine.ledger.home x ≡ Some later → ⊥
  not_now x later e now = none-some later (sym gone ∙ (ap moment.machine.ledger.home (sym (homed_once x p e)) ∙ now))

  no_call : (a : Pid) (words : List ℕ) → IsServedCallOf a words before moment → ⊥
  no_call a words served = no_kill_step pid moment.cause kill served.step

  -- it lives on as an orphan alone
  lives_as : (old new : PageName) (deed : Deed) → LivesOn before moment old deed new → old ≡ Homed p
      → ((home q : Place) → home ≡ p → (loan : PageLoan) → page.loan ≡ Some loan → loan.holder ≡ q → (orphan : Orphan)
      → moment.machine.ledger.orphan q ≡ Some orphan → is_living moment.machine home.pid ≡ false → ⊥) → ⊥
  lives_as _ _ _ (Stays x later was now) e bereft = not_now x later e now
  lives_as _ _ _ (StaysOrphan x orphan was now) e bereft = not_both p x (sym e)
  lives_as _ _ _ (Stored name other instruction store same) e bereft = no_kill_step pid moment.cause kill instruction.step
  lives_as _ _ _ (Reduced x later right was unlent within now call) e bereft = no_call x.pid call.words call.served
  lives_as _ _ _ (Lent x later loan kind was unlent now lends sent) e bereft = no_call x.pid sent.words sent.served
  lives_as _ _ _ (Forwarded x later loan on was lent now forwarded) e bereft = no_call loan.holder.pid forwarded.words forwarded.served
  lives_as _ _ _ (GivenBack x later loan was lent now ended) e bereft = not_now x (record later { loan = None }) e now
  lives_as _ _ _ (Moved x y later number was unlent none now left sent) e bereft = no_call x.pid sent.words sent.served
  lives_as _ _ _ (Bereft home q orphan none now was number kind dies) e bereft =
      let same : home ≡ p = homed_once home p e in
      let page_same : was.page ≡ page = same_Some was.page page (sym was.stood ∙ (ap before.ledger.home same ∙ there)) in
      bereft home q same was.loan (ap (λ (x : Page). x.loan) (sym page_same) ∙ was.lent) was.held orphan now dies.died

  -- and it is released by a death alone
  released_by : (old : PageName) → Released before moment old → old ≡ Homed p
      → (is_living moment.machine p.pid ≡ false → ((loan : PageLoan) → page.loan ≡ Some loan → HasNone moment.machine.servers (is_lend_of loan.number)) → ⊥)
      → ⊥
  released_by _ (Unmapped x later was unlent now call) e died = no_call x.pid call.words call.served
  released_by _ (Shrunk x later was unlent now call) e died = no_call x.pid call.words call.served
  released_by _ (OwnerDied x later was now dies over) e died =
      let same : x ≡ p = homed_once x p e in
      let page_same : later ≡ page = same_Some later page (sym was ∙ (ap before.ledger.home same ∙ there)) in
      died (ap (λ (y : Place). is_living moment.machine y.pid) (sym same) ∙ dies.died)
      (λ loan lent. over loan (ap (λ (y : Page). y.loan) page_same ∙ lent))
  released_by _ (GivenUp q orphan was now ended) e died = not_both p q (sym e)

pub forgetting_refused : ForgettingIsRefused
forgetting_refused before moment pid p page kill there gone living lives = elim (lives.goes (Homed p) (ap is_some there)) [
  | inl new ↦
      lives_as before moment pid p page kill there gone (Homed p) new.0 new.2.lives.0 new.2.lives.1 refl
      (λ home q same loan lent held orphan now died.
      false≢true (sym died ∙ (ap (λ (x : Place). is_living moment.machine x.pid) same ∙ living)))
  | inr went ↦
      released_by before moment pid p page kill there gone (Homed p) went.1 refl (λ died over. false≢true (sym died ∙ living))
]

pub losing_refused : LosingIsRefused
losing_refused before moment pid p page loan kill there lent gone none still lives = elim (lives.goes (Homed p) (ap is_some there)) [
  | inl new ↦
      lives_as before moment pid p page kill there gone (Homed p) new.0 new.2.lives.0 new.2.lives.1 refl
      (λ home q same other its held orphan now died.
      none-some orphan
      (sym none
      ∙ (ap (λ (x : PageLoan). moment.machine.ledger.orphan x.holder) (same_Some loan other (sym lent ∙ its))
      ∙ (ap moment.machine.ledger.orphan held ∙ now))))
  | inr went ↦
      released_by before moment pid p page kill there gone (Homed p) went.1 refl (λ died over. still (over loan lent))
]

-- ---- an orphan at a wrong place

module _ (before : Machine) (moment : Moment) (q : Place) (none : before.ledger.orphan q ≡ None)
    (unlent : (home : Place) (loan : PageLoan) → loan_at before.ledger home ≡ Some loan → loan.holder ≢ q) where
  not_orphaned : (old new : PageName) (deed : Deed) → stands before.ledger old ≡ true → LivesOn before moment old deed new → new ≡ Orphaned q → ⊥
  not_orphaned _ _ _ st (Stays x page was now) e = not_both x q e
  not_orphaned _ _ _ st (StaysOrphan x orphan was now) e =
      none-some orphan (sym none ∙ (ap before.ledger.orphan (sym (orphaned_once x q e)) ∙ was))
  not_orphaned _ _ _ st (Stored name pid instruction store same) e =
      false≢true (sym (ap is_some none) ∙ (ap (stands before.ledger) (sym e) ∙ st))
  not_orphaned _ _ _ st (Reduced x page right was lent within now call) e = not_both x q e
  not_orphaned _ _ _ st (Lent x page loan kind was lent now lends sent) e = not_both x q e
  not_orphaned _ _ _ st (Forwarded x page loan on was lent now forwarded) e = not_both x q e
  not_orphaned _ _ _ st (GivenBack x page loan was lent now ended) e = not_both x q e
  not_orphaned _ _ _ st (Moved x y page number was lent free now left sent) e = not_both y q e
  not_orphaned _ _ _ st (Bereft home x orphan free now was number kind dies) e =
      unlent home was.loan (ap loan_of was.stood ∙ was.lent) (was.held ∙ orphaned_once x q e)

  not_new : (new : PageName) → Allocated before moment new → new ≡ Orphaned q → ⊥
  not_new _ (Mapped p page free now new lent call) e = not_both p q e
  not_new _ (Grown p free now call) e = not_both p q e

pub misplacing_refused : MisplacingIsRefused
misplacing_refused before moment q orphan none unlent now lives = elim (lives.comes (Orphaned q) (ap is_some now)) [
  | inl old ↦ not_orphaned before moment q none unlent old.0 (Orphaned q) old.2.lives.0 old.1 old.2.lives.1 refl
  | inr made ↦ not_new before moment q none unlent (Orphaned q) made.1 refl
]
