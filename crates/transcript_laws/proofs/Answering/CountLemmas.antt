-- Between two calls of a thread stands one answer.
use Rattle.std.proofs.Common.{◌≡◌, ◌≢◌, ℕ, suc, ◌⊎◌, inl, inr, Bool, true, false, List, [], ◌∷◌, ◌++◌, length, refl, sym, ap, ◌∙◌, subst, arith}
use Rattle.std.specs.Prelude.{◌==◌, filter, if◌then◌else◌}
use Rattle.std.proofs.lemmas.Bool.{false≢true}
use Rattle.xk_base.specs.declared.ids.ThreadId.{ThreadId}
use Rattle.xk_base.specs.declared.records.What.{What}
use Rattle.xk_base.specs.declared.records.What.TheVariants.{Call, Reply, Retry, Byte, Fault, End, Irq, Gone}
use Rattle.xk_base.specs.Tables.Circle.{same_thread}
use Rattle.machine_model.specs.State.Threads.{thread_id}
use Rattle.machine_laws.proofs.Threading.ThreadAnswerLemmas.{same_thread-self}
use Rattle.transcript_laws.specs.AnsweredOnce.{AreCallsAnswered, Dead, DiesIf, Free, HasNoCall, LeadsIf, Says, SayInTurn, Standing, Waits}
use Rattle.transcript_laws.specs.AnsweredOnce.{answers_in, is_answer_of, is_call_of}

-- ---- one record that is no call of the thread

-- it answers a thread that waits, or leaves it as it stands, or is the death of its process
data OneSaid (answers : Bool) (a b : Standing) : Type 0 where
  Answers : answers ≡ true → a ≡ Waits → b ≡ Free → OneSaid answers a b
  Leaves : answers ≡ false → a ≡ b → OneSaid answers a b
  Ends : answers ≡ false → b ≡ Dead → OneSaid answers a b

module _ (who : ThreadId) where
  answering : (x : Bool) (a b : Standing) → LeadsIf x Waits Free a b → OneSaid x a b
  answering true a b says = Answers refl says.0 says.1
  answering false a b says = Leaves refl says

  leaving : (x : Bool) (a b : Standing) → LeadsIf x Free Free a b → OneSaid false a b
  leaving true a b says = Leaves refl (says.0 ∙ sym says.1)
  leaving false a b says = Leaves refl says

  ending : (x : Bool) (a b : Standing) → DiesIf x a b → OneSaid false a b
  ending true a b says = Ends refl says.1
  ending false a b says = Leaves refl says

  calling : (x : Bool) (a b : Standing) → x ≡ false → LeadsIf x Free Waits a b → OneSaid false a b
  calling true a b e says = absurd (false≢true (sym e))
  calling false a b e says = Leaves refl says

  one_said : (what : What) (a b : Standing) → is_call_of who what ≡ false → Says who what a b → OneSaid (is_answer_of who what) a b
  one_said (Call other words) a b none says = calling (same_thread other who) a b none says
  one_said (Reply other words) a b none says = answering (same_thread other who) a b says
  one_said (Retry other) a b none says = answering (same_thread other who) a b says
  one_said (Byte other byte) a b none says = leaving (same_thread other who) a b says
  one_said (Fault other cause value) a b none says = leaving (same_thread other who) a b says
  one_said (End other) a b none says = leaving (same_thread other who) a b says
  one_said (Irq pid k) a b none says = leaving (same_thread (thread_id pid 1) who) a b says
  one_said (Gone pid) a b none says = ending (pid.0 == who.pid.0) a b says

  -- ---- records without a call of the thread

  -- from what the thread stands to what it stands, with so many answers
  data Counted (n : ℕ) (a c : Standing) : Type 0 where
    NoneGiven : n ≡ 0 → a ≡ c → Counted n a c
    OneGiven : n ≡ 1 → a ≡ Waits → c ≡ Free → Counted n a c
    NoneAtDeath : n ≡ 0 → c ≡ Dead → Counted n a c
    OneAtDeath : n ≡ 1 → a ≡ Waits → c ≡ Dead → Counted n a c

  free_waits : Free ≢ Waits
  free_waits e = cc

  dead_waits : Dead ≢ Waits
  dead_waits e = cc

  added : (answers : Bool) (told : List What) (what : What) (a b c : Standing) → OneSaid answers a b → Counted (answers_in who told) b c
      → Counted (length (if answers then what ∷ filter (is_answer_of who) told else filter (is_answer_of who) told)) a c
  added answers told what a b c said rest = go answers said
    where
      go : (x : Bool) → OneSaid x a b → Counted (length (if x then what ∷ filter (is_answer_of who) told else filter (is_answer_of who) told)) a c
      go true (Leaves e same) = absurd (false≢true (sym e))
      go true (Ends e dead) = absurd (false≢true (sym e))
      go true (Answers e waits free) = by rest
        where
          by : Counted (answers_in who told) b c → Counted (suc (answers_in who told)) a c
          by (NoneGiven n same) = OneGiven (ap suc n) waits (sym same ∙ free)
          by (OneGiven n w f) = absurd (free_waits (sym free ∙ w))
          by (NoneAtDeath n d) = OneAtDeath (ap suc n) waits d
          by (OneAtDeath n w d) = absurd (free_waits (sym free ∙ w))
      go false (Answers e waits free) = absurd (false≢true e)
      go false (Leaves e same) = subst (λ s. Counted (answers_in who told) s c) (sym same) rest
      go false (Ends e dead) = by rest
        where
          by : Counted (answers_in who told) b c → Counted (answers_in who told) a c
          by (NoneGiven n same) = NoneAtDeath n (sym same ∙ dead)
          by (OneGiven n w f) = absurd (dead_waits (sym dead ∙ w))
          by (NoneAtDeath n d) = NoneAtDeath n d
          by (OneAtDeath n w d) = absurd (dead_waits (sym dead ∙ w))

  told_counted : (told : List What) (a c : Standing) → HasNoCall who told → SayInTurn who told a c → Counted (answers_in who told) a c
  unfolding SayInTurn
  told_counted [] a c none says = NoneGiven refl says
  told_counted (what ∷ told) a c none says =
      added (is_answer_of who what) told what a says.0 c (one_said what a says.0 (none 0 what (omega arith)) says.1)
      (told_counted told says.0 c (λ k d lt. none (suc k) d (omega arith)) says.2)

  -- ---- cut

  split : (xs ys : List What) (a c : Standing) → SayInTurn who (xs ++ ys) a c → (b : Standing) × SayInTurn who xs a b × SayInTurn who ys b c
  unfolding SayInTurn
  split [] ys a c says = (a, refl, says)
  split (what ∷ xs) ys a c says =
      let rest = split xs ys says.0 c says.2 in
      (rest.0, (says.0, says.1, rest.1), rest.2)

  -- a call of the thread, and what follows it
  after_call : (words : List ℕ) (told : List What) (a c : Standing) → SayInTurn who (Call who words ∷ told) a c → (a ≡ Free) × SayInTurn who told Waits c
  unfolding SayInTurn
  after_call words told a c says = (leads.0, subst (λ s. SayInTurn who told s c) leads.1 says.2)
    where
      leads : (a ≡ Free) × (says.0 ≡ Waits)
      leads = subst (λ x. LeadsIf x Free Waits a says.0) (same_thread-self who) says.1

  one_between : (n : ℕ) (c : Standing) → c ≡ Free → Counted n Waits c → n ≡ 1
  one_between n c free (NoneGiven e same) = absurd (free_waits (sym free ∙ sym same))
  one_between n c free (OneGiven e w f) = e
  one_between n c free (NoneAtDeath e d) = absurd (let q : Free ≡ Dead = sym free ∙ d in cc)
  one_between n c free (OneAtDeath e w d) = e

  one_or_none : (n : ℕ) (c : Standing) → Counted n Waits c → (n ≡ 1) ⊎ ((n ≡ 0) × (c ≢ Free))
  one_or_none n c (NoneGiven e same) = inr (e, λ free. free_waits (sym free ∙ sym same))
  one_or_none n c (OneGiven e w f) = inl e
  one_or_none n c (NoneAtDeath e d) = inr (e, λ free. let q : Free ≡ Dead = sym free ∙ d in cc)
  one_or_none n c (OneAtDeath e w d) = inl e

  none_or_one : (n : ℕ) (a c : Standing) → Counted n a c → (n ≡ 0) ⊎ ((n ≡ 1) × (a ≡ Waits))
  none_or_one n a c (NoneGiven e same) = inl e
  none_or_one n a c (OneGiven e w f) = inr (e, w)
  none_or_one n a c (NoneAtDeath e d) = inl e
  none_or_one n a c (OneAtDeath e w d) = inr (e, w)

  pub calls_answered : (told : List What) (first last : Standing) → SayInTurn who told first last → AreCallsAnswered who told first last
  calls_answered told first last says = record {
    between = λ before between later words others e none.
        let cut = split before (Call who words ∷ between ++ (Call who others ∷ later)) first last (subst (λ t. SayInTurn who t first last) e says) in
        let called = after_call words (between ++ (Call who others ∷ later)) cut.0 last cut.2 in
        let again = split between (Call who others ∷ later) Waits last called.1 in
        let next = after_call others later again.0 last again.2 in
        one_between (answers_in who between) again.0 next.0 (told_counted between Waits again.0 none again.1);
    latest = λ before later words e none.
        let cut = split before (Call who words ∷ later) first last (subst (λ t. SayInTurn who t first last) e says) in
        let called = after_call words later cut.0 last cut.2 in
        one_or_none (answers_in who later) last (told_counted later Waits last none called.1);
    earliest = λ before later e none.
        let cut = split before later first last (subst (λ t. SayInTurn who t first last) e says) in
        none_or_one (answers_in who before) first cut.0 (told_counted before first cut.0 none cut.1);
  }
