-- What lists of records say of a message.
use Rattle.std.proofs.Common.{◌≡◌, ℕ, ◌⊎◌, inl, inr, Bool, true, false, List, [], ◌∷◌, ◌++◌, Option, Some, None, refl, sym, ap, ◌∙◌, subst}
use Rattle.std.specs.Prelude.{◌==◌, ◌&&◌, ◌||◌, is_some}
use Rattle.std.specs.Bool.{⊤}
use Rattle.std.specs.Option.{option_map_or, option_or}
use Rattle.std.proofs.lemmas.Bool.{false≢true}
use Rattle.xk_base.specs.declared.ids.Number.{Number}
use Rattle.xk_base.specs.declared.ids.ThreadId.{ThreadId}
use Rattle.xk_base.specs.declared.records.What.{What}
use Rattle.xk_base.specs.declared.records.What.TheVariants.{Call, Reply, Retry, Byte, Fault, End, Irq, Gone}
use Rattle.syscall_codec.specs.CallNumbers.{destroy_server, forward_message}
use Rattle.syscall_codec.specs.CallWords.{call_number, forward_token, return_token}
use Rattle.transcript_laws.specs.Following.{Accepted, Delivered, Forwarded, LostHeld, LostQueued, Returned, Leads, LeadInTurn, Standing}
use Rattle.transcript_laws.specs.Following.{Stays, answer_in, is_delivery_of, is_end_in, is_forward_of, is_plain, is_return_call}
use Rattle.transcript_laws.specs.Following.{is_return_of, is_served_by, next_answer}

-- ---- the next answer

-- an answer that stands in the one list is the next, whatever follows
pub next_append : (who : ThreadId) (xs ys : List What) → is_some (next_answer who xs) ≡ true → next_answer who (xs ++ ys) ≡ next_answer who xs
unfolding next_answer
next_append who [] ys e = absurd (false≢true e)
next_append who (what ∷ xs) ys e = go (λ q. next_append who xs ys q) (answer_in who what) e
  where
    go : (is_some (next_answer who xs) ≡ true → next_answer who (xs ++ ys) ≡ next_answer who xs) → (o : Option (List ℕ)) → is_some (option_or o (next_answer who xs)) ≡ true → option_or o (next_answer who (xs ++ ys)) ≡ option_or o (next_answer who xs)
    go rest None q = rest q
    go rest (Some words) q = refl

-- a call whose fate for messages hangs on whether it was served
abbrev pub asks : ℕ → Bool
asks call = (call == forward_message) || (is_return_call call || (call == destroy_server))

-- the call is not such a one, or is answered in these records
abbrev pub IsSettled : What → List What → Type 0
IsSettled (Call who words) later = (asks (call_number words) ≡ false) ⊎ (is_some (next_answer who later) ≡ true)
IsSettled (Reply who words) later = ⊤
IsSettled (Retry who) later = ⊤
IsSettled (Byte who byte) later = ⊤
IsSettled (Fault who cause value) later = ⊤
IsSettled (End who) later = ⊤
IsSettled (Irq pid k) later = ⊤
IsSettled (Gone pid) later = ⊤

unfoldable pub AreSettled : List What → Type 0
AreSettled [] = ⊤
AreSettled (what ∷ told) = IsSettled what told × AreSettled told

module _ (number : Number) where
  -- more records behind it make no difference
  pub record IsAlike (what : What) (later more : List What) : Type 0 where
    pub forward : is_forward_of number what more ≡ is_forward_of number what later
    pub returned : is_return_of number what more ≡ is_return_of number what later
    pub end : is_end_in what more ≡ is_end_in what later

  alike : (what : What) (later more : List What) → IsSettled what later → IsAlike what later (later ++ more)
  alike (Call who words) later more (inr some) =
      let same : is_served_by who (later ++ more) ≡ is_served_by who later = ap (λ o. option_map_or is_plain o false) (next_append who later more some) in
      record {
        forward = ap (λ b. (call_number words == forward_message) && ((forward_token words == number.0) && b)) same;
        returned = ap (λ b. is_return_call (call_number words) && ((return_token words == number.0) && b)) same;
        end = ap (λ b. (call_number words == destroy_server) && b) same;
      }
  alike (Call who words) later more (inl none) =
      go (call_number words == forward_message) (is_return_call (call_number words)) (call_number words == destroy_server) refl refl refl none
    where
      go : (a b c : Bool) → (call_number words == forward_message) ≡ a → is_return_call (call_number words) ≡ b → (call_number words == destroy_server) ≡ c
          → (a || (b || c)) ≡ false → IsAlike (Call who words) later (later ++ more)
      go true b c p q r e = absurd (false≢true (sym e))
      go false true c p q r e = absurd (false≢true (sym e))
      go false false true p q r e = absurd (false≢true (sym e))
      go false false false p q r e = record {
        forward = (λ i. p i && ((forward_token words == number.0) && is_served_by who (later ++ more)))
            ∙ sym (λ i. p i && ((forward_token words == number.0) && is_served_by who later));
        returned = (λ i. q i && ((return_token words == number.0) && is_served_by who (later ++ more)))
            ∙ sym (λ i. q i && ((return_token words == number.0) && is_served_by who later));
        end = (λ i. r i && is_served_by who (later ++ more)) ∙ sym (λ i. r i && is_served_by who later);
      }
  alike (Reply who words) later more s = record { forward = refl; returned = refl; end = refl }
  alike (Retry who) later more s = record { forward = refl; returned = refl; end = refl }
  alike (Byte who byte) later more s = record { forward = refl; returned = refl; end = refl }
  alike (Fault who cause value) later more s = record { forward = refl; returned = refl; end = refl }
  alike (End who) later more s = record { forward = refl; returned = refl; end = refl }
  alike (Irq pid k) later more s = record { forward = refl; returned = refl; end = refl }
  alike (Gone pid) later more s = record { forward = refl; returned = refl; end = refl }

  pub says_alike : (what : What) (later more : List What) (a b : Standing) → IsAlike what later more → Leads number what later a b → Leads number what more a b
  says_alike what later more _ _ same (Accepted _ _ e) = Accepted what more e
  says_alike _ later more _ _ same (Delivered who words _ e) = Delivered who words more e
  says_alike what later more _ _ same (Forwarded _ _ e) = Forwarded what more (same.forward ∙ e)
  says_alike what later more _ _ same (Returned _ _ e) = Returned what more (same.returned ∙ e)
  says_alike what later more _ _ same (LostQueued _ _ e) = LostQueued what more (same.end ∙ e)
  says_alike what later more _ _ same (LostHeld _ _ e) = LostHeld what more (same.end ∙ e)
  says_alike what later more _ _ same (Stays _ _ a e) =
      Stays what more a ((λ i. is_delivery_of number what || (same.forward i || same.returned i)) ∙ e)

  -- ---- lists

  pub say_none : (a : Standing) → LeadInTurn number [] a a
  unfolding LeadInTurn
  say_none a = refl

  pub say_first : (what : What) (told : List What) (a b c : Standing) → Leads number what told a b → LeadInTurn number told b c → LeadInTurn number (what ∷ told) a c
  unfolding LeadInTurn
  say_first what told a b c says later = (b, says, later)

  -- one list after another in which each call is settled
  pub say_append : (xs ys : List What) (a b c : Standing) → AreSettled xs → LeadInTurn number xs a b → LeadInTurn number ys b c
      → LeadInTurn number (xs ++ ys) a c
  unfolding LeadInTurn AreSettled
  say_append [] ys a b c s x y = subst (λ d. LeadInTurn number ys d c) (sym x) y
  say_append (what ∷ xs) ys a b c s x y = (
    x.0,
    says_alike what xs (xs ++ ys) a x.0 (alike what xs ys s.0) x.1,
    say_append xs ys x.0 b c s.1 x.2 y,
  )
