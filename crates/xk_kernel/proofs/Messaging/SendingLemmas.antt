-- What the words of a send say: that it is one, that its caller may make it, and what it means that its server is full.
use Rattle.std.proofs.Common.{◌≡◌, ℕ, Bool, true, false, List, refl, sym, ap, ◌∙◌}
use Rattle.std.specs.Prelude.{◌==◌, ◌&&◌, ◌||◌, if◌then◌else◌}
use Rattle.std.proofs.lemmas.Bool.{false≢true}
use Rattle.machine_model.specs.State.Changes.{Refused, Retried}
use Rattle.machine_model.specs.State.Machine.{Machine}
use Rattle.xk_base.specs.declared.ids.Number.{Number}
use Rattle.send_path.specs.Sending.{send_row}
use Rattle.syscall_codec.specs.CallNumbers.{connect, join_thread, receive_message, send_message, try_send_message}
use Rattle.syscall_codec.specs.CallWords.{call_number, is_refused_to_handler, send_kind}
use Rattle.xk_base.specs.Calls.Kinds.{is_waiting_kind}
use Rattle.xk_base.specs.declared.errors.XousError.TheVariants.{ServerQueueFull}
use Rattle.xk_kernel.specs.Calling.{is_refused_caller}

abbrev refused_by : ℕ → Bool → Bool
refused_by n waits = n == receive_message || n == send_message || n == connect || n == join_thread || (n == try_send_message && waits)

module _ (w : List ℕ) (tries : Bool) (number : call_number w ≡ (if tries then try_send_message else send_message)) where
  pub is_send : (call_number w == send_message || call_number w == try_send_message) ≡ true
  is_send = ap (λ n. n == send_message || n == try_send_message) number ∙ by tries
    where
      by : (b : Bool) → ((if b then try_send_message else send_message) == send_message || (if b then try_send_message else send_message) == try_send_message) ≡ true
      by true = refl
      by false = refl

  -- the interrupt thread may not make one that waits
  pub may_send : (m : Machine) → is_refused_caller m w ≡ false → (is_waiting_kind (send_kind w) && (m.cursor.tid.0 == 1)) ≡ false
  may_send m free = go (is_waiting_kind (send_kind w)) (m.cursor.tid.0 == 1) tries refl refl refl
    where
      go : (waits one b : Bool) → is_waiting_kind (send_kind w) ≡ waits → (m.cursor.tid.0 == 1) ≡ one → tries ≡ b → (waits && one) ≡ false
      go false one b p q r = refl
      go true false b p q r = refl
      go true true b p q r =
          absurd (false≢true (sym free ∙ (λ i. q i && is_refused_to_handler w) ∙ (λ i. refused_by (number_is b r i) (p i)) ∙ by b))
        where
          number_is : (b : Bool) → tries ≡ b → call_number w ≡ (if b then try_send_message else send_message)
          number_is b r = number ∙ ap (λ x. if x then try_send_message else send_message) r

          by : (b : Bool) → refused_by (if b then try_send_message else send_message) true ≡ true
          by true = refl
          by false = refl

-- at a full server the one is refused, and the other made again
pub full_tried : (next : Number) (w : List ℕ) → call_number w ≡ try_send_message → (send_row next w).full ≡ Refused ServerQueueFull
full_tried next w number = ap (λ n. if n == try_send_message then Refused ServerQueueFull else Retried) number

pub full_sent : (next : Number) (w : List ℕ) → call_number w ≡ send_message → (send_row next w).full ≡ Retried
full_sent next w number = ap (λ n. if n == try_send_message then Refused ServerQueueFull else Retried) number
