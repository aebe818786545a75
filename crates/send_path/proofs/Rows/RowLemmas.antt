-- What a served call makes of the machine and of the log.
use Rattle.std.proofs.Common.{◌≡◌, sym, ap, ◌∙◌, append-nil, Bool, true, false}
use Rattle.std.specs.Prelude.{if◌then◌else◌}
use Rattle.machine_model.specs.State.Changes.{Outcome, Refused, Served, answering, call_settled, refused_or, replies, settled}
use Rattle.machine_model.specs.State.Machine.{Machine}
use Rattle.machine_model.specs.State.Threads.{Answers, change_thread, give_answers, passed}
use Rattle.xk_base.specs.Log.{LogState}
use Rattle.xk_base.specs.declared.errors.XousError.{XousError}
use Rattle.std.specs.Prelude.{Some, None}
use Rattle.send_path.specs.Rows.{IsServed, log_with}

-- a change that answers these threads was served: the answers are given, and the caller is past its call
pub served_so : (m next new : Machine) (answers : Answers) (o : Outcome) (before after : LogState) → o ≡ Served (answering answers next)
    → new ≡ give_answers answers (change_thread m.cursor passed next) → after ≡ log_with (replies next.processes answers) before
    → IsServed o m new before after
unfolding call_settled settled
served_so m next new answers o before after is machine log = record {
  change = answering answers next;
  served = is;
  machine = machine ∙ sym (ap (λ x. (call_settled m x).machine) is);
  log =
      log ∙ ap (λ told. log_with told before) (sym (append-nil (replies next.processes answers)))
      ∙ sym (ap (λ x. log_with (call_settled m x).told before) is);
}

-- refused by its first test, or not
pub first_refuses : (b : Bool) (error : XousError) (o : Outcome) → b ≡ true → refused_or (if b then Some error else None) o ≡ Refused error
first_refuses b error o e = ap (λ x. refused_or (if x then Some error else None) o) e

pub first_passes : (b : Bool) (error : XousError) (o : Outcome) → b ≡ false → refused_or (if b then Some error else None) o ≡ o
first_passes b error o e = ap (λ x. refused_or (if x then Some error else None) o) e
