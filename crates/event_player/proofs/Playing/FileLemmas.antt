-- What comes of a whole file, by what came of the bytes that were read of it.
use Rattle.std.proofs.Common.{◌≡◌, ℕ, Bool, true, List, [], ◌++◌, Option, Ok, Err, sym, subst, append-nil}
use Rattle.event_text.specs.EventFile.{input_of}
use Rattle.machine_model.specs.State.Machine.{Machine}
use Rattle.xk_kernel.specs.declared.kernel.Kernel.{Kernel}
use Rattle.xk_ports.specs.declared.store.SwapStore.{Ghosts as SwapStore}
use Rattle.event_player.specs.declared.telling.Telling.{Telling}
use Rattle.event_player.specs.declared.ending.Ending.{Ending}
use Rattle.event_player.specs.declared.event_file.RunFault.TheVariants as faults
use Rattle.event_player.specs.declared.events.PlayFault.TheVariants.{Write, Swap}
use Rattle.event_player.specs.Gathering.{Puts, put}
use Rattle.event_player.specs.History.{history_of}
use Rattle.event_player.specs.Playing.{EndsSo, FailsSo, Runs, run_from}
use Rattle.host_io.specs.Reading.{IsTold}
use Rattle.event_player.specs.Standing.{Stand}
use Rattle.event_player.specs.Telling.{told}
use Rattle.event_player.proofs.Playing.GatheringLemmas.{all_put, put_whole}
use Rattle.event_player.proofs.Playing.PuttingLemmas.{with_text}

-- a run that begins where this stood on the sink, and stands where this does
module _ {W : Type 0} (S : SwapStore W) (first : Kernel W) (tells : Telling) (limit : ℕ) (start : Machine) (begun out left left_after : Option (List ℕ)) (now : Stand) (taken more : List ℕ) (f : Bool)
    (may : f ≡ true → more ≡ []) (is_file : IsTold left (taken ++ more)) where
  pub runs_ended : (ending : Ending) → EndsSo (run_from S first tells limit start (put begun)) taken f (with_text now (put out)) ending
      → Runs (run_from S first tells limit start (put begun)) left left_after (with_text now (put out)) (Ok ending)
  runs_ended ending ends = record {
    bytes = taken ++ more;
    file = is_file;
    may = ends.may more may;
    exact = λ known.
        let so = ends.exact more may known in
        (all_put tells begun out (history_of (input_of (taken ++ more)) limit start) ending so.0, so.1, so.2);
    near = λ e. ends.near e more may;
    silent = ends.silent;
  }

  pub runs_unwritten : FailsSo (run_from S first tells limit start (put begun)) taken f (with_text now (put out)) Write
      → Runs (run_from S first tells limit start (put begun)) left left_after (with_text now (put out)) (Err faults.Write)
  runs_unwritten fails = record { bytes = taken ++ more; file = is_file; exact = λ known. fails more may known }

  pub runs_swapped : FailsSo (run_from S first tells limit start (put begun)) taken f (with_text now (put out)) Swap
      → Runs (run_from S first tells limit start (put begun)) left left_after (with_text now (put out)) (Err faults.Swap)
  runs_swapped stops = record {
    bytes = taken ++ more;
    file = is_file;
    exact = λ trusted.
        let all = stops.exact more may trusted in
        let text : List ℕ = told tells (history_of (input_of (taken ++ more)) all.some.done start).records in
        let puts : Puts begun out text = put_whole begun out text all.some.gathered in
        record {
          stood = all.stood;
          some = record { done = all.some.done; within = all.some.within; met = all.some.met; written = puts.grown; still = puts.still };
          soon = all.soon;
        };
    full = stops.full more may;
    silent = stops.silent;
  }

-- a file of which no more was left
pub told_all : (left : Option (List ℕ)) (bytes : List ℕ) → IsTold left bytes → IsTold left (bytes ++ [])
told_all left bytes told = let T : List ℕ → Type 0 = λ l. IsTold left l in subst T (sym (append-nil bytes)) told
