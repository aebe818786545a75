use Rattle.noninterference_laws.proofs.Unwound.WitnessLemmas.{summing_begins}
use Rattle.noninterference_laws.proofs.Unwound.SumLemmas.{begins_program, sum_unwinds, sums_differ, sums_tell_alike}
use Rattle.noninterference_laws.proofs.unwinding.secret_sums_are_exchanged.Goals as goal

-- src/unwinding.rt
pub returns-clause-unwinding : goal.returns-clause-unwinding
returns-clause-unwinding c = sum_unwinds

-- src/unwinding.rt
pub returns-clause-begins : goal.returns-clause-begins
returns-clause-begins c = begins_program

-- src/unwinding.rt
pub returns-clause-witness : goal.returns-clause-witness
returns-clause-witness c = summing_begins

-- src/unwinding.rt
pub returns-clause-related : goal.returns-clause-related
returns-clause-related c = λ pid m sum runs lives. sums_differ pid m sum runs

-- src/unwinding.rt
pub returns-clause-histories : goal.returns-clause-histories
returns-clause-histories c = λ pid events limit m sum h runs. sums_tell_alike pid m sum runs events limit h
