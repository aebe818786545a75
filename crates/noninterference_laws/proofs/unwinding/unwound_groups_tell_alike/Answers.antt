use Rattle.noninterference_laws.proofs.Unwound.GroupLemmas.{unwound_act, unwound_histories}
use Rattle.noninterference_laws.specs.Unwinding.{Passes}
use Rattle.noninterference_laws.proofs.unwinding.unwound_groups_tell_alike.Goals as goal

-- src/unwinding.rt
pub returns-clause-acts : goal.returns-clause-acts
returns-clause-acts c = λ group related. unwound_act group (Passes related)

-- src/unwinding.rt
pub returns-clause-histories : goal.returns-clause-histories
returns-clause-histories c = λ group related. unwound_histories group (Passes related)
