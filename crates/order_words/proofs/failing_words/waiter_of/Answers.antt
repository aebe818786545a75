use Rattle.order_words.proofs.PointLemmas.{no_process, no_thread}
use Rattle.order_words.proofs.failing_words.waiter_of.Goals as goal

pub returns-in-None-thread_of-clause-none : goal.returns-in-None-thread_of-clause-none
returns-in-None-thread_of-clause-none c waiter named =
    no_thread c.args.word.now c.in-Some.pid c.in-Some.tid _ c.split_once.ensures.cases c.in-Some.is c.in-None-thread_of.ensures.none waiter named

pub returns-in-None-plain_number-clause-none : goal.returns-in-None-plain_number-clause-none
returns-in-None-plain_number-clause-none c waiter named =
    no_process c.args.word.now c.split_once.result c.split_once.ensures.cases c.in-None.is c.in-None-plain_number.ensures.none waiter named
