-- What endings fail of, as it is spelled in a command line.
use Rattle.std.specs.Prelude.{ℕ, List, [], ◌++◌, codes, decimal}
use Rattle.order_model.specs.declared.failing.Failing.{Failing}
use Rattle.order_model.specs.declared.failing.Failing.TheVariants.{Console, ConsoleNot, Exit, Fault, Waits}
use Rattle.order_model.specs.declared.failing.Waiter.{Waiter}
use Rattle.order_model.specs.declared.failing.Waiter.TheVariants.{Any, Process, Thread}
use Rattle.order_text.specs.Texts.{thread_text}

-- which threads are asked about: any, those of a process, or one, as in `=2.3`
abbrev pub waiter_text : Waiter → List ℕ
waiter_text Any = []
waiter_text (Process pid) = codes "=" ++ decimal pid.0
waiter_text (Thread who) = codes "=" ++ thread_text who

abbrev pub failing_text : Failing → List ℕ
failing_text Exit = codes "exit"
failing_text Fault = codes "fault"
failing_text (Waits who) = codes "waits" ++ waiter_text who
failing_text (Console text) = codes "console=" ++ text.now
failing_text (ConsoleNot text) = codes "console-not=" ++ text.now
