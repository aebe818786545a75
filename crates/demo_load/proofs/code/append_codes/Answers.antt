use Rattle.std.proofs.Common.{rules}
use Rattle.std.proofs.lemmas.List.Elements.{All-from_recursion}
use Rattle.rv32_words.specs.Table.{IsInRange}
use Rattle.demo_load.specs.Code.{client_code}
use Rattle.demo_load.proofs.code.append_codes.Goals as goal

pub append_code-requires-2 : goal.append_code-requires-2
append_code-requires-2 c = All-from_recursion IsInRange client_code (search rules)
