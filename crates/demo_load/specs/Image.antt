-- The image of the load of `demo`.
use Rattle.std.specs.Prelude.{ℕ, ◌+◌, ◌*◌, List, [], ◌∷◌, ◌++◌, None, codes, length, replicate}
use Rattle.kernel_args.specs.Writing.{written}
use Rattle.kernel_args.specs.declared.args.Args.{Args}
use Rattle.kernel_args.specs.declared.args.ProcArgs.{ProcArgs}
use Rattle.rv32_words.specs.declared.insn.Insn.{Insn}
use Rattle.demo_load.specs.Code.{client_code, code_bytes, server_code}

-- where each program stands in its process, and where it begins
abbrev pub code_address : ℕ
code_address = 0x00010000

-- the size of the row of tags in words: seven of the header, and six of each process, as it has one section
abbrev pub load_words : ℕ → ℕ
load_words clients = 7 + 6 * (1 + clients)

-- A process of one executable section (4), whose code stands at this offset in the file.
abbrev pub process_of_code : ℕ → List Insn → ProcArgs
process_of_code offset code = record {
  load = offset;
  entry = code_address;
  check = None;
  sections = record { addr = code_address; size = 4 * length code; flags = 4 } ∷ [];
}

-- The code of the server stands behind the row of tags, and behind it that of the clients, which is there once.
abbrev pub server_offset : ℕ → ℕ
server_offset clients = 4 * load_words clients

abbrev pub client_offset : ℕ → ℕ
client_offset clients = server_offset clients + 4 * length server_code

-- The server is process 2, and the clients are those behind it.
abbrev pub load_args : ℕ → Args
load_args clients = record {
  words = load_words clients;
  version = 1;
  ram_start = 0x40000000;
  ram_size = 0x01000000;
  ram_name = codes "sram";
  slots = None;
  procs = process_of_code (server_offset clients) server_code ∷ replicate clients (process_of_code (client_offset clients) client_code);
  names = [];
}

-- the image of so many clients
abbrev pub load_image : ℕ → List ℕ
load_image clients = written (load_args clients) ++ (code_bytes server_code ++ code_bytes client_code)
