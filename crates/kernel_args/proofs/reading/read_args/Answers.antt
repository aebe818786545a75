use Rattle.std.proofs.Common.{◌≤◌, arith, length, refl}
use Rattle.std.proofs.lemmas.Result.{err_from_is_err_and}
use Rattle.kernel_args.specs.declared.args.Args.{Args}
use Rattle.kernel_args.specs.Faults.{row_size}
use Rattle.kernel_args.proofs.ImageLemmas.{spelled_has_no_fault}
use Rattle.kernel_args.proofs.ReadLemmas.{row_is, fault_of_header, fault_of_row, image_read}
use Rattle.kernel_args.proofs.reading.read_args.Goals as goal

pub returns-in-Some-clause-fault : goal.returns-in-Some-clause-fault
returns-in-Some-clause-fault c = fault_of_header c.args.bytes.now c.in-Some.fault c.in-Some.ensures.fault

pub header_of-header-requires : goal.header_of-header-requires
header_of-header-requires c =
    let long : 28 ≤ row_size c.args.bytes.now = c.in_default.ensures.long in
    let within : row_size c.args.bytes.now ≤ length c.args.bytes.now = c.in_default.ensures.within in
    omega arith

pub split_at-requires : goal.split_at-requires
split_at-requires c =
    let within : row_size c.args.bytes.now ≤ length c.args.bytes.now = c.in_default.ensures.within in
    let words = c.header_of-header.ensures.words_is in
    omega arith

pub split_at-requires-2 : goal.split_at-requires-2
split_at-requires-2 c =
    let long : 28 ≤ row_size c.args.bytes.now = c.in_default.ensures.long in
    let words = c.header_of-header.ensures.words_is in
    let len = c.split_at.ensures.front_len in
    omega arith

pub read_row-requires : goal.read_row-requires
read_row-requires c =
    let len = c.split_at.ensures.back_len in
    let front = c.split_at.ensures.front_len in
    let row = c.split_at-2.ensures.back_len in
    let limit = c.requires in
    omega arith

pub returns-in_err-found-clause-spelled : goal.returns-in_err-found-clause-spelled
returns-in_err-found-clause-spelled c = let p = err_from_is_err_and c.from_residual.result c.from_residual.ensures.1 in rw p.1 tt

pub returns-in_err-found-clause-sound : goal.returns-in_err-found-clause-sound
returns-in_err-found-clause-sound c = let p = err_from_is_err_and c.from_residual.result c.from_residual.ensures.1 in rw p.1 tt

pub returns-in_err-found-clause-no_fault : goal.returns-in_err-found-clause-no_fault
returns-in_err-found-clause-no_fault c = let p = err_from_is_err_and c.from_residual.result c.from_residual.ensures.1 in rw p.1 tt

pub returns-in_err-found-clause-fault : goal.returns-in_err-found-clause-fault
returns-in_err-found-clause-fault c =
    let p = err_from_is_err_and c.from_residual.result c.from_residual.ensures.1 in
    let header = c.header_of-header.result in
    let row = row_is c.args.bytes.now header.words c.split_at.result.0.now c.split_at-2.result.1.now c.header_of-header.ensures.words_is c.split_at.ensures.front c.split_at-2.ensures.back in
    rw (p.1, p.2) (fault_of_row c.args.bytes.now c.split_at-2.result.1.now header.version c.in_err-found.field-0.0 c.in_default.ensures.fault c.header_of-header.ensures.version_is row
    c.in_err-found.ensures.fault)

pub returns : goal.returns
returns c =
    let header = c.header_of-header.result in
    let found = c.in_ok-found.found in
    let args : Args = record {
      words = header.words;
      version = header.version;
      ram_start = header.ram_start;
      ram_size = header.ram_size;
      ram_name = header.ram_name;
      slots = found.slots;
      procs = found.procs;
      names = found.names;
    } in
    let row = row_is c.args.bytes.now args.words c.split_at.result.0.now c.split_at-2.result.1.now c.header_of-header.ensures.words_is c.split_at.ensures.front c.split_at-2.ensures.back in
    let s =
    image_read c.args.bytes.now c.split_at-2.result.1.now args found (λ i. omega (arith, c.type_inv.bytes i)) c.in_default.ensures.fault c.header_of-header.ensures row c.in_ok-found.ensures.ok refl in
    record { spelled = s; sound = s.sound; no_fault = spelled_has_no_fault c.args.bytes.now args s; fault = tt }
