use Rattle.std.proofs.Common.{◌∙◌, ap, refl, sym}
use Rattle.std.specs.Option.{option_map_or}
use Rattle.server_table.specs.ServersOf.{servers_of}
use Rattle.vm_memory.specs.Memory.{capacity_of, processes}
use Rattle.save_path.proofs.PartLemmas.{numbers_appended, numbers_room, reserved_room}
use Rattle.save_path.proofs.TableLemmas.{byte_is}
use Rattle.save_path.specs.Saved.{saved_machine}
use Rattle.suspend_image.specs.SavedRows.{flag}
use Rattle.save_path.proofs.numbers.write_numbers.Goals as goal

pub push_words-requires : goal.push_words-requires
push_words-requires g c = numbers_room c.args.sheet.now _ _ _ _ _ _ _ _ _ c.requires.room

pub push_words-requires-2 : goal.push_words-requires-2
push_words-requires-2 g c =
    reserved_room c.args.sheet.now c.push_words.new.self _ _ _ _ _ _ _ _ _ c.reserved_words.result c.requires.room c.push_words.ensures
    c.reserved_words.ensures.four

pub returns-clause-words : goal.returns-clause-words
unfolding saved_machine
returns-clause-words g c = λ parts mem servers.
    let armed = c.is_some.ensures in
    numbers_appended (saved_machine g.W.SwapStore.held c.args.numbers parts) c.args.sheet.now c.push_words.new.self c.push_words-2.new.self
    _ _ _ _ _ _ _ _ _ c.reserved_words.result
    (c.cap.ensures ∙ sym (ap (λ o. option_map_or capacity_of o 0) mem)) (c.requires.procs ∙ sym (ap (λ o. option_map_or processes o 0) mem))
    refl c.from.ensures c.from-2.ensures refl (c.next_serial.ensures ∙ sym (ap (λ s. (servers_of s).next) servers))
    (c.from-3.ensures ∙ byte_is c.is_some.result ∙ ap flag armed) c.compare_word.ensures.is
    c.reserved_words.ensures.are c.push_words.ensures c.push_words-2.ensures

pub returns-clause-fit : goal.returns-clause-fit
unfolding saved_machine
returns-clause-fit g c = λ parts. record { compare = c.compare_word.ensures.fit; reserved = c.reserved_words.ensures.fit }
