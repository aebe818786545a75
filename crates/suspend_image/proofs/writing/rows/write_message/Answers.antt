use Rattle.std.proofs.Common.{◌++◌, ap, sym, subst, ◌∙◌}
use Rattle.suspend_image.specs.Words.{word_bytes}
use Rattle.suspend_image.specs.Sheets.{HasRoom, appended}
use Rattle.suspend_image.proofs.Sheets.SpellingLemmas.{message_front, message_end, message_in_three, first_has_room, second_has_room, both_appended}
use Rattle.suspend_image.proofs.writing.rows.write_message.Goals as goal

pub push_words-requires : goal.push_words-requires
push_words-requires c =
    let m = c.args.message.now in
    first_has_room c.args.sheet.now (message_front m) (word_bytes m.words ++ message_end m) (subst (HasRoom c.args.sheet.now) (message_in_three m) c.requires)

pub push_words-requires-2 : goal.push_words-requires-2
push_words-requires-2 c =
    let m = c.args.message.now in
    let room = second_has_room c.args.sheet.now (message_front m) (word_bytes m.words ++ message_end m) (subst (HasRoom c.args.sheet.now) (message_in_three m) c.requires) in
    rw c.push_words.ensures (first_has_room (appended (message_front m) c.args.sheet.now) (word_bytes m.words) (message_end m) room)

pub push_words-requires-3 : goal.push_words-requires-3
push_words-requires-3 c =
    let m = c.args.message.now in
    let room = second_has_room c.args.sheet.now (message_front m) (word_bytes m.words ++ message_end m) (subst (HasRoom c.args.sheet.now) (message_in_three m) c.requires) in
    rw (c.push_words-2.ensures, c.push_words.ensures) (second_has_room (appended (message_front m) c.args.sheet.now) (word_bytes m.words) (message_end m) room)

pub returns : goal.returns
returns c =
    let m = c.args.message.now in
    c.push_words-3.ensures ∙ ap (appended (message_end m)) (c.push_words-2.ensures ∙ ap (appended (word_bytes m.words)) c.push_words.ensures)
    ∙ both_appended (appended (message_front m) c.args.sheet.now) (word_bytes m.words) (message_end m)
    ∙ both_appended c.args.sheet.now (message_front m) (word_bytes m.words ++ message_end m)
    ∙ ap (λ bytes. appended bytes c.args.sheet.now) (sym (message_in_three m))
