use Rattle.std.proofs.Common.{◌∷◌, [], ap, sym, subst, ◌∙◌}
use Rattle.suspend_image.specs.Words.{word_bytes}
use Rattle.suspend_image.specs.Sheets.{HasRoom, appended}
use Rattle.suspend_image.proofs.Sheets.SpellingLemmas.{thread_in_two, first_has_room, second_has_room, both_appended}
use Rattle.suspend_image.proofs.writing.rows.write_thread.Goals as goal

pub push_words-requires : goal.push_words-requires
push_words-requires c =
    let t = c.args.thread.now in
    first_has_room c.args.sheet.now (word_bytes (t.pid ∷ t.tid ∷ t.pc ∷ t.state ∷ t.waits ∷ [])) (word_bytes t.regs) (subst (HasRoom c.args.sheet.now) (thread_in_two t) c.requires)

pub push_words-requires-2 : goal.push_words-requires-2
push_words-requires-2 c =
    let t = c.args.thread.now in
    rw c.push_words.ensures
    (second_has_room c.args.sheet.now (word_bytes (t.pid ∷ t.tid ∷ t.pc ∷ t.state ∷ t.waits ∷ [])) (word_bytes t.regs) (subst (HasRoom c.args.sheet.now) (thread_in_two t) c.requires))

pub returns : goal.returns
returns c =
    let t = c.args.thread.now in
    let first = word_bytes (t.pid ∷ t.tid ∷ t.pc ∷ t.state ∷ t.waits ∷ []) in
    c.push_words-2.ensures ∙ ap (appended (word_bytes t.regs)) c.push_words.ensures ∙ both_appended c.args.sheet.now first (word_bytes t.regs)
    ∙ ap (λ bytes. appended bytes c.args.sheet.now) (sym (thread_in_two t))
