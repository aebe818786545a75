-- The messages of a seat, and a server with its messages.
use Rattle.std.proofs.Common.{◌≡◌, ℕ, ◌+◌, ◌*◌, ◌≤◌, List, [], ◌∷◌, ◌++◌, map, length, refl, sym, ap, subst, ◌∙◌, append_assoc, append-nil, arith}
use Rattle.std.specs.Prelude.{All}
use Rattle.std.specs.List.{flat_map}
use Rattle.std.proofs.lemmas.Grind.{flat_map-append}
use Rattle.std.proofs.lemmas.List.{length-append, length-map, map-append}
use Rattle.std.proofs.lemmas.List.Elements.{All-nil, All-push}
use Rattle.msg_queue.specs.Seats.{message_of}
use Rattle.msg_queue.specs.declared.held.Held.{Held}
use Rattle.suspend_image.proofs.Sheets.SpellingLemmas.{length-word_bytes, none_appended, server_in_four, server_middle}
use Rattle.suspend_image.specs.Sheets.{HasRoom, SheetBytes, appended}
use Rattle.suspend_image.specs.Spelling.{message_bytes, server_bytes}
use Rattle.suspend_image.specs.Words.{word_bytes}
use Rattle.snapshot_rows.specs.declared.state.MessageRow.{MessageRow}
use Rattle.snapshot_rows.specs.declared.state.ServerRow.{ServerRow}
use Rattle.suspend_image.specs.SavedRows.{message_row}
use Rattle.xk_base.specs.declared.messages.Message.{Message}
use Rattle.save_path.specs.Fitting.{IsMessageFit}
use Rattle.save_path.specs.Written.{Appends, Fits}
use Rattle.save_path.proofs.SheetLemmas.{appends_both, fits_behind, fits_less, has_room}
use Rattle.save_path.proofs.SizeLemmas.{length-message}

-- The messages before those that are left were appended, and each of them fits.
pub record HasAppended (all left : List Message) (start sheet : SheetBytes) : Type 0 where
  pub done : List Message
  pub split : done ++ left ≡ all
  pub text : Appends start sheet (flat_map message_bytes (map message_row done)) (44 * length done)
  pub fit : All IsMessageFit done

pub none_so_far : (all left : List Message) (start : SheetBytes) → left ≡ all → HasAppended all left start start
none_so_far all left start e = record {
  done = [];
  split = e;
  text = record { is = none_appended start; few = omega arith };
  fit = All-nil IsMessageFit;
}

pub one_more : (all left rest : List Message) (m : Message) (start sheet new : SheetBytes) → HasAppended all left start sheet → left ≡ m ∷ rest
    → new ≡ appended (message_bytes (message_row m)) sheet → IsMessageFit m → HasAppended all rest start new
one_more all left rest m start sheet new h e is fit =
    let done = h.done in
    let so_far : List ℕ = flat_map message_bytes (map message_row done) in
    let one : List ℕ = message_bytes (message_row m) in
    let this : Appends sheet new one 44 = record { is = is; few = length-message (message_row m) fit.four } in
    let both : Appends start new (so_far ++ one) (44 * length done + 44) = appends_both start sheet new so_far one (44 * length done) 44 h.text this in
    let text : flat_map message_bytes (map message_row (done ++ m ∷ [])) ≡ so_far ++ one =
    ap (λ (rows : List MessageRow). flat_map message_bytes rows) (map-append message_row done (m ∷ []))
    ∙ flat_map-append message_bytes (map message_row done) (message_row m ∷ []) ∙ ap (λ (bs : List ℕ). so_far ++ bs) (append-nil one) in
    let size = ap (λ (bs : List ℕ). length bs) text in
    let many = length-append done (m ∷ []) in
    let few = both.few in
    record {
      done = done ++ m ∷ [];
      split = append_assoc done (m ∷ []) rest ∙ ap (λ (ms : List Message). done ++ ms) (sym e) ∙ h.split;
      text = record { is = both.is ∙ ap (λ (bs : List ℕ). appended bs start) (sym text); few = omega arith };
      fit = All-push IsMessageFit done m h.fit fit;
    }

-- there is room for the next
pub room_for_next : (all left rest : List Message) (m : Message) (row : MessageRow) (start sheet : SheetBytes) → HasAppended all left start sheet
    → left ≡ m ∷ rest → length row.words ≡ 4 → Fits start (44 * length all) → HasRoom sheet (message_bytes row)
room_for_next all left rest m row start sheet h e four fits =
    let done = h.done in
    let many = sym (length-append done left) ∙ ap (λ (ms : List Message). length ms) h.split in
    let some = ap (λ (ms : List Message). length ms) e in
    let room : Fits sheet 44 = fits_behind start sheet (flat_map message_bytes (map message_row done)) (44 * length done) 44 h.text
    (fits_less start (44 * length all) (44 * length done + 44) fits (omega arith)) in
    has_room sheet 44 (message_bytes row) room (length-message row four)

-- where none is left
module _ (all left : List Message) (start sheet : SheetBytes) (h : HasAppended all left start sheet) (none : left ≡ []) where
  all_done : h.done ≡ all
  all_done = sym (append-nil h.done) ∙ ap (λ (ms : List Message). h.done ++ ms) (sym none) ∙ h.split

  pub all_appended : Appends start sheet (flat_map message_bytes (map message_row all)) (44 * length all)
  all_appended = subst (λ (ms : List Message). Appends start sheet (flat_map message_bytes (map message_row ms)) (44 * length ms)) all_done h.text

  pub all_fit : All IsMessageFit all
  all_fit = subst (λ (ms : List Message). All IsMessageFit ms) all_done h.fit

-- ---- the messages of a seat, as they are told

-- they are as many as are told
pub told_many : (xs : List Held) (told : List Message) (many : ℕ) → told ≡ map message_of xs → many ≡ length told
    → many ≡ length (map message_row (map message_of xs))
told_many xs told many is count = count ∙ ap (λ (ms : List Message). length ms) is ∙ sym (length-map (map message_of xs) message_row)

pub told_length : (xs : List Held) (told : List Message) → told ≡ map message_of xs → length told ≡ length xs
told_length xs told is = ap (λ (ms : List Message). length ms) is ∙ length-map xs message_of

pub told_appended : (xs : List Held) (told : List Message) (many : ℕ) (old new : SheetBytes) → told ≡ map message_of xs → many ≡ length told
    → Appends old new (flat_map message_bytes (map message_row told)) (44 * length told)
    → Appends old new (flat_map message_bytes (map message_row (map message_of xs))) (44 * many)
told_appended xs told many old new is count appends =
    subst (λ (ms : List Message). Appends old new (flat_map message_bytes (map message_row ms)) (44 * many)) is
    (subst (λ n. Appends old new (flat_map message_bytes (map message_row told)) (44 * n)) (sym count) appends)

-- ---- a server

-- a piece of words
pub words_appended : (old new : SheetBytes) (numbers : List ℕ) (n : ℕ) → new ≡ appended (word_bytes numbers) old → length numbers ≡ n
    → Appends old new (word_bytes numbers) (4 * n)
words_appended old new numbers n is many = let size = length-word_bytes numbers in record { is = is; few = omega arith }

pub server_appended : (row : ServerRow) (old one two three new : SheetBytes) (sid : List ℕ) (serial pid queued held : ℕ) → sid ≡ row.sid → length sid ≡ 4
    → serial ≡ row.serial
    → pid ≡ row.pid → queued ≡ length row.queued → held ≡ length row.held → one ≡ appended (word_bytes sid) old
    → two ≡ appended (word_bytes (serial ∷ pid ∷ queued ∷ held ∷ [])) one → Appends two three (flat_map message_bytes row.queued) (44 * queued)
    → Appends three new (flat_map message_bytes row.held) (44 * held) → queued + held ≤ 128 → Appends old new (server_bytes row) 5664
server_appended row old one two three new sid serial pid queued held is_sid four is_serial is_pid is_queued is_held a b c d few =
    let q = flat_map message_bytes row.queued in
    let h = flat_map message_bytes row.held in
    let middle : word_bytes (serial ∷ pid ∷ queued ∷ held ∷ []) ≡ server_middle row =
    λ i. word_bytes (is_serial i ∷ is_pid i ∷ is_queued i ∷ is_held i ∷ []) in
    let first : Appends old one (word_bytes sid) 16 = words_appended old one sid 4 a four in
    let second : Appends one two (word_bytes (serial ∷ pid ∷ queued ∷ held ∷ [])) 16 = words_appended one two (serial ∷ pid ∷ queued ∷ held ∷ []) 4 b refl in
    let messages : Appends two new (q ++ h) (44 * queued + 44 * held) = appends_both two three new q h (44 * queued) (44 * held) c d in
    let back = appends_both one two new (word_bytes (serial ∷ pid ∷ queued ∷ held ∷ [])) (q ++ h) 16 (44 * queued + 44 * held) second messages in
    let whole = appends_both old one new (word_bytes sid) (word_bytes (serial ∷ pid ∷ queued ∷ held ∷ []) ++ (q ++ h)) 16 (16 + (44 * queued + 44 * held))
    first back in
    let text : word_bytes sid ++ (word_bytes (serial ∷ pid ∷ queued ∷ held ∷ []) ++ (q ++ h)) ≡ server_bytes row =
    (λ i. word_bytes (is_sid i) ++ (middle i ++ (q ++ h))) ∙ sym (server_in_four row) in
    let size = ap (λ (bs : List ℕ). length bs) text in
    let most = whole.few in
    record {
      is = whole.is ∙ ap (λ (bs : List ℕ). appended bs old) text;
      few = omega arith;
    }

-- room for the pieces of a server
pub record SeatRoom (old : SheetBytes) (words : List ℕ) : Type 0 where
  pub sid : HasRoom old (word_bytes words)
  pub middle : (one : SheetBytes) (a b c d : ℕ) → one ≡ appended (word_bytes words) old → HasRoom one (word_bytes (a ∷ b ∷ c ∷ d ∷ []))
  pub queued : (one two : SheetBytes) (a b c d : ℕ) → one ≡ appended (word_bytes words) old → two ≡ appended (word_bytes (a ∷ b ∷ c ∷ d ∷ [])) one
      → (queued : ℕ) → queued ≤ 128 → Fits two (44 * queued)
  pub held : (one two three : SheetBytes) (a b c d : ℕ) → one ≡ appended (word_bytes words) old → two ≡ appended (word_bytes (a ∷ b ∷ c ∷ d ∷ [])) one
      → (messages : List ℕ) (queued held : ℕ) → Appends two three messages (44 * queued) → queued + held ≤ 128 → Fits three (44 * held)

pub seat_room : (old : SheetBytes) (sid : List ℕ) → length sid ≡ 4 → Fits old 5664 → SeatRoom old sid
seat_room old sid four fits =
    let first : (one : SheetBytes) → one ≡ appended (word_bytes sid) old → Fits one 5648 =
    λ one is. fits_behind old one (word_bytes sid) 16 5648 (words_appended old one sid 4 is four) fits in
    let second : (one two : SheetBytes) (a b c d : ℕ) → one ≡ appended (word_bytes sid) old → two ≡ appended (word_bytes (a ∷ b ∷ c ∷ d ∷ [])) one
    → Fits two 5632 =
    λ one two a b c d is so. fits_behind one two (word_bytes (a ∷ b ∷ c ∷ d ∷ [])) 16 5632 (words_appended one two (a ∷ b ∷ c ∷ d ∷ []) 4 so refl)
    (first one is) in
    record {
      sid = has_room old 5664 (word_bytes sid) fits (let size = length-word_bytes sid in omega arith);
      middle = λ one a b c d is. has_room one 5648 (word_bytes (a ∷ b ∷ c ∷ d ∷ [])) (first one is)
          (let size = length-word_bytes (a ∷ b ∷ c ∷ d ∷ []) in omega arith);
      queued = λ one two a b c d is so queued few. fits_less two 5632 (44 * queued) (second one two a b c d is so) (omega arith);
      held = λ one two three a b c d is so messages queued held appends few.
          fits_behind two three messages (44 * queued) (44 * held) appends (fits_less two 5632 (44 * queued + 44 * held) (second one two a b c d is so)
          (omega arith));
    }
