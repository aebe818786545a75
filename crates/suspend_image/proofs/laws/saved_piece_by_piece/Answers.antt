use Rattle.suspend_image.proofs.Saved.SavingLemmas.{saving_begun, piece_has_room, piece_saved, saved_whole}
use Rattle.suspend_image.proofs.laws.saved_piece_by_piece.Goals as goal

pub returns : goal.returns
returns c = record { begun = saving_begun; room = piece_has_room; next = piece_saved; end = saved_whole }
