use Rattle.suspend_image.proofs.Saved.RoomLemmas.{saved_fits}
use Rattle.suspend_image.proofs.laws.saved_state_fits.Goals as goal

pub returns : goal.returns
returns c = saved_fits
