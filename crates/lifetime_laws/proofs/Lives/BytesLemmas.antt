-- Each deed but a store leaves the bytes of its page.
use Rattle.std.proofs.Common.{Option, Some, sym, ap, ◌∙◌}
use Rattle.std.specs.Option.{option_map}
use Rattle.std.proofs.lemmas.Bool.{false≢true}
use Rattle.ledger_model.specs.Ledger.{Bytes, Contents, Orphan, Page}
use Rattle.lifetime_laws.specs.Bytes.{OnlyStoresChangeBytes}
use Rattle.lifetime_laws.specs.Deeds.{Bereft, Forwarded, GivenBack, Lent, Moved, Reduced, Stays, StaysOrphan, Stored}

abbrev held : Option Page → Option Contents
held o = option_map (λ (x : Page). x.contents) o

abbrev held_by : Option Orphan → Option Contents
held_by o = option_map (λ (x : Orphan). Bytes x.bytes) o

pub bytes_pass : OnlyStoresChangeBytes
bytes_pass before moment _ _ _ (Stays p page was now) none = ap held now ∙ sym (ap held was)
bytes_pass before moment _ _ _ (StaysOrphan q orphan was now) none = ap held_by now ∙ sym (ap held_by was)
bytes_pass before moment _ _ _ (Stored name pid instruction store e) none = absurd (false≢true (sym none))
bytes_pass before moment _ _ _ (Reduced p page right was unlent within now call) none = ap held now ∙ sym (ap held was)
bytes_pass before moment _ _ _ (Lent p page loan kind was unlent now lends sent) none = ap held now ∙ sym (ap held was)
bytes_pass before moment _ _ _ (Forwarded p page loan to was lent now forwarded) none = ap held now ∙ sym (ap held was)
bytes_pass before moment _ _ _ (GivenBack p page loan was lent now ended) none = ap held now ∙ sym (ap held was)
bytes_pass before moment _ _ _ (Moved from to page number was unlent free now left sent) none = ap held now ∙ sym (ap held was)
bytes_pass before moment _ _ _ (Bereft home q orphan free now was number kind dies) none =
    ap held_by now ∙ (ap (λ c. Some c) (sym was.same) ∙ sym (ap held was.stood))
