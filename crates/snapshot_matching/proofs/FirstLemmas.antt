-- The first part that fails, where parts are looked at in their order.
use Rattle.std.proofs.Common.{◌≡◌, ℕ, ◌+◌, ◌-◌, ◌≤◌, ◌<◌, List, [], ◌∷◌, get_or, refl, sym, ap, subst, ◌∙◌, arith}
use Rattle.std.proofs.Common.{inl, inr}
use Rattle.std.proofs.lemmas.Bool.{cases_lt}
use Rattle.machine_model.specs.State.Machine.{Machine}
use Rattle.machine_model.specs.Runs.Matched.{Matched}
use Rattle.snapshot_matching.specs.declared.parts.Part.{Part}
use Rattle.snapshot_matching.specs.declared.parts.Part.TheVariants as parts
use Rattle.snapshot_matching.specs.UnmatchedParts.{number_of, Holds, IsFirstUnmatched}

abbrev pub in_order : List Part
in_order =
    parts.Ledger ∷ parts.Loans ∷ parts.Senders ∷ parts.Receivers ∷ parts.Joiners ∷ parts.Threads ∷ parts.Heaps ∷ parts.Keys ∷ parts.Timer ∷ []

-- each stands by its number
at_number : (part d : Part) → get_or in_order (number_of part - 1) d ≡ part
at_number parts.Ledger d = refl
at_number parts.Loans d = refl
at_number parts.Senders d = refl
at_number parts.Receivers d = refl
at_number parts.Joiners d = refl
at_number parts.Threads d = refl
at_number parts.Heaps d = refl
at_number parts.Keys d = refl
at_number parts.Timer d = refl

from_one : (part : Part) → 1 ≤ number_of part
from_one parts.Ledger = omega arith
from_one parts.Loans = omega arith
from_one parts.Senders = omega arith
from_one parts.Receivers = omega arith
from_one parts.Joiners = omega arith
from_one parts.Threads = omega arith
from_one parts.Heaps = omega arith
from_one parts.Keys = omega arith
from_one parts.Timer = omega arith

same_part : (a b : Part) → number_of a ≡ number_of b → a ≡ b
same_part a b same = sym (at_number a a) ∙ ap (λ (n : ℕ). get_or in_order (n - 1) a) same ∙ at_number b a

-- all parts before a number hold
abbrev pub HoldBelow : Machine → ℕ → Type 0
HoldBelow m number = (part : Part) → number_of part < number → Holds part m

pub hold_none : (m : Machine) → HoldBelow m 1
hold_none m part low = (let some = from_one part in absurd (omega (arith, low)))

pub hold_more : (m : Machine) (part : Part) (number : ℕ) → number_of part ≡ number → Holds part m → HoldBelow m number → HoldBelow m (number + 1)
hold_more m part number is holds below other low = elim (cases_lt (number_of other) number) [
  | inl less ↦ below other less
  | inr high ↦ (
      let same : number_of part ≡ number_of other = omega (arith, low) in
      subst (λ (p : Part). Holds p m) (same_part part other same) holds
      )
]

pub first_of : (m : Machine) (part : Part) (number : ℕ) → number_of part ≡ number → HoldBelow m number → (Holds part m → ⊥) → IsFirstUnmatched m part
first_of m part number is below fails = record { fails = fails; earlier = λ other low. below other (omega (arith, low)) }

pub all_of : (m : Machine) → HoldBelow m 10 → Matched m
all_of m hold =
    let threads = hold parts.Threads (omega arith) in
    let keys = hold parts.Keys (omega arith) in
    record {
      body = record {
        ledger = hold parts.Ledger (omega arith);
        loans = hold parts.Loans (omega arith);
        senders = hold parts.Senders (omega arith);
        receivers = hold parts.Receivers (omega arith);
        joiners = hold parts.Joiners (omega arith);
        threads = threads.0;
        heaps = hold parts.Heaps (omega arith);
        ids = keys.ids;
        pages = keys.pages;
        processes = keys.processes;
        servers = keys.servers;
      };
      rest = record {
        handlers = threads.1;
        claims = keys.claims;
        above = keys.above;
        stepped = keys.stepped;
        timer = hold parts.Timer (omega arith);
      };
    }

pub part_of : (m : Machine) → Matched m → (part : Part) → Holds part m
part_of m matched parts.Ledger = matched.body.ledger
part_of m matched parts.Loans = matched.body.loans
part_of m matched parts.Senders = matched.body.senders
part_of m matched parts.Receivers = matched.body.receivers
part_of m matched parts.Joiners = matched.body.joiners
part_of m matched parts.Threads = (matched.body.threads, matched.rest.handlers)
part_of m matched parts.Heaps = matched.body.heaps
part_of m matched parts.Keys = record {
  ids = matched.body.ids;
  pages = matched.body.pages;
  processes = matched.body.processes;
  servers = matched.body.servers;
  claims = matched.rest.claims;
  above = matched.rest.above;
  stepped = matched.rest.stepped;
}
part_of m matched parts.Timer = matched.rest.timer

-- no two parts are the first
pub first_once : (m : Machine) (one two : Part) → IsFirstUnmatched m one → IsFirstUnmatched m two → number_of one ≡ number_of two
first_once m one two a b = elim (cases_lt (number_of one) (number_of two)) [
  | inl low ↦ absurd (a.fails (b.earlier one low))
  | inr high ↦ elim (cases_lt (number_of two) (number_of one)) [
    | inl low ↦ absurd (b.fails (a.earlier two low))
    | inr other ↦ omega arith
  ]
]
