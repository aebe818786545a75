-- Whole pages: each page of a ledger and each orphan has 4096 bytes. The lawful ledger doesn't ask for it; each step keeps it.
use Rattle.std.specs.Prelude.{◌≡◌, ℕ, ◌+◌, ◌<◌, ◌≤◌, ◌==◌, Bool, ◌&&◌, nat_lt, List, length, Some}
use Rattle.std.specs.List.{All, list_all}
use Rattle.ledger_model.specs.Ledger.{Ledger, Bytes, PageName, contents_of}

-- the bytes of a page: 4096 of them
pub record IsPage (bytes : List ℕ) : Type 0 where
  pub size : length bytes ≡ 4096
  pub each : All (λ b. b < 256) bytes

-- .. as a test
abbrev pub is_page : List ℕ → Bool
is_page bytes = (length bytes == 4096) && list_all (λ b. nat_lt b 256) bytes

-- the bytes of each page and of each orphan are those of a page
pub record HasWholePages (ledger : Ledger) : Type 0 where
  pub each : (name : PageName) (bytes : List ℕ) → contents_of ledger name ≡ Some (Bytes bytes) → IsPage bytes

-- bytes that fit a page from an offset on
pub record FitsPage (offset : ℕ) (bytes : List ℕ) : Type 0 where
  pub fits : offset + length bytes ≤ 4096
  pub each : All (λ b. b < 256) bytes
