-- The sections of a process: the pages that each has, and what may be done there.
use Rattle.std.specs.Prelude.{ℕ, ◌/◌, ◌%◌, Bool, ◌==◌, nat_eq, List}
use Rattle.std.specs.Int.{div_ceil}
use Rattle.std.specs.List.{list_any, range_with_len}
use Rattle.kernel_args.specs.declared.args.Section.{Section}

-- how many pages of 4096 bytes hold this many bytes
abbrev pub page_count : ℕ → ℕ
page_count size = div_ceil size 4096

-- the page numbers of a section: from the page of its address on, as many as its size needs, so none where it is empty
abbrev pub section_pages : Section → List ℕ
section_pages s = range_with_len (s.addr / 4096) (page_count s.size)

-- the page is one of the section
abbrev pub has_page : ℕ → Section → Bool
has_page vpn s = list_any (nat_eq vpn) (section_pages s)

-- some page is one of both sections
abbrev pub shares_page : Section → Section → Bool
shares_page s t = list_any (λ vpn. has_page vpn t) (section_pages s)

-- The flags are a sum of 1 for writable, 2 for zero-filled (`is_zero_filled` of kernel_args) and 4 for executable, and more
-- without effect.
abbrev pub is_writable : Section → Bool
is_writable s = s.flags % 2 == 1

abbrev pub is_executable : Section → Bool
is_executable s = s.flags / 4 % 2 == 1
