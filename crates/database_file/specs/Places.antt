-- The pages of a file where they stand, and what their digests are of.
use Rattle.std.specs.Prelude.{ℕ, ◌-◌, List, ◌++◌, length, take, drop}
use Rattle.base_head.specs.Headers.{digest_place}
use Rattle.database_file.specs.Batches.{size_on}
use Rattle.database_file.specs.Faults.{header_of_file, pages_in_file}
use Rattle.database_file.specs.Pages.{binding_on, place_of}

-- header and starts of a file, of which the head's digest is
abbrev pub head_part : List ℕ → List ℕ
head_part bytes = take (digest_place (header_of_file bytes)) bytes

-- the page of a file with this number, from 0, with its digest
abbrev pub page_part : List ℕ → ℕ → List ℕ
page_part bytes page =
    take (size_on (pages_in_file bytes) page) (drop (place_of (pages_in_file bytes) page) bytes)

-- what the page's digest is of: what the page is bound to, and its pairs
abbrev pub digested : List ℕ → ℕ → List ℕ
digested bytes page = binding_on (pages_in_file bytes) page
    ++ take (length (page_part bytes page) - 32) (page_part bytes page)
