-- A file of bounds whose pages are read one at a time.
use Rattle.std.specs.Prelude.{ℕ, List, Vec}
use Rattle.std.specs.Global.{Global}
use Rattle.base_head.specs.Heads.{FileHead}
use Rattle.base_head.specs.declared.header.Header.{Header}

-- its header, its head and the digest of both, its name, how many pages are kept at most, and those that are, each behind its number
pub record PagedFile : Type 0 where
  pub header : Header
  pub head : FileHead
  pub digest : List ℕ
  pub name : List ℕ
  pub most : ℕ
  pub kept : List (ℕ × Vec ℕ Global)
