-- How long a front is.
use Rattle.std.proofs.Common.{◌≤◌}
use Rattle.base_head.proofs.FrontTexts.{header-valid}
use Rattle.base_head.specs.Heads.{FileHead, IsHead, HasText}
use Rattle.base_head.specs.Headers.{front_length, header_of}
use Rattle.word_pages.specs.declared.version.Version.{Version}
use Rattle.database_file.proofs.FrontBytes.{front-low}

pub front-short : (version : Version) (head : FileHead) → IsHead head → HasText version head → front_length (header_of version head) ≤ 368
front-short version head is takes = front-low (header_of version head) (header-valid version head is takes)
