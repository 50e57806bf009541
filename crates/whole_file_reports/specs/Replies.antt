-- The report of a reply: what a state guarantees one who follows a file's advice against the best reply, what it brings the side that
-- replies, and the pair that the file itself has.
use Rattle.std.specs.Prelude.{ℕ, List, ◌++◌, codes}
use Rattle.position_rank.specs.Placement.{Placement}
use Rattle.position_text.specs.Text.{position_text}
use Rattle.directed_fixed.specs.Bounds.{Bounds}
use Rattle.cube_actions.specs.declared.name.KindName.{KindName}
use Rattle.cube_text.specs.Texts.{kind_text}
use Rattle.equity_report.specs.Reports.{line, points_text}

-- the position and the kind, and the three pairs in points
abbrev pub reply_text : Placement → KindName → Bounds → Bounds → Bounds → List ℕ
reply_text p kind follow reply base =
    line (codes "position") (position_text p) ++ line (codes "kind") (kind_text kind)
    ++ line (codes "follow") (points_text follow) ++ line (codes "reply") (points_text reply)
    ++ line (codes "base") (points_text base)
