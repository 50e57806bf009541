-- The files of a match's scores.
use Rattle.std.specs.Prelude.{ℕ, List, ◌++◌, codes}
use Rattle.cube_text.specs.Texts.{score_text}
use Rattle.cube_actions.specs.Scores.{MatchScore}

-- the name of a score's file
abbrev pub score_file : List ℕ → MatchScore → List ℕ
score_file prefix score = prefix ++ codes "." ++ score_text score
