-- The line that tells how far a solve has come.
use Rattle.std.specs.Prelude.{ℕ, ◌+◌, ◌-◌, ◌*◌, ◌/◌, min, max, nat_le, if◌then◌else◌, List, [], ◌++◌, codes, decimal}
use Rattle.progress_line.specs.declared.line.Progress.{Progress}

-- how many blocks there are in all rounds, and how many of them were passed; a block may be passed again by no worker, so there are no more
abbrev pub in_all : Progress → ℕ
in_all progress = max 1 (progress.blocks * progress.rounds)

abbrev pub done : Progress → ℕ
done progress = min progress.passed (in_all progress)

-- the round of the block that is passed next, at most the last
abbrev pub round_of : Progress → ℕ
round_of progress = min progress.rounds (done progress / max 1 progress.blocks + 1)

-- how many seconds are left if the rest goes on as what is done
abbrev pub seconds_left : Progress → ℕ
seconds_left progress = progress.seconds * (in_all progress - done progress) / max 1 (done progress)

-- the share of all blocks that were passed, in percent
abbrev pub percent_of : Progress → ℕ
percent_of progress = 100 * done progress / in_all progress

-- words and a number
abbrev pub numbered_text : List ℕ → ℕ → List ℕ
numbered_text words number = words ++ decimal number

-- the seconds left, of which there is no guess before a tenth is done
abbrev pub left_text : Progress → List ℕ
left_text progress = if nat_le 10 (percent_of progress)
    then numbered_text (codes ", ") (seconds_left progress) ++ codes " s left"
    else []

-- the round, the share of all blocks, and the seconds gone and left
abbrev pub progress_text : Progress → List ℕ
progress_text progress =
    numbered_text (codes "round ") (round_of progress)
    ++ numbered_text (codes " of ") progress.rounds
    ++ numbered_text (codes ", ") (percent_of progress)
    ++ numbered_text (codes " %, ") progress.seconds
    ++ codes " s gone" ++ left_text progress
