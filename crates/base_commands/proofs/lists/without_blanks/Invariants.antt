use Rattle.std.proofs.Common.{◌≡◌, ◌+◌, ◌≤◌, length, take}
use Rattle.std.specs.List.{suffix_len}
use Rattle.base_commands.specs.Lists.{is_blank}
use Rattle.base_commands.proofs.lists.without_blanks.Given as goal

abbrev pub invariant-blanks : goal.invariant-blanks
invariant-blanks l =
    (l.end ≤ length l.text) × (l.end + suffix_len is_blank l.text ≡ length l.text + suffix_len is_blank (take l.end l.text))

abbrev pub decreases-blanks : goal.decreases-blanks
decreases-blanks l = l.end
