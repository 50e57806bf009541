use Rattle.std.proofs.Common.{◌≡◌, ◌+◌, ◌≤◌, not, length, take}
use Rattle.std.specs.List.{suffix_len}
use Rattle.base_commands.specs.Lists.{is_blank}
use Rattle.base_commands.proofs.lists.word_start.Given as goal

abbrev pub invariant-word : goal.invariant-word
invariant-word l =
    (l.start ≤ length l.line) × (l.start + suffix_len (λ byte. not (is_blank byte)) l.line ≡ length l.line + suffix_len (λ byte. not (is_blank byte)) (take l.start l.line))

abbrev pub decreases-word : goal.decreases-word
decreases-word l = l.start
