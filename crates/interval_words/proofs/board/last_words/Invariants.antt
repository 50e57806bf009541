use Rattle.std.proofs.Common.{◌≡◌, take}
use Rattle.std.specs.Slots.{slots_items}
use Rattle.interval_words.proofs.board.last_words.Given as goal

abbrev pub invariant-loop-place : goal.invariant-loop-place
invariant-loop-place l = l.list.items ≡ take l.place (slots_items l.last.words)
