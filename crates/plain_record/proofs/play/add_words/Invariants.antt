use Rattle.std.proofs.Common.{◌≡◌, ◌++◌}
use Rattle.std.specs.List.{flat_map}
use Rattle.std.specs.Option.{option_map}
use Rattle.plain_record.specs.Cuts.{parts_left}
use Rattle.plain_record.specs.Plain.{parts, word_read}
use Rattle.plain_record.proofs.Parts.{left_over}
use Rattle.plain_record.proofs.play.add_words.Given as goal

abbrev pub invariant-words : goal.invariant-words
invariant-words l = l.text.items ++ flat_map word_read (parts_left 32 (option_map (λ rest. rest.now) l.rest)) ≡ l.fn.text.items ++ flat_map word_read (parts 32 l.words)

abbrev pub decreases-words : goal.decreases-words
decreases-words l = left_over (option_map (λ rest. rest.now) l.rest)
