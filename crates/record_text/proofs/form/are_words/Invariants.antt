use Rattle.std.proofs.Common.{◌≡◌, drop}
use Rattle.record_text.specs.Forms.{go_on_as_words, are_words}
use Rattle.record_text.proofs.form.are_words.Given as goal

abbrev pub invariant-loop-byte : goal.invariant-loop-byte
invariant-loop-byte l = go_on_as_words l.word_is_empty (drop l.byte-index l.text) ≡ are_words l.text
