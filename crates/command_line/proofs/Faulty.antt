-- Words that can't stand in any command.
use Rattle.std.proofs.Common.{◌≡◌, ◌≤◌, false, not, List, [], ◌∷◌, length, None, refl, arith}
use Rattle.std.specs.List.{list_any, position, prefix_len}
use Rattle.std.proofs.lemmas.Bool.Decides.{nat_tests}
use Rattle.word_forms.specs.Form.{Bytes, is_misread}
use Rattle.command_line.specs.Words.{is_faulty}

-- what clap would misread is faulty
misread-faulty : (word : Bytes) → is_faulty word ≡ false → is_misread word ≡ false
misread-faulty [] e = refl
misread-faulty (x ∷ []) e = grind (arith, nat_tests)
misread-faulty (x ∷ y ∷ []) e = grind (arith, nat_tests)
misread-faulty (x ∷ y ∷ z ∷ rest) e = grind (arith, nat_tests)

unread : (words : List Bytes) → length words ≤ prefix_len (λ word. not (is_faulty word)) words → list_any is_misread words ≡ false
unread [] le = refl
unread (word ∷ words) le = grind (arith, nat_tests, misread-faulty word, unread words)

pub none_misread : (words : List Bytes) → position is_faulty words ≡ None → list_any is_misread words ≡ false
none_misread words none = unread words (grind (arith, nat_tests))
