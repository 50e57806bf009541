use Rattle.interval_words.proofs.Views.{noted-own, noted-more, noted-first, noted-second}
use Rattle.interval_words.proofs.laws.notes_only_tighten.Goals as goal

pub returns : goal.returns
returns c = record {
  told = λ game notes value end p k. noted-own game value notes end p k;
  one_more = noted-more;
  first_of_both = noted-first;
  second_of_both = noted-second;
}
