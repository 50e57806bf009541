use Rattle.std.proofs.Common.{◌≡◌, codes, refl, subst}
use Rattle.word_forms.specs.Form.{is_set}
use Rattle.command_line.specs.Commands.{Asked, advise_at_score, advise_match_values}
use Rattle.command_line.specs.Reading.{Gives}
use Rattle.command_line.proofs.commands.read_advise_match.Goals as goal

pub returns : goal.returns
returns c = λ given has flags.
    let crawford : c.is_set-crawford.result ≡ is_set (codes "crawford") given = c.is_set-crawford.ensures (is_set (codes "crawford") given) (flags (codes "crawford") refl) in
    let post : c.is_set-post.result ≡ is_set (codes "post") given = c.is_set-post.ensures (is_set (codes "post") given) (flags (codes "post") refl) in
    let board : c.is_set-board.result ≡ is_set (codes "board") given = c.is_set-board.ensures (is_set (codes "board") given) (flags (codes "board") refl) in
    let take : c.is_set-take.result ≡ is_set (codes "take") given = c.is_set-take.ensures (is_set (codes "take") given) (flags (codes "take") refl) in
    let asked : advise_at_score c.is_set-crawford.result c.is_set-post.result c.is_set-board.result c.is_set-take.result given ≡ advise_match_values given = λ i. advise_at_score (crawford i) (post i) (board i) (take i) given in
    subst (λ (asked : Asked). Gives asked c.advise_at_score.result) asked (c.advise_at_score.ensures given has)
