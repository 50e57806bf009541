use Rattle.std.proofs.Common.{◌≡◌, codes, refl, subst}
use Rattle.word_forms.specs.Form.{is_set}
use Rattle.command_line.specs.Commands.{Asked, show_at_score, show_match_values}
use Rattle.command_line.specs.Reading.{Gives}
use Rattle.command_line.proofs.commands.read_show_match.Goals as goal

pub returns : goal.returns
returns c = λ given has flags.
    let crawford : c.is_set-crawford.result ≡ is_set (codes "crawford") given = c.is_set-crawford.ensures (is_set (codes "crawford") given) (flags (codes "crawford") refl) in
    let post : c.is_set-post.result ≡ is_set (codes "post") given = c.is_set-post.ensures (is_set (codes "post") given) (flags (codes "post") refl) in
    let board : c.is_set-board.result ≡ is_set (codes "board") given = c.is_set-board.ensures (is_set (codes "board") given) (flags (codes "board") refl) in
    let id : c.is_set-id.result ≡ is_set (codes "id") given = c.is_set-id.ensures (is_set (codes "id") given) (flags (codes "id") refl) in
    let asked : show_at_score c.is_set-crawford.result c.is_set-post.result c.is_set-board.result c.is_set-id.result given ≡ show_match_values given = λ i. show_at_score (crawford i) (post i) (board i) (id i) given in
    subst (λ (asked : Asked). Gives asked c.show_at_score.result) asked (c.show_at_score.ensures given has)
