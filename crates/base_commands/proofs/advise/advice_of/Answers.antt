use Rattle.std.proofs.Common.{◌≡◌, ◌∙◌, IsTrue, rules, subst}
use Rattle.cube_actions.specs.Stakes.{Terms}
use Rattle.outside_log.specs.Log.{standing}
use Rattle.outside_log.specs.Readings.{is_faithful}
use Rattle.turn_rule.specs.Looks.{MeetsOnTurn, Notes, Source}
use Rattle.play_analyser.specs.Advice.{IsCubeAdvice}
use Rattle.base_head.specs.Heads.{stakes_of}
use Rattle.database_file.specs.Paged.{paged_source, paged_source_of}
use Rattle.base_commands.specs.Advises.{AnswersAdvice}
use Rattle.base_commands.proofs.AdviseFiles.{sought-told}
use Rattle.base_commands.proofs.advise.advice_of.Goals as goal

pub returns-clause-told : goal.returns-clause-told
returns-clause-told g c told =
    let base = c.args.base.now in
    let file = standing (g.F.Files.log c.args.files.now) base.name in
    let p = c.args.position.now in
    let k = c.args.kind in
    let terms = c.stakes-stakes.result in
    let stakes : terms ≡ stakes_of base.head = rw c.head.ensures.head at c.stakes-stakes.ensures.stakes in
    let source : paged_source_of c.reader-reader.result.base.now (standing c.reader-reader.result.from.events) ≡ paged_source base.header file = λ i. paged_source_of (c.reader-reader.ensures.base i) (standing (c.reader-reader.ensures.from i)) in
    let later = c.cube_advice.ensures.source ∙ source in
    let faithful : IsTrue (is_faithful (g.F.Files.log c.cube_advice.new.pairs.files.now)) = subst (λ files. IsTrue (is_faithful (g.F.Files.log files))) (Prim.search rules) told in
    subst (λ (t : Terms). AnswersAdvice base.header file t p k c.cube_advice.result) stakes
    (sought-told base.header file (MeetsOnTurn terms p k) (λ (s : Source) (n : Notes). IsCubeAdvice terms p k s n) _ _ _ _ _ c.cube_advice.result source (λ i. record { words = (later i).floor; told = faithful i }) c.cube_advice.ensures.looked)
