use Rattle.std.proofs.Common.{◌≡◌, ◌∙◌, ◌<◌, ◌≤◌, ◌+◌, ◌++◌, ℕ, suc, List, [], ◌∷◌, Option, Err, IsTrue, length, take, refl, subst, ap, add-one, arith}
use Rattle.std.proofs.lemmas.List.{take_all, length-append}
use Rattle.cube_actions.specs.Names.{names_of}
use Rattle.cube_actions.specs.Stakes.{Terms}
use Rattle.turn_rule.specs.States.{pair_of}
use Rattle.database_file.specs.Paged.{word_at}
use Rattle.database_file.specs.PagedFiles.{PagedFile}
use Rattle.base_reports.specs.declared.shown.KindRow.{KindRow}
use Rattle.base_commands.specs.Shows.{AnswersPair, rows_from}
use Rattle.arrayvec.specs.ArrayVec.{ArrayVec}
use Rattle.base_head.specs.declared.header.Header.{Header}
use Rattle.base_commands.proofs.Fitting.{moved}
use Rattle.base_commands.proofs.ShowLaws.{stopped}
use Rattle.base_commands.proofs.LookedUp.{length-rows, one-row-more}
use Rattle.run_endings.proofs.Loaded.{name-of-stakes}
use Rattle.outside_log.specs.Log.{standing}
use Rattle.outside_log.specs.Readings.{is_faithful}
use Rattle.outside_log.proofs.Readings.{reads-before, reads-both, reads-file}
use Rattle.base_commands.proofs.show.rows_of.Goals as goal

pub kinds-preserved : goal.kinds-preserved
kinds-preserved g c =
    let base = c.args.base.now in
    let file = standing (g.F.Files.log c.args.files.now) base.name in
    let u = word_at base.header file in
    let p = c.args.position.now in
    let number = c.kinds.number in
    let header = ap (λ (b : PagedFile). b.header) c.kinds.invariant.base in
    let name = ap (λ (b : PagedFile). b.name) c.kinds.invariant.base in
    let stakes : c.stakes-stakes.result.name ≡ base.header.name = ap (λ (s : Terms). s.name) c.stakes-stakes.ensures.stakes ∙ rw (c.head.ensures.head) (name-of-stakes base.head.name base.head.starts ∙ c.head.ensures.name) in
    let answered = λ (told : IsTrue (is_faithful (g.F.Files.log c.pair_of.new.files))). rw (header, name, reads-file c.kinds.invariant.reads base.name) at c.in_ok-pair.ensures.told told in
    let none : number + 0 ≡ number = omega arith in
    record {
      long = ap (λ (rows : List KindRow). length rows) c.push.ensures.items ∙ length-append c.kinds.rows.items _ ∙ ap (λ (n : ℕ). n + 1) c.kinds.invariant.long;
      rows = λ told.
          let names = names_of base.header.name in
          let kind = c.kind_name.result in
          let added = subst (λ (n : ℕ). take number (rows_from u p 0 names) ++ record { kind = kind; pair = pair_of u p n } ∷ [] ≡ take (suc number) (rows_from u p 0 names)) none (one-row-more u p 0 number names kind (rw stakes at c.kind_name.ensures)) in
          c.push.ensures.items ∙ rw (c.kinds.invariant.rows (reads-before c.pair_of.ensures.reads told), (answered told).1, add-one number) added;
      right = λ told some. (answered told).0;
      base = c.in_ok-pair.ensures.kept ∙ ap (λ (b : PagedFile). record b { kept = c.pair_of.new.base.kept }) c.kinds.invariant.base;
      stakes = c.kinds.invariant.stakes;
      of_file = c.in_ok-pair.ensures.of_file;
      later = omega (arith, c.kinds.invariant.later, c.in_ok-pair.ensures.later);
      reads = reads-both _ _ _ c.kinds.invariant.reads c.in_ok-pair.ensures.reads;
    }

pub returns-clause-told : goal.returns-clause-told
returns-clause-told g c told =
    let base = c.args.base.now in
    let names = names_of base.header.name in
    let all = rows_from (word_at base.header (standing (g.F.Files.log c.args.files.now) base.name)) c.args.position.now 0 names in
    let stakes : c.stakes-stakes.result.name ≡ base.header.name = ap (λ (s : Terms). s.name) c.stakes-stakes.ensures.stakes ∙ rw (c.head.ensures.head) (name-of-stakes base.head.name base.head.starts ∙ c.head.ensures.name) in
    let many : length (names_of c.stakes-stakes.result.name) ≡ length names = rw stakes refl in
    let done : length names ≤ c.kinds.number = omega (arith, c.kinds-test.false, c.kinds-number-end.ensures.named, many) in
    let some : 0 < c.kinds.number = omega (arith, c.kinds-test.false, c.kinds-number-end.ensures.kinds, c.kinds-number-end.ensures.valid.some) in
    (c.kinds.invariant.right told some, c.kinds.invariant.rows told ∙ take_all c.kinds.number all (omega (arith, done, length-rows (word_at base.header (standing (g.F.Files.log c.args.files.now) base.name)) c.args.position.now 0 names)))

pub returns-in_err-pair-clause-reads : goal.returns-in_err-pair-clause-reads
returns-in_err-pair-clause-reads g c = reads-both _ _ _ c.kinds.invariant.reads c.pair_of.ensures.reads

pub returns-in_err-pair-clause-kept : goal.returns-in_err-pair-clause-kept
returns-in_err-pair-clause-kept g c = c.pair_of.ensures.kept ∙ ap (λ (b : PagedFile). record b { kept = c.pair_of.new.base.kept }) c.kinds.invariant.base

pub returns-in_err-pair-clause-told : goal.returns-in_err-pair-clause-told
returns-in_err-pair-clause-told g c told =
    let base = c.args.base.now in
    let header = ap (λ (b : PagedFile). b.header) c.kinds.invariant.base in
    let name = ap (λ (b : PagedFile). b.name) c.kinds.invariant.base in
    let file = standing (g.F.Files.log c.args.files.now) base.name in
    let p = c.args.position.now in
    let k = c.kinds.number in
    let stop = c.in_err-pair.field-0.0 in
    let answers = moved (λ (h : Header) (f : Option (List ℕ)). AnswersPair h f p k (Err stop)) _ base.header _ base.name (standing (g.F.Files.log c.args.files.now)) (standing (g.F.Files.log c.kinds.files)) header name
    (reads-file c.kinds.invariant.reads base.name) (c.in_err-pair.ensures.told told) in
    stopped base.header file p (λ (rows : ArrayVec KindRow). rows.items ≡ rows_from (word_at base.header file) p 0 (names_of base.header.name)) stop c.from_residual.result answers c.from_residual.ensures.1
