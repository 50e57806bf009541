use Rattle.std.proofs.Common.{refl, ◌∙◌, ℕ, List, Vec, Global, length, slice_index, sym, ap, subst, arith}
use Rattle.std.proofs.lemmas.Result.{err_from_is_err_and}
use Rattle.std.specs.Option.{option_copied}
use Rattle.outside_log.specs.Files.{bytes_from}
use Rattle.word_pages.specs.Flaws.{LieWithin, unpacked}
use Rattle.interval_words.specs.Numbers.{word_of}
use Rattle.database_file.specs.Paged.{IsPage, IsPageOf}
use Rattle.database_file.proofs.KeptPages.{added, found, moved, used}
use Rattle.outside_log.specs.Log.{standing}
use Rattle.outside_log.specs.Readings.{is_faithful}
use Rattle.outside_log.proofs.Readings.{reads-before, reads-file, reads-none}
use Rattle.database_file.proofs.kept.word_on.Goals as goal

pub word_in-requires-clause-state : goal.word_in-requires-clause-state
word_in-requires-clause-state g c =
    let pages = c.args.pages.now in
    let page = found (λ e. IsPage pages e.0 e.1.items) c.args.kept.now.entries c.args.spot.page c.in-Some.words.now c.requires.right (sym c.get.ensures.value ∙ ap option_copied c.in-Some.is) in
    omega (arith, c.requires.state, page.long, ap (λ (words : List ℕ). length words) c.deref.ensures.value)

pub word_in-requires-clause-within : goal.word_in-requires-clause-within
word_in-requires-clause-within g c =
    let pages = c.args.pages.now in
    let page = found (λ e. IsPage pages e.0 e.1.items) c.args.kept.now.entries c.args.spot.page c.in-Some.words.now c.requires.right (sym c.get.ensures.value ∙ ap option_copied c.in-Some.is) in
    subst (LieWithin pages.bound) (sym c.deref.ensures.value) page.within

pub returns-in-Some-clause-told : goal.returns-in-Some-clause-told
returns-in-Some-clause-told g c tells =
    let pages = c.args.pages.now in
    let bytes = bytes_from pages.at (standing (g.F.Files.log c.args.files.now) c.args.name.now) in
    let page = found (λ e. IsPageOf pages bytes e.0 e.1.items) c.args.kept.now.entries c.args.spot.page c.in-Some.words.now (c.requires.of_file tells) (sym c.get.ensures.value ∙ ap option_copied c.in-Some.is) in
    (page.right, c.word_in.ensures.word ∙ ap (λ (words : List ℕ). unpacked (slice_index words (word_of c.args.spot.end c.args.spot.state))) (c.deref.ensures.value ∙ page.holds))

pub returns-in-Some-clause-right : goal.returns-in-Some-clause-right
returns-in-Some-clause-right g c =
    used (λ e. IsPage c.args.pages.now e.0 e.1.items) c.args.kept.now c.get.follows.lender-at-none c.args.spot.page c.requires.right c.get.follows.holds-at-none

pub returns-in-Some-clause-of_file : goal.returns-in-Some-clause-of_file
returns-in-Some-clause-of_file g c tells =
    let pages = c.args.pages.now in
    let bytes = bytes_from pages.at (standing (g.F.Files.log c.args.files.now) c.args.name.now) in
    used (λ e. IsPageOf pages bytes e.0 e.1.items) c.args.kept.now c.get.follows.lender-at-none c.args.spot.page (c.requires.of_file tells) c.get.follows.holds-at-none

pub returns-in_err-words-clause-right : goal.returns-in_err-words-clause-right
returns-in_err-words-clause-right g c =
    used (λ e. IsPage c.args.pages.now e.0 e.1.items) c.args.kept.now c.get.follows.lender-at-none c.args.spot.page c.requires.right c.get.follows.holds-at-none

pub returns-in_err-words-clause-of_file : goal.returns-in_err-words-clause-of_file
returns-in_err-words-clause-of_file g c =
    let pages = c.args.pages.now in
    let held = standing (g.F.Files.log c.args.files.now) c.args.name.now in
    moved pages (is_faithful (g.F.Files.log c.args.files.now)) (is_faithful (g.F.Files.log c.read_page.new.files)) held (standing (g.F.Files.log c.read_page.new.files) c.args.name.now) c.get.follows.lender-at-none.entries (reads-before c.read_page.ensures.reads) (reads-file c.read_page.ensures.reads c.args.name.now)
    (λ tells. used (λ e. IsPageOf pages (bytes_from pages.at held) e.0 e.1.items) c.args.kept.now c.get.follows.lender-at-none c.args.spot.page (c.requires.of_file tells) c.get.follows.holds-at-none)

pub returns-in_err-put-clause-right : goal.returns-in_err-put-clause-right
returns-in_err-put-clause-right g c =
    rw c.in_err-put.ensures.err (used (λ e. IsPage c.args.pages.now e.0 e.1.items) c.args.kept.now c.get.follows.lender-at-none c.args.spot.page c.requires.right c.get.follows.holds-at-none)

pub returns-in_err-put-clause-of_file : goal.returns-in_err-put-clause-of_file
returns-in_err-put-clause-of_file g c =
    let pages = c.args.pages.now in
    let held = standing (g.F.Files.log c.args.files.now) c.args.name.now in
    rw c.in_err-put.ensures.err (moved pages (is_faithful (g.F.Files.log c.args.files.now)) (is_faithful (g.F.Files.log c.read_page.new.files)) held (standing (g.F.Files.log c.read_page.new.files) c.args.name.now) c.get.follows.lender-at-none.entries (reads-before c.read_page.ensures.reads) (reads-file c.read_page.ensures.reads c.args.name.now)
    (λ tells. used (λ e. IsPageOf pages (bytes_from pages.at held) e.0 e.1.items) c.args.kept.now c.get.follows.lender-at-none c.args.spot.page (c.requires.of_file tells) c.get.follows.holds-at-none))

pub returns-clause-right : goal.returns-clause-right
returns-clause-right g c =
    let P = λ (e : ℕ × Vec ℕ Global). IsPage c.args.pages.now e.0 e.1.items in
    added P c.get.follows.lender-at-none c.put.new.self c.args.spot.page c.in_ok-words.words (used P c.args.kept.now c.get.follows.lender-at-none c.args.spot.page c.requires.right c.get.follows.holds-at-none) c.in_ok-words.ensures.right c.in_ok-put.ensures.entries

pub returns-clause-of_file : goal.returns-clause-of_file
returns-clause-of_file g c all =
    let pages = c.args.pages.now in
    let held = standing (g.F.Files.log c.args.files.now) c.args.name.now in
    let P = λ (e : ℕ × Vec ℕ Global). IsPageOf pages (bytes_from pages.at held) e.0 e.1.items in
    moved pages (is_faithful (g.F.Files.log c.read_page.new.files)) (is_faithful (g.F.Files.log c.read_page.new.files)) held (standing (g.F.Files.log c.read_page.new.files) c.args.name.now) c.put.new.self.entries (λ is. is) (reads-file c.read_page.ensures.reads c.args.name.now)
    (λ all. added P c.get.follows.lender-at-none c.put.new.self c.args.spot.page c.in_ok-words.words (used P c.args.kept.now c.get.follows.lender-at-none c.args.spot.page (c.requires.of_file (reads-before c.read_page.ensures.reads all)) c.get.follows.holds-at-none) (c.in_ok-words.ensures.told all) c.in_ok-put.ensures.entries) all

pub returns-in-Some-clause-reads : goal.returns-in-Some-clause-reads
returns-in-Some-clause-reads g c = reads-none _

pub returns-in_err-words-clause-within : goal.returns-in_err-words-clause-within
returns-in_err-words-clause-within g c = let p = err_from_is_err_and c.from_residual.result c.from_residual.ensures.1 in rw p.1 tt

pub returns-in_err-words-clause-later : goal.returns-in_err-words-clause-later
returns-in_err-words-clause-later g c = c.read_page.ensures.later

pub returns-in_err-words-clause-reads : goal.returns-in_err-words-clause-reads
returns-in_err-words-clause-reads g c = c.read_page.ensures.reads

pub returns-in_err-put-clause-within : goal.returns-in_err-put-clause-within
returns-in_err-put-clause-within g c = let p = err_from_is_err_and c.from_residual-in_err-put.result c.from_residual-in_err-put.ensures.1 in rw p.1 tt

pub returns-in_err-put-clause-later : goal.returns-in_err-put-clause-later
returns-in_err-put-clause-later g c = c.read_page.ensures.later

pub returns-in_err-put-clause-reads : goal.returns-in_err-put-clause-reads
returns-in_err-put-clause-reads g c = c.read_page.ensures.reads

pub returns-in_err-put-clause-told : goal.returns-in_err-put-clause-told
returns-in_err-put-clause-told g c _ = let p = err_from_is_err_and c.from_residual-in_err-put.result c.from_residual-in_err-put.ensures.1 in rw (p.1, p.2) tt

pub returns-in-Some-clause-unread : goal.returns-in-Some-clause-unread
returns-in-Some-clause-unread g c _ = refl

pub returns-in-Some-clause-later : goal.returns-in-Some-clause-later
returns-in-Some-clause-later g c = omega arith

pub returns-clause-later : goal.returns-clause-later
returns-clause-later g c = c.read_page.ensures.later

pub returns-clause-reads : goal.returns-clause-reads
returns-clause-reads g c = c.read_page.ensures.reads
