use Rattle.std.proofs.Common.{rules, ◌≡◌, ◌∙◌, ℕ, List, [], Option, Result, Err, Vec, length, sym, arith, ap, subst}
use Rattle.std.specs.Global.{Global}
use Rattle.std.proofs.lemmas.Result.{err_from_is_err_and}
use Rattle.outside_log.specs.Files.{bytes_from}
use Rattle.outside_log.specs.Log.{standing}
use Rattle.outside_log.proofs.Readings.{reads-before, reads-both, reads-file, reads-none}
use Rattle.database_file.specs.declared.batch.Batch.{Batch}
use Rattle.database_file.specs.declared.pages.PagesStop.{PagesStop}
use Rattle.database_file.specs.Batches.{HasComeTo, IsBatch}
use Rattle.database_file.specs.Pages.{page_count}
use Rattle.database_file.proofs.ManyPages.{kept}
use Rattle.database_file.proofs.Batches.{answers_all, answers_stop, fault_says, has_room, reaches_next, stands_first, stands_next}
use Rattle.database_file.proofs.pages.read_pages.Goals as goal

-- what comes of a batch, and the words before it
abbrev Looked : Type 0
Looked = Vec (Result (Vec ℕ Global) PagesStop) Global × Vec ℕ Global

pub batches-init : goal.batches-init
batches-init g c = record {
  read = ([], omega arith, stands_first c.args.pages.now [] c.in_ok-words.words.items c.new-read.result.items c.in_ok-words.ensures.items c.new-read.ensures.items);
  told = λ tells. stands_first c.args.pages.now _ c.in_ok-words.words.items c.new-read.result.items c.in_ok-words.ensures.items c.new-read.ensures.items;
  buf = search rules;
  later = omega arith;
  reads = reads-none _;
}

pub batches-preserved : goal.batches-preserved
batches-preserved g c =
    let pages = c.args.pages.now in
    let batch : Batch = record { first = c.batches.before.past; past = c.min-past.result } in
    let file = standing (g.F.Files.log c.args.files.now) c.args.name.now in
    let (all, few, stands) = c.batches.invariant.read in
    let has = c.in_ok-next.ensures.read in
    let same = reads-file c.batches.invariant.reads c.args.name.now in
    record {
      read = reaches_next pages batch _ _ all c.in_ok-next.next.1.items c.in_ok-next.next.0.items c.requires.pages.some few (c.in_ok-next.ensures.added c.batches.before all (subst (HasComeTo c.args.pages.now c.batches.before all c.batches.words.items) (sym c.deref.ensures.value) stands)) has;
      told = λ tells.
          let there = bytes_from pages.at file in
          let is = subst (λ (file : Option (List ℕ)). IsBatch pages batch has.bytes (bytes_from pages.at file)) same (has.has.is_batch tells) in
          let before = c.in_ok-next.ensures.added c.batches.before there (subst (HasComeTo pages c.batches.before there c.batches.words.items) (sym c.deref.ensures.value) (c.batches.invariant.told (reads-before c.look_and_add.ensures.reads tells))) in
          stands_next pages batch has.bytes there c.in_ok-next.next.1.items c.in_ok-next.next.0.items has.answers is before;
      buf = kept c.batches.buf.len c.look_and_add.new.buf c.deref_mut.result.now c.batches.buf.items c.batches.buf.ok.0 c.look_and_add.ensures.buf (ap (λ (bytes : List ℕ). length bytes) c.deref_mut.ensures.value) ∙ c.batches.invariant.buf;
      later = omega (arith, c.batches.invariant.later, c.look_and_add.ensures.later);
      reads = reads-both _ _ _ c.batches.invariant.reads c.look_and_add.ensures.reads;
    }

pub returns-in_err-next-clause-read : goal.returns-in_err-next-clause-read
returns-in_err-next-clause-read g c =
    let (all, few, stands) = c.batches.invariant.read in
    let p = err_from_is_err_and c.from_residual-in_err-next.result c.from_residual-in_err-next.ensures.1 in
    let stopped = p.1 ∙ ap (λ (stop : PagesStop). Err stop) p.2 in
    (all, rw stopped (answers_stop Looked c.args.pages.now c.batches.before.past all _ (λ (read : Looked). read.1.items) c.in_err-next.field-0.0 (c.in_err-next.ensures.added c.batches.before all (subst (HasComeTo c.args.pages.now c.batches.before all c.batches.words.items) (sym c.deref.ensures.value) stands))))

pub returns-in_err-next-clause-told : goal.returns-in_err-next-clause-told
returns-in_err-next-clause-told g c tells =
    let pages = c.args.pages.now in
    let all = bytes_from pages.at (standing (g.F.Files.log c.args.files.now) c.args.name.now) in
    let p = err_from_is_err_and c.from_residual-in_err-next.result c.from_residual-in_err-next.ensures.1 in
    let stopped = p.1 ∙ ap (λ (stop : PagesStop). Err stop) p.2 in
    let stands = c.batches.invariant.told (reads-before c.look_and_add.ensures.reads tells) in
    rw stopped (answers_stop Looked pages c.batches.before.past all _ (λ (read : Looked). read.1.items) c.in_err-next.field-0.0 (c.in_err-next.ensures.added c.batches.before all (subst (HasComeTo c.args.pages.now c.batches.before all c.batches.words.items) (sym c.deref.ensures.value) stands)))

pub returns-in_err-next-clause-later : goal.returns-in_err-next-clause-later
returns-in_err-next-clause-later g c = omega (arith, c.batches.invariant.later, c.look_and_add.ensures.later)

pub returns-in_err-next-clause-reads : goal.returns-in_err-next-clause-reads
returns-in_err-next-clause-reads g c = reads-both _ _ _ c.batches.invariant.reads c.look_and_add.ensures.reads

pub returns-clause-read : goal.returns-clause-read
returns-clause-read g c =
    let (all, few, stands) = c.batches.invariant.read in
    let whole : c.batches.before.past ≡ page_count c.args.pages.now = omega (arith, stands.there, c.batches-test.false, c.page_count-count.ensures) in
    (all, answers_all c.args.pages.now c.batches.before.past all c.add_words.result whole (c.add_words.ensures c.args.pages.now c.batches.before all (subst (HasComeTo c.args.pages.now c.batches.before all c.batches.words.items) (sym c.deref-2.ensures.value) stands)))

pub returns-clause-told : goal.returns-clause-told
returns-clause-told g c tells =
    let pages = c.args.pages.now in
    let all = bytes_from pages.at (standing (g.F.Files.log c.args.files.now) c.args.name.now) in
    let stands = c.batches.invariant.told tells in
    let whole : c.batches.before.past ≡ page_count pages = omega (arith, stands.there, c.batches-test.false, c.page_count-count.ensures) in
    answers_all pages c.batches.before.past all c.add_words.result whole (c.add_words.ensures pages c.batches.before all (subst (HasComeTo pages c.batches.before all c.batches.words.items) (sym c.deref-2.ensures.value) stands))

pub returns-clause-cause : goal.returns-clause-cause
returns-clause-cause g c = λ fault.
    let (all, few, stands) = c.batches.invariant.read in
    absurd (fault_says _ c.args.pages.now c.batches.before.past all _ _ c.add_words.result (c.add_words.ensures c.args.pages.now c.batches.before all (subst (HasComeTo c.args.pages.now c.batches.before all c.batches.words.items) (sym c.deref-2.ensures.value) stands)) fault)

pub returns-clause-later : goal.returns-clause-later
returns-clause-later g c = c.batches.invariant.later

pub returns-clause-reads : goal.returns-clause-reads
returns-clause-reads g c = c.batches.invariant.reads

pub page_count-count-requires : goal.page_count-count-requires
page_count-count-requires g c = c.requires.pages

pub batch_count-requires : goal.batch_count-requires
batch_count-requires g c = c.requires.pages

pub page_size-requires : goal.page_size-requires
page_size-requires g c = omega (arith, c.requires.pages.few)

pub expect-requires : goal.expect-requires
expect-requires g c κs = λ within. within

pub pass-requires : goal.pass-requires
pass-requires g c κs = λ within. within

pub returns-in_err-buf-clause-told : goal.returns-in_err-buf-clause-told
returns-in_err-buf-clause-told g c tells = let p = err_from_is_err_and c.from_residual.result c.from_residual.ensures.1 in rw (p.1, p.2) tt

pub returns-in_err-buf-clause-read : goal.returns-in_err-buf-clause-read
returns-in_err-buf-clause-read g c = let p = err_from_is_err_and c.from_residual.result c.from_residual.ensures.1 in ([], rw (p.1, p.2) tt)

pub returns-in_err-buf-clause-later : goal.returns-in_err-buf-clause-later
returns-in_err-buf-clause-later g c = omega arith

pub returns-in_err-buf-clause-reads : goal.returns-in_err-buf-clause-reads
returns-in_err-buf-clause-reads g c = reads-none _

pub returns-in_err-words-clause-told : goal.returns-in_err-words-clause-told
returns-in_err-words-clause-told g c tells = let p = err_from_is_err_and c.from_residual-in_err-words.result c.from_residual-in_err-words.ensures.1 in rw (p.1, p.2) tt

pub returns-in_err-words-clause-read : goal.returns-in_err-words-clause-read
returns-in_err-words-clause-read g c = let p = err_from_is_err_and c.from_residual-in_err-words.result c.from_residual-in_err-words.ensures.1 in ([], rw (p.1, p.2) tt)

pub returns-in_err-words-clause-later : goal.returns-in_err-words-clause-later
returns-in_err-words-clause-later g c = omega arith

pub returns-in_err-words-clause-reads : goal.returns-in_err-words-clause-reads
returns-in_err-words-clause-reads g c = reads-none _

pub look_and_add-requires-clause-pages : goal.look_and_add-requires-clause-pages
look_and_add-requires-clause-pages g c κs _ = c.requires.pages

pub look_and_add-requires-clause-some : goal.look_and_add-requires-clause-some
look_and_add-requires-clause-some g c κs _ = omega (arith, c.batches-test.true, c.min-past.ensures, c.min-most.ensures)

pub look_and_add-requires-clause-there : goal.look_and_add-requires-clause-there
look_and_add-requires-clause-there g c κs _ = omega (arith, c.min-past.ensures, c.page_count-count.ensures)

pub look_and_add-requires-clause-bytes : goal.look_and_add-requires-clause-bytes
look_and_add-requires-clause-bytes g c κs _ =
    has_room c.args.pages.now (record { first = c.batches.before.past; past = c.min-past.result }) c.min-most.result _ (omega (arith, c.batches-test.true, c.min-past.ensures, c.min-most.ensures)) (omega (arith, c.min-past.ensures))
    (ap (λ (bytes : List ℕ). length bytes) c.deref_mut.ensures.value ∙ c.batches.invariant.buf)

pub batches-smaller : goal.batches-smaller
batches-smaller g c = omega (arith, c.batches-test.true, c.min-past.ensures, c.min-most.ensures)
