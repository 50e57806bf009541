use Rattle.std.proofs.Common.{◌≡◌, ℕ, fold, arith, refl, sym, ap, ◌∙◌}
use Rattle.std.proofs.lemmas.List.Sums.{sum_by-take-le}
use Rattle.position_text.specs.TextParts.{add_word}
use Rattle.position_text.proofs.TextPrint.{texts_below, texts-all, texts-none, words-step, sum-step}
use Rattle.position_text.proofs.text.push_side.Goals as goal

pub loop-place-init : goal.loop-place-init
loop-place-init c = record { words = rw texts-all refl; length = omega (arith, sum_by-take-le (λ (x : ℕ). x) c.args.side.now 26) }

pub push_place-requires-clause-room : goal.push_place-requires-clause-room
push_place-requires-clause-room c =
    let step = sum-step c.args.side.now c.loop-place.place c.loop-place-test.true (omega (arith, c.count.ensures.valid.places)) in
    omega (arith, step)

pub loop-place-preserved : goal.loop-place-preserved
loop-place-preserved c =
    let step = sum-step c.args.side.now c.loop-place.place c.loop-place-test.true (omega (arith, c.count.ensures.valid.places)) in
    record {
      words = words-step c.args.side.now c.loop-place.place c.loop-place.text.bytes c.push_place.new.text.bytes c.loop-place-test.true (rw c.count.ensures.count at c.push_place.ensures.words) ∙ c.loop-place.invariant.words;
      length = omega (arith, step);
    }

pub returns-clause-words : goal.returns-clause-words
returns-clause-words c =
    let last : c.loop-place.place ≡ 0 = omega arith in
    sym (ap (fold add_word c.loop-place.text.bytes) (ap (texts_below c.args.side.now) last ∙ texts-none c.args.side.now)) ∙ c.loop-place.invariant.words

pub returns-clause-length : goal.returns-clause-length
returns-clause-length c = omega arith
