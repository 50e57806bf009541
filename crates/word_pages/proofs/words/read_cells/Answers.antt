use Rattle.std.proofs.Common.{◌≡◌, ◌∙◌, ℕ, ◌*◌, ◌-◌, ◌≤◌, ◌++◌, suc, List, [], ◌∷◌, length, drop, sym, ap₂, arith}
use Rattle.std.proofs.Math.Nat.{mul-le-mul_left}
use Rattle.std.proofs.lemmas.List.{take_more_set}
use Rattle.byteorder.specs.Endian.{big_number}
use Rattle.byteorder.specs.Numbers.{big_from-take}
use Rattle.word_pages.proofs.Texts.{numbers_next, times_more}
use Rattle.word_pages.proofs.words.read_cells.Goals as goal

pub words-preserved : goal.words-preserved
words-preserved g c =
    let i = c.words.i in
    let bytes = c.args.bytes.now in
    let size = g.row.SIZE in
    let more = times_more size i in
    let room : size * suc i ≤ size * length c.args.words.now = mul-le-mul_left size (omega (arith, c.words-test.true)) in
    let read : c.read_uint.result ≡ big_number size (drop (size * i) bytes) =
    c.read_uint.ensures ∙ big_from-take 0 size (length bytes - size * i) (drop (size * i) bytes) (omega (arith, c.requires.long, room, more)) in
    take_more_set c.words.words i c.read_uint.result (omega (arith, c.words-test.true, c.words.auto.words))
    ∙ ap₂ (λ (words : List ℕ) (word : ℕ). words ++ word ∷ []) c.words.invariant read
    ∙ sym (numbers_next size i bytes)
