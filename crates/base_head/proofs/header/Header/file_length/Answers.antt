use Rattle.std.proofs.Common.{◌≡◌, ◌≤◌, ℕ, ◌*◌, arith}
use Rattle.base_head.proofs.Counts.{digest_place-low, body-low, header-positions-few}
use Rattle.base_head.proofs.header.Header.file_length.Goals as goal

low : (pair pair_2 kinds kinds_2 positions most : ℕ) → pair ≡ pair_2 → kinds ≡ kinds_2 → pair_2 * kinds_2 * positions ≤ most → pair * kinds * positions ≤ most
low pair pair_2 kinds kinds_2 positions most same also few = rw (same, also) few

pub overflow_add-pages : goal.overflow_add-pages
overflow_add-pages c = omega (arith, header-positions-few c.args.self.now c.requires)

pub overflow_mul-result-2 : goal.overflow_mul-result-2
overflow_mul-result-2 c = omega (arith, low _ _ _ _ c.args.self.now.positions _ c.pair_size.ensures.size c.from.ensures (body-low c.args.self.now c.requires))

pub overflow_add-result : goal.overflow_add-result
overflow_add-result c =
    let header = c.args.self.now in
    omega (arith, low _ _ _ _ header.positions _ c.pair_size.ensures.size c.from.ensures (body-low header c.requires), c.front_length.ensures, digest_place-low header c.requires)

pub overflow_add-result-2 : goal.overflow_add-result-2
overflow_add-result-2 c =
    let header = c.args.self.now in
    omega (arith, low _ _ _ _ header.positions _ c.pair_size.ensures.size c.from.ensures (body-low header c.requires), c.front_length.ensures, digest_place-low header c.requires, header-positions-few header c.requires)
