use Rattle.base_scan.proofs.sides.Listed.of_rank.Goals as goal

pub returns-clause-listed : goal.returns-clause-listed
returns-clause-listed c = record {
  valid = c.unrank-layout.ensures.valid;
  many = c.unrank-layout.ensures.checkers;
  points = c.of.ensures;
  side = c.of-2.ensures;
}
