use Rattle.std.proofs.Common.{◌≡◌, ◌+◌, ◌≤◌, ◌∷◌, option_map, Option, ap, sym, ◌∙◌, List, ℕ, Bor, arith}
use Rattle.plain_record.specs.Cuts.{parts_left}
use Rattle.plain_record.specs.Plain.{parts}
use Rattle.plain_record.proofs.LineAt.{cut-more, line-past}
use Rattle.plain_record.proofs.front.line_at.Goals as goal

-- the parts that are left, where something stands behind the first or not
left : (part : List ℕ) (x y : Option (Bor (List ℕ))) → x ≡ y → part ∷ parts_left 10 (option_map (λ rest. rest.now) x) ≡ part ∷ parts_left 10 (option_map (λ rest. rest.now) y)
left part x y same = ap (λ (rest : Option (Bor (List ℕ))). part ∷ parts_left 10 (option_map (λ rest. rest.now) rest)) same

pub lines-preserved : goal.lines-preserved
lines-preserved c =
    let left_over = c.lines.invariant ∙ (c.cut.ensures.parts ∙ left c.cut.result.0.now _ _ c.in-Some.is) in
    cut-more c.lines._passed (parts 10 c.args.text.now) c.cut.result.0.now _ (omega arith) left_over

pub returns-in-None : goal.returns-in-None
returns-in-None c =
    let left_over = c.lines.invariant ∙ (c.cut.ensures.parts ∙ left c.cut.result.0.now _ _ c.in-None.is) in
    sym (line-past c.args.number c.lines._passed (parts 10 c.args.text.now) c.cut.result.0.now (omega arith) (omega arith) left_over)
