use Rattle.std.proofs.Common.{◌≡◌, ◌∙◌, ◌+◌, ◌≤◌, ◌++◌, ℕ, List, [], min, take, length, Result, Ok, Err, IsOk, OnOk, ap, refl, sym, arith, take_all, inl, inr, le_refl, length-take}
use Rattle.std.proofs.lemmas.Bool.{cases_lt}
use Rattle.plain_record.proofs.front.line_front.Goals as goal

on_ok : {T E P : Type 0} (r : Result T E) → IsOk r → OnOk r P → P
on_ok (Ok x) ok holds = holds
on_ok (Err e) ok holds = cc

all-taken : (line : List ℕ) → take (min (length line) 80) line ≡ take 80 line
all-taken line = elim (cases_lt (length line) 80) [
  | inl short ↦ (
      let all : min (length line) 80 ≡ length line = omega arith in
      rw all (take_all (length line) line (le_refl (length line)) ∙ sym (take_all 80 line (omega arith))))
  | inr long ↦ (let few : min (length line) 80 ≡ 80 = omega arith in rw few refl)
]

pub returns : goal.returns
returns c =
    let line = c.line_at-line.result.now in
    let room : length c.new-front.result.items + length (take c.min.result line) ≤ 80 = omega (arith, ap length c.new-front.ensures, length-take c.min.result line) in
    let added : c.try_extend_from_slice.new.self.items ≡ c.new-front.result.items ++ take c.min.result line =
    on_ok c.try_extend_from_slice.result (c.try_extend_from_slice.ensures.variant.1 room) c.try_extend_from_slice.ensures.ok in
    added ∙ (ap (λ (items : List ℕ). items ++ take c.min.result line) c.new-front.ensures
    ∙ (ap (λ (n : ℕ). take n line) c.min.ensures ∙ (all-taken line ∙ ap (λ (l : List ℕ). take 80 l) c.line_at-line.ensures)))
