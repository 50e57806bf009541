-- Marks of the cells that are needed.
use Rattle.std.proofs.Common.{◌≡◌, ◌<◌, ◌∙◌, inl, inr, Bool, true, false, ℕ, set, length, length-set, get_or-set_same, get_or-set_other, All, List, [], replicate, refl, subst, sym, arith}
use Rattle.std.proofs.lemmas.List.{length-replicate}
use Rattle.std.proofs.lemmas.Bool.{cases_eq}
use Rattle.column_sums.specs.declared.cells.Reach.{Reach}
use Rattle.column_sums.specs.declared.moves.DieList.{DieList}
use Rattle.column_sums.specs.MoveLists.{IsEmpty}
use Rattle.column_sums.specs.Needed.{IsNeeded, AreNeeded, AreNeededStill, LeadsToNeeded}

pub mark-needed : (needed : List Bool) (cell : ℕ) → cell < length needed → IsNeeded (set needed cell true) cell
mark-needed needed cell here = get_or-set_same needed cell true false here

pub mark-still : (needed : List Bool) (cell : ℕ) → cell < length needed → AreNeededStill needed (set needed cell true)
mark-still needed cell here = record {
  many = length-set needed cell true;
  kept = λ other is. elim (cases_eq other cell) [
    | inl same ↦ subst (IsNeeded (set needed cell true)) (sym same) (mark-needed needed cell here)
    | inr apart ↦ get_or-set_other needed cell other true false apart ∙ is
  ];
}

pub still-same : (needed : List Bool) → AreNeededStill needed needed
still-same needed = record { many = refl; kept = λ cell is. is }

pub still-again : (old now new : List Bool) → AreNeededStill old now → AreNeededStill now new → AreNeededStill old new
still-again old now new a b = record { many = b.many ∙ a.many; kept = λ cell is. b.kept cell (a.kept cell is) }

pub leads-still : (old new : List Bool) (reach : Reach) → AreNeededStill old new → LeadsToNeeded old reach → LeadsToNeeded new reach
leads-still old new reach still leads = record {
  first = still.kept reach.first leads.first;
  second = still.kept reach.second leads.second;
  third = still.kept reach.third leads.third;
}

-- nothing is listed, so nothing is needed
pub none-needed : (lists : List DieList) → length lists ≡ 6 → All IsEmpty lists → AreNeeded [] lists (replicate 32768 false)
none-needed lists six empty = record {
  many = length-replicate 32768 false;
  listed = λ i h. absurd (omega (arith, h));
  ends = λ i none h k d below. absurd (
      let is = (empty i none (omega (arith, h, six))).reaches in
      omega (arith, subst (λ (reaches : List Reach). k < length reaches) is below));
}
