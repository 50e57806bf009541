-- What the steps of a seat do to its view.
use Rattle.std.specs.Prelude.{◌≡◌, ◌<◌, ◌↔◌, ℕ, Bool, IsTrue, ◌∷◌, ◌++◌, max, nat_lt, if◌then◌else◌}
use Rattle.atomic_table.specs.Seated.{TableId}
use Rattle.atomic_table.specs.Table.{Me, Step}
use Rattle.block_claims.specs.declared.views.ClaimView.{ClaimView}
use Rattle.block_claims.specs.Views.{HasEachOnce, WasFound}

-- the claims of so many blocks, by the table that holds their words
pub record ClaimTable : Type 0 where
  pub table : TableId
  pub blocks : ℕ

-- a table with a word for each block, and no slots
pub record HasWords (table : TableId) (blocks : ℕ) : Type 0 where
  pub many : table.words ≡ blocks
  pub bare : table.slots ≡ 0
  pub some : 0 < table.words

-- a seat at a table, and what it has claimed and noted there
pub record Claimer : Type 0 where
  pub table : TableId
  pub view : ClaimView

-- The word found becomes the greater of itself and the round, which is noted. Where it was below the round, the block is claimed for it.
abbrev pub after_claim : ℕ → ℕ → ℕ → ClaimView → ClaimView
after_claim block round found view = record {
  claims = if nat_lt found round
      then record { block = block; round = round } ∷ view.claims
      else view.claims;
  notes = record { block = block; word = max found round } ∷ view.notes;
}

-- a seat takes in the claims and the notes of another
abbrev pub with_taken : ClaimView → ClaimView → ClaimView
with_taken view other = record {
  claims = view.claims ++ other.claims;
  notes = view.notes ++ other.notes;
}

-- A block was claimed exactly where the word found was below the round. The word was found at a moment at which all was kept.
pub record IsClaimed (block round : ℕ) (before after : Claimer) (answer : Bool) : Type 0 where
  pub found : ℕ
  pub answer_is : IsTrue answer ↔ (found < round)
  pub seat : after ≡ record {
    table = before.table;
    view = after_claim block round found before.view;
  }
  pub moment : WasFound before.view block found

-- what a step of the table that claims a block tells of the word found
pub record StepClaims (step : Step (Unit {0})) (before : Me (Unit {0}) ClaimView) (found : ℕ)
    (after : Me (Unit {0}) ClaimView) : Type 0 where
  pub seat : after ≡ (after_claim step.word step.first found before.0, before.1)
  pub once : HasEachOnce after.0
  pub moment : WasFound before.0 step.word found

-- what a step that only looks tells
pub record StepLooks (step : Step (Unit {0})) (before : Me (Unit {0}) ClaimView) (found : ℕ)
    (after : Me (Unit {0}) ClaimView) : Type 0 where
  pub seat : after ≡ before
  pub once : HasEachOnce after.0
