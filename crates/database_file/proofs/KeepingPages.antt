-- Pages that are kept as they are read together.
use Rattle.std.proofs.Common.{◌≡◌, ◌∙◌, ℕ, ◌*◌, ◌+◌, ◌<◌, ◌≤◌, ◌++◌, Bool, List, length, slice_index_or, Option, Result, Ok, Err, Contains, Vec, Global, ◌⊎◌, inl, inr, sym, subst, arith}
use Rattle.std.proofs.lemmas.List.{length-replicate}
use Rattle.std.proofs.Math.ListN.{replicate}
use Rattle.outside_log.specs.Files.{bytes_from}
use Rattle.database_file.specs.declared.batch.Batch.{Batch}
use Rattle.database_file.specs.declared.pages.Pages.{Pages}
use Rattle.database_file.specs.declared.pages.PagesStop.{PagesStop}
use Rattle.database_file.specs.declared.pages.PagesStop.TheVariants.{NoMemory}
use Rattle.database_file.specs.Batches.{AnswersEach, AnswersOn, HasReadBatch, batch_size}
use Rattle.database_file.specs.Pages.{whole_page}
use Rattle.database_file.specs.Paged.{AreOfFile, ArePagesKept, IsPage, IsPageOf, KeepsRead, Kept}
use Rattle.database_file.proofs.Batches.{is_part}
use Rattle.database_file.proofs.KeptPages.{is-page}

abbrev pub Found : Type 0
Found = Result (Vec ℕ Global) PagesStop

-- what comes of one more page
pub one-kept : (first number at : ℕ) (read : List Found) (page : Found) (old kept after : Kept) → KeepsRead first read old kept → number < length read → at ≡ first + number
    → slice_index_or read number (Err NoMemory) ≡ page → ((e : ℕ × Vec ℕ Global) → Contains after e → Contains kept e ⊎ ((e.0 ≡ at) × (page ≡ Ok e.1))) → KeepsRead first read old after
one-kept first number at read page old kept after keeps here place is one e among = elim (one e among) [
  | inl before ↦ keeps e before
  | inr (there, words) ↦ inr (number, here, there ∙ place, is ∙ words)
]

module _ (pages : Pages) (batch : Batch) (read : List Found) (old new : Kept) (keeps : KeepsRead batch.first read old new) where
  module _ (bytes : List ℕ) (few : length bytes ≤ batch_size pages batch) (answers : AnswersEach pages batch bytes read) where
    -- they are pages
    pub kept-right : ArePagesKept pages old → ArePagesKept pages new
    kept-right right page among = elim (keeps page among) [
      | inl before ↦ right page before
      | inr (number, here, at, is) ↦
          let before : List ℕ = replicate (batch.first * whole_page pages) 0 in
          let long : length before ≡ batch.first * whole_page pages = length-replicate (batch.first * whole_page pages) 0 in
          let all : List ℕ = before ++ bytes in
          let told = subst (λ (found : Found). AnswersOn pages (batch.first + number) all found) is (answers.each number (omega (arith, here, answers.many)) all (is_part pages batch before bytes long few)) in
          subst (λ (n : ℕ). IsPage pages n page.1.items) (sym at) (is-page pages (batch.first + number) all page.1 told)
    ]

  -- and of the file where it is told
  pub kept-of-file : (told : Bool) (file : Option (List ℕ)) → HasReadBatch pages batch told file read → AreOfFile pages told file old → AreOfFile pages told file new
  kept-of-file told file has of tells page among = elim (keeps page among) [
    | inl before ↦ of tells page before
    | inr (number, here, at, is) ↦
        let all = bytes_from pages.at file in
        let answer = subst (λ (found : Found). AnswersOn pages (batch.first + number) all found) is (has.answers.each number (omega (arith, here, has.answers.many)) all (has.has.is_batch tells)) in
        subst (λ (n : ℕ). IsPageOf pages all n page.1.items) (sym at) (record { right = answer.0; holds = answer.1 })
  ]
