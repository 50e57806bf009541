-- What is looked up in a file is of its right pages, and so of all words that have the pairs of these.
use Rattle.std.proofs.Common.{◌≡◌, ◌∙◌, ◌<◌, ℕ, zero, suc, ℤ, List, [], ◌∷◌, All, Option, Some, None, inl, inr, refl, sym, ap, subst, arith, length, Result}
use Rattle.std.specs.Option.{option_map}
use Rattle.std.specs.Prelude.{unwrap_or}
use Rattle.std.proofs.lemmas.Option.{none-some}
use Rattle.position_rank.specs.Placement.{Placement}
use Rattle.move_rules.specs.Listing.{Among}
use Rattle.directed_fixed.specs.declared.bounds.End.{End}
use Rattle.directed_fixed.specs.Bounds.{Bounds, IsNoLooser, at, other}
use Rattle.turn_rule.specs.Games.{kinds_of}
use Rattle.turn_rule.specs.Turn.{Words}
use Rattle.turn_rule.specs.Looks.{all_told, Damage, HasDamage, IsPairFor, Meets, Notes, Source, Sought, States}
use Rattle.turn_rule.specs.States.{IsState, IsStateOf}
use Rattle.word_pages.specs.declared.flaws.Flaw.{Flaw}
use Rattle.base_head.specs.Fronts.{bad_of}
use Rattle.base_head.specs.Heads.{FileHead}
use Rattle.base_head.specs.Headers.{IsHeader}
use Rattle.base_head.specs.declared.header.Header.{Header}
use Rattle.outside_log.specs.Files.{Contents}
use Rattle.hyper_outside.specs.declared.outside.LookStop.{LookStop}
use Rattle.cube_actions.specs.declared.name.StakesName.{StakesName}
use Rattle.database_file.proofs.Bases.{kinds-named}
use Rattle.cube_actions.specs.Names.{names_of}
use Rattle.database_file.specs.Faults.{header_of_file}
use Rattle.database_file.specs.Paged.{damage_of, flaw_at, paged_source, told_notes, told_words}
use Rattle.database_file.specs.Texts.{game_in}
use Rattle.database_file.proofs.PagedLooks.{told-right}
use Rattle.database_file.proofs.PageWords.{word-among}
use Rattle.equity_report.specs.declared.refusal.Refusal.TheVariants.{File}
use Rattle.run_endings.specs.Pages.{AnswersSought, HavePairsOf, IsOnBadPage}

-- where a file with these bytes is looked up, and its words there
abbrev pub source_in : List ℕ → Source
source_in bytes = paged_source (header_of_file bytes) (Some bytes)

abbrev pub told_in : List ℕ → Words
told_in bytes = told_words (header_of_file bytes) (Some bytes)

abbrev pub noted_in : List ℕ → Notes
noted_in bytes = told_notes (header_of_file bytes) (Some bytes)

pub all-of : {X : Type 0} (P : X → Type 0) (xs : List X) → ((x : X) → Among x xs → P x) → All P xs
all-of P [] h i d below = absurd (omega arith)
all-of P (x ∷ xs) h zero d below = h x (inl refl)
all-of P (x ∷ xs) h (suc i) d below = all-of P xs (λ y m. h y (inr m)) i d (omega arith)

-- a state without damage stands on a page without a flaw
pub flawless : (flaw : Option Flaw) → option_map damage_of flaw ≡ None → flaw ≡ None
flawless None is = refl
flawless (Some flaw) is = absurd (none-some (damage_of flaw) (sym is))

-- a damage is the first flaw of the state's page
damaged : (flaw : Option Flaw) (damage : Damage) → option_map damage_of flaw ≡ Some damage
    → option_map (λ f. File (bad_of f)) flaw ≡ Some (File (bad_of (record { fault = damage.fault; at = damage.at })))
damaged None damage is = absurd (none-some damage is)
damaged (Some flaw) damage is =
    let same : damage_of flaw ≡ damage = ap (λ (o : Option Damage). unwrap_or o (damage_of flaw)) is in
    ap (λ (d : Damage). Some (File (bad_of (record { fault = d.fault; at = d.at })))) same

pub bad-page : (bytes : List ℕ) (states : States) (damage : Damage) → HasDamage (source_in bytes) states damage
    → IsOnBadPage bytes states (File (bad_of (record { fault = damage.fault; at = damage.at })))
bad-page bytes states damage is = record {
  position = is.position;
  kind = is.kind;
  among = is.among;
  page = damaged (flaw_at (header_of_file bytes) (Some bytes) is.position) damage is.damaged;
}

-- what is sought is the same over words that give the same value
pub pair-over : (sought : Sought) (source : Source) (noted u : Words) (pair : Bounds) → ((end : End) → sought.value end noted ≡ sought.value end u)
    → IsPairFor sought source (all_told noted) pair → IsPairFor sought source (all_told u) pair
pair-over sought source noted u pair same is = record {
  within = is.within;
  ends = λ told end. record {
    no_looser = (is.ends told end).no_looser;
    no_tighter = subst (λ (value : ℤ). IsNoLooser end value (at end pair)) (same end) (is.ends told end).no_tighter;
  };
  right = is.right;
}

module _ (bytes : List ℕ) (head : FileHead) (valid : IsHeader (header_of_file bytes)) (checkers : (header_of_file bytes).checkers ≡ head.checkers) (kinds : (header_of_file bytes).kinds ≡ kinds_of (game_in head)) (u : Words) (have : HavePairsOf bytes u) where
  -- words that have the pairs of the right pages agree there with what is told
  pub told-agrees : (end : End) (q : Placement) (j : ℕ) → IsState (game_in head) q j → flaw_at (header_of_file bytes) (Some bytes) q ≡ None → told_in bytes end q j ≡ u end q j
  told-agrees end q j is page =
      let there : IsStateOf (header_of_file bytes).checkers (header_of_file bytes).kinds q j = record { position = is.position; many = is.many ∙ sym checkers; live = is.live; kind = subst (λ (n : ℕ). j < n) (sym kinds) is.kind } in
      told-right (header_of_file bytes) (Some bytes) end q j page ∙ word-among (header_of_file bytes) bytes end q j valid there ∙ sym (have end q j there page)

-- the kinds of a header are those of the head's game
pub same-kinds : (header : Header) (head : FileHead) → IsHeader header → head.name ≡ header.name → header.kinds ≡ kinds_of (game_in head)
same-kinds header head valid name = valid.kinds ∙ ap (λ (n : StakesName). length (names_of n)) (sym name) ∙ kinds-named head.name head.starts
