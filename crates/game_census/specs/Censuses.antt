-- What is advised in a kind, over some live positions by rising live rank.
use Rattle.std.specs.Prelude.{◌≡◌, ◌+◌, ◌-◌, ◌*◌, ◌/◌, ◌<◌, ℕ, zero, suc, sum, Bool, Option, Some, None, is_some, List, filter, length, replicate, slice_index, slice_index_or}
use Rattle.std.specs.List.{range_with_len}
use Rattle.position_rank.specs.Placement.{Placement, IsPosition, IsLive}
use Rattle.position_rank.specs.LiveRanks.{live_positions, live_rank_of}
use Rattle.directed_fixed.specs.Bounds.{Bounds}
use Rattle.cube_actions.specs.Stakes.{Terms, kind_at}
use Rattle.interval_words.specs.WordLists.{WordList, words_in_list}
use Rattle.play_analyser.specs.declared.advice.CubeAction.{CubeAction}
use Rattle.play_analyser.specs.declared.advice.CubeAdvice.{CubeAdvice}
use Rattle.play_analyser.specs.Advice.{IsCubeAdviceOver}
use Rattle.game_census.specs.declared.kind_census.KindCensus.{KindCensus}
use Rattle.game_census.specs.declared.cube.PartCensus.{PartCensus}
use Rattle.game_census.specs.declared.task.Part.{Part}
use Rattle.game_census.specs.Calls.{call_of, counted_call}
use Rattle.game_census.specs.Gaps.{answer_gap, nearest, offer_gap}

-- this is the live position of so many checkers with that live rank
pub record IsRanked (checkers rank : ℕ) (p : Placement) : Type 0 where
  pub position : IsPosition p
  pub live : IsLive p
  pub many : sum p.mover ≡ checkers
  pub number : live_rank_of p ≡ rank

-- no call, of 24
abbrev pub no_census : KindCensus
no_census = record { tally = record { counts = replicate 24 0 }; answer = None; offer = None }

-- after one more position in which the mover may double
abbrev pub with_action : KindCensus → Placement → Bounds → CubeAction → KindCensus
with_action census p rolling action = record {
  tally = record { counts = counted_call census.tally.counts (call_of action) };
  answer = Some (nearest census.answer (record { position = p; gap = answer_gap action }));
  offer = Some (nearest census.offer (record { position = p; gap = offer_gap rolling action }));
}

-- after advice on one more position: nothing is counted_call where the mover may not double
abbrev pub with_advice : KindCensus → Placement → Bounds → Option CubeAction → KindCensus
with_advice census p rolling None = census
with_advice census p rolling (Some action) = with_action census p rolling action

-- the state of a live rank was added: by what is advised over the words
pub record AddsState (words : WordList) (k rank : ℕ) (before after : KindCensus) : Type 0 where
  pub p : Placement
  pub ranked : IsRanked words.game.checkers rank p
  pub advice : CubeAdvice
  pub advised : IsCubeAdviceOver words.game.stakes (words_in_list words) p k advice
  pub added : after ≡ with_advice before p advice.no_double advice.action

-- so many states from a live rank on were added one after another
abbrev pub IsCensus : WordList → ℕ → ℕ → ℕ → KindCensus → Type 0
IsCensus words k from zero census = census ≡ no_census
IsCensus words k from (suc many) census =
    (before : KindCensus) × IsCensus words k from many before
    × AddsState words k (from + many) before census

-- whether the mover may double in states of this kind
abbrev pub may_double_in : Terms → ℕ → Bool
may_double_in stakes kind = is_some (kind_at stakes kind).double

-- the kinds in which the mover may double, each once, in their order
abbrev pub doubling_kinds : Terms → List ℕ
doubling_kinds stakes = filter (may_double_in stakes) (range_with_len 0 (length stakes.kinds))

-- the census with this number
abbrev pub census_at : List KindCensus → ℕ → KindCensus
census_at censuses i = slice_index_or censuses i no_census

-- the states of a live rank in these kinds were added, each to the census with its kind's number among them
abbrev pub AddsPosition : WordList → List ℕ → ℕ → List KindCensus → List KindCensus → Type 0
AddsPosition words kinds rank before after =
    (i : ℕ) → i < length kinds
    → AddsState words (slice_index kinds i) rank (census_at before i) (census_at after i)

-- for each of these kinds, so many states from a live rank on were added one after another
abbrev pub AreCensuses : WordList → List ℕ → ℕ → ℕ → List KindCensus → Type 0
AreCensuses words kinds from many censuses =
    (i : ℕ) → i < length kinds
    → IsCensus words (slice_index kinds i) from many (census_at censuses i)

-- how many of so many live positions stand in the first ones of some equal parts
abbrev pub share : ℕ → ℕ → ℕ → ℕ
share live number of = live * number / of

-- over the live positions of a part: the kinds in which the mover may double, and what is advised in each
pub record IsPartCensus (words : WordList) (part : Part) (census : PartCensus) : Type 0 where
  pub kinds : census.kinds.items ≡ doubling_kinds words.game.stakes
  pub censuses :
      let live = live_positions words.game.checkers in
      let from = share live (part.number - 1) part.of in
      let to = share live part.number part.of in
      AreCensuses words census.kinds.items from (to - from) census.censuses
