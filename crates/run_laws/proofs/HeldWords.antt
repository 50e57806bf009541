-- What is true of a file that holds a text that was written.
use Rattle.std.proofs.Common.{◌≡◌, ◌∙◌, ◌<◌, ℕ, List, drop, true, inl, inr, Option, Some, None, Ok, refl, sym, ap, subst, arith}
use Rattle.std.specs.Option.{option_map, option_or}
use Rattle.std.proofs.lemmas.Option.{none-some}
use Rattle.position_rank.specs.Placement.{Placement}
use Rattle.turn_rule.specs.Games.{kinds_of}
use Rattle.turn_rule.specs.Looks.{States}
use Rattle.turn_rule.specs.States.{IsState, IsStateOf}
use Rattle.turn_rule.specs.Truth.{AreConsistent, AreSound}
use Rattle.turn_rule.specs.declared.game.Game.{Game}
use Rattle.interval_words.specs.WordLists.{WordList, words_in_list}
use Rattle.word_pages.specs.declared.version.Version.TheVariants.{One, Three}
use Rattle.word_pages.specs.declared.flaws.Flaw.{Flaw}
use Rattle.base_head.specs.Fronts.{bad_of, digest_in, head_in}
use Rattle.base_head.specs.Heads.{FileHead}
use Rattle.base_head.specs.HeaderFaults.{header_fault}
use Rattle.base_head.proofs.Checked.{none_or}
use Rattle.base_head.specs.Headers.{IsHeader, IsSince, front_length}
use Rattle.word_pages.specs.declared.version.Version.{Version}
use Rattle.database_file.specs.Bases.{AnswersFrom, IsBaseFrom, IsBaseOf, words_of_file}
use Rattle.database_file.specs.Faults.{Read as FileRead, front_fault_from, header_of_file, pages_fault, pages_in_file, short_fault, starts_wrong, whole}
use Rattle.database_file.specs.Paged.{flaw_at, page_of}
use Rattle.database_file.specs.Pages.{flaw_in, page_count}
use Rattle.database_file.specs.FileBases.{FileBase}
use Rattle.database_file.specs.Texts.{IsText, game_in}
use Rattle.database_file.proofs.FrontBytes.{right-header}
use Rattle.database_file.proofs.PageLists.{each_right}
use Rattle.database_file.proofs.PagedWords.{state-stands}
use Rattle.equity_report.specs.declared.refusal.Refusal.{Refusal}
use Rattle.run_endings.specs.Endings.{IsOutside}
use Rattle.run_endings.specs.Loads.{OfFile}
use Rattle.run_endings.specs.Pages.{HavePairsOf}
use Rattle.run_laws.specs.RightFiles.{CanLoad, CanLookUp}
use Rattle.whole_file_commands.specs.Verifies.{MayRefuseVerifying, RefusesVerifying}
use Rattle.run_laws.proofs.RightLoads.{right-loads}
use Rattle.run_endings.proofs.Pages.{same-kinds}

no-flaw : (flaw : Option Flaw) → option_map bad_of flaw ≡ None → flaw ≡ None
no-flaw None none = refl
no-flaw (Some flaw) some = absurd (none-some (bad_of flaw) (sym some))

-- the law on texts that are read back
abbrev pub Law : Type 0
Law = (oldest version : Version) (head : FileHead) (words : WordList) (bytes : List ℕ) → IsSince oldest version → IsText version head words bytes → IsBaseFrom oldest (whole bytes) (record { head = head; words = words })

module _ (law : Law) (head : FileHead) (words : WordList) (bytes : List ℕ) (text : IsText Three head words bytes) where
  base : IsBaseOf (whole bytes) (record { head = head; words = words })
  base = law Three Three head words bytes (omega arith) text

  -- what stands before the pages is the head
  pub held-head : head_in (header_of_file bytes) bytes ≡ head
  held-head = sym (ap (λ (b : FileBase). b.head) base.holds)

  held-game : words.game ≡ game_in (head_in (header_of_file bytes) bytes)
  held-game = text.fitting.game ∙ ap game_in (sym held-head)

  -- it has no fault up to its pages, and the header is right
  pub held-front : front_fault_from Three (whole bytes) ≡ None
  held-front = (none_or (front_fault_from Three (whole bytes)) (pages_fault (whole bytes)) base.right).0

  valid : IsHeader (header_of_file bytes)
  valid =
      let file = whole bytes in
      let behind = (none_or (short_fault file) (option_or (header_fault Three file.size bytes) (starts_wrong (header_of_file bytes) bytes)) held-front).1 in
      right-header Three file.size bytes (none_or (header_fault Three file.size bytes) (starts_wrong (header_of_file bytes) bytes) behind).0

  kinds-there : (header_of_file bytes).kinds ≡ kinds_of (game_in (head_in (header_of_file bytes) bytes))
  kinds-there = same-kinds (header_of_file bytes) (head_in (header_of_file bytes) bytes) valid refl

  -- each of its states stands on a page without a flaw
  pub held-page : (p : Placement) (k : ℕ) → IsState (game_in (head_in (header_of_file bytes) bytes)) p k → flaw_at (header_of_file bytes) (Some bytes) p ≡ None
  held-page p k is =
      let header = header_of_file bytes in
      let pages = pages_in_file bytes in
      let rest : List ℕ = drop (front_length header) bytes in
      let none = no-flaw (flaw_in pages rest) (none_or (front_fault_from Three (whole bytes)) (pages_fault (whole bytes)) base.right).1 in
      let there : IsStateOf header.checkers header.kinds p k = record { position = is.position; many = is.many; live = is.live; kind = subst (λ (n : ℕ). k < n) (sym kinds-there) is.kind } in
      each_right pages rest (page_count pages) none (page_of p) (state-stands header (digest_in header bytes) valid p k there).0

  -- where a head fits, and what is sought rests on states of its game, that can be looked up
  pub held-look-up : (Fits : FileHead → Type 0) (Rests : FileHead → States) → Fits head
      → ((p : Placement) (k : ℕ) → Rests (head_in (header_of_file bytes) bytes) p k → (j : ℕ) × IsState (game_in (head_in (header_of_file bytes) bytes)) p j) → CanLookUp Fits Rests bytes
  held-look-up Fits Rests fits states = record {
    front = held-front;
    fits = subst Fits (sym held-head) fits;
    pages = λ p k rests. (let state = states p k rests in held-page p state.0 state.1);
  }

  pub held-load : (Fits : FileBase → Type 0) → Fits (record { head = head; words = words }) → CanLoad Three Fits bytes
  held-load Fits fits = record { base = record { head = head; words = words }; read = base; fits = fits }

  -- so it can where older versions are read too
  pub held-load-any : (Fits : FileBase → Type 0) → Fits (record { head = head; words = words }) → CanLoad One Fits bytes
  held-load-any Fits fits = record { base = record { head = head; words = words }; read = law One Three head words bytes (omega arith) text; fits = fits }

  -- the words have the pairs of the file
  pub held-pairs : HavePairsOf bytes (words_in_list words)
  held-pairs end p k there page =
      let list : words.list ≡ words_of_file bytes = ap (λ (b : FileBase). b.words.list) base.holds in
      let kinds : kinds_of words.game ≡ (header_of_file bytes).kinds = ap kinds_of held-game ∙ sym kinds-there in
      rw (kinds, list) refl

  -- and are sound in the game of its head
  pub held-sound : AreSound words.game (words_in_list words) → AreSound (game_in (head_in (header_of_file bytes) bytes)) (words_in_list words)
  held-sound sound = subst (λ (g : Game). AreSound g (words_in_list words)) held-game sound

  -- what was read of the file is its head and words
  pub held-base : (read : FileBase) → OfFile true (Some bytes) (λ file. AnswersFrom Three file (Ok read)) → read ≡ record { head = head; words = words }
  held-base read of =
      let is : IsBaseOf (whole bytes) read = subst (λ (file : Option FileRead). AnswersFrom Three file (Ok read)) (of.1 refl) of.2 in
      is.holds ∙ sym base.holds

  -- it isn't refused for words that aren't consistent
  pub held-consistent : AreConsistent words.game (words_in_list words) → (name : List ℕ) (refusal : Refusal) → MayRefuseVerifying Three name true (Some bytes) refusal → IsOutside refusal
  held-consistent consistent name refusal not = by_cause (subst (λ (file : Option FileRead). RefusesVerifying Three name refusal file) (not.1 refl) not.2)
    where
      by_cause : RefusesVerifying Three name refusal (Some (whole bytes)) → IsOutside refusal
      by_cause (inl loads) = right-loads Three name (whole bytes) (record { head = head; words = words }) base refusal loads
      by_cause (inr holds) =
          let same : record { head = head; words = words } ≡ holds.base = base.holds ∙ sym holds.read.holds in
          absurd (holds.is.inconsistent (subst (λ (b : FileBase). AreConsistent b.words.game (words_in_list b.words)) same consistent))
