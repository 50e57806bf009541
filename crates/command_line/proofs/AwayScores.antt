-- A score that is given is one of a match, and the name of its file isn't too long.
use Rattle.std.proofs.Common.{◌≡◌, ◌≤◌, ◌+◌, ◌-◌, ℕ, Bool, true, false, max, min, List, [], ◌∷◌, ◌++◌, length, decimal, Option, Some, None, IfSome, option_map, refl, arith, length-append}
use Rattle.std.specs.Prelude.{codes}
use Rattle.std.proofs.lemmas.Bool.Decides.{nat_tests}
use Rattle.std.proofs.lemmas.Fmt.{length-decimal-le}
use Rattle.cube_text.specs.Texts.{letter}
use Rattle.cube_actions.specs.Scores.{MatchScore, IsPhaseOf, IsScore}
use Rattle.cube_actions.specs.declared.phase.Phase.{Phase}
use Rattle.cube_actions.specs.declared.phase.Phase.TheVariants.{Normal, Crawford, Post}
use Rattle.command_line.specs.declared.away.Away.{Away}
use Rattle.command_line.specs.Away.{phase_given, side_needing, away_of, away_read, away_given, file_at}
use Rattle.command_line.specs.Right.{IsName, IsPrefix}

letter-length : (phase : Phase) → length (letter phase) ≡ 1
letter-length Normal = refl
letter-length Crawford = refl
letter-length Post = refl

-- the lengths of a name's parts add up
name-length : (prefix near far last : List ℕ) → length ((prefix ++ codes ".") ++ ((((near ++ codes ".") ++ far) ++ codes ".") ++ last)) ≡ length prefix + length near + length far + length last + 3
name-length prefix near far last = simp length-append (omega arith)

pub name-at : (prefix : List ℕ) (score : MatchScore) → IsPrefix prefix → IsScore score → IsName (file_at prefix score)
name-at prefix score is fits =
    let to = fits.needs.to in
    let order = fits.needs.in_order in
    let near = length-decimal-le 1 score.near (omega arith) (omega (arith, order, to)) (omega (arith, order, to)) in
    let far = length-decimal-le 1 score.far (omega arith) (omega (arith, to)) (omega (arith, to)) in
    let long : length (file_at prefix score) ≡ length prefix + length (decimal score.near) + length (decimal score.far) + length (letter score.phase) + 3 = name-length prefix (decimal score.near) (decimal score.far) (letter score.phase) in
    let some : 1 ≤ length prefix = is.some in
    let short : length prefix ≤ 240 = is.short in
    record { some = omega (arith, long, some); short = omega (arith, long, short, near, far, letter-length score.phase) }

-- the phase that is given is one of the needs
pub phase-fits : (near far : ℕ) (crawford post : Bool) → 1 ≤ near → near ≤ far → IfSome (phase_given near far crawford post) (λ phase. IsPhaseOf near far phase)
phase-fits near far true true one order = grind (arith, nat_tests)
phase-fits near far true false one order = grind (arith, nat_tests)
phase-fits near far false true one order = grind (arith, nat_tests)
phase-fits near far false false one order = grind (arith, nat_tests)

abbrev Fits : Option Away → Type 0
Fits away = IfSome away (λ a. IsScore a.score)

told-fits : (mine theirs : ℕ) (phase : Option Phase) → 1 ≤ mine → mine ≤ 5 → 1 ≤ theirs → theirs ≤ 5 → IfSome phase (λ p. IsPhaseOf (min mine theirs) (max mine theirs) p)
    → Fits (option_map (λ p. record { score = record { near = min mine theirs; far = max mine theirs; phase = p }; side = side_needing mine theirs }) phase)
told-fits mine theirs None one most other last fits = tt
told-fits mine theirs (Some phase) one most other last fits = record { needs = record { from = omega arith; in_order = omega arith; to = omega arith }; fits = fits }

away-fits : (mine theirs : ℕ) (crawford post : Bool) → 1 ≤ mine → mine ≤ 5 → 1 ≤ theirs → theirs ≤ 5 → Fits (away_of mine theirs crawford post)
away-fits mine theirs crawford post one most other last =
    told-fits mine theirs (phase_given (min mine theirs) (max mine theirs) crawford post) one most other last (phase-fits (min mine theirs) (max mine theirs) crawford post (omega arith) (omega arith))

pub away-read : (word : List ℕ) (crawford post : Bool) → Fits (away_read word crawford post)
away-read [] crawford post = tt
away-read (a ∷ []) crawford post = tt
away-read (a ∷ sign ∷ []) crawford post = tt
away-read (a ∷ sign ∷ b ∷ []) crawford post = grind (arith, nat_tests, away-fits (a - 48) (b - 48) crawford post)
away-read (a ∷ sign ∷ b ∷ more ∷ rest) crawford post = tt

pub away-is : (given : Option (List ℕ)) (crawford post : Bool) → IfSome (away_given given crawford post) (λ away. IsScore away.score)
away-is None crawford post = tt
away-is (Some word) crawford post = away-read word crawford post
