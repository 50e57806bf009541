-- How the words of a condition are read one after another.
use Rattle.std.proofs.Common.{◌≡◌, ◌<◌, ◌≤◌, ◌+◌, ◌-◌, ◌*◌, ◌⊎◌, ℕ, Bool, true, false, List, [], ◌∷◌, ◌++◌, length, map, take, drop, codes, decimal, get_or, flat_map, eqb, inl, inr, refl, sym, ap, subst, ◌∙◌, append_assoc, length-append, arith}
use Rattle.std.specs.List.{All, AllZip}
use Rattle.std.proofs.lemmas.Bool.Decides.{nat_tests}
use Rattle.std.proofs.lemmas.List.{append-nil, length-take, length-take-le, take-append-drop, take-take, take_all, take_at, take_more}
use Rattle.std.proofs.lemmas.List.Concat.{flat_map-append}
use Rattle.std.proofs.lemmas.List.Elements.{All-cons, All-head, All-nil, All-tail}
use Rattle.base_scan.specs.declared.condition.Test.{Test}
use Rattle.base_scan.specs.declared.condition.Part.{Part}
use Rattle.base_scan.specs.declared.condition.Part.TheVariants.{Bar, Asks}
use Rattle.base_scan.specs.declared.condition.Joined.{Joined}
use Rattle.base_scan.specs.declared.condition.Joint.{Joint}
use Rattle.base_scan.specs.declared.condition.Joint.TheVariants.{And, Or}
use Rattle.base_scan.specs.Groups.{grouped, groups_of, joined_to, joint_of, TakesInPart}
use Rattle.base_scan.specs.Conditions.{AreConditionWords, CanGoOn, IsFirstBad, IsTestText, IsWordOf, MayComeInCondition, behind_bar, tests_of}
use Rattle.base_scan.proofs.TestTexts.{a_test, bar-no-test, some-test}

abbrev pub Word : Type 0
Word = List ℕ

-- ---- what may come after what

-- Parts that may come where a test is wanted or not, and where there is room for so many more tests.
abbrev pub Fits : Bool → ℕ → List Part → Type 0
Fits wanted room [] = wanted ≡ false
Fits wanted room (Bar ∷ parts) = (wanted ≡ false) × Fits true room parts
Fits wanted room (Asks test ∷ parts) = (0 < room) × Fits false (room - 1) parts

abbrev pub wanted_after : Bool → List Part → Bool
wanted_after wanted [] = wanted
wanted_after wanted (Bar ∷ parts) = wanted_after true parts
wanted_after wanted (Asks test ∷ parts) = wanted_after false parts

abbrev pub room_after : ℕ → List Part → ℕ
room_after room [] = room
room_after room (Bar ∷ parts) = room_after room parts
room_after room (Asks test ∷ parts) = room_after (room - 1) parts

fits-group : (group : List Test) (parts : List Part) (wanted : Bool) (room : ℕ) → length group ≤ room → (wanted ≡ false) ⊎ (0 < length group)
    → Fits false (room - length group) parts → Fits wanted room (map Asks group ++ parts)
fits-group [] parts true room few some fits = elim some [ inl e ↦ absurd (cc) | inr long ↦ absurd (omega (arith, long)) ]
fits-group [] parts false room few some fits = subst (λ (n : ℕ). Fits false n parts) (omega arith) fits
fits-group (test ∷ group) parts wanted room few some fits = (
  omega (arith, few),
  fits-group group parts false (room - 1) (omega (arith, few)) (inl refl)
      (subst (λ (n : ℕ). Fits false n parts) (omega arith) fits),
)

pub fits-groups : (groups : List (List Test)) (room : ℕ) → All (λ group. 0 < length group) groups → length (tests_of groups) ≤ room → Fits false room (flat_map behind_bar groups)
fits-groups [] room each few = refl
fits-groups (group ∷ groups) room each few =
    let long : length (tests_of (group ∷ groups)) ≡ length group + length (tests_of groups) = length-append group (tests_of groups) in (
      refl,
      fits-group group (flat_map behind_bar groups) true room (omega (arith, few, long)) (inr (All-head (λ (g : List Test). 0 < length g) group groups each))
          (fits-groups groups (room - length group) (All-tail (λ (g : List Test). 0 < length g) group groups each) (omega (arith, few, long))),
    )

-- the parts behind some words, where their parts are known
pub parts-behind : (ours theirs : List Part) (front more : List Word) (wanted : Bool) (room : ℕ) → AllZip IsWordOf ours front → AllZip IsWordOf theirs (front ++ more) → Fits wanted room theirs
    → (rest : List Part) × AllZip IsWordOf rest more × Fits (wanted_after wanted ours) (room_after room ours) rest
parts-behind [] theirs [] more wanted room a b fits = (theirs, b, fits)
parts-behind [] theirs (w ∷ front) more wanted room a b fits = absurd a
parts-behind (x ∷ ours) theirs [] more wanted room a b fits = absurd a
parts-behind (x ∷ ours) [] (w ∷ front) more wanted room a b fits = absurd b
parts-behind (Bar ∷ ours) (Bar ∷ theirs) (w ∷ front) more wanted room a b fits = parts-behind ours theirs front more true room a.1 b.1 fits.1
parts-behind (Bar ∷ ours) (Asks test ∷ theirs) (w ∷ front) more wanted room a b fits = absurd (bar-no-test w test a.0 b.0)
parts-behind (Asks test ∷ ours) (Bar ∷ theirs) (w ∷ front) more wanted room a b fits = absurd (bar-no-test w test b.0 a.0)
parts-behind (Asks test ∷ ours) (Asks other ∷ theirs) (w ∷ front) more wanted room a b fits = parts-behind ours theirs front more false (room - 1) a.1 b.1 fits.1

wanted-room : (room : ℕ) (parts : List Part) → Fits true room parts → 0 < room
wanted-room room [] fits = absurd (cc)
wanted-room room (Bar ∷ parts) fits = let e = fits.0 in absurd (cc)
wanted-room room (Asks test ∷ parts) fits = fits.0

-- a word that can't come next
pub never-next : (parts : List Part) (word : Word) (more : List Word) (wanted full : Bool) (room : ℕ) → (0 < room → full ≡ false)
    → ((part : Part) → MayComeInCondition wanted full part → IsWordOf part word → ⊥) → AllZip IsWordOf parts (word ∷ more) → Fits wanted room parts → ⊥
never-next [] word more wanted full room has never zip fits = zip
never-next (Bar ∷ parts) word more wanted full room has never zip fits = never Bar (fits.0, has (wanted-room room parts fits.1)) zip.0
never-next (Asks test ∷ parts) word more wanted full room has never zip fits = never (Asks test) (has fits.0) zip.0

pub never-ends : (parts : List Part) (room : ℕ) → AllZip IsWordOf parts [] → Fits true room parts → ⊥
never-ends [] room zip fits = absurd (cc)
never-ends (part ∷ parts) room zip fits = zip

-- ---- the parts of tests that are joined

abbrev pub marks : Joined → List Part
marks one = elim one.joint as (λ _. List Part) [ And ↦ Asks one.test ∷ [] | Or ↦ Bar ∷ Asks one.test ∷ [] ]

-- the bar behind which a test is wanted
abbrev pub tail : Bool → List Part
tail true = Bar ∷ []
tail false = []

abbrev pub read_parts : List Joined → Bool → List Part
read_parts tests wanted = flat_map marks tests ++ tail wanted

pub marks-group : (tests : List Joined) → flat_map marks tests ≡ map Asks (grouped tests).rest ++ flat_map behind_bar (grouped tests).later
marks-group [] = refl
marks-group (one ∷ tests) = join one.joint (marks-group tests) where
  join : (joint : Joint) → flat_map marks tests ≡ map Asks (grouped tests).rest ++ flat_map behind_bar (grouped tests).later → (elim joint as (λ _. List Part) [ And ↦ Asks one.test ∷ [] | Or ↦ Bar ∷ Asks one.test ∷ [] ]) ++ flat_map marks tests
      ≡ map Asks (joined_to joint one.test (grouped tests)).rest ++ flat_map behind_bar (joined_to joint one.test (grouped tests)).later
  join And same = ap (λ (ps : List Part). Asks one.test ∷ ps) same
  join Or same = ap (λ (ps : List Part). Bar ∷ Asks one.test ∷ ps) same

pub groups-some : (tests : List Joined) → All (λ group. 0 < length group) (groups_of tests)
groups-some [] = All-nil (λ (g : List Test). 0 < length g)
groups-some (one ∷ tests) = join one.joint (groups-some tests) where
  join : (joint : Joint) → All (λ group. 0 < length group) (groups_of tests) → All (λ group. 0 < length group) (joined_to joint one.test (grouped tests)).later
  join And all = all
  join Or all = All-cons (λ (g : List Test). 0 < length g) (one.test ∷ (grouped tests).rest) (grouped tests).later (omega arith) all

pub groups-long : (tests : List Joined) → length (grouped tests).rest + length (tests_of (groups_of tests)) ≡ length tests
groups-long [] = refl
groups-long (one ∷ tests) = join one.joint (groups-long tests) where
  join : (joint : Joint) → length (grouped tests).rest + length (tests_of (groups_of tests)) ≡ length tests → length (joined_to joint one.test (grouped tests)).rest + length (tests_of (joined_to joint one.test (grouped tests)).later) ≡ length (one ∷ tests)
  join And long = omega (arith, long)
  join Or long = omega (arith, long, length-append (grouped tests).rest (tests_of (grouped tests).later))

-- the first test begins a group
pub begins-push : (tests : List Joined) (one : Joined) → (grouped tests).rest ≡ [] → one.joint ≡ Or ⊎ (0 < length tests) → (grouped (tests ++ one ∷ [])).rest ≡ []
begins-push [] one begins some = elim some [ inl or ↦ rw or refl | inr long ↦ absurd (omega (arith, long)) ]
begins-push (first ∷ tests) one begins some = join first.joint begins where
  join : (joint : Joint) → (joined_to joint first.test (grouped tests)).rest ≡ [] → (joined_to joint first.test (grouped (tests ++ one ∷ []))).rest ≡ []
  join And e = absurd (cc)
  join Or e = refl

wanted-marks : (tests : List Joined) (parts : List Part) → wanted_after false (flat_map marks tests ++ parts) ≡ wanted_after false parts
wanted-marks [] parts = refl
wanted-marks (one ∷ tests) parts = join one.joint (wanted-marks tests parts) where
  join : (joint : Joint) → wanted_after false (flat_map marks tests ++ parts) ≡ wanted_after false parts → wanted_after false (((elim joint as (λ _. List Part) [ And ↦ Asks one.test ∷ [] | Or ↦ Bar ∷ Asks one.test ∷ [] ]) ++ flat_map marks tests) ++ parts) ≡ wanted_after false parts
  join And same = same
  join Or same = same

pub wanted-read : (tests : List Joined) (wanted : Bool) → wanted_after false (read_parts tests wanted) ≡ wanted
wanted-read tests true = wanted-marks tests (tail true)
wanted-read tests false = wanted-marks tests (tail false)

room-marks : (tests : List Joined) (parts : List Part) (room : ℕ) → length tests ≤ room → room_after room (flat_map marks tests ++ parts) ≡ room_after (room - length tests) parts
room-marks [] parts room few = ap (λ (n : ℕ). room_after n parts) (omega arith)
room-marks (one ∷ tests) parts room few = join one.joint (room-marks tests parts (room - 1) (omega (arith, few)) ∙ ap (λ (n : ℕ). room_after n parts) (omega arith)) where
  join : (joint : Joint) → room_after (room - 1) (flat_map marks tests ++ parts) ≡ room_after (room - length (one ∷ tests)) parts → room_after room (((elim joint as (λ _. List Part) [ And ↦ Asks one.test ∷ [] | Or ↦ Bar ∷ Asks one.test ∷ [] ]) ++ flat_map marks tests) ++ parts) ≡ room_after (room - length (one ∷ tests)) parts
  join And step = step
  join Or step = step

pub room-read : (tests : List Joined) (wanted : Bool) → length tests ≤ 64 → room_after 64 (read_parts tests wanted) ≡ 64 - length tests
room-read tests true few = room-marks tests (tail true) 64 few
room-read tests false few = room-marks tests (tail false) 64 few

-- ---- words that have been read

zip-snoc : (parts : List Part) (words : List Word) (part : Part) (word : Word) → AllZip IsWordOf parts words → IsWordOf part word → AllZip IsWordOf (parts ++ part ∷ []) (words ++ word ∷ [])
zip-snoc [] [] part word zip is = (is, tt)
zip-snoc [] (w ∷ words) part word zip is = absurd zip
zip-snoc (p ∷ parts) [] part word zip is = absurd zip
zip-snoc (p ∷ parts) (w ∷ words) part word zip is = (zip.0, zip-snoc parts words part word zip.1 is)

-- the first so many words were read as these tests; where a test is wanted, a bar stands behind them
pub record HasRead (all : List Word) (tests : List Joined) (wanted : Bool) (n : ℕ) : Type 0 where
  pub so_far : AllZip IsWordOf (read_parts tests wanted) (codes "|" ∷ take n all)
  pub begins : (grouped tests).rest ≡ []
  pub some : wanted ≡ false → 0 < length tests
  pub room : wanted ≡ true → length tests < 64
  pub few : length tests ≤ 64
  pub words : n ≤ 2 * length tests
  pub fewer : wanted ≡ false → n + 1 ≤ 2 * length tests

pub read-none : (all : List Word) → HasRead all [] true 0
read-none all = record { so_far = (refl, tt); begins = refl; some = λ e. absurd (cc); room = λ _. omega arith; few = omega arith; words = omega arith; fewer = λ e. absurd (cc) }

module _ (all : List Word) (tests : List Joined) (n : ℕ) (word : Word) (low : n < length all) (is : word ≡ get_or all n word) where
  next-word : take n all ++ word ∷ [] ≡ take (n + 1) all
  next-word = ap (λ (w : Word). take n all ++ w ∷ []) is ∙ sym (take_more all n word low)

  pub read-bar : HasRead all tests false n → length tests < 64 → word ≡ codes "|" → HasRead all tests true (n + 1)
  read-bar read room bar = record {
    so_far = subst (λ (ws : List Word). AllZip IsWordOf (flat_map marks tests ++ Bar ∷ []) (codes "|" ∷ ws)) next-word
        (zip-snoc (flat_map marks tests) (codes "|" ∷ take n all) Bar word (subst (λ (ps : List Part). AllZip IsWordOf ps (codes "|" ∷ take n all)) (append-nil (flat_map marks tests)) read.so_far) bar);
    begins = read.begins;
    some = λ e. absurd (cc);
    room = λ _. room;
    few = read.few;
    words = read.fewer refl;
    fewer = λ e. absurd (cc);
  }

  pub read-test : (wanted : Bool) (one : Joined) → HasRead all tests wanted n → length tests < 64 → one.joint ≡ joint_of wanted → IsTestText word one.test → HasRead all (tests ++ one ∷ []) false (n + 1)
  read-test wanted one read room joint text = record {
    so_far = subst (λ (ps : List Part). AllZip IsWordOf ps (codes "|" ∷ take (n + 1) all)) (sym (parts wanted joint))
        (subst (λ (ws : List Word). AllZip IsWordOf (read_parts tests wanted ++ Asks one.test ∷ []) (codes "|" ∷ ws)) next-word
        (zip-snoc (read_parts tests wanted) (codes "|" ∷ take n all) (Asks one.test) word read.so_far text));
    begins = begins-push tests one read.begins (first wanted joint read.some);
    some = λ _. omega (arith, length-append tests (one ∷ []));
    room = λ e. absurd (cc);
    few = omega (arith, length-append tests (one ∷ []));
    words = omega (arith, read.words, length-append tests (one ∷ []));
    fewer = λ _. omega (arith, read.words, length-append tests (one ∷ []));
  } where
    first : (wanted : Bool) → one.joint ≡ joint_of wanted → (wanted ≡ false → 0 < length tests) → one.joint ≡ Or ⊎ (0 < length tests)
    first true joint some = inl joint
    first false joint some = inr (some refl)

    parts : (wanted : Bool) → one.joint ≡ joint_of wanted → read_parts (tests ++ one ∷ []) false ≡ read_parts tests wanted ++ Asks one.test ∷ []
    parts true joint =
        append-nil (flat_map marks (tests ++ one ∷ [])) ∙ (flat_map-append marks tests (one ∷ [])
        ∙ (ap (λ (ps : List Part). flat_map marks tests ++ ps) (append-nil (marks one) ∙ rw joint refl) ∙ sym (append_assoc (flat_map marks tests) (Bar ∷ []) (Asks one.test ∷ []))))
    parts false joint =
        append-nil (flat_map marks (tests ++ one ∷ [])) ∙ (flat_map-append marks tests (one ∷ [])
        ∙ (ap (λ (ps : List Part). flat_map marks tests ++ ps) (append-nil (marks one) ∙ rw joint refl) ∙ ap (λ (ps : List Part). ps ++ Asks one.test ∷ []) (sym (append-nil (flat_map marks tests)))))

-- what a full list tells
pub not-full : (n : ℕ) (full : Bool) → full ≡ eqb n 64 → n ≤ 64 → full ≡ false → n < 64
not-full n full is few e = let other : eqb n 64 ≡ false = sym is ∙ e in grind (arith, nat_tests, other, few)

pub has-room : (n : ℕ) (full : Bool) → full ≡ eqb n 64 → n < 64 → full ≡ false
has-room n full is room = let other : eqb n 64 ≡ false = grind (arith, nat_tests, room) in is ∙ other

may-room : (wanted full : Bool) (part : Part) → MayComeInCondition wanted full part → full ≡ false
may-room wanted full Bar may = may.1
may-room wanted full (Asks test) may = may

pub read-part : (all : List Word) (tests new : List Joined) (n : ℕ) (word : Word) (wanted wants full : Bool) (part : Part) → n < length all → word ≡ get_or all n word → HasRead all tests wanted n
    → (full ≡ false → length tests < 64) → MayComeInCondition wanted full part → IsWordOf part word → TakesInPart part tests wanted new wants → HasRead all new wants (n + 1)
read-part all tests new n word wanted wants full Bar low is read room may text takes =
    let at = subst (λ (w : Bool). HasRead all tests w n) may.0 read in
    rw (takes.0, takes.1) (read-bar all tests n word low is at (room may.1) text)
read-part all tests new n word wanted wants full (Asks test) low is read room may text takes =
    rw (takes.0, takes.1) (read-test all tests n word low is wanted (record { joint = joint_of wanted; test = test }) read (room may) refl text)

pub room-for : (wanted full : Bool) (part : Part) (tests : List Joined) → (full ≡ false → length tests < 64) → MayComeInCondition wanted full part → length tests < 64
room-for wanted full part tests room may = room (may-room wanted full part may)

-- ---- the end, and the first bad word

-- words that end with a test are those of its groups
are-words : (all : List Word) (tests : List Joined) → AllZip IsWordOf (flat_map marks tests) (codes "|" ∷ all) → (grouped tests).rest ≡ [] → 0 < length tests → length tests ≤ 64 → AreConditionWords (groups_of tests) all
are-words all tests zip begins some few = record {
  some = has-group tests begins some;
  each = groups-some tests;
  few = omega (arith, groups-long tests);
  words = subst (λ (ps : List Part). AllZip IsWordOf ps (codes "|" ∷ all)) (marks-group tests ∙ ap (λ (ts : List Test). map Asks ts ++ flat_map behind_bar (groups_of tests)) begins) zip;
} where
  has-group : (tests : List Joined) → (grouped tests).rest ≡ [] → 0 < length tests → 0 < length (groups_of tests)
  has-group [] begins some = absurd (omega (arith, some))
  has-group (one ∷ tests) begins some = join one.joint begins where
    join : (joint : Joint) → (joined_to joint one.test (grouped tests)).rest ≡ [] → 0 < length (joined_to joint one.test (grouped tests)).later
    join And e = absurd (cc)
    join Or e = omega arith

module _ (all : List Word) (tests : List Joined) (n : ℕ) where
  pub read-all : HasRead all tests false n → n ≡ length all → AreConditionWords (groups_of tests) all
  read-all read end =
      are-words all tests (subst (λ (ws : List Word). AllZip IsWordOf (flat_map marks tests) (codes "|" ∷ ws)) (take_all n all (omega (arith, end)))
      (subst (λ (ps : List Part). AllZip IsWordOf ps (codes "|" ∷ take n all)) (append-nil (flat_map marks tests)) read.so_far)) read.begins (read.some refl) read.few

can-go-on-behind : (all : List Word) (tests : List Joined) (n : ℕ) (wanted : Bool) → HasRead all tests wanted n → n ≤ length all → CanGoOn all n
can-go-on-behind all tests n false read inside = (
  groups_of tests,
  take n all,
  are-words (take n all) tests (subst (λ (ps : List Part). AllZip IsWordOf ps (codes "|" ∷ take n all)) (append-nil (flat_map marks tests)) read.so_far) read.begins (read.some refl) read.few,
  take-take n n all (omega arith),
)
can-go-on-behind all tests n true read inside =
    let one : Joined = record { joint = Or; test = a_test } in
    let longer : length (tests ++ one ∷ []) ≡ length tests + 1 = length-append tests (one ∷ []) in (
      groups_of (tests ++ one ∷ []),
      take n all ++ (codes "pips=" ++ decimal 0) ∷ [],
      are-words (take n all ++ (codes "pips=" ++ decimal 0) ∷ []) (tests ++ one ∷ [])
          (subst (λ (ps : List Part). AllZip IsWordOf ps (codes "|" ∷ (take n all ++ (codes "pips=" ++ decimal 0) ∷ [])))
          (append_assoc (flat_map marks tests) (Bar ∷ []) (Asks a_test ∷ []) ∙ sym (flat_map-append marks tests (one ∷ [])))
          (zip-snoc (read_parts tests true) (codes "|" ∷ take n all) (Asks a_test) (codes "pips=" ++ decimal 0) read.so_far some-test))
          (begins-push tests one read.begins (inl refl)) (omega (arith, longer)) (omega (arith, longer, read.room refl)),
      take_at (take n all) ((codes "pips=" ++ decimal 0) ∷ []) n (length-take-le n all inside),
    )

module _ (all : List Word) (tests : List Joined) (wanted : Bool) (n : ℕ) (read : HasRead all tests wanted n) where
  -- the parts behind the words that were read, of any condition that begins with them
  behind : (groups : List (List Test)) (more : List Word) → AreConditionWords groups (take n all ++ more) → (rest : List Part) × AllZip IsWordOf rest more × Fits wanted (64 - length tests) rest
  behind groups more are =
      let found = parts-behind (read_parts tests wanted) (flat_map behind_bar groups) (codes "|" ∷ take n all) more false 64 read.so_far are.words (fits-groups groups 64 are.each are.few) in (
        found.0,
        found.1,
        subst (λ (w : Bool). Fits w (64 - length tests) found.0) (wanted-read tests wanted)
            (subst (λ (r : ℕ). Fits (wanted_after false (read_parts tests wanted)) r found.0) (room-read tests wanted read.few) found.2),
      )

  pub bad-word : (word : Word) (full : Bool) → n < length all → word ≡ get_or all n word → (length tests < 64 → full ≡ false)
      → ((part : Part) → MayComeInCondition wanted full part → IsWordOf part word → ⊥) → IsFirstBad all n
  bad-word word full low is has never = record {
    before = can-go-on-behind all tests n wanted read (omega (arith, low));
    here = λ goes.
        let more = drop (n + 1) goes.1 in
        let whole : goes.1 ≡ take n all ++ word ∷ more =
        sym (take-append-drop (n + 1) goes.1) ∙ (ap (λ (ws : List Word). ws ++ more) (goes.3 ∙ sym (next-word all tests n word low is)) ∙ append_assoc (take n all) (word ∷ []) more) in
        let found = behind goes.0 (word ∷ more) (subst (AreConditionWords goes.0) whole goes.2) in
        never-next found.0 word more wanted full (64 - length tests) (λ room. has (omega (arith, room))) never found.1 found.2;
  }

pub bad-end : (all : List Word) (tests : List Joined) (n : ℕ) → HasRead all tests true n → n ≡ length all → IsFirstBad all n
bad-end all tests n read e = record {
  before = can-go-on-behind all tests n true read (omega (arith, e));
  here = λ goes.
      let same : take (n + 1) goes.1 ≡ all = goes.3 ∙ take_all (n + 1) all (omega (arith, e)) in
      let long : length goes.1 ≤ n + 1 = omega (arith, e, ap length same, length-take (n + 1) goes.1) in
      let whole : goes.1 ≡ take n all ++ [] = sym (take_all (n + 1) goes.1 long) ∙ (same ∙ sym (append-nil (take n all) ∙ take_all n all (omega (arith, e)))) in
      let found = behind all tests true n read goes.0 [] (subst (AreConditionWords goes.0) whole goes.2) in
      never-ends found.0 (64 - length tests) found.1 found.2;
}
