-- What is answered of a file that is loaded.
use Rattle.std.proofs.Common.{◌≡◌, ◌∙◌, ℕ, ◌*◌, ◌≤◌, List, ◌++◌, length, take, drop, Option, None, Some, Result, Ok, Err, IsErrAnd, refl, sym, ap, ap₂, subst, arith}
use Rattle.std.specs.Option.{option_map}
use Rattle.std.proofs.Math.Nat.{mul_assoc}
use Rattle.std.proofs.Math.Seq.{drop-append_seam, take-append_seam}
use Rattle.std.proofs.lemmas.List.{length-take, length-take-le}
use Rattle.outside_log.specs.Files.{bytes_from}
use Rattle.cube_actions.specs.Stakes.{bound_of}
use Rattle.word_pages.specs.declared.version.Version.{Version}
use Rattle.word_pages.specs.declared.flaws.Flaw.{Flaw}
use Rattle.word_pages.specs.Flaws.{LieWithin}
use Rattle.interval_words.specs.Core as core
use Rattle.base_head.specs.declared.header.Header.{Header}
use Rattle.base_head.specs.Fronts.{bad_of, digest_in, head_in, starts_fault}
use Rattle.base_head.specs.Heads.{FileHead}
use Rattle.base_head.specs.Headers.{IsHeader, front_length}
use Rattle.base_head.specs.HeaderFaults.{header_fault}
use Rattle.base_head.proofs.Checked.{none_or}
use Rattle.database_file.specs.declared.front.Front.{Front}
use Rattle.database_file.specs.declared.pages.PagesStop.{PagesStop}
use Rattle.database_file.specs.declared.pages.PagesStop.TheVariants as stops
use Rattle.database_file.specs.declared.stop.LoadStop.{LoadStop}
use Rattle.database_file.specs.declared.stop.LoadStop.TheVariants.{BadFile as Bad, Missing, NoMemory, ReadFault}
use Rattle.database_file.specs.Pages.{AnswersPages, flaw_in, words_listed}
use Rattle.database_file.specs.Texts.{game_in}
use Rattle.database_file.specs.Faults.{AnswersFront, IsFrontFrom, Read, header_of_file, pages_behind, short_fault, starts_wrong, whole}
use Rattle.database_file.specs.FileBases.{FileBase}
use Rattle.database_file.specs.Bases.{AnswersFrom, IsBaseFrom, base_with}
use Rattle.database_file.specs.Stops.{loading_stopped}
use Rattle.database_file.proofs.Bases.{pages-valid, words-many}
use Rattle.database_file.proofs.FrontBytes.{digest-front, goes_on, head-front, header-front, header_of-front, none-before, or_first, or_next, starts-front}
use Rattle.database_file.proofs.PageLists.{length-words_in, words-within}

-- ---- other bytes behind the starts

front-joined : (oldest : Version) (size : ℕ) (bytes more : List ℕ) (front : Front) → IsFrontFrom oldest (record { size = size; bytes = bytes }) front
    → IsFrontFrom oldest (record { size = size; bytes = take (front_length front.header) bytes ++ more }) front × (drop (front_length front.header) (take (front_length front.header) bytes ++ more) ≡ more)
front-joined oldest size bytes more front told = subst (λ (h : Header). IsFrontFrom oldest (record { size = size; bytes = take (front_length h) bytes ++ more }) front × (drop (front_length h) (take (front_length h) bytes ++ more) ≡ more)) (sym told.header) (by_header (header_of_file bytes) refl)
  where
    by_header : (h : Header) → header_of_file bytes ≡ h → IsFrontFrom oldest (record { size = size; bytes = take (front_length h) bytes ++ more }) front × (drop (front_length h) (take (front_length h) bytes ++ more) ≡ more)
    by_header h is =
        let k = front_length h in
        let all : List ℕ = take k bytes ++ more in
        let low : 64 ≤ k = omega arith in
        let same : k ≤ k = omega arith in
        let parts = none_or (short_fault (record { size = size; bytes = bytes })) _ told.right in
        let behind = none_or (header_fault oldest size bytes) (starts_wrong (header_of_file bytes) bytes) parts.1 in
        let wrong : starts_wrong h bytes ≡ None = ap (λ (h : Header). starts_wrong h bytes) (sym is) ∙ behind.1 in
        let starts = none_or _ (starts_fault h bytes) wrong in
        let long = goes_on k bytes starts.0 in
        let count : length (take k bytes) ≡ k = length-take-le k bytes long in
        let seam : take k all ≡ take k bytes = ap (λ n. take n all) (sym count) ∙ take-append_seam (take k bytes) more in
        let rest : drop k all ≡ more = ap (λ n. drop n all) (sym count) ∙ drop-append_seam (take k bytes) more in
        let there : k ≤ length all = goes k all (ap (λ (bytes : List ℕ). length bytes) seam ∙ count) in
        let header_right : header_fault oldest size all ≡ None = sym (header-front oldest size k all low) ∙ ap (header_fault oldest size) seam ∙ header-front oldest size k bytes low ∙ behind.0 in
        let header_is : header_of_file all ≡ h = sym (header_of-front k all low) ∙ ap header_of_file seam ∙ header_of-front k bytes low ∙ is in
        let starts_right : starts_fault h all ≡ None = sym (starts-front h k all same) ∙ ap (starts_fault h) seam ∙ starts-front h k bytes same ∙ starts.1 in
        let short = or_next _ _ (none_or _ _ parts.0).0 ∙ none-before 64 all (omega (arith, low, there)) in (
          record {
            right = or_next _ _ short ∙ or_next _ _ header_right ∙ ap (λ (h : Header). starts_wrong h all) header_is ∙ or_next _ _ (none-before k all there) ∙ starts_right;
            header = told.header ∙ is ∙ sym header_is;
            head = told.head ∙ ap (λ (h : Header). head_in h bytes) is ∙ sym (head-front h k bytes same) ∙ ap (head_in h) (sym seam) ∙ head-front h k all same ∙ ap (λ (h : Header). head_in h all) (sym header_is);
            digest = told.digest ∙ ap (λ (h : Header). digest_in h bytes) is ∙ sym (digest-front h k bytes same) ∙ ap (digest_in h) (sym seam) ∙ digest-front h k all same ∙ ap (λ (h : Header). digest_in h all) (sym header_is);
          },
          rest,
        )
      where
        goes : (k : ℕ) (all : List ℕ) → length (take k all) ≡ k → k ≤ length all
        goes k all is = omega (arith, is, length-take k all)

-- ---- one file

pages-stopped : (oldest : Version) (file : Read) (front : Front) (stop : PagesStop) (result : Result FileBase LoadStop) → IsFrontFrom oldest file front
    → AnswersPages (pages_behind front.header front.digest) (drop (front_length front.header) file.bytes) (Err stop) → IsErrAnd result (λ given. given ≡ loading_stopped stop) → AnswersFrom oldest (Some file) result
pages-stopped oldest file front stop (Ok base) told pages wrong = absurd wrong
pages-stopped oldest file front stop (Err given) told pages same = subst (λ (stop : LoadStop). AnswersFrom oldest (Some file) (Err stop)) (sym same) (by_stop stop pages)
  where
    by_stop : (stop : PagesStop) → AnswersPages (pages_behind front.header front.digest) (drop (front_length front.header) file.bytes) (Err stop) → AnswersFrom oldest (Some file) (Err (loading_stopped stop))
    by_stop stops.ReadFault pages = tt
    by_stop stops.NoMemory pages = tt
    by_stop (stops.BadPage flaw) pages =
        or_next _ _ told.right
        ∙ ap₂ (λ (h : Header) (digest : List ℕ). option_map bad_of (flaw_in (pages_behind h digest) (drop (front_length h) file.bytes))) (sym told.header) (sym told.digest)
        ∙ ap (λ (flaw : Option Flaw). option_map bad_of flaw) pages

base-loaded : (oldest : Version) (file : Read) (front : Front) (list : List ℕ) → IsFrontFrom oldest file front
    → (flaw_in (pages_behind front.header front.digest) (drop (front_length front.header) file.bytes) ≡ None) × (list ≡ words_listed (pages_behind front.header front.digest) (drop (front_length front.header) file.bytes))
    → IsBaseFrom oldest file (base_with front.head list)
base-loaded oldest file front list told pages = record {
  right = or_next _ _ told.right
      ∙ ap₂ (λ (h : Header) (digest : List ℕ). option_map bad_of (flaw_in (pages_behind h digest) (drop (front_length h) file.bytes))) (sym told.header) (sym told.digest)
      ∙ ap (λ (flaw : Option Flaw). option_map bad_of flaw) pages.0;
  holds = ap (λ (head : FileHead). base_with head list) told.head
      ∙ ap (base_with (head_in (header_of_file file.bytes) file.bytes)) (pages.1 ∙ ap₂ (λ (h : Header) (digest : List ℕ). words_listed (pages_behind h digest) (drop (front_length h) file.bytes)) told.header told.digest);
}

-- ---- what was read

pub front-stopped : (oldest : Version) (file : Option Read) (stop : LoadStop) (result : Result FileBase LoadStop) → AnswersFront oldest file (Err stop) → IsErrAnd result (λ given. given ≡ stop) → AnswersFrom oldest file result
front-stopped oldest file stop (Ok base) told wrong = absurd wrong
front-stopped oldest file stop (Err given) told same = subst (λ (stop : LoadStop). AnswersFrom oldest file (Err stop)) (sym same) (by_stop file stop told)
  where
    by_stop : (file : Option Read) (stop : LoadStop) → AnswersFront oldest file (Err stop) → AnswersFrom oldest file (Err stop)
    by_stop None Missing told = told
    by_stop None ReadFault told = told
    by_stop None (Bad bad) told = told
    by_stop None NoMemory told = told
    by_stop (Some file) Missing told = told
    by_stop (Some file) ReadFault told = told
    by_stop (Some file) (Bad bad) told = or_first _ _ bad told
    by_stop (Some file) NoMemory told = absurd told

-- where nothing tells the file, there are bytes of which all is true
pub pages-read : (oldest : Version) (file : Option Read) (front : Front) (bytes : List ℕ) (stop : PagesStop) (result : Result FileBase LoadStop) → AnswersFront oldest file (Ok front)
    → AnswersPages (pages_behind front.header front.digest) bytes (Err stop) → IsErrAnd result (λ given. given ≡ loading_stopped stop) → (file : Option Read) × AnswersFrom oldest file result
pages-read oldest None front bytes stop result told pages same = absurd told
pages-read oldest (Some file) front bytes stop result told pages same =
    let all = front-joined oldest file.size file.bytes bytes front told in (
      Some (record { size = file.size; bytes = take (front_length front.header) file.bytes ++ bytes }),
      pages-stopped oldest (record { size = file.size; bytes = take (front_length front.header) file.bytes ++ bytes }) front stop result all.0
          (subst (λ (bytes : List ℕ). AnswersPages (pages_behind front.header front.digest) bytes (Err stop)) (sym all.1) pages) same,
    )

pub base-read : (oldest : Version) (file : Option Read) (front : Front) (bytes list : List ℕ) (base : FileBase) → AnswersFront oldest file (Ok front)
    → (flaw_in (pages_behind front.header front.digest) bytes ≡ None) × (list ≡ words_listed (pages_behind front.header front.digest) bytes) → base ≡ base_with front.head list → (file : Option Read) × AnswersFrom oldest file (Ok base)
base-read oldest None front bytes list base told pages is = absurd told
base-read oldest (Some file) front bytes list base told pages is =
    let all = front-joined oldest file.size file.bytes bytes front told in
    let read : Read = record { size = file.size; bytes = take (front_length front.header) file.bytes ++ bytes } in (
      Some read,
      subst (IsBaseFrom oldest read) (sym is) (base-loaded oldest read front list all.0
          (subst (λ (bytes : List ℕ). (flaw_in (pages_behind front.header front.digest) bytes ≡ None) × (list ≡ words_listed (pages_behind front.header front.digest) bytes)) (sym all.1) pages)),
    )

-- where the files tell, it is the file's
pub pages-told : (oldest : Version) (held there : Option (List ℕ)) (front : Front) (at : ℕ) (stop : PagesStop) (result : Result FileBase LoadStop) → there ≡ held → at ≡ front_length front.header → AnswersFront oldest (option_map whole held) (Ok front)
    → AnswersPages (pages_behind front.header front.digest) (bytes_from at there) (Err stop) → IsErrAnd result (λ given. given ≡ loading_stopped stop) → AnswersFrom oldest (option_map whole held) result
pages-told oldest None there front at stop result same is told pages given = absurd told
pages-told oldest (Some bytes) there front at stop result same is told pages given =
    pages-stopped oldest (whole bytes) front stop result told (subst (λ (bytes : List ℕ). AnswersPages (pages_behind front.header front.digest) bytes (Err stop)) (ap (bytes_from at) same ∙ ap (λ at. drop at bytes) is) pages) given

pub base-told : (oldest : Version) (held there : Option (List ℕ)) (front : Front) (at : ℕ) (list : List ℕ) (base : FileBase) → there ≡ held → at ≡ front_length front.header → AnswersFront oldest (option_map whole held) (Ok front)
    → (flaw_in (pages_behind front.header front.digest) (bytes_from at there) ≡ None) × (list ≡ words_listed (pages_behind front.header front.digest) (bytes_from at there)) → base ≡ base_with front.head list → AnswersFrom oldest (option_map whole held) (Ok base)
base-told oldest None there front at list base same is told pages given = absurd told
base-told oldest (Some bytes) there front at list base same is told pages given =
    subst (IsBaseFrom oldest (whole bytes)) (sym given) (base-loaded oldest (whole bytes) front list told
    (subst (λ (bytes : List ℕ). (flaw_in (pages_behind front.header front.digest) bytes ≡ None) × (list ≡ words_listed (pages_behind front.header front.digest) bytes)) (ap (bytes_from at) same ∙ ap (λ at. drop at bytes) is) pages))

-- ---- the words of the pages are those of the head's game

pub list-fits : (oldest : Version) (file : Option Read) (front : Front) (bytes list : List ℕ) → IsHeader front.header → AnswersFront oldest file (Ok front)
    → (flaw_in (pages_behind front.header front.digest) bytes ≡ None) × (list ≡ words_listed (pages_behind front.header front.digest) bytes)
    → (length list ≡ core.words_in (game_in front.head)) × LieWithin (bound_of front.head.name) list
list-fits oldest None front bytes list valid told pages = absurd told
list-fits oldest (Some file) front bytes list valid told pages =
    let h = front.header in
    let head : front.head ≡ head_in h file.bytes = told.head ∙ ap (λ (h : Header). head_in h file.bytes) (sym told.header) in
    let some = (pages-valid h front.digest valid).some in (
      ap (λ (list : List ℕ). length list) pages.1 ∙ length-words_in (pages_behind h front.digest) bytes some ∙ words-many h file.bytes valid ∙ ap (λ (head : FileHead). core.words_in (game_in head)) (sym head),
      subst (λ bound. LieWithin bound list) (ap (λ (head : FileHead). bound_of head.name) (sym head)) (subst (LieWithin (bound_of h.name)) (sym pages.1)
          (words-within (pages_behind h front.digest) bytes (h.kinds * 1024) (h.kinds * h.positions) (mul_assoc 2 h.kinds 1024) (mul_assoc 2 h.kinds h.positions) pages.0)),
    )

-- no memory for the words of a file that is there
pub no-room : (oldest : Version) (file : Option Read) (front : Front) (stop : LoadStop) (result : Result FileBase LoadStop) → stop ≡ NoMemory → AnswersFront oldest file (Ok front) → IsErrAnd result (λ given. given ≡ stop) → AnswersFrom oldest file result
no-room oldest file front stop (Ok base) none told wrong = absurd wrong
no-room oldest None front stop (Err given) none told same = absurd told
no-room oldest (Some file) front stop (Err given) none told same = subst (λ (stop : LoadStop). AnswersFrom oldest (Some file) (Err stop)) (sym (same ∙ none)) tt
