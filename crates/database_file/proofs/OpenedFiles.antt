-- What is answered of a file that is opened.
use Rattle.std.proofs.Common.{◌≡◌, ◌∙◌, Option, None, Some, Result, Ok, Err, IsErrAnd, [], List, ℕ, IsTrue, Contains, refl, sym, ap, subst}
use Rattle.std.specs.Option.{option_map}
use Rattle.lru.proofs.Splits.{Contains-nil}
use Rattle.outside_log.specs.Log.{Event, standing}
use Rattle.outside_log.specs.Readings.{is_faithful}
use Rattle.word_pages.specs.declared.version.Version.{Version}
use Rattle.base_head.specs.declared.header.Header.{Header}
use Rattle.base_head.specs.Fronts.{digest_in}
use Rattle.base_head.specs.Headers.{IsHeader}
use Rattle.database_file.specs.declared.front.Front.{Front}
use Rattle.database_file.specs.declared.stop.LoadStop.{LoadStop}
use Rattle.database_file.specs.declared.stop.LoadStop.TheVariants.{BadFile as Bad, Missing, NoMemory, ReadFault}
use Rattle.database_file.specs.Faults.{AnswersFront, Read, whole}
use Rattle.database_file.specs.Opened.{AnswersPagedFrom}
use Rattle.database_file.specs.Paged.{IsPagedFile, Kept, KeepsPagesOf, digest_told}
use Rattle.database_file.specs.PagedFiles.{PagedFile}

-- a front of which no page was read goes with its head
pub front-fits : (oldest : Version) (file : Option Read) (front : Front) → AnswersFront oldest file (Ok front) → IsHeader front.header → IsPagedFile front.header front.head front.digest front.header.checkers []
front-fits oldest None front told valid = absurd told
front-fits oldest (Some file) front told valid = record {
  valid = valid;
  checkers = ap (λ head. head.checkers) told.head ∙ sym (ap (λ header. header.checkers) told.header);
  name = ap (λ head. head.name) told.head ∙ sym (ap (λ header. header.name) told.header);
  rounds = ap (λ head. head.rounds) told.head ∙ sym (ap (λ header. header.rounds) told.header);
  indexed = refl;
  right = λ page among. absurd (Contains-nil page among);
}

-- what stops at the front stops the opening
pub front-stopped : (oldest : Version) (file : Option Read) (stop : LoadStop) (result : Result PagedFile LoadStop) → AnswersFront oldest file (Err stop) → IsErrAnd result (λ given. given ≡ stop) → AnswersPagedFrom oldest file result
front-stopped oldest file stop (Ok base) told wrong = absurd wrong
front-stopped oldest file stop (Err given) told same = subst (λ (stop : LoadStop). AnswersPagedFrom oldest file (Err stop)) (sym same) (by_file file stop told)
  where
    by_file : (file : Option Read) (stop : LoadStop) → AnswersFront oldest file (Err stop) → AnswersPagedFrom oldest file (Err stop)
    by_file None Missing told = tt
    by_file None ReadFault told = tt
    by_file None (Bad bad) told = absurd told
    by_file None NoMemory told = absurd told
    by_file (Some file) Missing told = absurd told
    by_file (Some file) ReadFault told = tt
    by_file (Some file) (Bad bad) told = told
    by_file (Some file) NoMemory told = tt

-- where no page is kept, each that is is one of the file
pub none-of-file : (base : PagedFile) (log : List Event) → base.kept ≡ [] → (IsTrue (is_faithful log) → base.digest ≡ digest_told base.header (standing log base.name)) → KeepsPagesOf base log
none-of-file base log none digest = record {
  digest = digest;
  pages = λ told page among. absurd (Contains-nil page (subst (λ (kept : Kept). Contains kept page) none among));
}

-- the digest that was read is that of the file
pub digest-told-is : (oldest : Version) (held there : Option (List ℕ)) (front : Front) (header : Header) (digest : List ℕ) → AnswersFront oldest (option_map whole held) (Ok front) → header ≡ front.header → digest ≡ front.digest → there ≡ held
    → digest ≡ digest_told header there
digest-told-is oldest None there front header digest told same is stays = absurd told
digest-told-is oldest (Some bytes) there front header digest told same is stays =
    is ∙ told.digest ∙ ap (λ (h : Header). digest_in h bytes) (sym told.header ∙ sym same) ∙ ap (digest_told header) (sym stays)

pub opened : (oldest : Version) (file : Option Read) (front : Front) (base : PagedFile) → AnswersFront oldest file (Ok front) → base.header ≡ front.header → base.head ≡ front.head → base.digest ≡ front.digest → AnswersPagedFrom oldest file (Ok base)
opened oldest None front base told header head digest = absurd told
opened oldest (Some file) front base told header head digest = record {
  right = told.right;
  header = header ∙ told.header;
  head = head ∙ told.head;
  digest = digest ∙ told.digest;
}
