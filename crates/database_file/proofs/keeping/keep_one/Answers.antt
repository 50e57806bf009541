use Rattle.std.proofs.Common.{◌∙◌, ℕ, Ok, Contains, Vec, Global, nat_eq, inl, inr, sym, ap, subst}
use Rattle.std.proofs.lemmas.Bool.{eqb-true}
use Rattle.lru.specs.LruCache.{LruCache}
use Rattle.lru.proofs.CallerLemmas.{Contains-put_entries}
use Rattle.database_file.proofs.keeping.keep_one.Goals as goal

pub returns-in_ok-put-clause-kept : goal.returns-in_ok-put-clause-kept
returns-in_ok-put-clause-kept c page among =
    elim (Contains-put_entries nat_eq c.args.kept.now c.args.number c.in-Ok.words page (subst (λ (k : LruCache ℕ (Vec ℕ Global)). Contains k.entries page) c.in_ok-put.ensures.entries among)) [
      | inl before ↦ inl before
      | inr new ↦ inr (
        elim new.1 [
          | inl same ↦ same
          | inr equal ↦ sym (eqb-true c.args.number page.0 equal.2)
        ],
        c.in-Ok.is ∙ ap (λ (words : Vec ℕ Global). Ok words) (sym new.0),
      )
    ]
