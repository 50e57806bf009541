-- What tests tell, one after another.
use Rattle.std.proofs.Common.{◌≡◌, Bool, true, false, ◌&&◌, ◌||◌, ℕ, ◌+◌, ◌<◌, ◌≤◌, List, [], ◌∷◌, length, drop, get_or, refl, sym, ap, ◌∙◌}
use Rattle.std.specs.List.{list_all, list_any}
use Rattle.std.proofs.lemmas.Bool.{false≢true}
use Rattle.std.proofs.lemmas.List.{drop_all, drop_more}
use Rattle.base_scan.specs.declared.condition.Test.{Test}
use Rattle.base_scan.specs.declared.condition.Joined.{Joined}
use Rattle.base_scan.specs.declared.condition.Joint.{Joint}
use Rattle.base_scan.specs.declared.condition.Joint.TheVariants.{And, Or}
use Rattle.base_scan.specs.Groups.{begins_group, grouped}

or-of : (joint : Joint) → begins_group joint ≡ true → joint ≡ Or
or-of And h = absurd (false≢true h)
or-of Or h = refl

and-of : (joint : Joint) → begins_group joint ≡ false → joint ≡ And
and-of And h = refl
and-of Or h = absurd (false≢true (sym h))

module _ (f : Test → Bool) where
  -- what tests tell where those of their group before them said yes, or some didn't
  abbrev pub tells : Bool → List Joined → Bool
  tells all tests = (all && list_all f (grouped tests).rest) || list_any (list_all f) (grouped tests).later

  assoc : (a b d : Bool) → (a && (b && d)) ≡ ((a && b) && d)
  assoc true b d = refl
  assoc false b d = refl

  pub tells-and : (all : Bool) (one : Joined) (tests : List Joined) → one.joint ≡ And → tells all (one ∷ tests) ≡ tells (all && f one.test) tests
  tells-and all one tests e = rw e (ap (λ (b : Bool). b || list_any (list_all f) (grouped tests).later) (assoc all (f one.test) (list_all f (grouped tests).rest)))

  pub tells-or : (one : Joined) (tests : List Joined) → one.joint ≡ Or → tells false (one ∷ tests) ≡ tells (f one.test) tests
  tells-or one tests e = rw e refl

  pub tells-yes : (one : Joined) (tests : List Joined) → one.joint ≡ Or → tells true (one ∷ tests) ≡ true
  tells-yes one tests e = rw e refl

  pub tells-end : (all : Bool) → tells all [] ≡ all
  tells-end true = refl
  tells-end false = refl

  module _ (tests : List Joined) (i : ℕ) (d : Joined) (inside : i < length tests) (begins : Bool) (is : begins ≡ begins_group (get_or tests i d).joint) where
    pub step-yes : begins ≡ true → tells true (drop i tests) ≡ true
    step-yes does = ap (tells true) (drop_more tests i d inside) ∙ tells-yes (get_or tests i d) (drop (i + 1) tests) (or-of _ (sym is ∙ does))

    pub step-or : begins ≡ true → tells false (drop i tests) ≡ tells (f (get_or tests i d).test) (drop (i + 1) tests)
    step-or does = ap (tells false) (drop_more tests i d inside) ∙ tells-or (get_or tests i d) (drop (i + 1) tests) (or-of _ (sym is ∙ does))

    pub step-and : (all : Bool) → begins ≡ false → tells all (drop i tests) ≡ tells (all && f (get_or tests i d).test) (drop (i + 1) tests)
    step-and all not = ap (tells all) (drop_more tests i d inside) ∙ tells-and all (get_or tests i d) (drop (i + 1) tests) (and-of _ (sym is ∙ not))

  pub step-end : (tests : List Joined) (i : ℕ) (all : Bool) → length tests ≤ i → tells all (drop i tests) ≡ all
  step-end tests i all past = ap (tells all) (drop_all i tests past) ∙ tells-end all
