-- Flags that aren't given: clap's defaults, as rows.
use Rattle.std.proofs.Common.{◌≡◌, ◌∙◌, ◌||◌, Bool, cond, true, false, refl, sym, ap, List, [], ◌∷◌, ◌++◌, map, Option, Some, None, is_some, true≢false, find, fold, codes}
use Rattle.std.specs.Prelude.{option_and_then}
use Rattle.std.specs.Option.{option_map}
use Rattle.std.specs.Str.{bytes_eq}
use Rattle.std.proofs.lemmas.Slice.Eq.{bytes_eq-Decides}
use Rattle.clap.specs.Walk.{Row, Text, has_row, with_default, with_values}
use Rattle.clap.specs.declared.parser.matches.ValueSource.TheVariants.{CommandLine, DefaultValue}
use Rattle.clap.specs.declared.builder.value_parser.Reading.TheVariants.{AsWritten}
use Rattle.word_forms.specs.Form.{FormValues, is_among, given_value}
use Rattle.word_forms.proofs.Rules.{flag_rule}

abbrev pub row : Text × Text → Row
row v = record { id = v.0; values = v.1 ∷ []; count = None; source = Some CommandLine; reading = AsWritten }

abbrev pub rows : FormValues → List Row
rows given = map row given

abbrev pub default_row : Text → Row
default_row name = record { id = name; values = codes "false" ∷ []; count = None; source = Some DefaultValue; reading = AsWritten }

-- the rows at the end, with those of the flags that have none
abbrev pub with_defaults : List Row → List Text → List Row
with_defaults rs flags = fold with_default rs (map flag_rule flags)

abbrev pub row_at : Text → List Row → Option Row
row_at id rs = find (λ r. bytes_eq r.id id) rs

abbrev pub or_default : Text → Bool → Option Row → Option Row
or_default id b (Some r) = Some r
or_default id b None = cond b (Some (default_row id)) None

module _ (id : Text) where
  some_row : (rs : List Row) → is_some (row_at id rs) ≡ has_row id rs
  some_row [] = refl
  some_row (r ∷ rs) = go (bytes_eq r.id id) (some_row rs)
    where
      go : (b : Bool) → is_some (row_at id rs) ≡ has_row id rs → is_some (cond b (Some r) (row_at id rs)) ≡ (b || has_row id rs)
      go true e = refl
      go false e = e

  no_need : (b : Bool) (o : Option Row) → is_some o ≡ true → o ≡ or_default id b o
  no_need b (Some r) e = refl
  no_need b None e = absurd (true≢false (sym e))

  none_wanted : (o : Option Row) → o ≡ or_default id false o
  none_wanted (Some r) = refl
  none_wanted None = refl

  behind : (n : Text) (rs : List Row) → has_row n rs ≡ false → row_at id (with_values n AsWritten DefaultValue (codes "false" ∷ []) rs) ≡ or_default id (bytes_eq n id) (row_at id rs)
  behind n [] e = go (bytes_eq n id) refl
    where
      go : (b : Bool) → bytes_eq n id ≡ b → cond (bytes_eq n id) (Some (default_row n)) None ≡ cond (bytes_eq n id) (Some (default_row id)) None
      go true is = ap (λ (m : Text). cond (bytes_eq n id) (Some (default_row m)) None) ((bytes_eq-Decides n id).0 is)
      go false is = rw is refl
  behind n (r ∷ rs) e = go (bytes_eq r.id n) refl e (behind n rs)
    where
      past : (b : Bool) (o p : Option Row) → o ≡ or_default id (bytes_eq n id) p → cond b (Some r) o ≡ or_default id (bytes_eq n id) (cond b (Some r) p)
      past true o p e = refl
      past false o p e = e

      go : (b : Bool) → bytes_eq r.id n ≡ b → (b || has_row n rs) ≡ false
          → (has_row n rs ≡ false → row_at id (with_values n AsWritten DefaultValue (codes "false" ∷ []) rs) ≡ or_default id (bytes_eq n id) (row_at id rs))
          → row_at id (with_values n AsWritten DefaultValue (codes "false" ∷ []) (r ∷ rs)) ≡ or_default id (bytes_eq n id) (row_at id (r ∷ rs))
      go true is h later = absurd (true≢false h)
      go false is h later = rw is (past (bytes_eq r.id id) _ (row_at id rs) (later h))

  one_default : (n : Text) (rs : List Row) → row_at id (with_default rs (flag_rule n)) ≡ or_default id (bytes_eq n id) (row_at id rs)
  one_default n rs = go (has_row n rs) refl
    where
      there : has_row n rs ≡ true → (b : Bool) → bytes_eq n id ≡ b → row_at id rs ≡ or_default id b (row_at id rs)
      there e true is = no_need true (row_at id rs) (some_row rs ∙ ap (λ (m : Text). has_row m rs) (sym ((bytes_eq-Decides n id).0 is)) ∙ e)
      there e false is = none_wanted (row_at id rs)

      go : (b : Bool) → has_row n rs ≡ b → row_at id (with_default rs (flag_rule n)) ≡ or_default id (bytes_eq n id) (row_at id rs)
      go true e = rw e (there e (bytes_eq n id) refl)
      go false e = rw e (behind n rs e)

  pub row_with_defaults : (flags : List Text) (rs : List Row) → row_at id (with_defaults rs flags) ≡ or_default id (is_among id flags) (row_at id rs)
  row_with_defaults [] rs = none_wanted (row_at id rs)
  row_with_defaults (n ∷ flags) rs = row_with_defaults flags (with_default rs (flag_rule n)) ∙ ap (or_default id (is_among id flags)) (one_default n rs) ∙ twice (bytes_eq n id) (is_among id flags) (row_at id rs)
    where
      twice : (b c : Bool) (o : Option Row) → or_default id c (or_default id b o) ≡ or_default id (b || c) o
      twice b c (Some r) = refl
      twice true c None = refl
      twice false c None = refl

  -- what is read of a row, and `false` of a default
  pub texts_are : (read : Row → Option Text) (given : FormValues) (flags : List Text) → ((v : Text × Text) → read (row v) ≡ Some v.1) → read (default_row id) ≡ Some (codes "false")
      → option_and_then read (row_at id (with_defaults (rows given) flags)) ≡ given_value id (given ++ map (λ name. (name, codes "false")) flags)
  texts_are read given flags reads unset = ap (option_and_then read) (row_with_defaults flags (rows given)) ∙ each given
    where
      unused : (names : List Text) → option_and_then read (or_default id (is_among id names) None) ≡ given_value id (map (λ name. (name, codes "false")) names)
      unused [] = refl
      unused (n ∷ names) = go (bytes_eq n id) (unused names)
        where
          go : (b : Bool) → option_and_then read (or_default id (is_among id names) None) ≡ given_value id (map (λ name. (name, codes "false")) names)
              → option_and_then read (or_default id (b || is_among id names) None) ≡ option_map (λ (v : Text × Text). v.1) (cond b (Some (n, codes "false")) (find (λ v. bytes_eq v.0 id) (map (λ name. (name, codes "false")) names)))
          go true later = unset
          go false later = later

      each : (vs : FormValues) → option_and_then read (or_default id (is_among id flags) (row_at id (rows vs))) ≡ given_value id (vs ++ map (λ name. (name, codes "false")) flags)
      each [] = unused flags
      each (v ∷ vs) = go (bytes_eq v.0 id) (each vs)
        where
          go : (b : Bool) → option_and_then read (or_default id (is_among id flags) (row_at id (rows vs))) ≡ given_value id (vs ++ map (λ name. (name, codes "false")) flags)
              → option_and_then read (or_default id (is_among id flags) (cond b (Some (row v)) (row_at id (rows vs)))) ≡ option_map (λ (w : Text × Text). w.1) (cond b (Some v) (find (λ w. bytes_eq w.0 id) (vs ++ map (λ name. (name, codes "false")) flags)))
          go true later = reads v
          go false later = later
