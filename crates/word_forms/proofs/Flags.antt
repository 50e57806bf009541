-- What is read for a flag is `true`, and where nothing is, `false` stands behind it.
use Rattle.std.proofs.Common.{◌≡◌, ◌∙◌, ◌&&◌, ◌||◌, ◌+◌, ℕ, Bool, cond, true, false, not, zero, suc, refl, sym, subst, List, [], ◌∷◌, ◌++◌, map, Option, Some, None, is_some, true≢false, slice_get, find, codes}
use Rattle.std.specs.Prelude.{option_and_then}
use Rattle.std.specs.Option.{option_map, option_map_or}
use Rattle.std.specs.Str.{bytes_eq}
use Rattle.std.proofs.lemmas.Slice.Eq.{bytes_eq-Decides}
use Rattle.clap.specs.Walk.{Text}
use Rattle.clap.specs.Values.{bool_text}
use Rattle.word_forms.specs.Form.{Form, FormValues, Reading, is_among, is_flag, is_set, is_given, is_whole, given_value, option_of, give, take_argument, take_value, take_known, take_flag, take_named, take_as, take_word, read_forward, nothing_read, with_flags, values_of}

abbrev IsTrue : Option Text → Type 0
IsTrue None = Unit {0}
IsTrue (Some text) = text ≡ codes "true"

abbrev Tells : Option Text → Type 0
Tells o = o ≡ Some (bool_text (option_map_or (λ text. bytes_eq text (codes "true")) o false))

abbrev first_text : Option (Text × Text) → Option Text
first_text = option_map (λ v. v.1)

-- one value more
added : (name n t : Text) (given : FormValues) → IsTrue (given_value name given) → (bytes_eq n name ≡ true → t ≡ codes "true") → IsTrue (given_value name (given ++ (n, t) ∷ []))
added name n t [] is new = go (bytes_eq n name) refl
  where
    go : (b : Bool) → bytes_eq n name ≡ b → IsTrue (first_text (cond b (Some (n, t)) None))
    go true e = new e
    go false e = tt
added name n t (v ∷ given) is new = go (bytes_eq v.0 name) is (λ later. added name n t given later new)
  where
    go : (b : Bool) → IsTrue (first_text (cond b (Some v) (find (λ v. bytes_eq v.0 name) given)))
        → (IsTrue (given_value name given) → IsTrue (given_value name (given ++ (n, t) ∷ [])))
        → IsTrue (first_text (cond b (Some v) (find (λ v. bytes_eq v.0 name) (given ++ (n, t) ∷ []))))
    go true here later = here
    go false here later = later here

-- `false` behind the values
told : (name : Text) (names : List Text) (given : FormValues) → is_among name names ≡ true → IsTrue (given_value name given) → Tells (given_value name (given ++ map (λ n. (n, codes "false")) names))
told name [] [] among is = absurd (true≢false (sym among))
told name (n ∷ names) [] among is = go (bytes_eq n name) among (λ later. told name names [] later tt)
  where
    go : (b : Bool) → (b || is_among name names) ≡ true → (is_among name names ≡ true → Tells (given_value name (map (λ n. (n, codes "false")) names)))
        → Tells (first_text (cond b (Some (n, codes "false")) (find (λ v. bytes_eq v.0 name) (map (λ n. (n, codes "false")) names))))
    go true here later = refl
    go false here later = later here
told name names (v ∷ given) among is = go (bytes_eq v.0 name) is (told name names given among)
  where
    go : (b : Bool) → IsTrue (first_text (cond b (Some v) (find (λ v. bytes_eq v.0 name) given))) → (IsTrue (given_value name given) → Tells (given_value name (given ++ map (λ n. (n, codes "false")) names)))
        → Tells (first_text (cond b (Some v) (find (λ v. bytes_eq v.0 name) (given ++ map (λ n. (n, codes "false")) names))))
    go true here later = subst (λ (t : Text). Tells (Some t)) (sym here) refl
    go false here later = later here

at_among : (name : Text) (names : List Text) (k : ℕ) → slice_get names k ≡ Some name → is_among name names ≡ true
at_among name [] k e = cc
at_among name (n ∷ names) zero e =
    let same : n ≡ name = cc in
    rw ((bytes_eq-Decides n name).1 same) refl
at_among name (n ∷ names) (suc k) e = go (bytes_eq n name) (at_among name names k e)
  where
    go : (b : Bool) → is_among name names ≡ true → (b || is_among name names) ≡ true
    go true later = refl
    go false later = later

among_all : (a b c : Bool) → (a && not b && not c) ≡ true → (a ≡ true) × (b ≡ false) × (c ≡ false)
among_all false b c e = absurd (true≢false (sym e))
among_all true true c e = absurd (true≢false (sym e))
among_all true false true e = absurd (true≢false (sym e))
among_all true false false e = (refl, refl, refl)

module _ (f : Form) where
  abbrev Waits : Option Text → Type 0
  Waits None = Unit {0}
  Waits (Some name) = is_among name f.options ≡ true

  record IsRight (r : Reading) : Type 0 where
    flags : (name : Text) → is_flag f name ≡ true → IsTrue (given_value name r.given)
    waits : Waits r.waiting

  abbrev Goes : Option Reading → Type 0
  Goes None = Unit {0}
  Goes (Some r) = IsRight r

  given_right : (n t : Text) (r : Reading) → IsRight r → (is_flag f n ≡ true → t ≡ codes "true") → Goes (give n t r)
  given_right n t r is new = go (is_given n r.given)
    where
      go : (b : Bool) → Goes (cond b None (Some (record r { given = r.given ++ (n, t) ∷ []; waiting = None })))
      go true = tt
      go false = record { flags = λ name e. added name n t r.given (is.flags name e) (λ same. new (subst (λ (m : Text). is_flag f m ≡ true) (sym ((bytes_eq-Decides n name).0 same)) e)); waits = tt }

  of_option : (name t : Text) → is_among name f.options ≡ true → is_flag f name ≡ true → t ≡ codes "true"
  of_option name t among e = absurd (true≢false (sym among ∙ (among_all _ _ _ e).1))

  of_argument : (name t : Text) → is_among name f.arguments ≡ true → is_flag f name ≡ true → t ≡ codes "true"
  of_argument name t among e = absurd (true≢false (sym among ∙ (among_all _ _ _ e).2))

  named_right : (o : Text × Option Text) (r : Reading) → IsRight r → Goes (take_named f o r)
  named_right o r is = go (is_among o.0 f.options) refl (is_among o.0 f.flags) o.1
    where
      go : (b : Bool) → is_among o.0 f.options ≡ b → (d : Bool) (v : Option Text) → Goes (cond b (take_known o.0 v r) (cond d (take_flag o.0 v r) None))
      go true e d None = record { flags = is.flags; waits = e }
      go true e d (Some t) = given_right o.0 t r is (of_option o.0 t e)
      go false e true None = given_right o.0 (codes "true") r is (λ _. refl)
      go false e true (Some t) = tt
      go false e false v = tt

  word_right : (word : Text) (r : Reading) → IsRight r → Goes (take_word f word r)
  word_right word r is = go (option_of word)
    where
      to_argument : (o : Option Text) → slice_get f.arguments r.count ≡ o → Goes (take_argument o word r)
      to_argument None e = tt
      to_argument (Some name) e = given_right name word (record r { count = r.count + 1 }) (record { flags = is.flags; waits = is.waits }) (of_argument name word (at_among name f.arguments r.count e))

      to_value : (w : Option Text) → Waits w → Goes (take_value f w word r)
      to_value None waits = to_argument (slice_get f.arguments r.count) refl
      to_value (Some name) waits = given_right name word r is (of_option name word waits)

      to_named : (o : Text × Option Text) (b : Bool) → Goes (cond b None (take_named f o r))
      to_named o true = tt
      to_named o false = named_right o r is

      go : (o : Option (Text × Option Text)) → Goes (take_as f o word r)
      go None = to_value r.waiting is.waits
      go (Some o) = to_named o (is_some r.waiting)

  words_right : (words : List Text) (o : Option Reading) → Goes o → Goes (read_forward f words o)
  words_right [] o is = is
  words_right (word ∷ words) None is = words_right words None tt
  words_right (word ∷ words) (Some r) is = words_right words (take_word f word r) (word_right word r is)

  -- a flag's value says whether it is set
  pub flag_told : (words : List Text) (given : FormValues) (name : Text) → values_of f words ≡ Some given → is_flag f name ≡ true → given_value name given ≡ Some (bool_text (is_set name given))
  flag_told words given name e flag = go (read_forward f words (Some nothing_read)) (words_right words (Some nothing_read) (record { flags = λ _ _. tt; waits = tt })) e
    where
      whole : (b : Bool) (r : Reading) → IsRight r → cond b (Some (with_flags f r.given)) None ≡ Some given → Tells (given_value name given)
      whole true r is same = subst (λ (o : Option FormValues). Tells (option_and_then (given_value name) o)) same (told name f.flags r.given (among_all _ _ _ flag).0 (is.flags name flag))
      whole false r is same = cc

      go : (o : Option Reading) → Goes o → option_and_then (λ (r : Reading). cond (is_whole f r) (Some (with_flags f r.given)) None) o ≡ Some given → Tells (given_value name given)
      go None is same = cc
      go (Some r) is same = whole (is_whole f r) r is same
