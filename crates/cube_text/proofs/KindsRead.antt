-- Texts of kinds are read as their kinds.
use Rattle.std.proofs.Common.{◌≡◌, ℕ, true, eqb, nat_eq, ◌||◌, IsTrue, nat_eq, Some, None, List, slice_get, ◌⊎◌, inl, inr, refl, sym, subst, ◌∙◌, arith}
use Rattle.std.proofs.lemmas.Bool.Decides.{nat_tests, Decides-eqb}
use Rattle.std.proofs.lemmas.List.Folds.{find_at}
use Rattle.std.proofs.lemmas.Option.{slice_get_within, get_or_from_slice_get}
use Rattle.std.proofs.lemmas.Slice.Eq.{slice_eq-Decides}
use Rattle.std.specs.Cmp.Lexicographic.{pointwise}
use Rattle.std.specs.List.{list_all, position_or_len}
use Rattle.std.specs.Fmt.{digits}
use Rattle.cube_actions.specs.declared.side.Side.{Side}
use Rattle.cube_actions.specs.declared.side.Side.TheVariants.{Near, Far}
use Rattle.cube_actions.specs.declared.name.KindName.{KindName}
use Rattle.cube_actions.specs.declared.name.KindName.TheVariants.{Alone, Centred, Mine, Theirs, InMatch}
use Rattle.cube_actions.specs.Names.{every_name, is_kind_name}
use Rattle.cube_text.specs.Texts.{kind_text, read_name}
use Rattle.cube_actions.proofs.FirstPassing.{either, found_at, passed_at}

IsRead : KindName → Type 0
IsRead name = read_name (kind_text name) ≡ Some name

centred : (mover : Side) → IsRead (InMatch mover 1 None)
unfolding IsRead every_name digits
centred Near = refl
centred Far = refl

at_2 : (mover owner : Side) → IsRead (InMatch mover 2 (Some owner))
unfolding IsRead every_name digits
at_2 Near Near = refl
at_2 Near Far = refl
at_2 Far Near = refl
at_2 Far Far = refl

at_4 : (mover owner : Side) → IsRead (InMatch mover 4 (Some owner))
unfolding IsRead every_name digits
at_4 Near Near = refl
at_4 Near Far = refl
at_4 Far Near = refl
at_4 Far Far = refl

at_8 : (mover owner : Side) → IsRead (InMatch mover 8 (Some owner))
unfolding IsRead every_name digits
at_8 Near Near = refl
at_8 Near Far = refl
at_8 Far Near = refl
at_8 Far Far = refl

one_of : (c : ℕ) → (eqb c 2 || eqb c 4 || eqb c 8) ≡ true → (c ≡ 2) ⊎ (c ≡ 4) ⊎ (c ≡ 8)
one_of c h = elim (either (eqb c 2)) [
  | inl two ↦ inl (grind (arith, nat_tests))
  | inr other ↦ elim (either (eqb c 4)) [ inl four ↦ inr (inl (grind (arith, nat_tests))) | inr last ↦ inr (inr (grind (arith, nat_tests))) ]
]

kind_read : (name : KindName) → is_kind_name name ≡ true → IsRead name
unfolding IsRead every_name digits
kind_read Alone h = refl
kind_read Centred h = refl
kind_read Mine h = refl
kind_read Theirs h = refl
kind_read (InMatch mover cube None) h =
    let one : cube ≡ 1 = grind (arith, nat_tests) in
    subst (λ (c : ℕ). IsRead (InMatch mover c None)) (sym one) (centred mover)
kind_read (InMatch mover cube (Some owner)) h = elim (one_of cube h) [
  | inl e ↦ subst (λ (c : ℕ). IsRead (InMatch mover c (Some owner))) (sym e) (at_2 mover owner)
  | inr (inl e) ↦ subst (λ (c : ℕ). IsRead (InMatch mover c (Some owner))) (sym e) (at_4 mover owner)
  | inr (inr e) ↦ subst (λ (c : ℕ). IsRead (InMatch mover c (Some owner))) (sym e) (at_8 mover owner)
]

pub printed_read : (name : KindName) → IsTrue (is_kind_name name) → read_name (kind_text name) ≡ Some name
unfolding IsRead
printed_read name h = kind_read name h

same_text : (a b : List ℕ) → pointwise nat_eq a b ≡ true → a ≡ b
same_text a b h = (slice_eq-Decides Decides-eqb a b (pointwise nat_eq a b) refl).0 h

all_kind_names : list_all is_kind_name every_name ≡ true
unfolding every_name
all_kind_names = refl

pub read_printed : (text : List ℕ) (name : KindName) → read_name text ≡ Some name → IsTrue (is_kind_name name) × (kind_text name ≡ text)
read_printed text name e =
    let test = (λ (other : KindName). pointwise nat_eq (kind_text other) text) in
    let at : slice_get every_name (position_or_len test every_name) ≡ Some name = sym (find_at test every_name) ∙ e in
    let here = slice_get_within every_name (position_or_len test every_name) name at in
    let is = get_or_from_slice_get every_name (position_or_len test every_name) name name at in (
      subst (λ (n : KindName). is_kind_name n ≡ true) is (passed_at is_kind_name every_name (position_or_len test every_name) name all_kind_names here),
      same_text (kind_text name) text (subst (λ (n : KindName). pointwise nat_eq (kind_text n) text ≡ true) is (found_at test every_name name here)),
    )
