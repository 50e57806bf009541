use Rattle.std.proofs.Common.{◌≡◌, ℕ, rules, lit<, true, false, nat_lt, nat_eq, count_by, List, length, refl, ◌∙◌}
use borrow.Author.Tests.{tests}
use Rattle.std.proofs.lemmas.Iterator.{cases_from_all}
use Rattle.std.proofs.lemmas.Iterator.Consumers.{YieldsList-from_filter, YieldsList-at, count_from_yields_List}
use Rattle.std.proofs.lemmas.Iterator.Splits.{YieldsList-from_str_split}
use Rattle.std.proofs.lemmas.List.Sums.{length-filter}
use Rattle.std.specs.List.{list_all}
use Rattle.position_text.specs.Text.{words, is_slash, have_shape}
use Rattle.position_text.proofs.TextLists.{list_all-told}
use Rattle.position_text.proofs.text.has_shape.Goals as goal

shape-full : (ws : List (List ℕ)) (n : ℕ) → list_all (λ (word : List ℕ). nat_lt 0 (length word)) ws ≡ true → n ≡ count_by is_slash ws → nat_eq n 1 ≡ have_shape ws
shape-full ws n full e = rw (full, e) refl

shape-gap : (ws : List (List ℕ)) → list_all (λ (word : List ℕ). nat_lt 0 (length word)) ws ≡ false → false ≡ have_shape ws
shape-gap ws gap = rw gap refl

pub returns-then-all : goal.returns-then-all
returns-then-all c =
    let full = list_all-told (λ (word : List ℕ). nat_lt 0 (length word)) (words c.args.text.now) c.all.result (cases_from_all _ _ _ (λ word. nat_lt 0 (length word) ≡ true) (λ word. nat_lt 0 (length word) ≡ false) c.all.ensures.ran (YieldsList-from_str_split 32 c.args.text.now (lit< tt) c.split.ensures.text c.split.ensures.has_more c.split.ensures.pattern) (λ x q k. search (rules, tests)) (λ x q k. search (rules, tests))) in
    let slashes = count_from_yields_List c.filter.result c.count.result c.count.ensures.ran (YieldsList-from_filter _ is_slash (YieldsList-at c.filter.ensures.source (YieldsList-from_str_split 32 c.args.text.now (lit< tt) c.split-then-all.ensures.text c.split-then-all.ensures.has_more c.split-then-all.ensures.pattern)) c.filter.ensures.closure (λ x r q k. search (rules, tests))) in
    shape-full (words c.args.text.now) c.count.result (full ∙ c.if-all.true) (slashes ∙ length-filter is_slash (words c.args.text.now))

pub returns-else-all : goal.returns-else-all
returns-else-all c =
    let full = list_all-told (λ (word : List ℕ). nat_lt 0 (length word)) (words c.args.text.now) c.all.result (cases_from_all _ _ _ (λ word. nat_lt 0 (length word) ≡ true) (λ word. nat_lt 0 (length word) ≡ false) c.all.ensures.ran (YieldsList-from_str_split 32 c.args.text.now (lit< tt) c.split.ensures.text c.split.ensures.has_more c.split.ensures.pattern) (λ x q k. search (rules, tests)) (λ x q k. search (rules, tests))) in
    c.if-all.false ∙ shape-gap (words c.args.text.now) (full ∙ c.if-all.false)
