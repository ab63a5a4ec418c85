-- How many conditions a rule has by its lists.
use Rattle.std.proofs.Common.{◌≡◌, ℕ, ◌*◌, Bool, true, false, List, [], ◌∷◌, ◌++◌, length, cond, min, refl, sym, ap, ◌∙◌, arith}
use Rattle.std.proofs.Math.Nat.{mul_assoc, mul-one}
use Rattle.std.proofs.lemmas.List.{length-map}
use Rattle.fws_iv.specs.declared.iv.Iv.{Iv}
use Rattle.fws_net.specs.declared.condition.Test.{Test}
use Rattle.fws_net.specs.declared.condition.Test.TheVariants as tests
use Rattle.fws_pf.specs.declared.rule_draft.Choice.{Choice}
use Rattle.fws_pf.specs.declared.rule_draft.RuleDraft.{RuleDraft}
use Rattle.fws_pf.specs.declared.tables.Table.{Table}
use Rattle.fws_pf.specs.declared.value_draft.Item.{Item}
use Rattle.fws_pf.specs.Drawn.{choices, condition_count, implied_flags, implies_flags, value_choices}
use Rattle.fws_pf.specs.RuleText.{item_literals, only}
use Rattle.fws_pf_words.specs.Limits.{place_size}
use Rattle.fws_pf_read.specs.Places.{draft_count}

-- what is counted up to a bound counts as what it stands for
pub counts_as : (r x k : ℕ) → r ≡ min x k → min r k ≡ min x k
counts_as r x k e = omega arith

conditions-append : (xs ys : List Choice) → condition_count (xs ++ ys) ≡ condition_count xs * condition_count ys
conditions-append [] ys = omega arith
conditions-append (x ∷ xs) ys =
    ap (λ n. length x.conds * n) (conditions-append xs ys) ∙ sym (mul_assoc (length x.conds) (condition_count xs) (condition_count ys))

of_place : (tables : List Table) (test : List Iv → Test) (items : List Item) → condition_count (value_choices tables test items) ≡ place_size items
of_place tables test [] = refl
of_place tables test (item ∷ items) = omega (arith, length-map (item ∷ items) (item_literals tables test))

both : (xs ys : List Choice) (m n : ℕ) → condition_count xs ≡ m → condition_count ys ≡ n → condition_count (xs ++ ys) ≡ m * n
both xs ys m n e f = conditions-append xs ys ∙ ap (λ x. x * condition_count ys) e ∙ ap (λ y. m * y) f

implied : (b : Bool) → condition_count (cond b (only implied_flags ∷ []) []) ≡ 1
implied true = refl
implied false = refl

-- the conditions of a rule are counted by its lists
pub choices_counted : (tables : List Table) (d : RuleDraft) → condition_count (choices tables d) ≡ draft_count d
choices_counted tables d =
    let a = both (value_choices tables tests.Via d.faces) (value_choices tables tests.Proto d.protocols) _ _ (of_place tables tests.Via d.faces) (of_place tables tests.Proto d.protocols) in
    let b = both _ (value_choices tables tests.Src d.sources) _ _ a (of_place tables tests.Src d.sources) in
    let c = both _ (value_choices tables tests.Sport d.source_ports) _ _ b (of_place tables tests.Sport d.source_ports) in
    let e = both _ (value_choices tables tests.Dst d.destinations) _ _ c (of_place tables tests.Dst d.destinations) in
    let f = both _ (value_choices tables tests.Dport d.destination_ports) _ _ e (of_place tables tests.Dport d.destination_ports) in
    let g = both _ d.options _ (condition_count d.options) f refl in
    let h = both _ _ _ 1 g (implied (implies_flags d)) in
    h ∙ mul-one (draft_count d)
