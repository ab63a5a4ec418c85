use Rattle.std.proofs.Common.{rules, ℕ, ◌<◌, length, sym, ◌∙◌, subst, arith}
use Rattle.std.proofs.lemmas.Option.{slice_get-get_or}
use Rattle.fws_tree.specs.declared.store.Cell.TheVariants.{Leaf}
use Rattle.fws_tree.proofs.Cells.{child_has}
use Rattle.fws_tree.proofs.held.+held.Goals as goal

pub unreachable-requires : goal.unreachable-requires
unreachable-requires t c =
    let is = slice_get-get_or c.args.store.now c.args.at (Leaf 0) c.requires.inside in
    c.in_default.ensures _ is (sym (c.cut_field.ensures _ is) ∙ c.in_default-cut_field.is)

pub child-requires-clause-cut : goal.child-requires-clause-cut
child-requires-clause-cut t c = λ k is. sym (c.cut_field.ensures k is) ∙ c.in-Some-cut_field.is

pub held-requires : goal.held-requires
held-requires t c =
    let is = slice_get-get_or c.args.store.now c.args.at (Leaf 0) c.requires.inside in
    let strict = c.view-last.ensures.strict _ is (sym (c.cut_field.ensures _ is) ∙ c.in-Some-cut_field.is) in
    let s : c.in_ok-next.next < c.args.at = subst (λ (n : ℕ). n < c.args.at) (sym c.in_ok-next.ensures.child) (child_has (λ n. n < c.args.at) c.view-last.result.0.now c.view-last.result.1 c.value_of.result strict.0 strict.1) in
    let l : c.in_ok-next.next < length c.args.store.now = (let top = c.requires.inside in omega arith) in
    search rules
