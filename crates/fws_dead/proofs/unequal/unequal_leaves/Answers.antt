use Rattle.std.proofs.Common.{List, ℕ, Some, None, cond, sym, ◌∙◌, ap, subst}
use Rattle.std.proofs.lemmas.Option.{same_Some}
use Rattle.fws_box.specs.Sides.{IsWithin}
use Rattle.fws_dead.proofs.Pairing.{unequal_from}
use Rattle.fws_dead.proofs.unequal.unequal_leaves.Goals as goal

pub returns-clause-value : goal.returns-clause-value
returns-clause-value g c p within =
    let b = c.in_ok-both.ensures.value p within in
    let t = c.in_ok-apart.ensures.value p (subst (λ (l : List ℕ). IsWithin l p) (sym c.in_ok-both.ensures.tops) within) in
    let same = same_Some t.0 (b.0, b.1) (sym t.1 ∙ b.4) in
    unequal_from g.L.PartialEq.eq g.met.L.Leaf.exact b.0 b.1 _ _ _ b.2 b.3
    (t.2 ∙ ap (λ (pair : g.row.L.Denot × g.row.L.Denot). Some (cond (g.L.PartialEq.eq pair.0 pair.1) None (Some pair))) same)
