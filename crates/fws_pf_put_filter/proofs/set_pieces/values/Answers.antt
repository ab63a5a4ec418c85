use Rattle.std.proofs.Common.{ℕ, ◌+◌, ◌∷◌, [], ◌++◌, List, sym, ◌∙◌, ap, subst}
use Rattle.fws_iv.specs.declared.iv.Iv.{Iv}
use Rattle.fws_net.specs.declared.condition.Lit.{Lit}
use Rattle.fws_pf_put_filter.specs.Pieces.{set_lit, AreValuesBelow}
use Rattle.fws_pf_put_filter.proofs.Hitting.{value_less, value_more}
use Rattle.fws_pf_put_filter.proofs.set_pieces.values.Goals.{then-has+in_ok-only+in_ok-put, else-has}
use Rattle.fws_pf_put_filter.proofs.set_pieces.values.Goals as goal

pub loop-v-preserved : goal.loop-v-preserved
loop-v-preserved c =
    let field = c.args.field in
    let set = c.args.set.now in
    let v : ℕ = c.loop-v.v in
    let lits = c.loop-v.lits in
    elim c.if-has.branch [
      | then-has+in_ok-only+in_ok-put w ↦ value_more field c.requires set v lits c.if-has.lits (sym c.has.ensures ∙ w.if-has.true)
          (w.lits-is ∙ w.in_ok-put.ensures.ok ∙ ap (λ (l : Lit). lits ++ l ∷ []) w.has_member.ensures ∙ ap (λ (s : List Iv). lits ++ set_lit field s ∷ []) w.in_ok-only.ensures) c.loop-v.invariant
      | else-has w ↦ subst (λ (l : List Lit). AreValuesBelow field set (v + 1) l) (sym w.lits-is) (value_less field set v lits (sym c.has.ensures ∙ w.if-has.false) c.loop-v.invariant)
    ]
