use Rattle.std.proofs.Common.{◌≡◌, ℕ, ◌+◌, ◌∷◌, [], ◌++◌, List, sym, ◌∙◌, ap, subst, arith}
use Rattle.fws_iv.specs.declared.iv.Iv.{Iv}
use Rattle.fws_net.specs.declared.condition.Lit.{Lit}
use Rattle.fws_net.specs.declared.condition.Test.TheVariants as tests
use Rattle.fws_pf_put_filter.specs.Literals.{lit_of}
use Rattle.fws_pf_put_filter.proofs.Conding.{entries_done, entry_less, entry_more, AreEntriesBelow}
use Rattle.fws_pf_put_filter.proofs.conds.by_entry.Goals.{then-has+in_ok-one+in_ok-alone+in_ok-put, else-has}
use Rattle.fws_pf_put_filter.proofs.conds.by_entry.Goals as goal

pub loop-e-preserved : goal.loop-e-preserved
loop-e-preserved c =
    let set = c.args.set.now in
    let e : ℕ = c.loop-e.e in
    let conds = c.loop-e.conds in
    elim c.if-has.branch [
      | then-has+in_ok-one+in_ok-alone+in_ok-put w ↦ entry_more c.args.top set e conds c.if-has.conds (omega arith) (omega arith) (sym c.has.ensures ∙ w.if-has.true)
          (w.conds-is ∙ w.in_ok-put.ensures.ok ∙ ap (λ (l : List Lit). conds ++ l ∷ []) w.in_ok-alone.ensures ∙ ap (λ (s : List Iv). conds ++ (lit_of (tests.Via s) ∷ []) ∷ []) w.in_ok-one.ensures) c.loop-e.invariant
      | else-has w ↦ subst (λ (l : List (List Lit)). AreEntriesBelow c.args.top set (e + 1) l) (sym w.conds-is) (entry_less c.args.top set e conds (sym c.has.ensures ∙ w.if-has.false) c.loop-e.invariant)
    ]

pub returns : goal.returns
returns c =
    let end : c.loop-e.e ≡ c.args.top + 1 = omega arith in
    entries_done c.args.top c.args.set.now c.loop-e.conds (subst (λ n. AreEntriesBelow c.args.top c.args.set.now n c.loop-e.conds) end c.loop-e.invariant)
