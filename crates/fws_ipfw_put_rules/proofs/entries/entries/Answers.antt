use Rattle.std.proofs.Common.{◌≡◌, ℕ, ◌+◌, ◌∷◌, [], ◌++◌, false, List, sym, ◌∙◌, ap, subst, arith}
use Rattle.fws_iv.specs.declared.iv.Iv.{Iv}
use Rattle.fws_net.specs.declared.condition.Lit.{Lit}
use Rattle.fws_net.specs.declared.condition.Test.TheVariants as tests
use Rattle.fws_ipfw_put_rules.proofs.Placing.{entries_done, entry_less, entry_more, AreEntriesBelow}
use Rattle.fws_ipfw_put_rules.proofs.entries.entries.Goals.{then-has+in_ok-one+in_ok-put, else-has}
use Rattle.fws_ipfw_put_rules.proofs.entries.entries.Goals as goal

pub loop-e-preserved : goal.loop-e-preserved
loop-e-preserved c =
    let set = c.args.set.now in
    let e : ℕ = c.loop-e.e in
    let lits = c.loop-e.lits in
    elim c.if-has.branch [
      | then-has+in_ok-one+in_ok-put w ↦ entry_more c.args.top set e lits c.if-has.lits (omega arith) (omega arith) (sym c.has.ensures ∙ w.if-has.true)
          (w.lits-is ∙ w.in_ok-put.ensures.ok ∙ ap (λ (s : List Iv). lits ++ record { not = false; test = tests.Recv s } ∷ []) w.in_ok-one.ensures) c.loop-e.invariant
      | else-has w ↦ subst (λ (l : List Lit). AreEntriesBelow c.args.top set (e + 1) l) (sym w.lits-is) (entry_less c.args.top set e lits (sym c.has.ensures ∙ w.if-has.false) c.loop-e.invariant)
    ]

pub returns : goal.returns
returns c =
    let end : c.loop-e.e ≡ c.args.top + 1 = omega arith in
    entries_done c.args.top c.args.set.now c.loop-e.lits (subst (λ n. AreEntriesBelow c.args.top c.args.set.now n c.loop-e.lits) end c.loop-e.invariant)
