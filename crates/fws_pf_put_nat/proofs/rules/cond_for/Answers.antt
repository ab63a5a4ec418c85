use Rattle.std.proofs.Common.{◌++◌, ◌∙◌, ap}
use Rattle.fws_pf_put_nat.specs.Paths.{lits_of}
use Rattle.fws_pf_put_nat.specs.declared.side.Side.TheVariants.{Entry, Proto, Dst, Dport, Src, Sport}
use Rattle.fws_pf_put_nat.proofs.Conditions.{six_lists}
use Rattle.fws_pf_put_nat.proofs.rules.cond_for.Goals as goal

pub returns : goal.returns
returns c =
    let path = c.args.path in
    c.in_ok-put_back.ensures
    ∙ ap (λ l. l ++ lits_of Sport path.sport ++ lits_of Dst path.dst ++ lits_of Dport path.dport)
    (c.in_ok-put_front.ensures ∙ ap (λ l. l ++ lits_of Entry path.entry ++ lits_of Proto path.proto ++ lits_of Src path.src) c.new-cond.ensures)
    ∙ six_lists (lits_of Entry path.entry) (lits_of Proto path.proto) (lits_of Src path.src) (lits_of Sport path.sport) (lits_of Dst path.dst) (lits_of Dport path.dport)
