use Rattle.std.proofs.Common.{◌++◌, OnOk, sym, subst}
use Rattle.fws_pfo_ifcl.specs.Blocks.{ruling_by}
use Rattle.fws_pfo_ifcl.specs.Rulings.{StandFor, rulings_of}
use Rattle.fws_pfo_ifcl.proofs.tail.put_by.Goals as goal

pub returns-in-Pass : goal.returns-in-Pass
returns-in-Pass c =
    subst (λ kind. OnOk c.put_passing.result (StandFor (rulings_of c.put_passing.new.self) (rulings_of c.args.all.now ++ ruling_by kind c.args.cond c.args.to)))
    (sym c.in-Pass.is) c.put_passing.ensures

pub returns-in-Block : goal.returns-in-Block
returns-in-Block c =
    subst (λ kind. OnOk c.put_dropping.result (StandFor (rulings_of c.put_dropping.new.self) (rulings_of c.args.all.now ++ ruling_by kind c.args.cond c.args.to)))
    (sym c.in-Block.is) c.put_dropping.ensures
