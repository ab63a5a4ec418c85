use Rattle.fws_pfo_ifcl.specs.Blocks.{quick_rulings, slow_rulings}
use Rattle.fws_pfo_ifcl.specs.Rulings.{rulings_of}
use Rattle.fws_pfo_ifcl.proofs.Standing.{both_put}
use Rattle.fws_pfo_ifcl.proofs.tail.joined_tail.Goals as goal

pub returns : goal.returns
returns c =
    both_put (quick_rulings c.args.outward c.args.tail.now) (slow_rulings c.args.outward c.args.tail.now)
    (rulings_of c.new-all.result) (rulings_of c.put_quick_rules.new.all) (rulings_of c.put_slow_rules.new.all) c.in_ok-fewer.fewer c.new-all.ensures
    c.in_ok-put_quick_rules.ensures c.in_ok-put_slow_rules.ensures c.in_ok-fewer.ensures
