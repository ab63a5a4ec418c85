use Rattle.std.proofs.Common.{arith, take}
use Rattle.fws_pf_words.proofs.Leading.{way_learned, ways_grown}
use Rattle.fws_pf_words.proofs.ways.Ways.learn.Goals as goal

pub returns-in_ok-put-clause-known : goal.returns-in_ok-put-clause-known
returns-in_ok-put-clause-known c = λ words_of r are.
    way_learned c.args.setting.now words_of c.args.rest.now c.in_ok-n.n c.args.value.now c.words_within.new.self c.args.self.now.ways.entries c.put.new.self.ways.entries
    c.args.name.now _ c.in_ok-n.ensures.taken (omega arith) c.spot-start.ensures c.spot.ensures c.len-from.ensures (omega arith)
    (λ a i. c.in_ok-put.ensures c.args.setting.now words_of c.words_within.new.self.items a i) r are

pub returns-else-n-rest-clause-known : goal.returns-else-n-rest-clause-known
returns-else-n-rest-clause-known c = λ words_of r are.
    ways_grown c.args.setting.now words_of (take c.in_ok-n.n c.args.rest.now) c.args.value.now c.words_within.new.self c.args.self.now.ways.entries c.in_ok-n.ensures.taken are
