use Rattle.std.proofs.Common.{◌≡◌, ◌+◌, ◌*◌, [], ◌∷◌, ◌++◌, drop, length}
use Rattle.fws_pf.specs.Drawn.{conditions, crossed}
use Rattle.fws_pf_words.proofs.choices.+put_all.Given as goal

abbrev pub decreases-put_all : goal.decreases-put_all
decreases-put_all l = 2 * length l.choices.now

abbrev pub decreases-put_each : goal.decreases-put_each
decreases-put_each l = 2 * length l.rest.now + 1

abbrev pub invariant-put_each-loop-cond : goal.invariant-put_each-loop-cond
invariant-put_each-loop-cond l =
    l.all ++ crossed (l.front ∷ []) (crossed (drop l.cond-index l.conds) (conditions l.rest)) ≡ l.fn.all ++ crossed (l.front ∷ []) (crossed l.conds (conditions l.rest))
