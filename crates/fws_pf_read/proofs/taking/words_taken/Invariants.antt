use Rattle.std.proofs.Common.{◌≡◌, ℕ, List, drop}
use Rattle.fws_pf_read.specs.Taking.{words_taken}
use Rattle.fws_pf_read.proofs.taking.words_taken.Given as goal

abbrev pub invariant-loop-w : goal.invariant-loop-w
invariant-loop-w g l = (t : List (List ℕ)) → g.S.TakesWords.tagged t l.fn.s l.fn.tags →
    (words_taken (g.S.TakesWords.step l.setting t) g.S.TakesWords.fault (drop l.w-index l.words) (g.S.TakesWords.seen l.next) ≡ words_taken (g.S.TakesWords.step l.setting t) g.S.TakesWords.fault l.words (g.S.TakesWords.seen l.fn.s)) × g.S.TakesWords.tagged t l.next l.tags
