use Rattle.std.proofs.Common.{◌≡◌, drop}
use Rattle.fws_pf_words.specs.UsesKnown.{AreUses}
use Rattle.fws_pf_read.specs.Taking.{raws_taken}
use Rattle.fws_pf_read.proofs.taking.raws_from.Given as goal

abbrev pub invariant-loop-w : goal.invariant-loop-w
invariant-loop-w g l = record {
  given : raws_taken (g.S.TakesWords.step l.setting l.fn.tags) g.S.TakesWords.fault l.macros (drop l.w-index l.words) (g.S.TakesWords.seen l.next) ≡ raws_taken (g.S.TakesWords.step l.setting l.fn.tags) g.S.TakesWords.fault l.macros l.words (g.S.TakesWords.seen l.fn.s);
  kept : g.S.TakesWords.tagged l.fn.tags l.next l.tags;
  known : AreUses l.setting l.macros (g.S.TakesWords.items (g.S.TakesWords.seen l.next)) l.uses;
}
