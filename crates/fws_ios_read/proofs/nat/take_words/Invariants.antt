use Rattle.std.proofs.Common.{◌≡◌, drop}
use Rattle.fws_net.specs.Causes.{words_read}
use Rattle.fws_ios.specs.NatText.{nat_step}
use Rattle.fws_ios_read.proofs.nat.take_words.Given as goal

abbrev pub invariant-loop-word : goal.invariant-loop-word
invariant-loop-word l =
    let step = nat_step l.site l.pools in words_read step l.d (drop l.word-index l.words) ≡ words_read step l.fn.d l.words
