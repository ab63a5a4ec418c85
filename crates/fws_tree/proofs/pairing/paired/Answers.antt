use Rattle.std.proofs.Common.{slice_get, ◌∙◌, ap}
use Rattle.fws_tree.specs.Held.{held_at}
use Rattle.fws_tree.proofs.pairing.paired.Goals as goal

pub returns-clause-held : goal.returns-clause-held
returns-clause-held c = λ p. ap (λ ps. slice_get ps (held_at c.merge.new.store c.in_ok-whole.whole p)) c.in_ok-pairs.ensures ∙ c.in_ok-whole.ensures.merged p
