use Rattle.std.proofs.Common.{◌≡◌, ◌+◌, true, rules, sym, ◌∙◌}
use Rattle.std.proofs.lemmas.List.{take_rest}
use Rattle.fws_pf_words.proofs.Reading.{goes_on_more, plain_byte}
use Rattle.fws_pf_words.proofs.statements.plain_count.Goals as goal

pub loop-i-preserved : goal.loop-i-preserved
loop-i-preserved c =
    let on : c.goes_on.result ≡ true = search rules in
    let parts = plain_byte _ _ (sym c.goes_on.ensures ∙ on) in
    goes_on_more c.args.bytes.now _ c.loop-i.i c.loop-i-test.true (take_rest c.args.bytes.now (c.loop-i.i + 1)) parts.0 parts.1 c.loop-i.invariant
