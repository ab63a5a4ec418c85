use Rattle.std.proofs.Common.{◌+◌, ◌<◌, ◌≤◌, length, drop, arith, sym, ◌∙◌, ap}
use Rattle.std.proofs.lemmas.List.{drop_all, drop_more}
use Rattle.fws_num.specs.Words.{words_ahead}
use Rattle.fws_num.proofs.word.Reader.feed_all.Goals as goal

pub loop-c-preserved : goal.loop-c-preserved
loop-c-preserved c =
    let line = c.args.line.now in
    let at = c.loop-c.c-index in
    let within : at < length line = omega arith in
    c.in_ok-feed.ensures (drop (at + 1) line) ∙ ap (λ rest. words_ahead c.loop-c.self rest) (sym (drop_more line at _ within)) ∙ c.loop-c.invariant

pub returns : goal.returns
returns c =
    let line = c.args.line.now in
    let at = c.loop-c.c-index in
    let past : length line ≤ at = omega arith in
    ap (λ rest. words_ahead c.loop-c.self rest) (sym (drop_all at line past)) ∙ c.loop-c.invariant
