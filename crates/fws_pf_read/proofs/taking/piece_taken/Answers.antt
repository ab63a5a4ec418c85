use Rattle.std.proofs.Common.{arith}
use Rattle.std.proofs.lemmas.List.{take_rest}
use Rattle.fws_pf_read.proofs.Judged.{rest_judged}
use Rattle.fws_pf_read.proofs.Behind.{piece_rest, piece_whole}
use Rattle.fws_pf_read.proofs.taking.piece_taken.Goals as goal

pub returns-then-n-words-clause-given : goal.returns-then-n-words-clause-given
returns-then-n-words-clause-given g c = λ t macros tags piece are.
    piece_whole g.S.TakesWords.seen (g.S.TakesWords.step c.args.setting.now t) g.S.TakesWords.fault c.args.words.now c.in_ok-next.n (g.S.TakesWords.seen c.args.s) (g.S.TakesWords.seen c.in_ok-next.next) (c.in_ok-next.ensures.taken macros piece are t) (omega arith)

pub returns-then-n-words-clause-kept : goal.returns-then-n-words-clause-kept
returns-then-n-words-clause-kept g c = λ t tags. c.in_ok-next.ensures.kept t c.args.tags.now tags

pub returns-then-n-words-clause-known : goal.returns-then-n-words-clause-known
returns-then-n-words-clause-known g c = λ macros piece are. c.in_ok-next.ensures.known macros piece are

pub returns-clause-given : goal.returns-clause-given
returns-clause-given g c = λ t macros tags piece are.
    piece_rest g.S.TakesWords.seen (g.S.TakesWords.step c.args.setting.now t) g.S.TakesWords.fault c.args.words.now _ c.in_ok-next.n (g.S.TakesWords.seen c.args.s) (g.S.TakesWords.seen c.in_ok-next.next) c.rest_taken.result
    (c.in_ok-next.ensures.taken macros piece are t) (take_rest c.args.words.now c.in_ok-next.n)
    (c.rest_taken.ensures.given t (c.in_ok-next.ensures.kept t c.args.tags.now tags))

pub returns-clause-kept : goal.returns-clause-kept
returns-clause-kept g c = λ t tags. c.rest_taken.ensures.kept t (c.in_ok-next.ensures.kept t c.args.tags.now tags)

pub returns-clause-known : goal.returns-clause-known
returns-clause-known g c = λ macros piece are. c.rest_taken.ensures.known macros

pub rest_taken-requires-clause-judged : goal.rest_taken-requires-clause-judged
rest_taken-requires-clause-judged g c = λ on.
    rest_judged c.args.words.now _ c.in_ok-next.n (take_rest c.args.words.now c.in_ok-next.n) (c.requires.judged on)
