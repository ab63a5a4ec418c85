use Rattle.std.proofs.Common.{drop, sym, ◌∙◌, arith}
use Rattle.fws_pf_words.proofs.Naming.{ends_now, over_now, refused_now}
use Rattle.fws_pf_words.proofs.defining.table_defined.Goals as goal

pub returns-then-is_over : goal.returns-then-is_over
returns-then-is_over c =
    over_now c.args.macros.now c.args.words.now (drop c.loop-w.w-index c.args.words.now) c.loop-w.d c.into_name.result c.loop-w.invariant (sym c.is_over.ensures ∙ c.if-is_over.true) c.into_name.ensures

pub returns-then-not-branch : goal.returns-then-not-branch
returns-then-not-branch c =
    refused_now c.args.macros.now c.args.words.now c.loop-w.w-index c.w-item.result c.loop-w.d c.take_meant.new.d c.in_ok-take_meant.field-0 c.into_name-then-not-branch.result
    c.loop-w.invariant (omega arith) c.w-item.is c.in_ok-take_meant.ensures c.if-not-branch.true c.into_name-then-not-branch.ensures

pub returns : goal.returns
returns c = ends_now c.args.macros.now c.args.words.now c.loop-w.w-index c.loop-w.d c.into_name-2.result c.loop-w.invariant (omega arith) c.into_name-2.ensures
