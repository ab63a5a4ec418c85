use Rattle.std.proofs.Common.{◌≡◌, ◌<◌, length, get_or, arith, ap, ◌∙◌}
use Rattle.fws_ifcl.specs.Loops.{names}
use Rattle.fws_unfold.specs.Levels.{flag_at}
use Rattle.fws_unfold.proofs.Searching.{default_out, nothing_found, search_ends, queue_fits, reached_behind, all_more, closed_more, longer_more}
use Rattle.fws_unfold.proofs.reaching.reaches_itself.Goals as goal

pub find_named-requires-clause-reached : goal.find_named-requires-clause-reached
find_named-requires-clause-reached c = λ e on. names on

pub find_named-requires-clause-found : goal.find_named-requires-clause-found
find_named-requires-clause-found c = nothing_found c.args.calls.now.chains.now c.args.calls.now.shapes.now c.args.c c.in_ok-seen.seen.items c.new-queue.result.items c.requires.calls c.in_ok-seen.ensures c.new-queue.ensures.items

pub loop-k-init : goal.loop-k-init
loop-k-init c = record {
  found = c.in_ok-find_named.ensures.found;
  first = c.in_ok-find_named.ensures.all;
  closed = λ k lt. absurd (omega arith);
  within = omega arith;
}

pub returns-then-found-k : goal.returns-then-found-k
returns-then-found-k c =
    let inv = c.loop-k.invariant in
    c.flag_at.ensures
    ∙ ap (λ t. flag_at t c.args.c) c.as_slice.ensures.value
    ∙ search_ends c.loops_are_found.ensures c.loops_are_real.ensures c.args.calls.now.chains.now c.args.c c.loop-k.k c.loop-k.seen.items c.loop-k.queue.items inv.found inv.first inv.closed (omega arith)

pub find_named-requires-in-loop-k-clause-reached : goal.find_named-requires-in-loop-k-clause-reached
find_named-requires-in-loop-k-clause-reached c =
    let lt : c.loop-k.k < length c.loop-k.queue.items = omega arith in
    let is : c.index-from.result.now ≡ get_or c.loop-k.queue.items c.loop-k.k 0 = c.index-from.ensures ∙ default_out c.loop-k.queue.items c.loop-k.k _ lt in
    reached_behind c.args.calls.now.chains.now c.args.c c.loop-k.seen.items c.loop-k.queue.items c.loop-k.k _ c.loop-k.invariant.found lt is

pub loop-k-preserved : goal.loop-k-preserved
loop-k-preserved c =
    let chains = c.args.calls.now.chains.now in
    let inv = c.loop-k.invariant in
    let queue = c.loop-k.queue.items in
    let longer = c.find_named-in-loop-k.new.queue.items in
    let lt : c.loop-k.k < length queue = omega arith in
    let grown = c.in_ok-find_named-2.ensures.grown in
    let is : c.index-from.result.now ≡ get_or queue c.loop-k.k 0 = c.index-from.ensures ∙ default_out queue c.loop-k.k _ lt in
    record {
      found = c.in_ok-find_named-2.ensures.found;
      first = all_more chains queue longer c.args.c grown inv.first;
      closed = closed_more chains queue longer c.loop-k.k _ grown inv.closed lt is c.in_ok-find_named-2.ensures.all;
      within = longer_more queue longer c.loop-k.k grown lt;
    }

pub returns : goal.returns
returns c =
    let inv = c.loop-k.invariant in
    let chains = c.args.calls.now.chains.now in
    let fits = queue_fits chains c.args.c c.loop-k.seen.items c.loop-k.queue.items inv.found in
    c.flag_at-2.ensures
    ∙ ap (λ t. flag_at t c.args.c) c.as_slice-2.ensures.value
    ∙ search_ends c.loops_are_found.ensures c.loops_are_real.ensures chains c.args.c c.loop-k.k c.loop-k.seen.items c.loop-k.queue.items inv.found inv.first inv.closed (omega (arith, fits))
